use Rattle.std.proofs.Common.{◌≡◌, ◌∙◌, ◌+◌, ◌-◌, ◌<◌, List, ℕ, ap, drop, take, length, arith}
use Rattle.std.proofs.lemmas.List.{length-drop, take_all}
use Rattle.std.proofs.lemmas.Result.{on_ok_weaker}
use Rattle.listings.specs.Text.{written}
use Rattle.stream_commands.specs.Found.{standing}
use Rattle.stream_commands.proofs.FoundSteps.{all_left, ends, skips_left}
use Rattle.stream_commands.proofs.found.list_left.Goals as goal

pub returns-then-at-octets : goal.returns-then-at-octets
returns-then-at-octets g c =
    let lines = g.C.Listing.lines in
    let at = c.rests.at in
    let octets = c.args.octets.now in
    let fed : List ℕ = take (length octets - at) (drop at octets) in
    let cut : fed ≡ drop at octets = take_all (length octets - at) (drop at octets)
    (omega (arith, length-drop at octets)) in
    let st = standing (written c.rests.text) c.rests.listing c.rests.progress in
    let q = c.list_found.new.progress in
    let next = standing (written c.list_found.new.text) c.list_found.new.listing q in
    let all = all_left lines c.args.scid c.args.vcid st next c.rests.progress.skipped q.skipped at c.in_ok-done.done
    octets fed cut c.if-at-octets.true c.in_ok-done.ensures.found in
    on_ok_weaker c.end_skipped.result (λ h. h ∙ (all ∙ c.rests.invariant.same))
    (ends lines c.end_skipped.result (written c.list_found.new.text) (written c.end_skipped.new.text)
    c.list_found.new.listing q c.end_skipped.new.progress c.end_skipped.ensures.none c.end_skipped.ensures.some)

pub rests-preserved : goal.rests-preserved
rests-preserved g c =
    let lines = g.C.Listing.lines in
    let at = c.rests.at in
    let done = c.in_ok-done.done in
    let octets = c.args.octets.now in
    let fed : List ℕ = take (length octets - at) (drop at octets) in
    let cut : fed ≡ drop at octets = take_all (length octets - at) (drop at octets)
    (omega (arith, length-drop at octets)) in
    let st = standing (written c.rests.text) c.rests.listing c.rests.progress in
    let q = c.list_found.new.progress in
    let next = standing (written c.list_found.new.text) c.list_found.new.listing q in
    let len : length fed + at ≡ length octets =
    omega (arith, length-drop at octets, ap length cut, c.rests.invariant.within) in
    let some : at + done < length octets = omega (arith, len, c.in_ok-done.ensures.within, c.if-at-octets.false) in
    record {
      same = skips_left lines c.args.scid c.args.vcid st next c.rests.progress.skipped q.skipped at done octets fed cut
          some c.in_ok-done.ensures.open c.in_ok-done.ensures.found
          ∙ c.rests.invariant.same;
      within = omega (arith, some);
      room = omega (arith, len, c.in_ok-done.ensures.count, c.rests.invariant.room);
    }
