use Rattle.std.proofs.Common.{◌≡◌, ◌∙◌, ◌+◌, ◌-◌, ◌++◌, ◌∷◌, ℕ, List, [], drop, take, length, ap, subst, sym, arith}
use Rattle.std.proofs.lemmas.List.{drop-drop, length-drop, take_all}
use Rattle.frame_search.specs.Search.{IsPlace}
use Rattle.frame_search.specs.declared.place.Place.TheVariants as places
use Rattle.frame_search.specs.Parts.{Frame, skipped}
use Rattle.listings.specs.Text.{written}
use Rattle.stream_commands.specs.Found.{from_here, standing, with_parts}
use Rattle.stream_commands.proofs.FoundSteps.{takes_frame, skips}
use Rattle.stream_commands.proofs.found.list_found.Goals as goal

pub places-preserved-in-Frame : goal.places-preserved-in-Frame
places-preserved-in-Frame g c =
    let lines = g.C.Listing.lines in
    let at = c.places.at in
    let total = c.in-Frame.total in
    let octets = c.args.octets.now in
    let rest : List ℕ = drop at octets in
    let n = c.places.progress.skipped in
    let st = standing (written c.places.text) c.places.listing c.places.progress in
    let next = standing (written c.take_frame.new.text) c.take_frame.new.listing c.take_frame.new.progress in
    let cut : take (length octets - at) rest ≡ rest = take_all (length octets - at) rest
    (omega (arith, length-drop at octets)) in
    let here : IsPlace c.args.scid c.args.vcid rest (places.Frame total) =
    subst (λ (o : List ℕ). IsPlace c.args.scid c.args.vcid o (places.Frame total)) cut c.in-Frame.ensures in
    let counts = c.in_ok-take_frame-in-Frame.ensures.count in
    let long : at + total - at ≡ total = omega arith in
    let is = c.in_ok-take_frame-in-Frame.ensures.found
    ∙ ap (λ (k : ℕ). with_parts lines st (skipped n ++ Frame (take k rest) ∷ [])) long in
    let left : drop (at + total) octets ≡ drop total rest = sym (drop-drop total at octets) in
    record {
      same = λ more.
          ap (λ (k : ℕ). from_here lines c.args.scid c.args.vcid next k (drop (at + total) octets ++ more)) counts.0
          ∙ ap (λ (o : List ℕ). from_here lines c.args.scid c.args.vcid next 0 (o ++ more)) left
          ∙ takes_frame lines c.args.scid c.args.vcid st next n total rest more here.0
          (here.2 more) is
          ∙ c.places.invariant.same more;
      within = omega (arith, here.0, length-drop at octets, c.places.invariant.within);
      room = omega (arith, counts.0, counts.1, here.1, c.places.invariant.room);
    }

pub places-preserved : goal.places-preserved
places-preserved g c =
    let lines = g.C.Listing.lines in
    let at = c.places.at in
    let octets = c.args.octets.now in
    let rest : List ℕ = drop at octets in
    let st = standing (written c.places.text) c.places.listing c.places.progress in
    let cut : take (length octets - at) rest ≡ rest = take_all (length octets - at) rest
    (omega (arith, length-drop at octets)) in
    let here : IsPlace c.args.scid c.args.vcid rest places.Nothing =
    subst (λ (o : List ℕ). IsPlace c.args.scid c.args.vcid o places.Nothing) cut c.in-Nothing.ensures in
    let left : drop (at + 1) octets ≡ drop 1 rest = sym (drop-drop 1 at octets) in
    record {
      same = λ more.
          ap (λ (o : List ℕ).
          from_here lines c.args.scid c.args.vcid st (c.places.progress.skipped + 1) (o ++ more)) left
          ∙ skips lines c.args.scid c.args.vcid st c.places.progress.skipped rest more
          (omega (arith, c.places-test.true, length-drop at octets)) (here more)
          ∙ c.places.invariant.same more;
      within = omega (arith, c.places-test.true);
      room = omega (arith, c.places.invariant.room);
    }
