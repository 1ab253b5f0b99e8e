use Rattle.std.proofs.Common.{◌≡◌, ◌≤◌, ℕ, ◌+◌, ◌-◌, List, length, drop, ap, sym, ◌∙◌, arith}
use Rattle.std.specs.List.{concat}
use Rattle.map_service.specs.Cutting.{longest_run}
use Rattle.map_service.specs.Packets.{packets_in}
use Rattle.map_service.proofs.Groups.{run-more, run-over, run-none}
use Rattle.map_service.proofs.cutting.run_len.Goals as goal

pub returns-then-next-part-clause-run : goal.returns-then-next-part-clause-run
returns-then-next-part-clause-run c =
    omega (
      arith,
      c.packets.invariant.run,
      run-over (c.args.part - c.packets.len) c.in-Some.next c.packets.rest.now
          c.in-Some.ensures.first c.in-Some.ensures.within.1 c.if-next-part.true,
    )

pub packets-preserved : goal.packets-preserved
packets-preserved c =
    let len : ℕ = c.packets.len in
    let next : ℕ = c.in-Some.next in
    let part : ℕ = c.args.part in
    let rest : List ℕ = c.packets.rest.now in
    let behind : List ℕ = c.split_at.result.1.now in
    let fits : next ≤ part - len = c.if-next-part.false in
    let more = run-more (part - len) next rest c.in-Some.ensures.first c.in-Some.ensures.within.1 fits in
    let room : part - len - next ≡ part - (len + next) = omega arith in
    let same : length (concat (longest_run (part - len - next) (packets_in (drop next rest))))
    ≡ length (concat (longest_run (part - (len + next)) (packets_in behind))) =
    ap (λ (k : ℕ). length (concat (longest_run k (packets_in (drop next rest))))) room
    ∙ ap (λ (xs : List ℕ). length (concat (longest_run (part - (len + next)) (packets_in xs))))
    (sym c.split_at.ensures.back) in
    record {
      fits = omega (arith, c.packets.invariant.fits);
      within = omega (arith, c.split_at.ensures.back_len, c.packets.invariant.within);
      run = omega (arith, same, more, c.packets.invariant.run);
    }

pub returns-clause-run : goal.returns-clause-run
returns-clause-run c =
    omega (
      arith,
      c.packets.invariant.run,
      run-none (c.args.part - c.packets.len) c.packets.rest.now
          (sym c.in_default.ensures.first),
    )
