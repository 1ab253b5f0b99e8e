use Rattle.std.proofs.Common.{ℕ, List, sym, ap, ◌∙◌, arith, ◌-◌}
use Rattle.sedgechisel.specs.Builders.{are_whole}
use Rattle.sedgechisel.proofs.Builders.{whole_one, whole_none, whole_all}
use Rattle.sedgechisel.proofs.telemetry_builder.are_whole.Goals as goal

pub loop-left-preserved : goal.loop-left-preserved
loop-left-preserved c =
    ap (λ (xs : List ℕ). are_whole xs c.in-Some.len (c.loop-left.room - c.loop-left.left)) c.split_at.ensures.back
    ∙ whole_one c.loop-left.rest.now c.loop-left.left c.loop-left.room c.in-Some.len c.loop-left-test.true
    c.in-Some.ensures.first c.in-Some.ensures.within.1
    ∙ c.loop-left.invariant

pub returns-in-None : goal.returns-in-None
returns-in-None c =
    c.is_empty.ensures
    ∙ sym (whole_none c.loop-left.rest.now c.loop-left.left c.loop-left.room c.loop-left-test.true
    (sym c.in-None.ensures.first)) ∙ c.loop-left.invariant

pub returns : goal.returns
returns c =
    sym (whole_all c.loop-left.rest.now c.loop-left.left c.loop-left.room (omega (arith, c.loop-left-test.false)))
    ∙ c.loop-left.invariant
