use Rattle.std.proofs.Common.{ℕ, List, length, map, sym, ap, ◌∙◌, arith, ◌-◌}
use Rattle.space_packet.specs.Packets.{packets_in}
use Rattle.tm_link.specs.Builder.{left_after}
use Rattle.sedgechisel.proofs.Builders.{passed_one, passed_none, passed_all}
use Rattle.sedgechisel.proofs.telemetry_builder.begun_after.Goals as goal

pub loop-left-preserved : goal.loop-left-preserved
loop-left-preserved c =
    ap (λ (xs : List ℕ). (left_after (c.loop-left.room - c.loop-left.left) c.in-Some.len
    (map length (packets_in xs))).0) c.split_at.ensures.back
    ∙ sym (ap (λ (r : ℕ × List ℕ). r.0) (passed_one c.loop-left.rest.now c.loop-left.left c.loop-left.room c.in-Some.len
    c.loop-left-test.true c.in-Some.ensures.first c.in-Some.ensures.within.1))
    ∙ c.loop-left.invariant

pub returns-in-None : goal.returns-in-None
returns-in-None c =
    sym (passed_none c.loop-left.rest.now c.loop-left.left c.loop-left.room c.loop-left-test.true
    (sym c.in-None.ensures.first)) ∙ c.loop-left.invariant

pub returns : goal.returns
returns c =
    sym (passed_all c.loop-left.rest.now c.loop-left.left c.loop-left.room (omega (arith, c.loop-left-test.false)))
    ∙ c.loop-left.invariant
