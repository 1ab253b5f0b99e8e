use Rattle.std.proofs.Common.{sym, ◌∙◌, arith}
use Rattle.sedgechisel.proofs.Extractors.{next_stands, next_idle, next_none}
use Rattle.sedgechisel.proofs.telemetry_extractor.packet_after.Goals as goal

pub returns-then-not-is_idle_with : goal.returns-then-not-is_idle_with
returns-then-not-is_idle_with c = (
  sym c.loop-len.invariant.same
      ∙ next_stands c.args.octets.now c.loop-len.from c.in-Some.len c.in-Some.ensures.first c.in-Some.ensures.within.1
      (sym c.if-not-is_idle_with.true ∙ c.is_idle_with.ensures),
  omega (arith, c.in-Some.ensures.within, c.loop-len.invariant.within),
)

pub loop-len-preserved : goal.loop-len-preserved
loop-len-preserved c = record {
  within = omega (arith, c.in-Some.ensures.within, c.loop-len.invariant.within);
  same = sym (next_idle c.args.octets.now c.loop-len.from c.in-Some.len c.in-Some.ensures.first
      c.in-Some.ensures.within.1 (sym c.if-not-is_idle_with.false ∙ c.is_idle_with.ensures))
      ∙ c.loop-len.invariant.same;
}

pub returns : goal.returns
returns c =
    sym c.loop-len.invariant.same
    ∙ next_none c.args.octets.now c.loop-len.from (sym c.in_default.ensures.first)
