use Rattle.std.proofs.Common.{◌∙◌, arith}
use Rattle.octets.proofs.Division.{check_from}
use Rattle.octets.proofs.TableEntries.{takes_octet_at, takes_some}
use Rattle.octets.proofs.frame_check.check.Goals as goal

pub loop-sixteen-preserved : goal.loop-sixteen-preserved
loop-sixteen-preserved c =
    let cut = c.in-Some.ensures.cases in
    let next = c.after_sixteen-register in (
      next.type_inv,
      takes_some 13 c.loop-sixteen.register next.result c.loop-sixteen.left.now c.in-Some.sixteen.now c.in-Some.rest.now
          (omega arith) (omega (arith, cut.2)) c.loop-sixteen.invariant.0 cut.0 cut.1 next.ensures.octets
          next.ensures.after ∙ c.loop-sixteen.invariant.1,
    )

pub loop-eight-preserved : goal.loop-eight-preserved
loop-eight-preserved c =
    let part = c.in-Some-split_first_chunk in
    let cut = part.ensures.cases in
    let next = c.after_eight-register in (
      next.type_inv,
      takes_some 5 c.loop-eight.register next.result c.loop-eight.left.now part.eight.now part.rest.now
          (omega arith) (omega (arith, cut.2)) c.loop-eight.invariant.0 cut.0 cut.1 next.ensures.octets
          next.ensures.after ∙ c.loop-eight.invariant.1,
    )

pub loop-octet-preserved : goal.loop-octet-preserved
loop-octet-preserved c =
    let next = c.after_one-register in (
      next.type_inv,
      takes_octet_at c.loop-octet.register next.result c.loop-octet.octet-index c.loop-eight.left.now
          c.loop-octet.invariant.0 c.loop-octet-test.true next.ensures.octet next.ensures.after
          ∙ c.loop-octet.invariant.1,
    )

pub returns : goal.returns
returns c = check_from c.loop-octet.register c.loop-octet.octet-index c.loop-eight.left.now c.args.octets.now
    c.loop-octet.invariant.0 c.loop-octet-test.false c.loop-octet.invariant.1
