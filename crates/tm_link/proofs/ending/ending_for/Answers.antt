use Rattle.std.proofs.Common.{◌∙◌, take, sym, arith}
use Rattle.octets.proofs.Checked.{take_fits}
use Rattle.tm_link.proofs.Records.{extent_most}
use Rattle.tm_link.proofs.ending.ending_for.Goals as goal

pub returns-then-count-size-clause-short : goal.returns-then-count-size-clause-short
returns-then-count-size-clause-short c = λ same.
    let header = c.args.header.now in
    omega (
      arith,
      extent_most (take 6 header) c.in-Ok.size
          (take_fits header 6 (λ i. omega (arith, c.type_inv.header i))) (sym c.extent.ensures ∙ c.in-Ok.is),
    )
