use Rattle.std.proofs.Common.{◌≡◌, sym, ◌∙◌, true}
use Rattle.tm_link.specs.Builder.{builder_fits}
use Rattle.sedgechisel.proofs.Builders.{open_described}
use Rattle.sedgechisel.proofs.telemetry_builder.sedge_tm_builder_open.Goals as goal

pub returns-clause-describes : goal.returns-clause-describes
returns-clause-describes c = λ memory.
    let fits : builder_fits c.args.scid c.args.vcid c.args.length ≡ true =
    sym c.can_build.ensures ∙ c.if-not-can_build.false in
    rw fits (rw fits at (open_described c.args.scid c.args.vcid c.args.length memory fits))
