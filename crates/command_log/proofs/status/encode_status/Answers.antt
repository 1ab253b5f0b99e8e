use Rattle.std.proofs.Common.{ap, ◌∙◌}
use Rattle.command_log.specs.Status.{status_octets}
use Rattle.command_log.proofs.status.encode_status.Goals as goal

pub returns : goal.returns
returns c = c.spelled.ensures ∙ ap (status_octets c.args.status.now) c.min.ensures
