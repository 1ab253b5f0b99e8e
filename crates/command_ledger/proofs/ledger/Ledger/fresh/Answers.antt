use Rattle.std.proofs.Common.{ap, ◌∙◌}
use Rattle.command_ledger.specs.Ledger.{LedgerState, fresh_octets}
use Rattle.command_ledger.proofs.ledger.Ledger.fresh.Goals as goal

pub returns-in-Ok-clause-octets : goal.returns-in-Ok-clause-octets
returns-in-Ok-clause-octets c = c.in-Ok.ensures ∙ ap (λ (l : LedgerState). fresh_octets l.state) c.self.view_is
