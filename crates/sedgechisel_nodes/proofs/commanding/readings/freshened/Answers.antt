use Rattle.std.proofs.Common.{ℕ, List, Some, ap, ◌∙◌, subst}
use Rattle.command_ledger.specs.Ledger.{LedgerState, fresh_octets}
use Rattle.sedgechisel_nodes.specs.Calls.{IsHandedOut}
use Rattle.sedgechisel_nodes.proofs.commanding.readings.freshened.Goals as goal

pub returns-in-Ok-clause-octets : goal.returns-in-Ok-clause-octets
returns-in-Ok-clause-octets c = λ zero.
    subst (λ (xs : List ℕ). IsHandedOut (Some xs) c.hand_out.new.count c.args.out.now c.hand_out.new.out)
    (c.deref.ensures.value ∙ c.in-Ok.ensures.octets
    ∙ ap (λ (l : LedgerState). fresh_octets l.state) c.ledger.ensures) (c.hand_out.ensures.handed zero)
