use Rattle.std.proofs.Common.{◌≡◌, true, subst}
use Rattle.command_ledger.specs.declared.entry.Written.{Written}
use Rattle.command_ledger.specs.Entries.{entry_view}
use Rattle.command_ledger.specs.State.{follows}
use Rattle.command_ledger.proofs.Commands.{low_number}
use Rattle.command_ledger.proofs.state.State.apply.Goals as goal

pub give-requires-clause-number : goal.give-requires-clause-number
give-requires-clause-number c =
    low_number c.args.self.now c.in-Gives.tag c.in-Gives.map c.in-Gives.packet.now
    (subst (λ (w : Written). follows c.args.self.now (entry_view w) ≡ true) c.in-Gives.is c.requires)
