use Rattle.command_ledger.proofs.Kept.{each_store}
use Rattle.command_ledger.proofs.laws.law_of_store.Goals as goal

pub returns : goal.returns
returns c = each_store
