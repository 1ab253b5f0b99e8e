use Rattle.command_ledger.proofs.Fates.{each_fate}
use Rattle.command_ledger.proofs.laws.law_of_fates.Goals as goal

pub returns : goal.returns
returns c = each_fate
