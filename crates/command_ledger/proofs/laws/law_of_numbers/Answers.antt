use Rattle.command_ledger.proofs.Numbers.{each_number}
use Rattle.command_ledger.proofs.laws.law_of_numbers.Goals as goal

pub returns : goal.returns
returns c = each_number
