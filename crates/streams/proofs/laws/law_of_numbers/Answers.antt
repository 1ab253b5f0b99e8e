use Rattle.streams.proofs.SpelledWords.{numbers}
use Rattle.streams.proofs.laws.law_of_numbers.Goals as goal

pub returns : goal.returns
returns c = numbers
