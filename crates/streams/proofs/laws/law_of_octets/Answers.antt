use Rattle.streams.proofs.SpelledWords.{octets_as_words}
use Rattle.streams.proofs.laws.law_of_octets.Goals as goal

pub returns : goal.returns
returns c = octets_as_words
