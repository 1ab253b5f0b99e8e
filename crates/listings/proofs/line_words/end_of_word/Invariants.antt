use Rattle.std.proofs.Common.{◌≡◌, ◌≤◌, ◌-◌, [], length}
use Rattle.listings.specs.Words.{word_end, word_end_after}
use Rattle.listings.proofs.line_words.end_of_word.Given as goal

-- no word has ended so far
abbrev pub invariant-octets : goal.invariant-octets
invariant-octets l = record {
  within : l.at ≤ length l.text;
  same : word_end_after l.text l.at ≡ word_end [] l.text;
}

abbrev pub decreases-octets : goal.decreases-octets
decreases-octets l = length l.text - l.at
