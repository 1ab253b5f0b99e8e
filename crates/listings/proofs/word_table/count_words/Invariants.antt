use Rattle.std.proofs.Common.{◌≡◌, ◌≤◌, [], length, map}
use Rattle.listings.specs.Phrases.{with_each, words_in}
use Rattle.listings.specs.Phrases.{row_of}
use Rattle.listings.proofs.word_table.count_words.Given as goal

-- the table with the words that are left is the first table with all of them
abbrev pub invariant-words : goal.invariant-words
invariant-words l = record {
  within : length l.rest ≤ length l.fn.text;
  same : with_each (map row_of l.table.entries) (words_in [] l.rest) l.times
      ≡ with_each (map row_of l.fn.table.entries) (words_in [] l.fn.text) l.times;
}

abbrev pub decreases-words : goal.decreases-words
decreases-words l = length l.rest
