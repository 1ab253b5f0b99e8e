use Rattle.std.proofs.Common.{◌≡◌, ◌≤◌, ◌<◌, ◌-◌, [], length, take}
use Rattle.listings.specs.Phrases.{begun_in}
use Rattle.listings.proofs.line_words.end_of_phrase.Given as goal

-- the words so far are whole
abbrev pub invariant-words : goal.invariant-words
invariant-words l = record {
  after : l.fn.end < l.at;
  within : l.at ≤ length l.text;
  whole : begun_in [] (take l.at l.text) ≡ [];
}

abbrev pub decreases-words : goal.decreases-words
decreases-words l = length l.text - l.at
