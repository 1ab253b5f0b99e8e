use Rattle.std.proofs.Common.{◌≡◌, ◌≤◌, ◌-◌, length}
use Rattle.listings.specs.Words.{word_end_after}
use Rattle.listings.proofs.line_words.past_sixteens.Given as goal

-- no word ends from the first place to this one
abbrev pub invariant-sixteens : goal.invariant-sixteens
invariant-sixteens l = record {
  after : l.fn.from ≤ l.at;
  within : l.at ≤ length l.text;
  same : word_end_after l.text l.at ≡ word_end_after l.text l.fn.from;
}

abbrev pub decreases-sixteens : goal.decreases-sixteens
decreases-sixteens l = length l.text - l.at
