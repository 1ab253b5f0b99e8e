use Rattle.std.proofs.Common.{◌≡◌, ◌≤◌, [], length}
use Rattle.std.specs.List.{fold}
use Rattle.listings.specs.Phrases.{tallied_in, AreWhole}
use Rattle.listings.specs.Totals.{with_octet}
use Rattle.listings.proofs.totals.Tally.take_words.Given as goal

-- the tally with the octets that are left is the first tally with all of them
abbrev pub invariant-phrases : goal.invariant-phrases
invariant-phrases l = record {
  none : l.self.word.items ≡ [];
  within : length l.rest ≤ length l.fn.text;
  whole : AreWhole l.self.recent;
  same : fold with_octet (tallied_in l.self) l.rest ≡ fold with_octet (tallied_in l.fn.self) l.fn.text;
}

abbrev pub decreases-phrases : goal.decreases-phrases
decreases-phrases l = length l.rest
