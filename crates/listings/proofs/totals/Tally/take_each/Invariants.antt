use Rattle.std.proofs.Common.{◌≡◌, drop}
use Rattle.std.specs.List.{fold}
use Rattle.listings.specs.Phrases.{tallied_in}
use Rattle.listings.specs.Totals.{with_octet}
use Rattle.listings.proofs.totals.Tally.take_each.Given as goal

-- the tally with the octets that are left is the first tally with all of them
abbrev pub invariant-loop-octet : goal.invariant-loop-octet
invariant-loop-octet l = record {
  tally : fold with_octet (tallied_in l.self) (drop l.octet-index l.text)
      ≡ fold with_octet (tallied_in l.fn.self) l.fn.text;
  recent : l.self.recent ≡ l.fn.self.recent;
}
