use Rattle.std.proofs.Common.{◌≡◌, drop}
use Rattle.std.specs.Prelude.{◌||◌, nat_le}
use Rattle.std.specs.List.{list_any}
use Rattle.listings.proofs.line_words.has_low.Given as goal

-- the octets so far, and those that are left
abbrev pub invariant-loop-octet : goal.invariant-loop-octet
invariant-loop-octet l =
    l.found || list_any (λ octet. nat_le octet 32) (drop l.octet-index l.octets)
    ≡ list_any (λ octet. nat_le octet 32) l.octets
