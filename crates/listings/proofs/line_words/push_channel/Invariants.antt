use Rattle.std.proofs.Common.{◌≡◌, ◌++◌, length}
use Rattle.listings.specs.Totals.{with_slash}
use Rattle.listings.proofs.line_words.push_channel.Given as goal

-- what is written, and what the octets that are left add to it
abbrev pub invariant-octets : goal.invariant-octets
invariant-octets l = l.written.items ++ with_slash l.rest ≡ l.fn.written.items ++ with_slash l.fn.channel

abbrev pub decreases-octets : goal.decreases-octets
decreases-octets l = length l.rest
