use Rattle.std.proofs.Common.{◌≡◌, ◌+◌, ◌-◌, ◌≤◌, ◌++◌, ℕ, List, drop, length}
use Rattle.listings.specs.Text.{written}
use Rattle.stream_commands.specs.Found.{from_here, standing}
use Rattle.stream_commands.proofs.found.list_found.Given as goal

-- what is found from here on is what is found from the start
abbrev pub invariant-places : goal.invariant-places
invariant-places g l =
    let lines = g.C.Listing.lines in
    record {
      same : (more : List ℕ) → from_here lines l.fn.scid l.fn.vcid
          (standing (written l.text) l.listing l.progress) l.progress.skipped (drop l.at l.octets ++ more)
          ≡ from_here lines l.fn.scid l.fn.vcid
          (standing (written l.fn.text) l.fn.listing l.fn.progress) l.fn.progress.skipped (l.octets ++ more);
      within : l.at ≤ length l.octets;
      room : l.progress.count + l.progress.skipped ≤ l.fn.progress.count + l.fn.progress.skipped + l.at;
    }

abbrev pub decreases-places : goal.decreases-places
decreases-places g l = length l.octets - l.at
