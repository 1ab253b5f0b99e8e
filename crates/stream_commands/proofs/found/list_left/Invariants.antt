use Rattle.std.proofs.Common.{◌≡◌, ◌+◌, ◌-◌, ◌≤◌, drop, length}
use Rattle.listings.specs.Text.{written}
use Rattle.stream_commands.specs.Found.{from_here, standing}
use Rattle.stream_commands.proofs.found.list_left.Given as goal

-- what is found from here on is what is found from the start
abbrev pub invariant-rests : goal.invariant-rests
invariant-rests g l =
    let lines = g.C.Listing.lines in
    record {
      same : from_here lines l.fn.scid l.fn.vcid
          (standing (written l.text) l.listing l.progress) l.progress.skipped (drop l.at l.octets)
          ≡ from_here lines l.fn.scid l.fn.vcid
          (standing (written l.fn.text) l.fn.listing l.fn.progress) l.fn.progress.skipped l.octets;
      within : l.at ≤ length l.octets;
      room : l.progress.count + l.progress.skipped ≤ l.fn.progress.count + l.fn.progress.skipped + l.at;
    }

abbrev pub decreases-rests : goal.decreases-rests
decreases-rests g l = length l.octets + 1 - l.at
