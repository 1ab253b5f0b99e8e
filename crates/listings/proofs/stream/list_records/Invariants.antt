use Rattle.std.proofs.Common.{◌≡◌, ◌+◌, ◌≤◌, length}
use Rattle.listings.specs.Text.{written}
use Rattle.listings.specs.Listing.{listed, standing}
use Rattle.listings.proofs.stream.list_records.Given as goal

-- the listing leads to where it leads from the start
abbrev pub invariant-loop-answer : goal.invariant-loop-answer
invariant-loop-answer g l =
    let all = listed g.C.Listing.lines g.S.Cutter.layout in
    record {
      same : all (standing (written l.text) l.listing l.progress (g.S.Cutter.held l.cutter))
          ≡ all (standing (written l.fn.text) l.fn.listing l.fn.progress (g.S.Cutter.held l.fn.cutter));
      failed : g.S.Cutter.failure l.cutter ≡ g.S.Cutter.failure l.fn.cutter;
      room : l.progress.count + length (g.S.Cutter.held l.cutter) ≤ l.fn.progress.count
          + length (g.S.Cutter.held l.fn.cutter);
    }

abbrev pub decreases-loop-answer : goal.decreases-loop-answer
decreases-loop-answer g l = length (g.S.Cutter.held l.cutter)
