use Rattle.std.proofs.Common.{◌≡◌, ◌++◌, map}
use Rattle.listings.specs.Phrases.{row_of}
use Rattle.listings.specs.Text.{written}
use Rattle.listings.specs.Totals.{total_lines}
use Rattle.listings.proofs.totals.push_totals.Given as goal

-- the lines so far, and those of the words that are left
abbrev pub invariant-loop-word : goal.invariant-loop-word
invariant-loop-word l =
    written l.text ++ total_lines (map row_of l.word-iterator)
    ≡ written l.fn.text ++ total_lines (map row_of l.fn.words.entries)
