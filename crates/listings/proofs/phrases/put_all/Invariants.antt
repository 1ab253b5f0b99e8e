use Rattle.std.proofs.Common.{◌≡◌, List, ℕ, drop}
use Rattle.listings.specs.Phrases.{counted}
use Rattle.listings.proofs.phrases.put_all.Given as goal

-- the table with the phrases that are left is the first table with all of them
abbrev pub invariant-loop-it : goal.invariant-loop-it
invariant-loop-it l =
    (rows : List (List ℕ × ℕ)) → counted rows l.table.entries (drop l.it-index l.phrases)
    ≡ counted rows l.fn.table.entries l.fn.phrases
