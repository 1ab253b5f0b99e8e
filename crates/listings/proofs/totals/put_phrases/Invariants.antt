use Rattle.std.proofs.Common.{◌≡◌, map}
use Rattle.listings.specs.Phrases.{of_phrases, row_of}
use Rattle.listings.proofs.totals.put_phrases.Given as goal

-- the words with those of the phrases that are left are all the words
abbrev pub invariant-loop-phrase : goal.invariant-loop-phrase
invariant-loop-phrase l =
    of_phrases (map row_of l.words.entries) (map row_of l.phrase-iterator)
    ≡ of_phrases (map row_of l.fn.words.entries) (map row_of l.fn.phrases.entries)
