use Rattle.std.proofs.Common.{◌≡◌, ◌++◌, map, length}
use Rattle.streams.specs.Words.{words_in}
use Rattle.encode_lines.proofs.fields.words_in.Given as goal

-- the words so far and the words of what is left are the words of the line
abbrev pub invariant-words : goal.invariant-words
invariant-words l = map (λ word. word.now) l.words.items ++ words_in l.rest ≡ words_in l.fn.line

abbrev pub decreases-words : goal.decreases-words
decreases-words l = length l.rest
