use Rattle.std.proofs.Common.{◌≡◌, ◌<◌, length, map, sym, arith, Bor, List, ℕ}
use Rattle.std.proofs.lemmas.Bool.{ltb-true, ltb-false}
use Rattle.std.proofs.lemmas.List.{length-map}
use Rattle.encode_lines.proofs.Words.{frame_in-few, frame_in-many}
use Rattle.encode_lines.proofs.frames.frame_in.Goals as goal
use Rattle.encode_lines.proofs.frames.frame_in.Goals.{
  in_default-via-then-words-lt4,
  in_default-via-else-words-lt4+else-words-lt5+else-words-lt6+else-words-lt7+else-words-lt8,
}

pub returns-in_default : goal.returns-in_default
returns-in_default c =
    let words : List (List ℕ) = map (λ (word : Bor (List ℕ)). word.now) c.args.words.now in
    let same : length words ≡ length c.args.words.now =
    length-map c.args.words.now (λ (word : Bor (List ℕ)). word.now) in
    elim c.in_default.branch [
      | in_default-via-then-words-lt4 w ↦ (
          let few : length words < 4 = omega (arith, same, ltb-true, ltb-false) in sym (frame_in-few words few))
      | in_default-via-else-words-lt4+else-words-lt5+else-words-lt6+else-words-lt7+else-words-lt8 w ↦ (
          let many : 7 < length words = omega (arith, same, ltb-true, ltb-false) in sym (frame_in-many words many))
    ]
