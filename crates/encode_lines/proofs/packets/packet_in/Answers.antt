use Rattle.std.proofs.Common.{◌≡◌, ◌<◌, length, map, sym, arith, Bor, List, ℕ}
use Rattle.std.proofs.lemmas.Bool.{ltb-true, ltb-false}
use Rattle.std.proofs.lemmas.List.{length-map}
use Rattle.encode_lines.proofs.Words.{packet_in-few, packet_in-many}
use Rattle.encode_lines.proofs.packets.packet_in.Goals as goal
use Rattle.encode_lines.proofs.packets.packet_in.Goals.{
  in_default-via-then-words-lt7,
  in_default-via-else-words-lt7+else-words-lt8,
}

pub returns-in_default : goal.returns-in_default
returns-in_default c =
    let words : List (List ℕ) = map (λ (word : Bor (List ℕ)). word.now) c.args.words.now in
    let same : length words ≡ length c.args.words.now =
    length-map c.args.words.now (λ (word : Bor (List ℕ)). word.now) in
    elim c.in_default.branch [
      | in_default-via-then-words-lt7 w ↦ (
          let few : length words < 7 = omega (arith, same, ltb-true, ltb-false) in sym (packet_in-few words few))
      | in_default-via-else-words-lt7+else-words-lt8 w ↦ (
          let many : 7 < length words = omega (arith, same, ltb-true, ltb-false) in sym (packet_in-many words many))
    ]
