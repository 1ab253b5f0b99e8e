-- A line that holds octets after its words is read as these octets.
use Rattle.std.proofs.Common.{◌≡◌, ◌∙◌, ◌≤◌, ◌++◌, ◌||◌, ℕ, Bool, true, false, List, [], ◌∷◌}
use Rattle.std.proofs.Common.{Some, None, refl, sym, ap, subst, arith, append_assoc}
use Rattle.std.specs.Prelude.{codes, decimal}
use Rattle.std.specs.Str.{bytes_eq}
use Rattle.std.specs.List.{list_all}
use Rattle.streams.specs.Words.{number_in_word, words_in}
use Rattle.streams.specs.Hex.{IsHex}
use Rattle.streams.proofs.SpelledWords.{hex_word, is_word, number_word, printed, spelled_octets}
use Rattle.listings.specs.Text.{line_end}
use Rattle.encode_lines.specs.Fields.{without_number}
use Rattle.encode_lines.specs.Held.{held_in, holds_octets, holds_packet}
use Rattle.encode_lines.specs.Listed.{IsLineOf}
use Rattle.encode_lines.proofs.Words.{ended, line_words, same_word}

-- ---- the words that octets follow are words, and not numbers

abbrev IsPlain : List ℕ → Type 0
IsPlain word = (is_word word ≡ true) × (number_in_word 18446744073709551615 word ≡ None)

either : {P : Type 0} (a b : Bool) → (a ≡ true → P) → (b ≡ true → P) → a || b ≡ true → P
either true b first second e = first refl
either false b first second e = second e

as_named : (name : List ℕ) → IsPlain name → (word : List ℕ) → bytes_eq word name ≡ true → IsPlain word
as_named name plain word e = subst IsPlain (sym (same_word word name e)) plain

plain_packet : IsPlain (codes "packet")
unfolding number_in_word
plain_packet = (refl, refl)

plain_sent : IsPlain (codes "sent")
unfolding number_in_word
plain_sent = (refl, refl)

plain_frame : IsPlain (codes "frame")
unfolding number_in_word
plain_frame = (refl, refl)

plain_telemetry : IsPlain (codes "telemetry")
unfolding number_in_word
plain_telemetry = (refl, refl)

plain_report : IsPlain (codes "report")
unfolding number_in_word
plain_report = (refl, refl)

plain_clcw : IsPlain (codes "clcw")
unfolding number_in_word
plain_clcw = (refl, refl)

plain_bypass : IsPlain (codes "bypass")
unfolding number_in_word
plain_bypass = (refl, refl)

plain_submit : IsPlain (codes "submit")
unfolding number_in_word
plain_submit = (refl, refl)

octets_plain : (word : List ℕ) → holds_octets word ≡ true → IsPlain word
octets_plain word =
    either _ (bytes_eq word (codes "clcw")) (either _ (bytes_eq word (codes "report"))
    (either _ (bytes_eq word (codes "telemetry")) (either _ (bytes_eq word (codes "frame"))
    (either (bytes_eq word (codes "packet")) (bytes_eq word (codes "sent"))
    (as_named (codes "packet") plain_packet word) (as_named (codes "sent") plain_sent word))
    (as_named (codes "frame") plain_frame word)) (as_named (codes "telemetry") plain_telemetry word))
    (as_named (codes "report") plain_report word)) (as_named (codes "clcw") plain_clcw word)

packet_plain : (word : List ℕ) → holds_packet word ≡ true → IsPlain word
packet_plain word =
    either _ (bytes_eq word (codes "submit")) (either (bytes_eq word (codes "packet")) (bytes_eq word (codes "bypass"))
    (as_named (codes "packet") plain_packet word) (as_named (codes "bypass") plain_bypass word))
    (as_named (codes "submit") plain_submit word)

-- ---- lines

pub octets_line_read : (word octets digits line : List ℕ) → holds_octets word ≡ true → IsHex octets digits
    → IsLineOf (word ++ (codes " " ++ (digits ++ line_end))) line
    → held_in (without_number (words_in line)) ≡ Some octets
octets_line_read word octets digits line holds hex is =
    let plain = octets_plain word holds in
    let all : list_all is_word (word ∷ digits ∷ []) ≡ true = rw (plain.0, hex_word hex) refl in
    let same = line_words word (digits ∷ []) (word ++ (codes " " ++ (digits ++ line_end))) all plain.1
    (append_assoc word (32 ∷ digits) (10 ∷ [])) line is in
    ap held_in same ∙ rw (holds, spelled_octets octets digits hex) refl

pub packet_line_held : (word octets digits line : List ℕ) (on_map : ℕ) → holds_packet word ≡ true → on_map ≤ 63
    → IsHex octets digits
    → IsLineOf (word ++ (codes " " ++ (decimal on_map ++ (codes " " ++ (digits ++ line_end))))) line
    → held_in (without_number (words_in line)) ≡ Some octets
packet_line_held word octets digits line on_map holds few hex is =
    let plain = packet_plain word holds in
    let number = number_word on_map (omega (arith, few)) in
    let all : list_all is_word (word ∷ decimal on_map ∷ digits ∷ []) ≡ true = rw (plain.0, number, hex_word hex) refl in
    let spells : ended (word ∷ decimal on_map ∷ digits ∷ [])
    ≡ word ++ (codes " " ++ (decimal on_map ++ (codes " " ++ (digits ++ line_end)))) =
    append_assoc word (32 ∷ (decimal on_map ++ 32 ∷ digits)) (10 ∷ [])
    ∙ ap (λ (t : List ℕ). word ++ 32 ∷ t) (append_assoc (decimal on_map) (32 ∷ digits) (10 ∷ [])) in
    let same = line_words word (decimal on_map ∷ digits ∷ []) _ all plain.1 spells line is in
    ap held_in same
    ∙ rw (holds, printed 63 on_map (omega arith) few, spelled_octets octets digits hex) refl
