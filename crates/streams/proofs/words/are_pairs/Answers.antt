use Rattle.std.proofs.Common.{◌≡◌, ◌%◌, ℕ, Bool, true, false, List, length, refl, ap, ◌∙◌, Result, Ok, Err, is_some}
use Rattle.std.proofs.Common.{rules, sym, arith, eqb}
use Rattle.std.specs.List.{list_all}
use Rattle.std.specs.Result.{result_ok}
use Rattle.std.proofs.lemmas.List.Sums.{AllPass-from_list_all, list_all-from_AllPass}
use Rattle.hex.specs.declared.error.FromHexError.{FromHexError}
use Rattle.hex.specs.Hex.{decode_of, is_hex_digit}
use Rattle.hex.proofs.HexLemmas.{decode_of-even, decode_of-odd, decode_of-ok, decode_pairs-digits}
use borrow.Author.Tests.{tests}
use Rattle.std.proofs.lemmas.Iterator.{YieldsList-from_slice}
use Rattle.std.proofs.lemmas.Iterator.Search.{all_from_yields_List}
use Rattle.streams.proofs.words.are_pairs.Goals as goal

-- When pairs of digits decode.

abbrev decodes : Result (List ℕ) FromHexError → Bool
decodes r = is_some (result_ok r)

refused : (word : List ℕ) (r : Result (List ℕ) FromHexError) → decode_of word ≡ r → length word % 2 ≡ 0
    → list_all is_hex_digit word ≡ false → decodes r ≡ false
refused word (Err e) is even not_all = refl
refused word (Ok octets) is even not_all =
    let ok = decode_of-ok word octets is in
    let all = list_all-from_AllPass is_hex_digit word ok.1 in
    cc (all, not_all)

digits_case : (word : List ℕ) (b : Bool) → length word % 2 ≡ 0 → list_all is_hex_digit word ≡ b
    → decodes (decode_of word) ≡ b
digits_case word false even not_all = refused word (decode_of word) refl even not_all
digits_case word true even all =
    let read = decode_pairs-digits 0 word even (AllPass-from_list_all is_hex_digit word all) in
    ap decodes (decode_of-even word even ∙ read.1)

-- pairs of digits decode, and nothing else does
even_digits : (word : List ℕ) → length word % 2 ≡ 0 → decodes (decode_of word) ≡ list_all is_hex_digit word
even_digits word even = digits_case word (list_all is_hex_digit word) even refl

odd_digits : (word : List ℕ) → length word % 2 ≡ 1 → decodes (decode_of word) ≡ false
odd_digits word odd = ap decodes (decode_of-odd word odd)

pub returns-then-word-eq0 : goal.returns-then-word-eq0
returns-then-word-eq0 c =
    let all = all_from_yields_List is_hex_digit _ _ _ c.all.ensures.ran (YieldsList-from_slice c.args.word.now cc)
    (λ x b q k. search (rules, tests)) in
    all ∙ sym (even_digits c.args.word.now (omega arith))

pub returns-else-word-eq0 : goal.returns-else-word-eq0
returns-else-word-eq0 c =
    let odd : length c.args.word.now % 2 ≡ 1 = omega arith in
    let none : eqb (length c.args.word.now % 2) 0 ≡ false = rw odd refl in
    none ∙ sym (odd_digits c.args.word.now odd)
