-- Where the words of a text end, and how the octets up to there change the words so far.
use Rattle.std.proofs.Common.{◌≡◌, ◌∙◌, ◌+◌, ◌-◌, ◌<◌, ◌≤◌, ◌∷◌, ◌++◌, List, [], ℕ, Bool, true, false, refl}
use Rattle.std.proofs.Common.{ap, sym, arith}
use Rattle.std.proofs.Common.{append_assoc, drop, length, suc, take, get_or, zero}
use Rattle.std.specs.Prelude.{Option, Some, None, ◌==◌, ◌||◌, ◌&&◌, not, nat_le, if◌then◌else◌}
use Rattle.std.specs.List.{fold, list_any}
use Rattle.std.specs.Option.{option_map}
use Rattle.std.proofs.Math.Seq.{drop-cons, take-suc}
use Rattle.std.proofs.lemmas.List.{append-nil, drop_all, take-append-drop, take_rest}
use Rattle.std.proofs.lemmas.Bool.{leb-false, ne_eqb}
use Rattle.std.proofs.lemmas.List.Sums.{fold-append}
use Rattle.listings.specs.Totals.{Tallied, is_spacecraft, parts_words, with_ended, with_octet}
use Rattle.listings.specs.Words.{word_end, word_end_after}

abbrev pub Rows : Type 0
Rows = List (List ℕ × ℕ)

abbrev pub st : Rows → List ℕ → Tallied
st rows word = record { rows = rows; word = word }

-- up to the end of a word, with the octet that ends it
ended_by : (parts : Bool) (rows : Rows) (w os : List ℕ) (o n : ℕ)
    → ((w : List ℕ) (n : ℕ) → word_end w os ≡ Some n
    → fold with_octet (st rows w) (take (suc n) os) ≡ st (with_ended rows (w ++ take n os)) [])
    → (if parts then Some 0 else option_map (λ n. suc n) (word_end (w ++ o ∷ []) os)) ≡ Some n
    → fold with_octet (if parts then st (with_ended rows w) [] else st rows (w ++ o ∷ [])) (take n os)
    ≡ st (with_ended rows (w ++ take n (o ∷ os))) []
ended_by true rows w os o n rest is =
    let none : n ≡ 0 = cc is in
    rw none (ap (λ (x : List ℕ). st (with_ended rows x) []) (sym (append-nil w)))
ended_by false rows w os o n rest is = later (word_end (w ++ o ∷ []) os) refl is
  where
    later : (m : Option ℕ) → word_end (w ++ o ∷ []) os ≡ m → option_map (λ n. suc n) m ≡ Some n
        → fold with_octet (st rows (w ++ o ∷ [])) (take n os) ≡ st (with_ended rows (w ++ take n (o ∷ os))) []
    later None found h = absurd (cc h)
    later (Some m) found h =
        let one : n ≡ suc m = cc h in
        rw one (rest (w ++ o ∷ []) m found
        ∙ ap (λ (x : List ℕ). st (with_ended rows x) []) (append_assoc w (o ∷ []) (take m os)))

pub reads_word : (rows : Rows) (w text : List ℕ) (n : ℕ) → word_end w text ≡ Some n
    → fold with_octet (st rows w) (take (suc n) text) ≡ st (with_ended rows (w ++ take n text)) []
reads_word rows w [] n is = absurd (cc is)
reads_word rows w (o ∷ os) n is =
    ended_by (parts_words w o) rows w os o n (λ w n. reads_word rows w os n) is

one_more : (n : ℕ) → suc n ≡ n + 1
one_more n = omega arith

-- a text whose first word ends
pub goes_on : (rows : Rows) (text : List ℕ) (n : ℕ) → word_end [] text ≡ Some n
    → fold with_octet (st rows []) text ≡ fold with_octet (st (with_ended rows (take n text)) []) (drop (n + 1) text)
goes_on rows text n is =
    ap (λ (x : List ℕ). fold with_octet (st rows []) x) (sym (take-append-drop (suc n) text))
    ∙ fold-append with_octet (st rows []) (take (suc n) text) (drop (suc n) text)
    ∙ ap (λ (x : Tallied). fold with_octet x (drop (suc n) text)) (reads_word rows [] text n is)
    ∙ ap (λ (k : ℕ). fold with_octet (st (with_ended rows (take n text)) []) (drop k text)) (one_more n)

-- the text after the first word, with that word in the table, gives what the whole text gives
-- without it
pub next : (rows with_it : Rows) (word text : List ℕ) (n : ℕ) (all : Tallied) → word ≡ []
    → with_it ≡ with_ended rows (take n text) → word_end [] text ≡ Some n → fold with_octet (st rows word) text ≡ all
    → fold with_octet (st with_it word) (take (length text - (n + 1)) (drop (n + 1) text)) ≡ all
next rows with_it word text n all none counted is so =
    ap (λ (x : List ℕ). fold with_octet (st with_it word) x) (take_rest text (n + 1))
    ∙ ap (λ (r : Rows). fold with_octet (st r word) (drop (n + 1) text)) counted
    ∙ ap (λ (w : List ℕ). fold with_octet (st (with_ended rows (take n text)) w) (drop (n + 1) text)) none
    ∙ sym (goes_on rows text n is)
    ∙ ap (λ (w : List ℕ). fold with_octet (st rows w) text) (sym none)
    ∙ so

open_by : (parts : Bool) (rows : Rows) (w os : List ℕ) (o : ℕ)
    → ((w : List ℕ) → word_end w os ≡ None → fold with_octet (st rows w) os ≡ st rows (w ++ os))
    → (if parts then Some 0 else option_map (λ n. suc n) (word_end (w ++ o ∷ []) os)) ≡ None
    → fold with_octet (if parts then st (with_ended rows w) [] else st rows (w ++ o ∷ [])) os ≡ st rows (w ++ o ∷ os)
open_by true rows w os o rest is = absurd (cc is)
open_by false rows w os o rest is = later (word_end (w ++ o ∷ []) os) refl is
  where
    later : (m : Option ℕ) → word_end (w ++ o ∷ []) os ≡ m → option_map (λ n. suc n) m ≡ None
        → fold with_octet (st rows (w ++ o ∷ [])) os ≡ st rows (w ++ o ∷ os)
    later None found h = rest (w ++ o ∷ []) found ∙ ap (λ (x : List ℕ). st rows x) (append_assoc w (o ∷ []) os)
    later (Some m) found h = absurd (cc h)

-- a word that does not end
pub stays_open : (rows : Rows) (w text : List ℕ) → word_end w text ≡ None
    → fold with_octet (st rows w) text ≡ st rows (w ++ text)
stays_open rows w [] is = ap (λ (x : List ℕ). st rows x) (sym (append-nil w))
stays_open rows w (o ∷ os) is = open_by (parts_words w o) rows w os o (λ w. stays_open rows w os) is

-- ---- place by place

pub starts : (text : List ℕ) → word_end_after text 0 ≡ word_end [] text
starts text = same (word_end [] text)
  where
    same : (m : Option ℕ) → option_map (λ n. 0 + n) m ≡ m
    same None = refl
    same (Some n) = ap (λ (x : ℕ). Some x) (omega arith)

twice_on : (at : ℕ) (m : Option ℕ)
    → option_map (λ n. at + n) (option_map (λ n. suc n) m) ≡ option_map (λ n. at + 1 + n) m
twice_on at None = refl
twice_on at (Some n) = ap (λ (x : ℕ). Some x) (omega arith)

-- an octet that separates no words
pub passed : (text : List ℕ) (at : ℕ) → at < length text → parts_words (take at text) (get_or text at 0) ≡ false
    → word_end_after text (at + 1) ≡ word_end_after text at
passed text at there inner =
    let o : ℕ = get_or text at 0 in
    let before : List ℕ = take at text in
    let after : List ℕ = drop (suc at) text in
    sym (
    ap (λ (x : List ℕ). option_map (λ n. at + n) (word_end before x)) (drop-cons text at 0 there)
    ∙ ap (λ (b : Bool). option_map (λ n. at + n)
    (if b then Some 0 else option_map (λ n. suc n) (word_end (before ++ o ∷ []) after))) inner
    ∙ twice_on at (word_end (before ++ o ∷ []) after)
    ∙ ap (λ (x : List ℕ). option_map (λ n. at + 1 + n) (word_end x after)) (sym (take-suc text at 0 there))
    ∙ ap (λ (k : ℕ). option_map (λ n. at + 1 + n) (word_end (take k text) (drop k text))) (one_more at))

-- the octet that ends the word
pub ended : (text : List ℕ) (at : ℕ) → at < length text → parts_words (take at text) (get_or text at 0) ≡ true
    → word_end_after text at ≡ Some at
ended text at there parts =
    let o : ℕ = get_or text at 0 in
    let before : List ℕ = take at text in
    ap (λ (x : List ℕ). option_map (λ n. at + n) (word_end before x)) (drop-cons text at 0 there)
    ∙ ap (λ (b : Bool). option_map (λ n. at + n)
    (if b then Some 0 else option_map (λ n. suc n) (word_end (before ++ o ∷ []) (drop (suc at) text)))) parts
    ∙ ap (λ (x : ℕ). Some x) (omega arith)

-- no octet is left
pub at_end : (text : List ℕ) (at : ℕ) → length text ≤ at → word_end_after text at ≡ None
at_end text at none =
    ap (λ (x : List ℕ). option_map (λ n. at + n) (word_end (take at text) x)) (drop_all at text none)

-- an octet above a space separates no words
high_by : (space feed spacecraft : Bool) → space ≡ false → feed ≡ false → feed || (space && spacecraft) ≡ false
high_by space feed spacecraft s f = rw (s, f) refl

pub high : (w : List ℕ) (o : ℕ) → nat_le o 32 ≡ false → parts_words w o ≡ false
high w o above =
    let more : 32 < o = leb-false o 32 above in
    high_by (o == 32) (o == 10) (not (is_spacecraft w)) (ne_eqb o 32 (λ e. omega (arith, more, e)))
    (ne_eqb o 10 (λ e. omega (arith, more, e)))

-- none of the n octets from a place on separates words
pub passed_all : (n : ℕ) (text : List ℕ) (at : ℕ) → at + n ≤ length text
    → list_any (λ octet. nat_le octet 32) (take n (drop at text)) ≡ false
    → word_end_after text (at + n) ≡ word_end_after text at
passed_all zero text at there none = ap (λ (x : ℕ). word_end_after text x) (omega arith)
passed_all (suc n) text at there none =
    let o : ℕ = get_or text at 0 in
    let cut : take (suc n) (drop at text) ≡ o ∷ take n (drop (suc at) text) =
    ap (λ (x : List ℕ). take (suc n) x) (drop-cons text at 0 (omega arith)) in
    let parts = either (nat_le o 32) (list_any (λ octet. nat_le octet 32) (take n (drop (suc at) text)))
    (sym (ap (λ (x : List ℕ). list_any (λ octet. nat_le octet 32) x) cut) ∙ none) in
    ap (λ (x : ℕ). word_end_after text x) (omega arith)
    ∙ passed_all n text (at + 1) (omega arith)
    (ap (λ (k : ℕ). list_any (λ octet. nat_le octet 32) (take n (drop k text))) (sym (one_more at)) ∙ parts.1)
    ∙ passed text at (omega arith) (high (take at text) o parts.0)
  where
    either : (a b : Bool) → a || b ≡ false → (a ≡ false) × (b ≡ false)
    either true b h = absurd (cc h)
    either false b h = (refl, h)
