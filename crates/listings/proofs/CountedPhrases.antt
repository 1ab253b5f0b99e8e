-- Words may be counted in any order, so the phrases of a text may be put in the table later.
use Rattle.std.proofs.Common.{◌≡◌, ◌∙◌, ◌+◌, ◌-◌, ◌<◌, ◌∷◌, ◌++◌, List, [], ℕ, Bool, true, false, refl, ap, sym}
use Rattle.std.proofs.Common.{Ordering, append_assoc, arith, drop, get_or, length, map, suc, take, zero}
use Rattle.std.specs.Prelude.{Option, Some, None, Vec, replicate, ◌&&◌, if◌then◌else◌}
use Rattle.std.specs.List.{fold}
use Rattle.std.specs.Option.{option_map}
use Rattle.std.specs.FinMap.{nat_cmp-IsAntisymmetric, slice_cmp-IsAntisymmetric}
use Rattle.std.proofs.Math.ListN.{set}
use Rattle.std.proofs.lemmas.Cmp.{nat_list_cmp_total}
use Rattle.std.specs.Cmp.Lexicographic.{slice_cmp}
use Rattle.std.specs.Ordering.{match_ordering, nat_cmp, ordering_reverse}
use Rattle.std.specs.declared.cmp.Ordering.TheVariants.{Less, Equal, Greater}
use Rattle.std.proofs.lemmas.List.{append-nil, take-append-drop, take_rest}
use Rattle.std.proofs.Math.Seq.{take-add}
use Rattle.std.proofs.lemmas.List.Sums.{fold-append}
use Rattle.listings.specs.Phrases.{begun_in, counted, of_phrases, phrase_words, row_of, with_each}
use Rattle.listings.specs.Phrases.{with_ended_times, with_phrases}
use Rattle.listings.specs.Phrases.{are_whole, with_words, words_in, AreWhole}
use Rattle.listings.specs.Listing.{is_empty}
use Rattle.listings.specs.Totals.{Tallied, is_counted, parts_words, shown, with_ended, with_octet, with_word}
use Rattle.listings.specs.Words.{word_end}
use Rattle.listings.specs.declared.phrases.Phrase.{Phrase}
use Rattle.listings.proofs.WordEnds.{Rows, reads_word, st}

abbrev cmp : List ℕ → List ℕ → Ordering
cmp = slice_cmp nat_cmp

turned : (a b : List ℕ) (o : Ordering) → cmp a b ≡ o → cmp b a ≡ ordering_reverse o
turned a b o is = nat_list_cmp_total.antisymm b a ∙ ap ordering_reverse is

equal : (a b : List ℕ) → cmp a b ≡ Equal → a ≡ b
equal a b is = slice_cmp-IsAntisymmetric nat_cmp-IsAntisymmetric a b is

-- two new words that would each be the first row of the table
pair_by : (rows : Rows) (a b : List ℕ) → with_word rows a ≡ (a, 1) ∷ rows → with_word rows b ≡ (b, 1) ∷ rows
    → (o : Ordering) → cmp b a ≡ o → with_word ((a, 1) ∷ rows) b ≡ with_word ((b, 1) ∷ rows) a
pair_by rows a b first second Less is =
    let other : cmp a b ≡ Greater = turned b a Less is in
    rw (is, other) (ap (λ (x : Rows). (b, 1) ∷ x) (sym first))
pair_by rows a b first second Equal is =
    let one : b ≡ a = equal b a is in rw one refl
pair_by rows a b first second Greater is =
    let other : cmp a b ≡ Less = turned b a Greater is in
    rw (is, other) (ap (λ (x : Rows). (a, 1) ∷ x) second)

-- a word that comes before the first row, and another word
first_by : (row : List ℕ × ℕ) (rows : Rows) (a b : List ℕ) → cmp a row.0 ≡ Less → (o : Ordering) → cmp b row.0 ≡ o
    → with_word (with_word (row ∷ rows) a) b ≡ with_word (with_word (row ∷ rows) b) a
first_by row rows a b less Less is =
    let first : with_word (row ∷ rows) a ≡ (a, 1) ∷ row ∷ rows = rw less refl in
    let second : with_word (row ∷ rows) b ≡ (b, 1) ∷ row ∷ rows = rw is refl in
    ap (λ (x : Rows). with_word x b) first
    ∙ pair_by (row ∷ rows) a b first second (cmp b a) refl
    ∙ ap (λ (x : Rows). with_word x a) (sym second)
first_by row rows a b less Equal is =
    let one : b ≡ row.0 = equal b row.0 is in
    let before : cmp a b ≡ Less = rw one less in
    let after : cmp b a ≡ Greater = turned a b Less before in
    rw (less, is, after) (rw less refl)
first_by row rows a b less Greater is =
    let before : cmp a b ≡ Less =
    nat_list_cmp_total.trans a row.0 b less (turned b row.0 Greater is) in
    let after : cmp b a ≡ Greater = turned a b Less before in
    rw (less, is, after) (rw less refl)

swap_by : (row : List ℕ × ℕ) (rows : Rows) (a b : List ℕ)
    → with_word (with_word rows a) b ≡ with_word (with_word rows b) a
    → (o : Ordering) → cmp a row.0 ≡ o → (p : Ordering) → cmp b row.0 ≡ p
    → with_word (with_word (row ∷ rows) a) b ≡ with_word (with_word (row ∷ rows) b) a
swap_by row rows a b rest Less a_is p b_is = first_by row rows a b a_is p b_is
swap_by row rows a b rest Equal a_is Less b_is = sym (first_by row rows b a b_is Equal a_is)
swap_by row rows a b rest Equal a_is Equal b_is = rw (a_is, b_is) (rw a_is refl)
swap_by row rows a b rest Equal a_is Greater b_is = rw (a_is, b_is) (rw a_is refl)
swap_by row rows a b rest Greater a_is Less b_is = sym (first_by row rows b a b_is Greater a_is)
swap_by row rows a b rest Greater a_is Equal b_is = rw (a_is, b_is) (rw a_is refl)
swap_by row rows a b rest Greater a_is Greater b_is =
    rw (a_is, b_is) (rw a_is (ap (λ (x : Rows). row ∷ x) rest))

-- words in any order
swap : (rows : Rows) (a b : List ℕ) → with_word (with_word rows a) b ≡ with_word (with_word rows b) a
swap [] a b = pair_by [] a b refl refl (cmp b a) refl
swap (row ∷ rows) a b = swap_by row rows a b (swap rows a b) (cmp a row.0) refl (cmp b row.0) refl

-- a word counted n times, and another word
words_swap : (rows : Rows) (w : List ℕ) (n : ℕ) (a : List ℕ)
    → with_word (with_words rows w n) a ≡ with_words (with_word rows a) w n
words_swap rows w zero a = refl
words_swap rows w (suc n) a =
    swap (with_words rows w n) w a ∙ ap (λ (x : Rows). with_word x w) (words_swap rows w n a)

words_twice : (rows : Rows) (w : List ℕ) (n : ℕ) (v : List ℕ) (m : ℕ)
    → with_words (with_words rows w n) v m ≡ with_words (with_words rows v m) w n
words_twice rows w n v zero = refl
words_twice rows w n v (suc m) =
    ap (λ (x : Rows). with_word x v) (words_twice rows w n v m) ∙ words_swap (with_words rows v m) w n v

-- a word counted n times if p is true, or not at all
abbrev where_so : Bool → Rows → List ℕ → ℕ → Rows
where_so p rows w n = if p then with_words rows w n else rows

twice_by : (p q : Bool) (rows : Rows) (w : List ℕ) (n : ℕ) (v : List ℕ) (m : ℕ)
    → where_so q (where_so p rows w n) v m ≡ where_so p (where_so q rows v m) w n
twice_by true true rows w n v m = words_twice rows w n v m
twice_by true false rows w n v m = refl
twice_by false true rows w n v m = refl
twice_by false false rows w n v m = refl

times_twice : (rows : Rows) (w : List ℕ) (n : ℕ) (v : List ℕ) (m : ℕ)
    → with_ended_times (with_ended_times rows w n) v m ≡ with_ended_times (with_ended_times rows v m) w n
times_twice rows w n v m = twice_by (is_counted w) (is_counted v) rows (shown w) n (shown v) m

more_by : (p : Bool) (rows : Rows) (w : List ℕ) (n m : ℕ) → m ≡ n + 1
    → where_so p rows w m ≡ (if p then with_word (where_so p rows w n) w else where_so p rows w n)
more_by true rows w n m so =
    let one : m ≡ suc n = omega arith in ap (λ (k : ℕ). with_words rows w k) one
more_by false rows w n m so = refl

times_more : (rows : Rows) (w : List ℕ) (n m : ℕ) → m ≡ n + 1
    → with_ended_times rows w m ≡ with_ended (with_ended_times rows w n) w
times_more rows w n m so = more_by (is_counted w) rows (shown w) n m so

-- a word counted m times, and words counted n times each
each_word : (words : List (List ℕ)) (rows : Rows) (w : List ℕ) (m n : ℕ)
    → with_each (with_ended_times rows w m) words n ≡ with_ended_times (with_each rows words n) w m
each_word [] rows w m n = refl
each_word (v ∷ words) rows w m n =
    ap (λ (x : Rows). with_each x words n) (times_twice rows w m v n)
    ∙ each_word words (with_ended_times rows v n) w m n

each_twice : (others words : List (List ℕ)) (rows : Rows) (n m : ℕ)
    → with_each (with_each rows words n) others m ≡ with_each (with_each rows others m) words n
each_twice [] words rows n m = refl
each_twice (v ∷ others) words rows n m =
    ap (λ (x : Rows). with_each x others m) (sym (each_word words rows v m n))
    ∙ each_twice others words (with_ended_times rows v m) n m

each_more : (words : List (List ℕ)) (rows : Rows) (n m : ℕ) → m ≡ n + 1
    → with_each rows words m ≡ with_each (with_each rows words n) words 1
each_more [] rows n m so = refl
each_more (w ∷ words) rows n m so =
    ap (λ (x : Rows). with_each x words m) (times_more rows w n m so)
    ∙ each_more words (with_ended_times (with_ended_times rows w n) w 1) n m so
    ∙ ap (λ (x : Rows). with_each x words 1) (each_word words (with_ended_times rows w n) w 1 n)

none_by : (p : Bool) (rows : Rows) (w : List ℕ) → where_so p rows w 0 ≡ rows
none_by true rows w = refl
none_by false rows w = refl

-- a word that has come no times changes nothing
pub no_time : (rows : Rows) (w : List ℕ) (n : ℕ) → n ≡ 0 → rows ≡ with_ended_times rows w n
no_time rows w n none =
    sym (ap (λ (k : ℕ). with_ended_times rows w k) none ∙ none_by (is_counted w) rows (shown w))

pub no_times : (words : List (List ℕ)) (rows : Rows) (n : ℕ) → n ≡ 0 → rows ≡ with_each rows words n
no_times [] rows n none = refl
no_times (w ∷ words) rows n none =
    no_times words rows n none ∙ ap (λ (x : Rows). with_each x words n) (no_time rows w n none)

-- words may be put in the table before the phrases
pub put_before : (phrases rows : Rows) (words : List (List ℕ)) (n : ℕ)
    → of_phrases (with_each rows words n) phrases ≡ with_each (of_phrases rows phrases) words n
put_before [] rows words n = refl
put_before (p ∷ phrases) rows words n =
    ap (λ (x : Rows). of_phrases x phrases) (each_twice (words_in [] p.0) words rows n p.1)
    ∙ put_before phrases (with_each rows (words_in [] p.0) p.1) words n

-- a table of phrases with one phrase more
with_one_by : (p : List ℕ × ℕ) (phrases rows : Rows) (w : List ℕ)
    → ((rows : Rows) → of_phrases rows (with_word phrases w) ≡ with_each (of_phrases rows phrases) (words_in [] w) 1)
    → (o : Ordering) → cmp w p.0 ≡ o
    → of_phrases rows (match_ordering o ((w, 1) ∷ p ∷ phrases) ((p.0, p.1 + 1) ∷ phrases) (p ∷ with_word phrases w))
    ≡ with_each (of_phrases rows (p ∷ phrases)) (words_in [] w) 1
with_one_by p phrases rows w rest Less is = put_before (p ∷ phrases) rows (words_in [] w) 1
with_one_by p phrases rows w rest Equal is =
    let one : p.0 ≡ w = sym (equal w p.0 is) in
    ap (λ (x : Rows). of_phrases x phrases) (each_more (words_in [] p.0) rows p.1 (p.1 + 1) refl)
    ∙ put_before phrases (with_each rows (words_in [] p.0) p.1) (words_in [] p.0) 1
    ∙ ap (λ (v : List ℕ). with_each (of_phrases rows (p ∷ phrases)) (words_in [] v) 1) one
with_one_by p phrases rows w rest Greater is = rest (with_each rows (words_in [] p.0) p.1)

with_one : (phrases rows : Rows) (w : List ℕ)
    → of_phrases rows (with_word phrases w) ≡ with_each (of_phrases rows phrases) (words_in [] w) 1
with_one [] rows w = refl
with_one (p ∷ phrases) rows w =
    with_one_by p phrases rows w (λ rows. with_one phrases rows w) (cmp w p.0) refl

pub with_times : (phrases rows : Rows) (w : List ℕ) (n : ℕ)
    → of_phrases rows (with_words phrases w n) ≡ with_each (of_phrases rows phrases) (words_in [] w) n
with_times phrases rows w zero = no_times (words_in [] w) (of_phrases rows phrases) 0 refl
with_times phrases rows w (suc n) =
    with_one (with_words phrases w n) rows w
    ∙ ap (λ (x : Rows). with_each x (words_in [] w) 1) (with_times phrases rows w n)
    ∙ sym (each_more (words_in [] w) (of_phrases rows phrases) n (suc n) (omega arith))

abbrev its_words : Phrase → List (List ℕ)
its_words p = words_in [] (phrase_words p)

abbrev rows_of : List Phrase → Rows
rows_of phrases = map (λ phrase. (phrase_words phrase, phrase.times)) phrases

-- the phrases after the one at a place has come once more
pub raised : (phrases : List Phrase) (place : ℕ) (rows : Rows) (d old new : Phrase) → place < length phrases
    → old ≡ get_or phrases place d → phrase_words new ≡ phrase_words old → new.times ≡ old.times + 1
    → with_phrases rows (set phrases place new) ≡ with_each (with_phrases rows phrases) (its_words new) 1
raised [] place rows d old new there is same more = absurd (omega arith)
raised (p ∷ phrases) zero rows d old new there is same more =
    ap (λ (w : List ℕ). with_phrases (with_each rows (words_in [] w) new.times) phrases) same
    ∙ ap (λ (x : Rows). with_phrases x phrases) (each_more (its_words old) rows old.times new.times more)
    ∙ put_before (rows_of phrases) (with_each rows (its_words old) old.times) (its_words old) 1
    ∙ ap (λ (o : Phrase). with_each (with_phrases (with_each rows (its_words o) o.times) phrases)
    (its_words old) 1) is
    ∙ ap (λ (w : List ℕ). with_each (with_phrases rows (p ∷ phrases)) (words_in [] w) 1) (sym same)
raised (p ∷ phrases) (suc place) rows d old new there is same more =
    raised phrases place (with_each rows (its_words p) p.times) d old new (omega arith) is same more

-- the phrase at a place is put in the table, and a phrase that has come once takes its place
pub replaced : (phrases : List Phrase) (place : ℕ) (rows : Rows) (d old new : Phrase) → place < length phrases
    → old ≡ get_or phrases place d → new.times ≡ 1
    → with_phrases (with_each rows (its_words old) old.times) (set phrases place new)
    ≡ with_each (with_phrases rows phrases) (its_words new) 1
replaced [] place rows d old new there is once = absurd (omega arith)
replaced (p ∷ phrases) zero rows d old new there is once =
    ap (λ (n : ℕ). with_phrases (with_each (with_each rows (its_words old) old.times)
    (its_words new) n) phrases) once
    ∙ put_before (rows_of phrases) (with_each rows (its_words old) old.times) (its_words new) 1
    ∙ ap (λ (o : Phrase). with_each (with_phrases (with_each rows (its_words o) o.times) phrases)
    (its_words new) 1) is
replaced (p ∷ phrases) (suc place) rows d old new there is once =
    ap (λ (x : Rows). with_phrases x (set phrases place new))
    (each_twice (its_words p) (its_words old) rows old.times p.times)
    ∙ replaced phrases place (with_each rows (its_words p) p.times) d old new (omega arith) is once

pub phrases_before : (phrases : List Phrase) (rows : Rows) (words : List (List ℕ)) (n : ℕ)
    → with_phrases (with_each rows words n) phrases ≡ with_each (with_phrases rows phrases) words n
phrases_before phrases rows words n = put_before (rows_of phrases) rows words n

-- words may be put in before the phrases of a table and of a list
pub counted_before : {A : Type 0} (entries : List (Vec ℕ A × ℕ)) (phrases : List Phrase) (rows : Rows)
    (words : List (List ℕ)) (n : ℕ)
    → counted (with_each rows words n) entries phrases ≡ with_each (counted rows entries phrases) words n
counted_before entries phrases rows words n =
    ap (λ (x : Rows). with_phrases x phrases) (put_before (map row_of entries) rows words n)
    ∙ put_before (rows_of phrases) (of_phrases rows (map row_of entries)) words n

-- ---- the words of a text

-- octets add their words to the table of a tally, and leave the word that has begun
splits_by : (parts : Bool) (rows : Rows) (w os : List ℕ) (o : ℕ)
    → ((rows : Rows) (w : List ℕ)
    → fold with_octet (st rows w) os ≡ st (with_each rows (words_in w os) 1) (begun_in w os))
    → fold with_octet (if parts then st (with_ended rows w) [] else st rows (w ++ o ∷ [])) os
    ≡ st (with_each rows (if parts then w ∷ words_in [] os else words_in (w ++ o ∷ []) os) 1)
    (if parts then begun_in [] os else begun_in (w ++ o ∷ []) os)
splits_by true rows w os o rest = rest (with_ended rows w) []
splits_by false rows w os o rest = rest rows (w ++ o ∷ [])

pub splits : (rows : Rows) (w text : List ℕ)
    → fold with_octet (st rows w) text ≡ st (with_each rows (words_in w text) 1) (begun_in w text)
splits rows w [] = refl
splits rows w (o ∷ os) = splits_by (parts_words w o) rows w os o (λ rows w. splits rows w os)

-- a text that begins with whole words
pub goes_on_after : (rows : Rows) (text : List ℕ) (n : ℕ) → begun_in [] (take n text) ≡ []
    → fold with_octet (st rows []) text
    ≡ fold with_octet (st (with_each rows (words_in [] (take n text)) 1) []) (drop n text)
goes_on_after rows text n whole =
    ap (λ (x : List ℕ). fold with_octet (st rows []) x) (sym (take-append-drop n text))
    ∙ fold-append with_octet (st rows []) (take n text) (drop n text)
    ∙ ap (λ (x : Tallied). fold with_octet x (drop n text)) (splits rows [] (take n text))
    ∙ ap (λ (w : List ℕ). fold with_octet (st (with_each rows (words_in [] (take n text)) 1) w) (drop n text)) whole

-- a word is whole together with the octet that ends it
pub ends_whole : (w text : List ℕ) (n : ℕ) → word_end w text ≡ Some n → begun_in w (take (suc n) text) ≡ []
ends_whole w text n is =
    ap (λ (t : Tallied). t.word) (sym (splits [] w (take (suc n) text)) ∙ reads_word [] w text n is)

one_more : (n : ℕ) → suc n ≡ n + 1
one_more n = omega arith

pub first_whole : (text : List ℕ) (n : ℕ) → word_end [] text ≡ Some n → begun_in [] (take (n + 1) text) ≡ []
first_whole text n is = ap (λ (k : ℕ). begun_in [] (take k text)) (sym (one_more n)) ∙ ends_whole [] text n is

begun_by : (parts : Bool) (w os others : List ℕ) (o : ℕ)
    → ((w : List ℕ) → begun_in w (os ++ others) ≡ begun_in (begun_in w os) others)
    → (if parts then begun_in [] (os ++ others) else begun_in (w ++ o ∷ []) (os ++ others))
    ≡ begun_in (if parts then begun_in [] os else begun_in (w ++ o ∷ []) os) others
begun_by true w os others o rest = rest []
begun_by false w os others o rest = rest (w ++ o ∷ [])

pub begun_on : (w text others : List ℕ) → begun_in w (text ++ others) ≡ begun_in (begun_in w text) others
begun_on w [] others = refl
begun_on w (o ∷ os) others = begun_by (parts_words w o) w os others o (λ w. begun_on w os others)

-- whole words, and a word after them
pub whole_on : (text : List ℕ) (at n : ℕ) → begun_in [] (take at text) ≡ [] → word_end [] (drop at text) ≡ Some n
    → begun_in [] (take (at + (n + 1)) text) ≡ []
whole_on text at n whole is =
    ap (λ (x : List ℕ). begun_in [] x) (take-add at (n + 1) text)
    ∙ begun_on [] (take at text) (take (n + 1) (drop at text))
    ∙ ap (λ (w : List ℕ). begun_in w (take (n + 1) (drop at text))) whole
    ∙ first_whole (drop at text) n is

-- the first word of a text, and the words after it
first_by_parts : (parts : Bool) (w os : List ℕ) (o n : ℕ)
    → ((w : List ℕ) (n : ℕ) → word_end w os ≡ Some n
    → words_in w os ≡ (w ++ take n os) ∷ words_in [] (drop (suc n) os))
    → (if parts then Some 0 else option_map (λ n. suc n) (word_end (w ++ o ∷ []) os)) ≡ Some n
    → (if parts then w ∷ words_in [] os else words_in (w ++ o ∷ []) os)
    ≡ (w ++ take n (o ∷ os)) ∷ words_in [] (drop n os)
first_by_parts true w os o n rest is =
    let none : n ≡ 0 = cc is in
    rw none (ap (λ (x : List ℕ). x ∷ words_in [] os) (sym (append-nil w)))
first_by_parts false w os o n rest is = later (word_end (w ++ o ∷ []) os) refl is
  where
    later : (m : Option ℕ) → word_end (w ++ o ∷ []) os ≡ m → option_map (λ n. suc n) m ≡ Some n
        → words_in (w ++ o ∷ []) os ≡ (w ++ take n (o ∷ os)) ∷ words_in [] (drop n os)
    later None found h = absurd (cc h)
    later (Some m) found h =
        let one : n ≡ suc m = cc h in
        rw one (rest (w ++ o ∷ []) m found
        ∙ ap (λ (x : List ℕ). x ∷ words_in [] (drop (suc m) os)) (append_assoc w (o ∷ []) (take m os)))

pub first_word : (w text : List ℕ) (n : ℕ) → word_end w text ≡ Some n
    → words_in w text ≡ (w ++ take n text) ∷ words_in [] (drop (suc n) text)
first_word w [] n is = absurd (cc is)
first_word w (o ∷ os) n is = first_by_parts (parts_words w o) w os o n (λ w n. first_word w os n) is

no_word_by : (parts : Bool) (w os : List ℕ) (o : ℕ)
    → ((w : List ℕ) → word_end w os ≡ None → words_in w os ≡ [])
    → (if parts then Some 0 else option_map (λ n. suc n) (word_end (w ++ o ∷ []) os)) ≡ None
    → (if parts then w ∷ words_in [] os else words_in (w ++ o ∷ []) os) ≡ []
no_word_by true w os o rest is = absurd (cc is)
no_word_by false w os o rest is = later (word_end (w ++ o ∷ []) os) refl is
  where
    later : (m : Option ℕ) → word_end (w ++ o ∷ []) os ≡ m → option_map (λ n. suc n) m ≡ None
        → words_in (w ++ o ∷ []) os ≡ []
    later None found h = rest (w ++ o ∷ []) found
    later (Some m) found h = absurd (cc h)

pub no_word : (w text : List ℕ) → word_end w text ≡ None → words_in w text ≡ []
no_word w [] is = refl
no_word w (o ∷ os) is = no_word_by (parts_words w o) w os o (λ w. no_word w os) is

-- the words after the first one, put in the table that has the first one
pub words_on : (rows with_it : Rows) (text : List ℕ) (n times : ℕ) → word_end [] text ≡ Some n
    → with_it ≡ with_ended_times rows (take n text) times
    → with_each with_it (words_in [] (take (length text - (n + 1)) (drop (n + 1) text))) times
    ≡ with_each rows (words_in [] text) times
words_on rows with_it text n times is counted =
    ap (λ (x : List ℕ). with_each with_it (words_in [] x) times) (take_rest text (n + 1))
    ∙ ap (λ (x : Rows). with_each x (words_in [] (drop (n + 1) text)) times) counted
    ∙ ap (λ (k : ℕ). with_each (with_ended_times rows (take n text) times) (words_in [] (drop k text)) times)
    (sym (one_more n))
    ∙ ap (λ (ws : List (List ℕ)). with_each rows ws times) (sym (first_word [] text n is))

-- ---- phrases are whole

both : (a b : Bool) → a && b ≡ true → (a ≡ true) × (b ≡ true)
both true b h = (refl, h)
both false b h = absurd (cc h)

of_both : (a b : Bool) → a ≡ true → b ≡ true → a && b ≡ true
of_both true b h k = k
of_both false b h k = absurd (cc h)

none_begun_by : (w : List ℕ) → is_empty w ≡ true → w ≡ []
none_begun_by [] h = refl
none_begun_by (o ∷ w) h = absurd (cc h)

begun_none : (w : List ℕ) → w ≡ [] → is_empty w ≡ true
begun_none w none = ap is_empty none

pub whole_at : (phrases : List Phrase) (place : ℕ) (d : Phrase) → place < length phrases → AreWhole phrases
    → begun_in [] (phrase_words (get_or phrases place d)) ≡ []
whole_at [] place d there all = absurd (omega arith)
whole_at (p ∷ phrases) zero d there all =
    none_begun_by (begun_in [] (phrase_words p))
    (both (is_empty (begun_in [] (phrase_words p))) (are_whole phrases) all).0
whole_at (p ∷ phrases) (suc place) d there all =
    whole_at phrases place d (omega arith) (both (is_empty (begun_in [] (phrase_words p))) (are_whole phrases) all).1

pub none_whole : (n : ℕ) (p : Phrase) → begun_in [] (phrase_words p) ≡ [] → AreWhole (replicate n p)
none_whole zero p is = refl
none_whole (suc n) p is =
    of_both (is_empty (begun_in [] (phrase_words p))) (are_whole (replicate n p))
    (begun_none (begun_in [] (phrase_words p)) is) (none_whole n p is)

pub whole_set : (phrases : List Phrase) (place : ℕ) (new : Phrase) → AreWhole phrases
    → begun_in [] (phrase_words new) ≡ [] → AreWhole (set phrases place new)
whole_set [] place new all is = all
whole_set (p ∷ phrases) zero new all is =
    of_both (is_empty (begun_in [] (phrase_words new))) (are_whole phrases)
    (begun_none (begun_in [] (phrase_words new)) is)
    (both (is_empty (begun_in [] (phrase_words p))) (are_whole phrases) all).1
whole_set (p ∷ phrases) (suc place) new all is =
    let parts = both (is_empty (begun_in [] (phrase_words p))) (are_whole phrases) all in
    of_both (is_empty (begun_in [] (phrase_words p))) (are_whole (set phrases place new)) parts.0
    (whole_set phrases place new parts.1 is)
