-- The contents of a table of words after a word is counted n times more.
use Rattle.std.proofs.Common.{◌≡◌, ◌∙◌, ◌+◌, ◌<◌, ◌∷◌, List, [], ℕ, Some, None, Vec, map, refl, ap, sym, Ordering}
use Rattle.std.proofs.Common.{arith, suc, zero}
use Rattle.std.proofs.lemmas.Cmp.{nat_list_cmp_total}
use Rattle.std.specs.BTreeMap.{insert_entry, is_at}
use Rattle.std.specs.Cmp.Lexicographic.{slice_cmp}
use Rattle.std.specs.List.{AllByRecursion}
use Rattle.std.specs.List.Sorted.{IsStrictlySortedBy}
use Rattle.std.specs.Map.{keys_of, lookup, set_value}
use Rattle.std.specs.Ordering.{match_ordering, nat_cmp, ordering_reverse}
use Rattle.std.specs.declared.cmp.Ordering.TheVariants.{Less, Equal, Greater}
use Rattle.listings.specs.Phrases.{with_words}
use Rattle.listings.specs.Phrases.{row_of}
use Rattle.listings.specs.Totals.{with_word}

abbrev pub Rows : Type 0
Rows = List (List ℕ × ℕ)

-- a word compares as equal to itself
pub same_by : (o : Ordering) → o ≡ ordering_reverse o → o ≡ Equal
same_by Less is = absurd (cc is)
same_by Equal is = refl
same_by Greater is = absurd (cc is)

pub itself : (w : List ℕ) → slice_cmp nat_cmp w w ≡ Equal
itself w = same_by (slice_cmp nat_cmp w w) (nat_list_cmp_total.antisymm w w)

-- the table with a word n times more, in one pass
abbrev more : Rows → List ℕ → ℕ → Rows
more [] w n = (w, n) ∷ []
more (row ∷ rows) w n =
    match_ordering (slice_cmp nat_cmp w row.0)
    ((w, n) ∷ row ∷ rows)
    ((row.0, row.1 + n) ∷ rows)
    (row ∷ more rows w n)

once : (rows : Rows) (w : List ℕ) → with_word rows w ≡ more rows w 1
once [] w = refl
once (row ∷ rows) w =
    ap (λ (x : Rows). match_ordering (slice_cmp nat_cmp w row.0) ((w, 1) ∷ row ∷ rows) ((row.0, row.1 + 1) ∷ rows)
    (row ∷ x)) (once rows w)

again_by : (row : List ℕ × ℕ) (rows : Rows) (w : List ℕ) (n : ℕ) → with_word (more rows w n) w ≡ more rows w (suc n)
    → (o : Ordering) → slice_cmp nat_cmp w row.0 ≡ o
    → with_word (match_ordering o ((w, n) ∷ row ∷ rows) ((row.0, row.1 + n) ∷ rows) (row ∷ more rows w n)) w
    ≡ match_ordering o ((w, suc n) ∷ row ∷ rows) ((row.0, row.1 + suc n) ∷ rows) (row ∷ more rows w (suc n))
again_by row rows w n rest Less is =
    rw (itself w) (ap (λ (k : ℕ). (w, k) ∷ row ∷ rows) (omega arith))
again_by row rows w n rest Equal is = rw is (ap (λ (k : ℕ). (row.0, k) ∷ rows) (omega arith))
again_by row rows w n rest Greater is = rw is (ap (λ (x : Rows). row ∷ x) rest)

again : (rows : Rows) (w : List ℕ) (n : ℕ) → with_word (more rows w n) w ≡ more rows w (suc n)
again [] w n = rw (itself w) (ap (λ (k : ℕ). (w, k) ∷ []) (omega arith))
again (row ∷ rows) w n = again_by row rows w n (again rows w n) (slice_cmp nat_cmp w row.0) refl

each_time : (rows : Rows) (w : List ℕ) (n : ℕ) → more rows w (suc n) ≡ with_words rows w (suc n)
each_time rows w zero = sym (once rows w)
each_time rows w (suc n) = sym (again rows w (suc n)) ∙ ap (λ (x : Rows). with_word x w) (each_time rows w n)

in_one_pass : (rows : Rows) (w : List ℕ) (n : ℕ) → 0 < n → more rows w n ≡ with_words rows w n
in_one_pass rows w zero some = absurd (omega arith)
in_one_pass rows w (suc n) some = each_time rows w n

-- the order of keys, and of a word relative to a key
abbrev by_octets : {A : Type 0} → Vec ℕ A → Vec ℕ A → Ordering
by_octets x y = slice_cmp nat_cmp x.items y.items

abbrev against : {A : Type 0} → List ℕ → Vec ℕ A → Ordering
against w k = slice_cmp nat_cmp w k.items

module _ {A : Type 0} where
  -- a word that comes before a key is not among the keys after it
  nowhere : (k : Vec ℕ A) (es : List (Vec ℕ A × ℕ)) (w : List ℕ) → against w k ≡ Less
      → AllByRecursion (λ y. by_octets k y ≡ Less) (keys_of es) → lookup (is_at (against w)) es ≡ None
  nowhere k [] w less all = refl
  nowhere k (e ∷ es) w less all =
      rw (nat_list_cmp_total.trans w k.items e.0.items less all.0) (nowhere k es w less all.1)

  -- The table with a word that it has, by the word's order relative to the first key, and by what holds of the others.
  known_by : (e : Vec ℕ A × ℕ) (es : List (Vec ℕ A × ℕ)) (w : List ℕ) (n k m : ℕ) → m ≡ n + k
      → AllByRecursion (λ y. by_octets e.0 y ≡ Less) (keys_of es)
      → lookup (is_at (against w)) (e ∷ es) ≡ Some n
      → (lookup (is_at (against w)) es ≡ Some n
      → map row_of (set_value (is_at (against w)) es m) ≡ more (map row_of es) w k)
      → (o : Ordering) → against w e.0 ≡ o
      → map row_of (set_value (is_at (against w)) (e ∷ es) m) ≡ more (map row_of (e ∷ es)) w k
  known_by e es w n k m so after found rest Less is =
      let there : lookup (is_at (against w)) es ≡ Some n = rw is at found in
      absurd (cc (there, nowhere e.0 es w is after))
  known_by e es w n k m so after found rest Equal is =
      let here : Some e.1 ≡ Some n = rw is at found in
      let same : e.1 ≡ n = cc here in
      rw is (ap (λ (c : ℕ). (e.0.items, c) ∷ map row_of es) (so ∙ ap (λ (c : ℕ). c + k) (sym same)))
  known_by e es w n k m so after found rest Greater is =
      let there : lookup (is_at (against w)) es ≡ Some n = rw is at found in
      rw is (ap (λ rows. row_of e ∷ rows) (rest there))

  known : (es : List (Vec ℕ A × ℕ)) (w : List ℕ) (n k m : ℕ) → m ≡ n + k
      → IsStrictlySortedBy by_octets (keys_of es) → lookup (is_at (against w)) es ≡ Some n
      → map row_of (set_value (is_at (against w)) es m) ≡ more (map row_of es) w k
  unfolding IsStrictlySortedBy
  known [] w n k m so sorted found = absurd (cc found)
  known (e ∷ es) w n k m so sorted found =
      known_by e es w n k m so sorted.0 found (known es w n k m so sorted.1) (against w e.0) refl

  pub word_known : (es : List (Vec ℕ A × ℕ)) (w : List ℕ) (n k m : ℕ) → 0 < k → m ≡ n + k
      → IsStrictlySortedBy by_octets (keys_of es) → lookup (is_at (against w)) es ≡ Some n
      → map row_of (set_value (is_at (against w)) es m) ≡ with_words (map row_of es) w k
  word_known es w n k m some so sorted found =
      known es w n k m so sorted found ∙ in_one_pass (map row_of es) w k some

  -- The table with a word that it does not have.
  new_by : (e : Vec ℕ A × ℕ) (es : List (Vec ℕ A × ℕ)) (key : Vec ℕ A) (k : ℕ)
      → lookup (is_at (against key.items)) (e ∷ es) ≡ None
      → (lookup (is_at (against key.items)) es ≡ None
      → map row_of (insert_entry by_octets es key k) ≡ more (map row_of es) key.items k)
      → (o : Ordering) → against key.items e.0 ≡ o
      → map row_of (insert_entry by_octets (e ∷ es) key k) ≡ more (map row_of (e ∷ es)) key.items k
  new_by e es key k none rest Less is = rw is refl
  new_by e es key k none rest Equal is = let here : Some e.1 ≡ None = rw is at none in absurd (cc here)
  new_by e es key k none rest Greater is =
      let there : lookup (is_at (against key.items)) es ≡ None = rw is at none in
      rw is (ap (λ rows. row_of e ∷ rows) (rest there))

  new : (es : List (Vec ℕ A × ℕ)) (key : Vec ℕ A) (k : ℕ) → lookup (is_at (against key.items)) es ≡ None
      → map row_of (insert_entry by_octets es key k) ≡ more (map row_of es) key.items k
  new [] key k none = refl
  new (e ∷ es) key k none = new_by e es key k none (new es key k) (against key.items e.0) refl

  pub word_new : (es : List (Vec ℕ A × ℕ)) (key : Vec ℕ A) (k : ℕ) → 0 < k
      → lookup (is_at (against key.items)) es ≡ None
      → map row_of (insert_entry by_octets es key k) ≡ with_words (map row_of es) key.items k
  word_new es key k some none = new es key k none ∙ in_one_pass (map row_of es) key.items k some
