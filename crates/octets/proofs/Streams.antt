-- Steps of a reading that succeeded, and tests that had one result.
use Rattle.std.proofs.Common.{◌≡◌, ◌≤◌, ◌<◌, ℕ, Bool, true, false, not, cond, eqb, Result, Ok, Err}
use Rattle.std.proofs.Common.{refl, arith, ◌⊎◌, zero, suc, ltb, List, [], ◌∷◌, ◌++◌, length, take}
use Rattle.std.proofs.Common.{drop, Option, Some, None, sym, ap, subst, ◌∙◌, inl, inr, append_assoc}
use Rattle.std.proofs.Common.{length-append, length-take, length-drop}
use Rattle.std.specs.Prelude.{nat_le}
use Rattle.std.proofs.lemmas.Bool.Decides.{nat_tests}
use Rattle.octets.specs.Outcome.{map_ok}
use Rattle.std.specs.List.{AllByRecursion, concat}
use Rattle.std.proofs.lemmas.Bool.{ltb-true, ltb-false, lt-ltb, le-ltb}
use Rattle.std.proofs.lemmas.List.{take-append-le, take_at, drop_at, take-append-drop}
use Rattle.std.proofs.lemmas.List.Folds.{concat-append}
use Rattle.octets.specs.Records.{IsRecord, IsCutShort, IsSplit, record_of, first_record, by_record}
use Rattle.octets.specs.Records.{first_records, rest_after_first, records_of, rest_of}

-- an answer Ok, with its fault's type
abbrev pub done : {A F : Type 0} → A → Result A F
done x = Ok x

-- two equal answers Ok have one value
pub ok_is : {A F : Type 0} (x y : A) → done {F = F} x ≡ done y → x ≡ y
ok_is x y e = cc

-- what follows if this fault is not the answer
pub passed : {A F : Type 0} (b : Bool) (e : F) (r : Result A F) (y : A) → cond b (Err e) r ≡ Ok y
    → (b ≡ false) × (r ≡ Ok y)
passed true e r y h = absurd cc
passed false e r y h = (refl, h)

-- a last test that succeeded
pub ended : {A F : Type 0} (b : Bool) (e : F) (x y : A) → cond b (Ok x) (Err e) ≡ Ok y → (b ≡ true) × (x ≡ y)
ended true e x y h = (refl, cc)
ended false e x y h = absurd cc

-- a changed answer Ok comes from an answer Ok
pub mapped : {A B F : Type 0} (f : A → B) (r : Result A F) (y : B) → map_ok f r ≡ Ok y
    → (x : A) × (r ≡ Ok x) × (f x ≡ y)
mapped f (Ok x) y h = (x, refl, cc)
mapped f (Err e) y h = absurd cc

-- numbers whose != is false
pub equal_from : (m n : ℕ) → not (eqb m n) ≡ false → m ≡ n
equal_from m n h = grind (arith, nat_tests)

-- a number whose != 0 is false
pub is_zero : (n : ℕ) → not (eqb n 0) ≡ false → n ≡ 0
is_zero n h = equal_from n 0 h

-- numbers whose <= is true
pub le_true : (m n : ℕ) → nat_le m n ≡ true → m ≤ n
le_true m n h = grind (arith, nat_tests)

-- flags whose tests for 1 have the same result
pub flag_from : (m : ℕ) → m < 2 → (n : ℕ) → n < 2 → eqb m 1 ≡ eqb n 1 → m ≡ n
flag_from m p n q h = grind (arith, nat_tests)

-- A stream is its records and a rest in one way, and cutting it into pieces does not change them.

all-append : {X : Type 0} (P : X → Type 0) (xs ys : List X) → AllByRecursion P xs → AllByRecursion P ys
    → AllByRecursion P (xs ++ ys)
all-append P [] ys p q = q
all-append P (x ∷ xs) ys p q = (p.0, all-append P xs ys p.1 q)

module _ {F : Type 0} (head : ℕ) (extent : List ℕ → Result ℕ F) where
  -- there is no whole record
  abbrev pub IsNoRecord : Option (Result (List ℕ) F) → Type 0
  IsNoRecord None = Unit {0}
  IsNoRecord (Some (Err e)) = Unit {0}
  IsNoRecord (Some (Ok octets)) = ⊥

  abbrev pub IsLeft : List ℕ → Type 0
  IsLeft rest = (length rest < head) ⊎ IsCutShort head extent rest (extent (take head rest))

  abbrev handed : List ℕ → Option (Result (List ℕ) F)
  handed octets = Some (Ok octets)

  -- a record in front of other octets is the first
  pub is_first : (r more : List ℕ) → IsRecord head extent r → first_record head extent (r ++ more) ≡ Some (Ok r)
  is_first r more p =
      let t : ltb (length (r ++ more)) head ≡ false = le-ltb _ _ (omega (arith, length-append r more, p.has_head)) in
      let front : extent (take head (r ++ more)) ≡ Ok (length r) =
      ap extent (take-append-le head r more p.has_head) ∙ p.extent_is in
      let all : ltb (length (r ++ more)) (length r) ≡ false = le-ltb _ _ (omega (arith, length-append r more)) in
      rw (t, front, all, take_at r more (length r) refl) refl

  -- what is first is a record, and is in front
  record_is_at : (octets r : List ℕ) (n : ℕ) → extent (take head octets) ≡ Ok n → head ≤ n → (b : Bool)
      → ltb (length octets) n ≡ b → cond b None (handed (take n octets)) ≡ handed r
      → IsRecord head extent r × (octets ≡ r ++ drop (length r) octets)
  record_is_at octets r n e long true lt h = absurd cc
  record_is_at octets r n e long false ge h =
      let is : take n octets ≡ r = cc in
      let enough : n ≤ length octets = ltb-false _ _ ge in
      let len : length (take n octets) ≡ n = omega (arith, length-take n octets) in
      let front : take head (take n octets) ≡ take head octets =
      sym (take-append-le head (take n octets) (drop n octets) (omega arith))
      ∙ ap (take head) (take-append-drop n octets) in
      let whole : octets ≡ take n octets ++ drop (length (take n octets)) octets =
      sym (take-append-drop n octets) ∙ ap (λ (k : ℕ). take n octets ++ drop k octets) (sym len) in
      subst (λ (s : List ℕ). IsRecord head extent s × (octets ≡ s ++ drop (length s) octets)) is
      (record { has_head = omega arith; extent_is = ap extent front ∙ e ∙ ap (done {F = F}) (sym len) }, whole)

  record_is_of : (octets r : List ℕ) (x : Result ℕ F) → extent (take head octets) ≡ x → ((n : ℕ) → x ≡ Ok n → head ≤ n)
      → record_of head extent octets x ≡ handed r
      → IsRecord head extent r × (octets ≡ r ++ drop (length r) octets)
  record_is_of octets r (Ok n) e long h = record_is_at octets r n e (long n refl) (ltb (length octets) n) refl h
  record_is_of octets r (Err f) e long h = absurd cc

  short_of : (octets : List ℕ) (n : ℕ) (b : Bool) → ltb (length octets) n ≡ b
      → IsNoRecord (cond b None (handed (take n octets))) → length octets < n
  short_of octets n true lt h = ltb-true _ _ lt
  short_of octets n false ge h = absurd h

  left_of : (octets : List ℕ) (x : Result ℕ F) → IsNoRecord (record_of head extent octets x)
      → IsCutShort head extent octets x
  left_of octets (Ok n) h = short_of octets n (ltb (length octets) n) refl h
  left_of octets (Err e) h = tt

  no_record_of : (octets : List ℕ) (x : Result ℕ F) → IsCutShort head extent octets x
      → IsNoRecord (record_of head extent octets x)
  no_record_of octets (Ok n) h = rw (lt-ltb _ _ h) tt
  no_record_of octets (Err e) h = tt

  left_at : (octets : List ℕ) (b : Bool) → ltb (length octets) head ≡ b
      → IsNoRecord (cond b None (record_of head extent octets (extent (take head octets)))) → IsLeft octets
  left_at octets true lt h = inl (ltb-true _ _ lt)
  left_at octets false ge h = inr (left_of octets (extent (take head octets)) h)

  -- if there is no first record, all octets are left
  pub is_left : (octets : List ℕ) → IsNoRecord (first_record head extent octets) → IsLeft octets
  is_left octets h = left_at octets (ltb (length octets) head) refl h

  no_record_at : (octets : List ℕ) (b : Bool) → IsCutShort head extent octets (extent (take head octets))
      → IsNoRecord (cond b None (record_of head extent octets (extent (take head octets))))
  no_record_at octets true h = tt
  no_record_at octets false h = no_record_of octets (extent (take head octets)) h

  pub is_no_record : (octets : List ℕ) → IsLeft octets → IsNoRecord (first_record head extent octets)
  is_no_record octets (inl lt) = rw (lt-ltb _ _ lt) tt
  is_no_record octets (inr h) = no_record_at octets (ltb (length octets) head) h

  -- no record begins what is left
  pub no_record_begins : (rest r more : List ℕ) → IsLeft rest → IsRecord head extent r → rest ≡ r ++ more → ⊥
  no_record_begins rest r more h p e =
      let first : first_record head extent rest ≡ handed r = ap (first_record head extent) e ∙ is_first r more p in
      subst IsNoRecord first (is_no_record rest h)

  -- two records that begin one list are equal
  same_first : (r s x y : List ℕ) → IsRecord head extent r → IsRecord head extent s → r ++ x ≡ s ++ y
      → (r ≡ s) × (x ≡ y)
  same_first r s x y p q e =
      let one : handed r ≡ handed s = sym (is_first r x p) ∙ ap (first_record head extent) e ∙ is_first s y q in
      let is : r ≡ s = cc in
      (is, sym (drop_at r x (length r) refl) ∙ ap (drop (length r)) e ∙ drop_at s y (length r) (sym (ap length is)))

  same_split : (rest last : List ℕ) (records others : List (List ℕ)) → concat records ++ rest ≡ concat others ++ last
      → AllByRecursion (IsRecord head extent) records → AllByRecursion (IsRecord head extent) others → IsLeft rest
      → IsLeft last
      → (records ≡ others) × (rest ≡ last)
  same_split rest last [] [] e p q left right = (refl, e)
  same_split rest last [] (s ∷ ss) e p q left right =
      absurd (no_record_begins rest s (concat ss ++ last) left q.0 (e ∙ append_assoc s (concat ss) last))
  same_split rest last (r ∷ rs) [] e p q left right =
      absurd (no_record_begins last r (concat rs ++ rest) right p.0 (sym e ∙ append_assoc r (concat rs) rest))
  same_split rest last (r ∷ rs) (s ∷ ss) e p q left right =
      let regrouped : r ++ (concat rs ++ rest) ≡ s ++ (concat ss ++ last) =
      sym (append_assoc r (concat rs) rest) ∙ e ∙ append_assoc s (concat ss) last in
      let first = same_first r s (concat rs ++ rest) (concat ss ++ last) p.0 q.0 regrouped in
      let others = same_split rest last rs ss first.1 p.1 q.1 left right in
      (ap (λ (x : List ℕ). x ∷ rs) first.0 ∙ ap (λ (xs : List (List ℕ)). s ∷ xs) others.0, others.1)

  -- a stream has one split
  pub one_split : (stream rest last : List ℕ) (records others : List (List ℕ)) → IsSplit head extent stream records rest
      → IsSplit head extent stream others last → (records ≡ others) × (rest ≡ last)
  one_split stream rest last records others p q =
      same_split rest last records others (sym p.whole ∙ q.whole) p.each q.each p.left q.left

module _ {F : Type 0} (head : ℕ) (extent : List ℕ → Result ℕ F) (some_head : 1 ≤ head)
    (extent_has_head : (octets : List ℕ) (n : ℕ) → extent octets ≡ Ok n → head ≤ n) where
  record_is_in : (octets r : List ℕ) (b : Bool)
      → cond b None (record_of head extent octets (extent (take head octets))) ≡ handed head extent r
      → IsRecord head extent r × (octets ≡ r ++ drop (length r) octets)
  record_is_in octets r true h = absurd cc
  record_is_in octets r false h =
      record_is_of head extent octets r (extent (take head octets)) refl (extent_has_head (take head octets)) h

  pub record_is : (octets r : List ℕ) → first_record head extent octets ≡ Some (Ok r)
      → IsRecord head extent r × (octets ≡ r ++ drop (length r) octets)
  record_is octets r h = record_is_in octets r (ltb (length octets) head) h

  -- a record in front of a split
  with_record : (stream r rest : List ℕ) (records : List (List ℕ))
      → IsRecord head extent r × (stream ≡ r ++ drop (length r) stream)
      → IsSplit head extent (drop (length r) stream) records rest
      → IsSplit head extent stream (r ∷ records) rest
  with_record stream r rest records p q = record {
    whole = p.1 ∙ ap (λ (x : List ℕ). r ++ x) q.whole ∙ sym (append_assoc r (concat records) rest);
    each = (p.0, q.each);
    left = q.left;
  }

  nothing_first : (stream : List ℕ) → IsLeft head extent stream → IsSplit head extent stream [] stream
  nothing_first stream h = record { whole = refl; each = tt; left = h }

  split_by : (n : ℕ) (stream : List ℕ) (o : Option (Result (List ℕ) F)) → first_record head extent stream ≡ o
      → length stream ≤ suc n
      → ((t : List ℕ) → length t ≤ n
      → IsSplit head extent t (first_records head extent n t) (rest_after_first head extent n t))
      → IsSplit head extent stream (by_record head extent o []
      (λ r. r ∷ first_records head extent n (drop (length r) stream)))
      (by_record head extent o stream (λ r. rest_after_first head extent n (drop (length r) stream)))
  split_by n stream None e le go =
      nothing_first stream (is_left head extent stream (subst (IsNoRecord head extent) (sym e) tt))
  split_by n stream (Some (Err f)) e le go =
      nothing_first stream (is_left head extent stream (subst (IsNoRecord head extent) (sym e) tt))
  split_by n stream (Some (Ok r)) e le go =
      let p = record_is stream r e in
      let t : List ℕ = drop (length r) stream in
      with_record stream r (rest_after_first head extent n t) (first_records head extent n t) p
      (go t (omega (arith, length-drop (length r) stream, p.0.has_head)))

  split_within : (n : ℕ) (stream : List ℕ) → length stream ≤ n
      → IsSplit head extent stream (first_records head extent n stream) (rest_after_first head extent n stream)
  split_within zero stream le = nothing_first stream (inl (omega arith))
  split_within (suc n) stream le = split_by n stream (first_record head extent stream) refl le (split_within n)

  -- each stream has this split
  pub split_of : (stream : List ℕ)
      → IsSplit head extent stream (records_of head extent stream) (rest_of head extent stream)
  unfolding records_of rest_of
  split_of stream = split_within (length stream) stream (omega arith)

  pub only_split : (stream rest : List ℕ) (records : List (List ℕ)) → IsSplit head extent stream records rest
      → (records ≡ records_of head extent stream) × (rest ≡ rest_of head extent stream)
  only_split stream rest records p =
      one_split head extent stream rest (rest_of head extent stream) records (records_of head extent stream) p
      (split_of stream)

  -- a stream with a first record
  pub records_of-record : (stream r : List ℕ) → first_record head extent stream ≡ Some (Ok r)
      → (records_of head extent stream ≡ r ∷ records_of head extent (drop (length r) stream))
      × (rest_of head extent stream ≡ rest_of head extent (drop (length r) stream))
  records_of-record stream r h =
      let t : List ℕ = drop (length r) stream in
      let is = only_split stream (rest_of head extent t) (r ∷ records_of head extent t)
      (with_record stream r (rest_of head extent t) (records_of head extent t) (record_is stream r h) (split_of t))
      in
      (sym is.0, sym is.1)

  -- a stream without a first record
  pub records_of-none : (stream : List ℕ) → IsNoRecord head extent (first_record head extent stream)
      → (records_of head extent stream ≡ []) × (rest_of head extent stream ≡ stream)
  records_of-none stream h =
      let is = only_split stream stream [] (nothing_first stream (is_left head extent stream h)) in (sym is.0, sym is.1)

  split-append : (xs ys : List ℕ)
      → IsSplit head extent (xs ++ ys) (records_of head extent xs
      ++ records_of head extent (rest_of head extent xs ++ ys)) (rest_of head extent (rest_of head extent xs ++ ys))
  split-append xs ys =
      let p = split_of xs in
      let rest : List ℕ = rest_of head extent xs in
      let first : List (List ℕ) = records_of head extent xs in
      let more : List (List ℕ) = records_of head extent (rest ++ ys) in
      let last : List ℕ = rest_of head extent (rest ++ ys) in
      let q = split_of (rest ++ ys) in
      record {
        whole = ap (λ (x : List ℕ). x ++ ys) p.whole ∙ append_assoc (concat first) rest ys
            ∙ ap (λ (x : List ℕ). concat first ++ x) q.whole
            ∙ sym (append_assoc (concat first) (concat more) last)
            ∙ ap (λ (x : List ℕ). x ++ last) (sym (concat-append first more));
        each = all-append (IsRecord head extent) first more p.each q.each;
        left = q.left;
      }

  -- the records of two pieces are those of the first piece, and then those of its rest followed by the second
  pub records_of-append : (xs ys : List ℕ)
      → records_of head extent (xs ++ ys) ≡ records_of head extent xs
      ++ records_of head extent (rest_of head extent xs ++ ys)
  records_of-append xs ys = sym (only_split (xs ++ ys) _ _ (split-append xs ys)).0

  pub rest_of-append : (xs ys : List ℕ)
      → rest_of head extent (xs ++ ys) ≡ rest_of head extent (rest_of head extent xs ++ ys)
  rest_of-append xs ys = sym (only_split (xs ++ ys) _ _ (split-append xs ys)).1

  -- records in front of a stream are its first records
  pub records_of-concat : (records : List (List ℕ)) (more : List ℕ) → AllByRecursion (IsRecord head extent) records
      → records_of head extent (concat records ++ more) ≡ records ++ records_of head extent more
  records_of-concat [] more p = refl
  records_of-concat (r ∷ rs) more p =
      let rest : List ℕ = concat rs ++ more in
      let here = records_of-record (r ++ rest) r (is_first head extent r rest p.0) in
      ap (records_of head extent) (append_assoc r (concat rs) more) ∙ here.0
      ∙ ap (λ (x : List ℕ). r ∷ records_of head extent x) (drop_at r rest (length r) refl)
      ∙ ap (λ (x : List (List ℕ)). r ∷ x) (records_of-concat rs more p.1)
