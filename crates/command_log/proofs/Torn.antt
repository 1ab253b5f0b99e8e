-- One of the two copies of a record at a place is whole after a write that is cut off.
use Rattle.std.proofs.Common.{◌≡◌, ℕ, ◌+◌, ◌-◌, ◌≤◌, ◌⊎◌, inl, inr, min, List, ◌++◌, take, drop, length, refl, sym}
use Rattle.std.specs.Prelude.{replicate, slice_index, if◌then◌else◌}
use Rattle.std.proofs.Common.{Bool, true, false, ◌%◌}
use Rattle.std.proofs.Common.{◌∙◌, ap, arith, length-append}
use Rattle.std.proofs.lemmas.Bool.{cases_lt}
use Rattle.std.proofs.lemmas.List.{take-append-le, take-take, take_at, drop_at, drop-drop, length-take}
use Rattle.std.proofs.Math.Seq.{drop-append-add}
use Rattle.command_log.specs.declared.record.Record.{Record}
use Rattle.command_log.specs.Check.{check_of, remainder}
use Rattle.command_log.specs.Layout.{front_octets, spelling, fields_of, IsInRange}
use Rattle.command_log.specs.Tearing.{torn, EachErasedIsNone, EachTornIsOneOfBoth}
use Rattle.command_log.proofs.ReadBack.{read_back}

-- the second half is old if at most the first half was written
second_half : (n done : ℕ) (xs ys : List ℕ) → length xs ≡ n → length ys ≡ n → done ≤ n
    → drop n (torn done (ys ++ ys) (xs ++ xs)) ≡ ys
second_half n done xs ys e f low =
    let front = take done (xs ++ xs) in
    let rest = drop done (ys ++ ys) in
    let long : length (take done (xs ++ xs)) ≡ done =
    length-take done (xs ++ xs) ∙ omega (arith, length-append xs xs) in
    let place : n ≡ length (take done (xs ++ xs)) + (n - done) = omega arith in
    let all : done + (n - done) ≡ n = omega arith in
    ap (λ (i : ℕ). drop i (take done (xs ++ xs) ++ drop done (ys ++ ys))) place
    ∙ drop-append-add (take done (xs ++ xs)) (drop done (ys ++ ys)) (n - done)
    ∙ drop-drop (n - done) done (ys ++ ys)
    ∙ ap (λ (i : ℕ). drop i (ys ++ ys)) all
    ∙ drop_at ys ys n f

-- the first half is new if it was written
first_half : (n done : ℕ) (xs ys : List ℕ) → length xs ≡ n → n ≤ done → take n (torn done (ys ++ ys) (xs ++ xs)) ≡ xs
first_half n done xs ys e high =
    let long : length (take done (xs ++ xs)) ≡ min done (length (xs ++ xs)) = length-take done (xs ++ xs) in
    let enough : n ≤ length (take done (xs ++ xs)) = omega (arith, length-append xs xs) in
    take-append-le n (take done (xs ++ xs)) (drop done (ys ++ ys)) enough
    ∙ take-take n done (xs ++ xs) high
    ∙ take_at xs xs n e

-- records with the same spelling are equal
one_spelling : (a b : Record) → IsInRange a → IsInRange b → spelling a ≡ spelling b → a ≡ b
one_spelling a b is are e =
    sym (read_back a is) ∙ ap (λ (octets : List ℕ). fields_of (octets ++ octets)) e ∙ read_back b are

pub each_torn : EachTornIsOneOfBoth
each_torn old new kept done is_old is_new is same =
    elim (cases_lt done 25) as (λ _. (kept ≡ old) ⊎ (kept ≡ new)) [
      | inl low ↦
          inl (one_spelling kept old is is_old
          (sym (drop_at (spelling kept) (spelling kept) 25 refl) ∙ ap (drop 25) (sym same)
          ∙ second_half 25 done (spelling new) (spelling old) refl refl (omega arith)))
      | inr high ↦
          inr (one_spelling kept new is is_new
          (sym (take_at (spelling kept) (spelling kept) 25 refl) ∙ ap (take 25) (sym same)
          ∙ first_half 25 done (spelling new) (spelling old) refl high))
    ]

-- ---- erased memory

check_of_zeros : check_of (replicate 21 0) ≡ 1090831755
unfolding check_of remainder
check_of_zeros = refl

flag_small : (flag : Bool) → ◌≡◌ {A = ℕ} (if flag then 1 else 0) 255 → ⊥
flag_small true e = absurd cc
flag_small false e = absurd cc

pub each_erased : EachErasedIsNone
each_erased kept = (
  λ e.
      let front : front_octets kept ≡ replicate 21 0 = ap (take 21) e in
      let last : check_of (front_octets kept) % 256 ≡ 0 = ap (λ (xs : List ℕ). slice_index xs 24) e in
      let same : check_of (front_octets kept) ≡ 1090831755 = ap check_of front ∙ check_of_zeros in
      let wrong : ◌≡◌ {A = ℕ} (1090831755 % 256) 0 = sym (ap (λ (n : ℕ). n % 256) same) ∙ last in
      absurd cc,
  λ e. flag_small kept.begun (ap (λ (xs : List ℕ). slice_index xs 20) e),
)
