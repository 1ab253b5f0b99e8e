-- Where a list is cut at its first mark.
use Rattle.std.proofs.Common.{◌≡◌, ◌+◌, ◌≤◌, ℕ, Bool, List, [], ◌∷◌, length, take, drop, refl}
use Rattle.std.proofs.Common.{arith, cond, ltb, Some, None, Option, ◌==◌, ◌<◌}
use Rattle.std.specs.List.{slice_split, position_or_len}
use Rattle.std.proofs.lemmas.Bool.Decides.{nat_tests}
use Rattle.std.proofs.lemmas.List.Splits.{slice_split_first, slice_split_none, length-slice_split}
use Rattle.std.proofs.lemmas.List.Sums.{fails_before_first}
use Rattle.streams.specs.Words.{words_in, two_words}

module _ (p : ℕ → Bool) (xs : List ℕ) where
  -- where the first mark is
  abbrev pub place : Option ℕ
  place = cond (ltb (position_or_len p xs) (length xs)) (Some (position_or_len p xs)) None

  pub cut_at : (at : ℕ) → place ≡ Some at → slice_split p xs ≡ take at xs ∷ slice_split p (drop (at + 1) xs)
  cut_at at h = grind (arith, nat_tests, h, slice_split_first p xs 0)

  pub cut_nowhere : place ≡ None → slice_split p xs ≡ xs ∷ []
  cut_nowhere h =
      let none : length xs ≤ position_or_len p xs = grind (arith, nat_tests, h) in
      slice_split_none p xs (λ k d less. fails_before_first p xs k d (omega arith))

-- there is a first part
pub record HasParts (parts : List (List ℕ)) : Type 0 where
  pub first : List ℕ
  pub more : List (List ℕ)
  pub is : parts ≡ first ∷ more

some_parts : (parts : List (List ℕ)) → 0 < length parts → HasParts parts
some_parts [] some = absurd (omega arith)
some_parts (first ∷ more) some = record { first = first; more = more; is = refl }

pub has_parts : (p : ℕ → Bool) (xs : List ℕ) → HasParts (slice_split p xs)
has_parts p xs = some_parts (slice_split p xs) (omega (arith, length-slice_split p xs))

-- three words or more are not two
pub three_words : (octets name one first two : List ℕ) → words_in octets ≡ name ∷ words_in one
    → words_in one ≡ first ∷ words_in two → two_words octets ≡ None
unfolding two_words
three_words octets name one first two e f =
    let has = has_parts (λ (octet : ℕ). octet == 32) two in
    rw (e, f, has.is) refl
