-- A stream of octets as the records of a layout and a rest. A layout has a head, the octets that
-- are needed to know a record's length. It defines the length, or the fault, for each head.
use Rattle.std.specs.Prelude.{◌≡◌, ◌≤◌, ◌<◌, ◌⊎◌, ℕ, zero, suc, List, [], ◌∷◌, ◌++◌, length, take}
use Rattle.std.specs.Prelude.{drop, Option, Some, None, Result, Ok, Err, nat_lt, if◌then◌else◌}
use Rattle.std.specs.List.{AllByRecursion, concat}

module _ {F : Type 0} (head : ℕ) (extent : List ℕ → Result ℕ F) where
  -- a record contains its head, which declares its length
  pub record IsRecord (octets : List ℕ) : Type 0 where
    pub has_head : head ≤ length octets
    pub extent_is : extent (take head octets) ≡ Ok (length octets)

  -- fewer octets than the extent, or a refused extent
  abbrev pub IsCutShort : List ℕ → Result ℕ F → Type 0
  IsCutShort octets (Ok n) = length octets < n
  IsCutShort octets (Err e) = Unit {0}

  -- the stream is these records and then this rest, in which no record is whole
  pub record IsSplit (stream : List ℕ) (records : List (List ℕ)) (rest : List ℕ) : Type 0 where
    pub whole : stream ≡ concat records ++ rest
    pub each : AllByRecursion IsRecord records
    pub left : (length rest < head) ⊎ IsCutShort rest (extent (take head rest))

  -- the octets of this extent, if they are all there
  abbrev pub record_of : List ℕ → Result ℕ F → Option (Result (List ℕ) F)
  record_of octets (Ok n) = if nat_lt (length octets) n then None else Some (Ok (take n octets))
  record_of octets (Err e) = Some (Err e)

  -- the first record of a stream, or the fault of its extent; none while octets are missing
  abbrev pub first_record : List ℕ → Option (Result (List ℕ) F)
  first_record stream =
      if nat_lt (length stream) head then None else record_of stream (extent (take head stream))

  -- one result if there is a record, and another if there is none
  abbrev pub by_record : {A : Type 0} → Option (Result (List ℕ) F) → A → (List ℕ → A) → A
  by_record None none some = none
  by_record (Some (Err e)) none some = none
  by_record (Some (Ok octets)) none some = some octets

  -- the first n records of a stream, and what is left after them
  abbrev pub first_records : ℕ → List ℕ → List (List ℕ)
  first_records zero stream = []
  first_records (suc n) stream =
      by_record (first_record stream) []
      (λ octets. octets ∷ first_records n (drop (length octets) stream))

  abbrev pub rest_after_first : ℕ → List ℕ → List ℕ
  rest_after_first zero stream = stream
  rest_after_first (suc n) stream =
      by_record (first_record stream) stream
      (λ octets. rest_after_first n (drop (length octets) stream))

  -- there are no more records than octets
  unfoldable pub records_of : List ℕ → List (List ℕ)
  records_of stream = first_records (length stream) stream

  unfoldable pub rest_of : List ℕ → List ℕ
  rest_of stream = rest_after_first (length stream) stream
