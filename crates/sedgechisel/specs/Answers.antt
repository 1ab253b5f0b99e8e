-- What a call returns to a caller in C, 0 or the number of the first fault, and what it leaves in a
-- struct of the caller.
use Rattle.std.specs.Prelude.{◌≡◌, ℕ, List, ◌++◌, drop, Option, Some, None, Result, Ok, Err}
use Rattle.sedgechisel.specs.declared.part.Part.{Part}

-- a struct has a value that does not occur in a valid value of the crate
abbrev pub damaged : ℕ
damaged = 255

-- the number of octets is not the one that the call requires
abbrev pub wrong_count : ℕ
wrong_count = 254

-- what is requested does not exist
abbrev pub absent : ℕ
absent = 253

abbrev pub if_there : {A : Type 0} → Option A → Result A ℕ
if_there (Some x) = Ok x
if_there None = Err absent

-- a crate's answer, with the number of its fault according to this row
abbrev pub numbered : {A F : Type 0} → (F → ℕ × List ℕ) → Result A F → Result A ℕ
numbered row (Ok x) = Ok x
numbered row (Err e) = Err (row e).0

abbrev pub status_of : {A : Type 0} → Result A ℕ → ℕ
status_of (Ok x) = 0
status_of (Err number) = number

-- what a struct holds after a call: the fields that describe the answer, or what it held
abbrev pub left_by : {A S : Type 0} → (A → S) → Result A ℕ → S → S
left_by fields (Ok x) old = fields x
left_by fields (Err number) old = old

-- the return value of a call that writes a struct, and what it leaves there: the fields that
-- describe the value that was found, or what was there
pub record IsWritten {A S : Type 0} (fields : A → S) (found : Result A ℕ) (old new : S)
    (number : ℕ) : Type 0 where
  pub answer : number ≡ status_of found
  pub left : new ≡ left_by fields found old

-- the return value of a call that reads octets, and what it leaves: the fields of the value that
-- was found, and the place of its data in the octets; or what was there
pub record IsRead {A S : Type 0} (fields : A → S) (place : A → Part) (found : Result A ℕ)
    (old new : S) (old_part new_part : Part) (number : ℕ) : Type 0 where
  pub answer : number ≡ status_of found
  pub struct_is : new ≡ left_by fields found old
  pub part_is : new_part ≡ left_by place found old_part

-- the return value of a call that writes octets, and what it leaves: the spelling of the value at
-- their beginning, and the length of the spelling; or what was there
pub record IsSpelled {A : Type 0} (spelling : A → List ℕ) (total_of : A → ℕ) (taken : Result A ℕ)
    (old new : List ℕ) (old_total new_total : ℕ) (number : ℕ) : Type 0 where
  pub answer : number ≡ status_of taken
  pub total_is : new_total ≡ left_by total_of taken old_total
  pub out_is : new ≡ left_by (λ x. spelling x ++ drop (total_of x) old) taken old

-- the answer of a call that first needs the answer of another call
abbrev pub and_then : {A B : Type 0} → Result A ℕ → (A → Result B ℕ) → Result B ℕ
and_then (Ok x) next = next x
and_then (Err number) next = Err number

-- the value, if the call succeeds
abbrev pub if_ok : {A B : Type 0} → Result B ℕ → A → Result A ℕ
if_ok (Ok count) x = Ok x
if_ok (Err number) x = Err number
