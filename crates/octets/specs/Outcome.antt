-- An answer that is a value or a fault.
use Rattle.std.specs.Prelude.{ℕ, Bool, not, nat_lt, if◌then◌else◌, Result, Ok, Err}

-- the answer with its value changed and its fault unchanged
abbrev pub map_ok : {A B F : Type 0} → (A → B) → Result A F → Result B F
map_ok f (Ok x) = Ok (f x)
map_ok f (Err e) = Err e

-- the number of octets that are written of a value that has this many, if it fits, or why none are
-- written
abbrev pub count_written : {F : Type 0} → Bool → (total room : ℕ) → F → F → Result ℕ F
count_written fits total room no_fit no_room =
    if not fits then Err no_fit else if nat_lt room total then Err no_room else Ok total
