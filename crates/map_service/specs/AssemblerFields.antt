-- How an assembler's fields represent its state.
use Rattle.std.specs.Prelude.{◌≡◌, ◌≤◌, ◌<◌, ◌-◌, ◌++◌, ℕ, List, length, map, replicate, true}
use Rattle.std.specs.Prelude.{Option, None, IfSome}
use Rattle.std.specs.List.{AllByRecursion}
use Rattle.std.specs.Vec.{vec_capacity}
use Rattle.std.specs.declared.vec.Vec.{Vec}
use Rattle.map_service.specs.declared.assembler.Assembler.TheInside.{Inside}
use Rattle.map_service.specs.declared.limits.Limits.{Limits}
use Rattle.map_service.specs.Assembly.{is_open}
use Rattle.map_service.specs.Exactness.{AssemblerState}
use Rattle.map_service.specs.Views.{part_view}

-- ---- the list of the parts: a place for each MAP up to the highest open MAP, or an empty list

-- no part is open on a MAP that has no place
abbrev pub on_all_maps : List (Option (List ℕ)) → List (Option (List ℕ))
on_all_maps parts = parts ++ replicate (64 - length parts) None

abbrev pub parts_of : {Z : Type 0} → List (Option (Vec ℕ Z)) → List (Option (List ℕ))
parts_of parts = on_all_maps (map part_view parts)

abbrev pub state_of : Inside → AssemblerState
state_of a = record { limits = a.limits; parts = parts_of a.parts.items }

-- the vector that is kept, if any, has room for this many octets
abbrev pub HasLongest : {Z : Type 0} → ℕ → Option (Vec ℕ Z) → Type 0
HasLongest most kept = IfSome kept (λ v. most ≤ vec_capacity v)

-- each open part has room for this many octets
abbrev pub HaveRoom : {Z : Type 0} → ℕ → List (Option (Vec ℕ Z)) → Type 0
HaveRoom most parts = AllByRecursion (λ part. HasLongest most part) parts

-- each open MAP is below this number
abbrev pub HasPlaces : Limits → ℕ → Type 0
HasPlaces limits places = (m : ℕ) → is_open limits m ≡ true → m < places

pub record IsPartList {Z : Type 0} (limits : Limits) (parts : List (Option (Vec ℕ Z)))
    : Type 0 where
  pub most : length parts ≤ 64
  pub places : 1 ≤ length parts → HasPlaces limits (length parts)
  pub room : HaveRoom limits.max_packet parts

-- a list in which no part is open yet
pub record IsNewList {Z : Type 0} (limits : Limits) (parts : List (Option (Vec ℕ Z))) : Type 0 where
  pub most : length parts ≤ 64
  pub places : 1 ≤ length parts → HasPlaces limits (length parts)
  pub closed : AllByRecursion (λ part. part ≡ None) parts

-- the invariant of the fields
pub record IsSound (a : Inside) : Type 0 where
  pub list : IsPartList a.limits a.parts.items
  pub spare : HasLongest a.limits.max_packet a.spare
