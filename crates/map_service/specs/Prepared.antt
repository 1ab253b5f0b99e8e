-- What is found out about a segment before anything changes.
use Rattle.std.specs.Prelude.{◌≡◌, ◌≤◌, ℕ, List, ◌++◌, length, Option, Some, None, option_map}
use Rattle.std.specs.Prelude.{IfSome, Bool, true, false}
use Rattle.std.specs.Vec.{vec_capacity}
use Rattle.tc_frame.specs.Layout.{SegmentView}
use Rattle.map_service.specs.declared.assembler.Change.{Change}
use Rattle.map_service.specs.declared.assembler.Change.TheVariants.{Same, Closed, Opened, Grown}
use Rattle.map_service.specs.declared.assembler.Prepared.{Prepared}
use Rattle.map_service.specs.declared.limits.Limits.{Limits}
use Rattle.map_service.specs.Exactness.{AssemblerState, part_on_map}
use Rattle.map_service.specs.AssemblerTable.{TakeOutcome, take_step}
use Rattle.map_service.specs.AssemblerFields.{HasPlaces, IsNewList}
use Rattle.map_service.specs.Views.{ready_view}

-- the part that is open afterwards, from the part that was open and the segment's data
abbrev pub part_after : Change → Option (List ℕ) → List ℕ → Option (List ℕ)
part_after Same part octets = part
part_after Closed part octets = None
part_after (Opened new) part octets = Some new.items
part_after Grown part octets = option_map (λ begun. begun ++ octets) part

-- what was found out, as an outcome of the table
abbrev pub outcome_of : Prepared → Option (List ℕ) → List ℕ → TakeOutcome
outcome_of p part octets = record {
  dropped = p.dropped;
  packets = ready_view p.packets;
  part = part_after p.change part octets;
}

-- a new part has room for the longest packet, and a part that grows stays within this length
abbrev pub HasRoom : ℕ → Change → Option (List ℕ) → List ℕ → Type 0
HasRoom most Same part octets = Unit {0}
HasRoom most Closed part octets = Unit {0}
HasRoom most (Opened new) part octets = most ≤ vec_capacity new
HasRoom most Grown part octets = IfSome part (λ begun. length (begun ++ octets) ≤ most)

-- whether a part is opened
abbrev pub is_opened : Change → Bool
is_opened Same = false
is_opened Closed = false
is_opened (Opened new) = true
is_opened Grown = false

-- This is what was found out about the segment, with this part open on its MAP. If a part is opened
-- and there may be no list of the parts, `p` has a list.
pub record IsFoundBy (limits : Limits) (part : Option (List ℕ)) (MayLack : Type 0) (s : SegmentView)
    (p : Prepared) : Type 0 where
  pub outcome : outcome_of p part s.payload ≡ take_step limits part s
  pub room : HasRoom limits.max_packet p.change part s.payload
  pub list : IsNewList limits p.list.items
  pub brought : is_opened p.change ≡ true → MayLack → HasPlaces limits (length p.list.items)

-- no part is open on any MAP
abbrev pub AreClosed : (ℕ → Option (List ℕ)) → Type 0
AreClosed parts = (m : ℕ) → parts m ≡ None

-- the same if these parts are open, each on its MAP; there is a list if one of them is open
abbrev pub IsPreparedBy : Limits → (ℕ → Option (List ℕ)) → SegmentView → Prepared → Type 0
IsPreparedBy limits parts s p = IsFoundBy limits (parts s.header.map) (AreClosed parts) s p

-- the same for an assembler in this state
abbrev pub IsPrepared : AssemblerState → SegmentView → Prepared → Type 0
IsPrepared a s p = IsPreparedBy a.limits (part_on_map a) s p
