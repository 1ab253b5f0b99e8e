-- What is kept and delivered, without its place in memory.
use Rattle.std.specs.Prelude.{ℕ, List, [], ◌∷◌, map, Option, Some, None, option_map}
use Rattle.std.specs.declared.vec.Vec.{Vec}
use Rattle.smallvec.specs.SmallVec.{SmallVec}

abbrev pub part_view : {Z : Type 0} → Option (Vec ℕ Z) → Option (List ℕ)
part_view part = option_map (λ v. v.items) part

abbrev pub packets_view : {Y Z : Type 0} → Vec (Vec ℕ Y) Z → List (List ℕ)
packets_view packets = map (λ v. v.items) packets.items

-- the same for packets that are delivered
abbrev pub ready_view : {Y : Type 0} → SmallVec (Vec ℕ Y) → List (List ℕ)
ready_view packets = map (λ v. v.items) packets.items

-- the same for one packet or none
abbrev pub packet_list : {Z : Type 0} → Option (Vec ℕ Z) → List (List ℕ)
packet_list None = []
packet_list (Some v) = v.items ∷ []
