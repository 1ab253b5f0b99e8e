-- What an accepted segment makes ready, if the buffer is free.
use Rattle.std.proofs.Common.{◌<◌, ℕ, List, [], ◌∷◌, ◌++◌, ◌+◌, Option, ◌≡◌, ◌≤◌, true, length, sym, subst, arith}
use Rattle.std.specs.List.{AllByRecursion}
use Rattle.std.specs.VecDeque.{deque_len, deque_capacity}
use Rattle.std.proofs.lemmas.Bool.{ltb-true}
use Rattle.tc_frame.specs.Layout.{SegmentView}
use Rattle.map_service.specs.declared.limits.Limits.{Limits}
use Rattle.map_service.specs.AssemblerTable.{take_step}
use Rattle.map_service.specs.Exactness.{part_on_map, step_at}
use Rattle.map_service.proofs.Handed.{AreWhole, taken_whole}
use Rattle.nodes.specs.declared.spacecraft.Spacecraft.TheInside.{Inside}
use Rattle.nodes.specs.Packets.{put_on_map}
use Rattle.nodes.specs.PacketFields.{IsPacketOn}
use Rattle.nodes.specs.Parameters.{limits_of}
use Rattle.nodes.specs.Spacecraft.{SpacecraftState, is_free}
use Rattle.nodes.specs.SpacecraftBounds.{IsReadyWithin}
use Rattle.nodes.specs.SpacecraftFields.{state_of, IsSound}
use Rattle.nodes.proofs.SpacecraftBounds.{IsMade, is_made, ready_with, room_for}

-- The packets that a segment makes ready are packets on its MAP.

on_map : (m : ℕ) → m < 64 → (packets : List (List ℕ)) → AreWhole packets
    → AllByRecursion IsPacketOn (put_on_map m packets)
on_map m below [] whole = tt
on_map m below (p ∷ ps) whole = (record { on_map = below; packet = whole.0 }, on_map m below ps whole.1)

taken_on_map : (limits : Limits) (part : Option (List ℕ)) (s : SegmentView)
    → AllByRecursion IsPacketOn (put_on_map s.header.map (take_step limits part s).packets)
taken_on_map limits part s =
    taken_whole (λ packets. AllByRecursion IsPacketOn (put_on_map s.header.map packets)) limits part s tt
    (λ packets below whole. on_map s.header.map below packets whole)

-- the buffer is free
below_slots : (s : SpacecraftState) → is_free s ≡ true → length s.ready < s.config.ready_slots
below_slots s free = ltb-true _ _ free

-- what holds of these packets in a spacecraft with these fields
pub record IsHandedOn (i : Inside) (segment : SegmentView) (packets : List (List ℕ)) : Type 0 where
  pub same_map : AllByRecursion IsPacketOn (put_on_map segment.header.map packets)
  pub room : deque_len i.ready + length packets ≤ deque_capacity i.ready
  pub waits : IsReadyWithin i.config (i.ready.items ++ put_on_map segment.header.map packets)

pub handed_on : (i : Inside) (now : SpacecraftState) (segment : SegmentView) (packets : List (List ℕ))
    → state_of i ≡ now → IsSound i → is_free now ≡ true → length segment.payload ≤ 1016
    → packets ≡ (step_at i.assembler segment).packets → IsHandedOn i segment packets
handed_on i now segment packets same sound free short are =
    let part : Option (List ℕ) = part_on_map i.assembler segment.header.map in
    let below : length i.ready.items < i.config.ready_slots =
    below_slots (state_of i) (subst (λ (s : SpacecraftState). is_free s ≡ true) (sym same) free) in
    let made : IsMade (limits_of i.config) packets =
    rw (are, ← sound.limits) (is_made i.assembler.limits part segment short) in
    record {
      same_map = subst (λ (ps : List (List ℕ)). AllByRecursion IsPacketOn (put_on_map segment.header.map ps))
          (sym are) (taken_on_map i.assembler.limits part segment);
      room = omega (arith, room_for i.config i.ready.items packets below made, i.ready.ok.0, sound.room);
      waits = ready_with i.config i.ready.items segment.header.map packets sound.waiting below made;
    }
