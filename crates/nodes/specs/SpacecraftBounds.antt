-- The bounds on what a spacecraft holds, from its configuration.
use Rattle.std.specs.Prelude.{◌≡◌, ◌≤◌, ◌+◌, ◌-◌, ◌*◌, ◌==◌, if◌then◌else◌, max, ℕ, List, length}
use Rattle.std.specs.Prelude.{Option, IfSome, true}
use Rattle.std.specs.List.{sum_by}
use Rattle.map_service.specs.Assembly.{is_open, open_part}
use Rattle.nodes.specs.declared.config.Config.{Config}
use Rattle.nodes.specs.Packets.{PacketOn, AreWithin}
use Rattle.nodes.specs.Parameters.{limits_of}
use Rattle.nodes.specs.Spacecraft.{SpacecraftState}

-- the total number of octets of packets
abbrev pub octets_together : List PacketOn → ℕ
octets_together packets = sum_by (λ (p : PacketOn). length p.octets) packets

-- The maximum total of the waiting packets' octets. While one slot was free, one more frame added
-- either one packet, or packets within its data of at most 1,016 octets.
abbrev pub most_together : Config → ℕ
most_together c = (c.ready_slots - 1) * c.max_packet + max c.max_packet 1016

-- the number of packets for which there is room; with blocking, one frame may add up to 145 while
-- one slot is free
abbrev pub most_ready : Config → ℕ
most_ready c =
    if c.blocking == 1 then c.ready_slots + 144
    else c.ready_slots

-- the bounds on the packets of sequence-controlled frames that wait to be taken
pub record IsReadyWithin (c : Config) (ready : List PacketOn) : Type 0 where
  -- one frame adds at most 145 packets, and only while fewer wait than there are slots
  pub count : length ready ≤ c.ready_slots + 144
  pub unblocked : c.blocking ≡ 0 → length ready ≤ c.ready_slots
  -- the octets of each packet, and of all packets together
  pub within : AreWithin c.max_packet ready
  pub together : octets_together ready ≤ most_together c

-- the bounds on the packets of Type-BD frames that wait to be taken
pub record IsPastWithin (c : Config) (bypass : List PacketOn) : Type 0 where
  pub count : length bypass ≤ c.bypass_slots
  -- the octets of each packet
  pub within : AreWithin c.max_packet bypass
  pub short : AreWithin 1016 bypass

-- the open part of a packet on a MAP
abbrev pub part_on : SpacecraftState → ℕ → Option (List ℕ)
part_on s m = open_part (limits_of s.config) m s.accepted

-- the bounds of every spacecraft; the telemetry packets that wait to be sent have no bound
pub record IsBounded (s : SpacecraftState) : Type 0 where
  pub ready : IsReadyWithin s.config s.ready
  pub past : IsPastWithin s.config s.bypass
  -- only MAPs that are open have an open part of a packet; there are at most 64
  pub parts : (m : ℕ) → IfSome (part_on s m)
      (λ part. (is_open (limits_of s.config) m ≡ true) × (length part ≤ s.config.max_packet))
