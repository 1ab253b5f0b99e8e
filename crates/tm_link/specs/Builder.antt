-- Building frames from a stream of packets (this project's rule for CCSDS 132.0-B-3, 4.1.4 and
-- 4.2.2).
use Rattle.std.specs.Prelude.{◌≡◌, ℕ, ◌+◌, ◌-◌, ◌%◌, max, List, [], ◌∷◌, ◌++◌, length, take, drop}
use Rattle.std.specs.Prelude.{replicate, Bool, false, not, ◌&&◌, ◌==◌, nat_lt, nat_le}
use Rattle.std.specs.Prelude.{if◌then◌else◌, map}
use Rattle.byteorder.specs.Endian.{big_bytes}
use Rattle.space_packet.specs.Layout.{PacketView, IsPacket, is_idle_apid}
use Rattle.space_packet.specs.Packets.{is_packet}
use Rattle.tm_link.specs.declared.frame.Pointer.{Pointer}
use Rattle.tm_link.specs.declared.frame.Pointer.TheVariants.{At, NoStart, OnlyIdle}
use Rattle.tm_link.specs.declared.fault.TmFault.{TmFault}
use Rattle.tm_link.specs.declared.turn.Turn.{Turn}
use Rattle.tm_link.specs.Extractor.{is_idle}
use Rattle.tm_link.specs.Layout.{FrameView}
use Rattle.std.specs.List.{concat}
use Rattle.tm_link.specs.Stream.{HasNoStart, carried_octets, IsLaidOut}
use Rattle.tm_link.specs.declared.fault.TmFault.TheVariants as faults

-- What a builder holds. The octets still to be sent are the rest of an idle packet, followed by
-- `pending`: the end of a packet that was begun, and whole packets.
pub record BuilderState : Type 0 where
  pub scid : ℕ
  pub vcid : ℕ
  -- the number of octets of a frame
  pub total : ℕ
  -- the next frame's counts, on the master channel and on the virtual channel
  pub mc_count : ℕ
  pub vc_count : ℕ
  -- the number of octets left of an idle packet
  pub idle_left : ℕ
  pub pending : List ℕ
  -- the number of octets left of the packet that was begun, and of each whole packet after it
  pub begun : ℕ
  pub sizes : List ℕ

-- ---- a new builder

abbrev pub builder_fits : ℕ → ℕ → ℕ → Bool
builder_fits scid vcid total =
    nat_lt scid 1024 && nat_lt vcid 8 && nat_le 16 total && nat_le total 2048

-- a builder with nothing to send, whose next frame has these counts
abbrev pub builder_with_counts : ℕ → ℕ → ℕ → ℕ → ℕ → BuilderState
builder_with_counts scid vcid total mc_count vc_count =
    record {
      scid =
          scid;
      vcid = vcid;
      total =
          total;
      mc_count = mc_count;
      vc_count = vc_count;
      idle_left = 0;
      pending = [];
      begun = 0;
      sizes = [];
    }

abbrev pub new_builder : ℕ → ℕ → ℕ → BuilderState
new_builder scid vcid total = builder_with_counts scid vcid total 0 0

-- ---- queueing

-- the octets are exactly one packet, which is not idle
abbrev pub is_to_send : List ℕ → Bool
is_to_send octets = is_packet octets && not (is_idle octets)

-- the octets are this packet, which is not idle
pub record IsToSend (p : PacketView) (octets : List ℕ) : Type 0 where
  pub packet : IsPacket p octets
  pub not_idle : is_idle_apid p.apid ≡ false

abbrev pub queue_fault : List ℕ → TmFault
queue_fault octets = if is_to_send octets then faults.Memory else faults.NotAPacket

abbrev pub after_queue : BuilderState → List ℕ → BuilderState
after_queue s octets =
    record s { pending = s.pending ++ octets; sizes = s.sizes ++ length octets ∷ [] }

-- ---- building

-- an idle packet of n octets, at least 7 (CCSDS 133.0-B-2, 4.1.3.3.4)
abbrev pub idle_packet : ℕ → List ℕ
idle_packet n = 0x07 ∷ 0xFF ∷ 0xC0 ∷ 0x00 ∷ (big_bytes 2 (n - 7) ++ replicate (n - 6) 0x55)

-- the last octets of an idle packet of 7 octets
abbrev pub idle_tail : ℕ → List ℕ
idle_tail left = drop (7 - left) (idle_packet 7)

-- the number of octets of the data field
abbrev pub data_size : BuilderState → ℕ
data_size s = s.total - 12

-- the stream is at a packet's end, and nothing is queued
abbrev pub is_nothing : ℕ → List ℕ → Bool
is_nothing idle_left pending = (idle_left == 0) && (length pending == 0)

abbrev pub is_at_rest : BuilderState → Bool
is_at_rest s = is_nothing s.idle_left s.pending

-- the room left if packets run out, in a field of this many octets
abbrev pub room_left : ℕ → ℕ → ℕ → ℕ
room_left size idle_left count = size - idle_left - count

-- the field is filled from the stream; if packets run out, an idle packet fills the room left
abbrev pub data_from : ℕ → List ℕ → ℕ → List ℕ
data_from idle_left pending size =
    take size (idle_tail idle_left ++ pending
    ++ idle_packet (max (room_left size idle_left (length pending)) 7))

-- if nothing is to be sent, the field contains only idle data
abbrev pub field_with : ℕ → List ℕ → ℕ → List ℕ
field_with idle_left pending size =
    if is_nothing idle_left pending then replicate size 0x55 else data_from idle_left pending size

abbrev pub data_built : BuilderState → List ℕ
data_built s = field_with s.idle_left s.pending (data_size s)

-- the first place in a field of this many octets where a packet starts, after these octets left of
-- the packet before, if there is one
abbrev pub first_start : ℕ → ℕ → Pointer
first_start left size = if nat_lt left size then At left else NoStart

abbrev pub pointer_with : ℕ → ℕ → List ℕ → ℕ → Pointer
pointer_with idle_left begun pending size =
    if is_nothing idle_left pending then OnlyIdle else first_start (idle_left + begun) size

abbrev pub pointer_built : BuilderState → Pointer
pointer_built s = pointer_with s.idle_left s.begun s.pending (data_size s)

-- the state whose frame is built; the frame does not depend on the sizes of the packets after the
-- first
abbrev pub state_with : Turn → ℕ → List ℕ → BuilderState
state_with t total pending = record {
  scid = t.scid;
  vcid = t.vcid;
  total = total;
  mc_count = t.mc_count;
  vc_count = t.vc_count;
  idle_left = t.idle_left;
  pending = pending;
  begun = t.begun;
  sizes = [];
}

abbrev pub frame_built : BuilderState → List ℕ → FrameView
frame_built s ocf =
    record {
      scid =
          s.scid;
      vcid =
          s.vcid;
      mc_count =
          s.mc_count;
      vc_count = s.vc_count;
      pointer = pointer_built s;
      payload = data_built s;
      ocf = ocf;
    }

-- how many octets are left of an idle packet after a field of this many octets
abbrev pub idle_after : ℕ → ℕ → ℕ → ℕ
idle_after size idle_left count =
    if room_left size idle_left count == 0 then idle_left - size else 7 - room_left size idle_left
    count

-- how many octets are left of the packet that was begun, and the packets after it, after this many
-- of their octets were sent
abbrev pub left_after : ℕ → ℕ → List ℕ → ℕ × List ℕ
left_after room begun [] = (begun - room, [])
left_after room begun (size ∷ sizes) =
    if nat_le room begun then (begun - room, size ∷ sizes) else left_after (room - begun) size sizes

-- the state after a field of this many octets
abbrev pub after_send : BuilderState → ℕ → BuilderState
after_send s size =
    let room : ℕ = size - s.idle_left in
    record s {
      idle_left = idle_after size s.idle_left (length s.pending);
      pending = drop room s.pending;
      begun = (left_after room s.begun s.sizes).0;
      sizes = (left_after room s.begun s.sizes).1;
    }

abbrev pub after_fill : BuilderState → BuilderState
after_fill s = if is_at_rest s then s else after_send s (data_size s)

abbrev pub with_next_count : BuilderState → BuilderState
with_next_count s =
    record s { mc_count = (s.mc_count + 1) % 256; vc_count = (s.vc_count + 1) % 256 }

-- the next frame, with this operational control field, and the state of the builder after it
abbrev pub build_step : BuilderState → List ℕ → FrameView × BuilderState
build_step s ocf = (frame_built s ocf, with_next_count (after_fill s))

-- What a builder has laid out in its frames, and what it still holds (CCSDS 132.0-B-3, 4.2.2).

-- the octets still to be sent: those left of an idle packet, followed by those of the packets
abbrev pub held_by : BuilderState → List ℕ
held_by s = idle_tail s.idle_left ++ s.pending

-- From this place on there are this many octets in which no packet starts, followed by whole
-- packets of these sizes.
pub record IsCutAt (all : List (List ℕ)) (place left : ℕ) (sizes : List ℕ) : Type 0 where
  pub before : List (List ℕ)
  pub whole : List (List ℕ)
  pub parts : all ≡ before ++ whole
  pub ends : length (concat before) ≡ place + left
  pub none : HasNoStart all place left
  pub lengths : map length whole ≡ sizes

-- The frames lay out the stream of the packets, except for what this builder still holds.
pub record IsLaidOutBy (s : BuilderState) (packets : List (List ℕ)) (frames : List FrameView) : Type
    0 where
  pub laid : IsLaidOut packets frames (held_by s)
  -- the next frame's count follows the last one's
  pub next : (before : List FrameView) (f : FrameView) → frames ≡ before ++ f ∷ []
      → s.vc_count ≡ (f.vc_count + 1) % 256
  -- where packets start in what the builder holds
  pub cut : IsCutAt laid.all (length (carried_octets frames)) (s.idle_left + s.begun) s.sizes
