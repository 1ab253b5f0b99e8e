-- A builder of telemetry frames as C keeps it, with its packets in the caller's memory.
use Rattle.std.specs.Prelude.{ℕ, ◌+◌, ◌-◌, List, length, take, drop, map, Bool, not, ◌&&◌, ◌||◌}
use Rattle.std.specs.Prelude.{◌==◌, nat_lt, nat_le, if◌then◌else◌, Result, Ok, Err}
use Rattle.std.specs.List.{concat}
use Rattle.space_packet.specs.Packets.{packets_in, rest_in}
use Rattle.tm_link.specs.declared.turn.Turn.{Turn}
use Rattle.tm_link.specs.declared.fault.TmFault.TheVariants.{NotAPacket, Memory, Room, FieldRange}
use Rattle.tm_link.specs.Faults.{fault_row}
use Rattle.tm_link.specs.Builder.{BuilderState, builder_fits, new_builder, is_to_send}
use Rattle.tm_link.specs.Builder.{after_queue, state_with, build_step}
use Rattle.tm_link.specs.Layout.{FrameView}
use Rattle.sedgechisel.specs.declared.telemetry_builder.KeptBuilder.{KeptBuilder}
use Rattle.sedgechisel.specs.Answers.{damaged, wrong_count}

-- ---- what the struct and the memory describe

-- the octets that are to be sent
abbrev pub pending_of : KeptBuilder → List ℕ → List ℕ
pending_of b memory = take b.count (drop b.from memory)

-- the packets after the one that was begun, and what is left after them
abbrev pub whole_of : KeptBuilder → List ℕ → List ℕ
whole_of b memory = drop b.begun (pending_of b memory)

-- these are numbers of a builder with this many octets of memory
abbrev pub has_numbers : KeptBuilder → ℕ → Bool
has_numbers b room =
    builder_fits b.scid b.vcid b.length && nat_le b.idle_left 6 && nat_le b.from room
    && nat_le b.count (room - b.from)
    && nat_le b.begun b.count

-- these are such numbers, and all of the builder's octets end with a packet
abbrev pub is_builder : KeptBuilder → List ℕ → Bool
is_builder b memory = has_numbers b (length memory) && (length (rest_in (whole_of b memory)) == 0)

-- octets from a packet's start on are whole packets as far as this many octets reach; the first
-- ones of these are left of a packet that was begun
abbrev pub are_whole : List ℕ → ℕ → ℕ → Bool
are_whole octets begun room =
    (length (rest_in octets) == 0) || nat_le room (begun + length (concat (packets_in octets)))

-- a builder whose octets are whole packets as far as the next frame takes them
abbrev pub can_send : KeptBuilder → List ℕ → Bool
can_send b memory =
    has_numbers b (length memory)
    && are_whole (whole_of b memory) b.begun (b.length - 12 - b.idle_left)

-- what a builder contains in addition to its octets
abbrev pub turn_of : KeptBuilder → Turn
turn_of b = record {
  scid = b.scid;
  vcid = b.vcid;
  mc_count = b.next_count;
  vc_count = b.next_count;
  idle_left = b.idle_left;
  begun = b.begun;
}

abbrev pub state_of : KeptBuilder → List ℕ → BuilderState
state_of b memory = record (state_with (turn_of b) b.length (pending_of b memory)) {
  sizes = map length (packets_in (whole_of b memory));
}

abbrev pub builder_described : KeptBuilder → List ℕ → Result BuilderState ℕ
builder_described b memory = if is_builder b memory then Ok (state_of b memory) else Err damaged

-- ---- the calls

-- the state of a new builder
abbrev pub builder_opened : ℕ → ℕ → ℕ → Result BuilderState ℕ
builder_opened scid vcid total =
    if builder_fits scid vcid total then Ok (new_builder scid vcid total)
    else Err (fault_row FieldRange).0

-- the state after a packet was queued, if the octets before it end with a packet
abbrev pub queued_at : KeptBuilder → List ℕ → List ℕ → Result BuilderState ℕ
queued_at b packet memory =
    if not (has_numbers b (length memory)) then Err damaged
    else if not (is_to_send packet) then Err (fault_row NotAPacket).0
    else if nat_lt (length memory) (b.count + length packet) then Err (fault_row Memory).0
    else Ok (after_queue (state_of b memory) packet)

-- the next frame, with this operational control field and in a buffer of this size, and the state
-- after it
abbrev pub built_at : KeptBuilder → List ℕ → List ℕ → ℕ → Result (FrameView × BuilderState) ℕ
built_at b ocf memory room =
    if not (can_send b memory) then Err damaged
    else if not (length ocf == 4) then Err wrong_count
    else if nat_lt room b.length then Err (fault_row Room).0
    else Ok (build_step (state_of b memory) ocf)
