-- The spacecraft: its state, and the return value and the final state of each call.
use Rattle.std.specs.Prelude.{◌≡◌, ℕ, List, [], ◌∷◌, ◌++◌, length, Bool, true, false, ◌&&◌, ◌==◌}
use Rattle.std.specs.Prelude.{nat_lt, if◌then◌else◌, Option, Some, None, Result, Ok, Err}
use Rattle.circular_buffer.specs.Buffer.{keep_last}
use Rattle.clcw.specs.Encoding as words
use Rattle.tc_frame.specs.declared.frame.Check.TheVariants.{On}
use Rattle.tc_frame.specs.declared.frame.Command.{Command}
use Rattle.tc_frame.specs.declared.frame.Command.TheVariants.{Unlock, SetVr}
use Rattle.tc_frame.specs.declared.fault.TcFault.{TcFault}
use Rattle.tc_frame.specs.Layout.{SegmentView, BodyView, Ad, Bd, Bc, FrameView}
use Rattle.tc_frame.specs.Decoding.{frame_at}
use Rattle.map_service.specs.declared.dropped.Dropped.{Dropped}
use Rattle.map_service.specs.Assembly.{open_part}
use Rattle.map_service.specs.AssemblerTable.{TakeOutcome, take_step}
use Rattle.cop1.specs.declared.farm.Verdict.{Verdict}
use Rattle.cop1.specs.declared.farm.Verdict.TheVariants.{Accepted, Ahead, NoBuffer, Behind, Outside}
use Rattle.cop1.specs.declared.farm.Verdict.TheVariants.{Discarded}
use Rattle.cop1.specs.Farm.{FarmState, FarmEvent, AdArrives, BdArrives, UnlockArrives, SetVrArrives}
use Rattle.cop1.specs.Farm.{BufferReleased, farm_step, new_farm, verdict_of}
use Rattle.cop1.specs.Report.{report_of}
use Rattle.tm_link.specs.declared.fault.TmFault.{TmFault}
use Rattle.tm_link.specs.declared.fault.TmFault.TheVariants.{NotAPacket}
use Rattle.tm_link.specs.Layout as telemetry
use Rattle.tm_link.specs.Builder.{BuilderState, new_builder, builder_with_counts, is_to_send}
use Rattle.tm_link.specs.Builder.{after_queue, build_step}
use Rattle.nodes.specs.declared.config.Config.{Config}
use Rattle.nodes.specs.declared.spacecraft.KeptNumbers.{KeptNumbers}
use Rattle.nodes.specs.declared.received.Received.{Received}
use Rattle.nodes.specs.declared.received.Received.TheVariants.{Invalid, Foreign, Sequence, Bypass}
use Rattle.nodes.specs.declared.received.Received.TheVariants.{Control}
use Rattle.nodes.specs.Parameters.{limits_of}
use Rattle.nodes.specs.BypassSegments.{is_kept}
use Rattle.nodes.specs.Packets.{PacketOn, packet_on, put_on_map}
use Rattle.nodes.specs.Steps.{Outcome}

-- a spacecraft
pub record SpacecraftState : Type 0 where
  pub config : Config
  -- the receiver, FARM-1
  pub farm : FarmState
  -- the segments of all accepted Type-AD frames, in order
  pub accepted : List SegmentView
  -- the packets that wait to be taken, the oldest first: from Type-AD frames, and from Type-BD
  -- frames
  pub ready : List PacketOn
  pub bypass : List PacketOn
  -- the builder of telemetry frames
  pub builder : BuilderState

abbrev pub SpacecraftOutcome : Type 0 → Type 0
SpacecraftOutcome A = Outcome SpacecraftState A

abbrev pub new_spacecraft : Config → SpacecraftState
new_spacecraft c = record {
  config = c;
  farm = new_farm c.width 0;
  accepted = [];
  ready = [];
  bypass = [];
  builder = new_builder c.scid c.tm_vcid c.frame_length;
}

-- A new spacecraft that continues with kept numbers, as after a restart on purpose. The packets and
-- parts of packets that were on board are lost, and the receiver is open with no flag set.
abbrev pub restarted_spacecraft : Config → KeptNumbers → SpacecraftState
restarted_spacecraft c kept = record (new_spacecraft c) {
  farm = record (new_farm c.width kept.vr) { farm_b = kept.farm_b };
  builder = builder_with_counts c.scid c.tm_vcid c.frame_length kept.mc_count kept.vc_count;
}

-- the current numbers, with which a restarted spacecraft continues
abbrev pub kept_numbers : SpacecraftState → KeptNumbers
kept_numbers s = record {
  vr = s.farm.vr;
  farm_b = s.farm.farm_b;
  mc_count = s.builder.mc_count;
  vc_count = s.builder.vc_count;
}

-- the buffer is free while fewer packets are ready than there are ready slots
abbrev pub is_free : SpacecraftState → Bool
is_free s = nat_lt (length s.ready) s.config.ready_slots

abbrev pub after_farm : SpacecraftState → FarmEvent → SpacecraftState
after_farm s event = record s { farm = farm_step s.farm event }

-- ---- a Type-AD frame arrives

-- the only verdict with which a frame's data are passed on
abbrev pub is_accepted : Verdict → Bool
is_accepted Accepted = true
is_accepted Ahead = false
is_accepted NoBuffer = false
is_accepted Behind = false
is_accepted Outside = false
is_accepted Discarded = false

-- the outcome of one more segment after those that were accepted (CCSDS 232.0-B-4, 4.1.3.2)
abbrev pub assemble_step : SpacecraftState → SegmentView → TakeOutcome
assemble_step s segment =
    take_step (limits_of s.config) (open_part (limits_of s.config) segment.header.map s.accepted)
    segment

abbrev pub after_segment : SpacecraftState → SegmentView → SpacecraftState
after_segment s segment = record s {
  accepted = s.accepted ++ segment ∷ [];
  ready = s.ready ++ put_on_map segment.header.map (assemble_step s segment).packets;
}

-- the number of packets that the segment makes ready, and the cause if octets are dropped
abbrev pub hand_on_step : SpacecraftState → SegmentView → SpacecraftOutcome (ℕ × Option Dropped)
hand_on_step s segment = record {
  answer = (length (assemble_step s segment).packets, (assemble_step s segment).dropped);
  after = after_segment s segment;
}

abbrev pub sequence_outcome : SpacecraftState → ℕ → SegmentView → Verdict
    → SpacecraftOutcome Received
sequence_outcome s n segment verdict =
    if is_accepted verdict then record {
      answer =
          Sequence n verdict (length (assemble_step s segment).packets)
          (assemble_step s segment).dropped;
      after = after_farm (after_segment s segment) (AdArrives n (is_free s));
    }
    else record {
      answer = Sequence n verdict 0 None;
      after = after_farm s (AdArrives n (is_free s));
    }

abbrev pub receive_sequence_step : SpacecraftState → ℕ → SegmentView → SpacecraftOutcome Received
receive_sequence_step s n segment = sequence_outcome s n segment (verdict_of s.farm n (is_free s))

-- ---- a Type-BD frame arrives

-- if as many packets wait as there are bypass slots, the oldest is discarded
abbrev pub packets_kept : SpacecraftState → PacketOn → List PacketOn
packets_kept s packet = keep_last s.config.bypass_slots (s.bypass ++ packet ∷ [])

abbrev pub bypass_outcome : SpacecraftState → SegmentView → Bool → SpacecraftOutcome Received
bypass_outcome s segment true = record {
  answer = Bypass true;
  after =
      record (after_farm s BdArrives) {
        bypass = packets_kept s (packet_on segment.header.map segment.payload);
      };
}
bypass_outcome s segment false = record { answer = Bypass false; after = after_farm s BdArrives }

abbrev pub receive_bypass_step : SpacecraftState → SegmentView → SpacecraftOutcome Received
receive_bypass_step s segment = bypass_outcome s segment (is_kept s.config segment)

-- ---- octets arrive

abbrev pub command_event : Command → FarmEvent
command_event Unlock = UnlockArrives
command_event (SetVr x) = SetVrArrives x

abbrev pub body_outcome : SpacecraftState → BodyView → SpacecraftOutcome Received
body_outcome s (Ad n segment) = receive_sequence_step s n segment
body_outcome s (Bd segment) = receive_bypass_step s segment
body_outcome s (Bc command) = record {
  answer = Control command;
  after = after_farm s (command_event command);
}

-- a frame of this spacecraft's virtual channel
abbrev pub is_own_frame : Config → FrameView → Bool
is_own_frame c frame = (frame.scid == c.scid) && (frame.vcid == c.vcid)

abbrev pub frame_outcome : SpacecraftState → Result FrameView TcFault → SpacecraftOutcome Received
frame_outcome s (Err fault) = record { answer = Invalid fault; after = s }
frame_outcome s (Ok frame) =
    if is_own_frame s.config frame then body_outcome s frame.body
    else record { answer = Foreign; after = s }

abbrev pub spacecraft_receive : SpacecraftState → List ℕ → SpacecraftOutcome Received
spacecraft_receive s octets = frame_outcome s (frame_at On octets)

-- a frame's data are passed on: the frame is Type-AD and accepted, or Type-BD and kept
abbrev pub hands_on : SpacecraftState → BodyView → Bool
hands_on s (Ad n segment) = is_accepted (verdict_of s.farm n (is_free s))
hands_on s (Bd segment) = is_kept s.config segment
hands_on s (Bc command) = false

-- No data are passed on from the octets that arrive. They do not form a valid frame, or the frame
-- is of another spacecraft or virtual channel, or its data are not passed on.
abbrev pub HandsNothingOn : SpacecraftState → Result FrameView TcFault → Type 0
HandsNothingOn s (Err fault) = Unit {0}
HandsNothingOn s (Ok frame) = is_own_frame s.config frame ≡ true → hands_on s frame.body ≡ false

-- ---- packets are taken

-- taking a packet releases the buffer if fewer packets than the ready slots are then left
abbrev pub after_take : SpacecraftState → List PacketOn → SpacecraftState
after_take s left = record s {
  ready = left;
  farm =
      if nat_lt (length left) s.config.ready_slots then farm_step s.farm BufferReleased
      else s.farm;
}

abbrev pub spacecraft_take : SpacecraftState → List PacketOn → SpacecraftOutcome (Option PacketOn)
spacecraft_take s [] = record { answer = None; after = s }
spacecraft_take s (packet ∷ left) = record { answer = Some packet; after = after_take s left }

abbrev pub spacecraft_take_bypass : SpacecraftState → List PacketOn
    → SpacecraftOutcome (Option PacketOn)
spacecraft_take_bypass s [] = record { answer = None; after = s }
spacecraft_take_bypass s (packet ∷ left) = record {
  answer = Some packet;
  after = record s { bypass = left };
}

-- ---- telemetry

abbrev pub spacecraft_telemetry : SpacecraftState → List ℕ
    → SpacecraftOutcome (Result (Unit {0}) TmFault)
spacecraft_telemetry s packet =
    if is_to_send packet then record {
      answer = Ok tt;
      after = record s { builder = after_queue s.builder packet };
    }
    else record { answer = Err NotAPacket; after = s }

-- the octets of the receiver's CLCW (CCSDS 232.0-B-4, 4.2)
abbrev pub report_octets : SpacecraftState → List ℕ
report_octets s = words.spelling (report_of s.farm s.config.vcid)

abbrev pub spacecraft_report : SpacecraftState → SpacecraftOutcome telemetry.FrameView
spacecraft_report s = record {
  answer = (build_step s.builder (report_octets s)).0;
  after = record s { builder = (build_step s.builder (report_octets s)).1 };
}

-- a telemetry frame of this spacecraft's virtual channel
pub record IsOwnFrame (c : Config) (f : telemetry.FrameView) : Type 0 where
  pub scid : f.scid ≡ c.scid
  pub vcid : f.vcid ≡ c.tm_vcid

-- ---- all calls

pub data SpacecraftEvent : Type 0 where
  Receive : (octets : List ℕ) → SpacecraftEvent
  Take : SpacecraftEvent
  TakeBypass : SpacecraftEvent
  Telemetry : (packet : List ℕ) → SpacecraftEvent
  Report : SpacecraftEvent

-- the type of each call's return value; a report returns the frame that is sent
abbrev pub SpacecraftAnswer : SpacecraftEvent → Type 0
SpacecraftAnswer (Receive octets) = Received
SpacecraftAnswer Take = Option PacketOn
SpacecraftAnswer TakeBypass = Option PacketOn
SpacecraftAnswer (Telemetry packet) = Result (Unit {0}) TmFault
SpacecraftAnswer Report = telemetry.FrameView

abbrev pub spacecraft_step : SpacecraftState → (event : SpacecraftEvent)
    → SpacecraftOutcome (SpacecraftAnswer event)
spacecraft_step s (Receive octets) = spacecraft_receive s octets
spacecraft_step s Take = spacecraft_take s s.ready
spacecraft_step s TakeBypass = spacecraft_take_bypass s s.bypass
spacecraft_step s (Telemetry packet) = spacecraft_telemetry s packet
spacecraft_step s Report = spacecraft_report s
