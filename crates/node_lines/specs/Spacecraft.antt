-- A spacecraft that is run line by line: the answer to each line.
use Rattle.std.specs.Prelude.{ℕ, List, ◌++◌, codes, decimal, length, Option, Some, None, Result}
use Rattle.std.specs.Prelude.{Ok, Err}
use Rattle.clcw.specs.Encoding.{encode_answer}
use Rattle.cop1.specs.Farm.{FarmState}
use Rattle.cop1.specs.Report.{report_of}
use Rattle.tm_link.specs.declared.fault.TmFault.{TmFault}
use Rattle.tm_link.specs.Layout.{FrameView}
use Rattle.tm_link.specs.Encoding.{spelling}
use Rattle.tm_link.specs.Faults as tm
use Rattle.nodes.specs.declared.event.Event.TheVariants as events
use Rattle.nodes.specs.Packets.{PacketOn}
use Rattle.nodes.specs.Spacecraft.{SpacecraftState, SpacecraftEvent, SpacecraftAnswer}
use Rattle.nodes.specs.Spacecraft.{spacecraft_step, new_spacecraft}
use Rattle.nodes.specs.Spacecraft as calls
use Rattle.cop1.specs.Names.{farm_mode_name}
use Rattle.std.specs.Int.{from_bool}
use Rattle.node_lines.specs.Answers.{fault_text, sent_text, packet_text, report_text}
use Rattle.node_lines.specs.Answers.{received_text}
use Rattle.node_lines.specs.Lines.{AskView, Happening, Frame, Show}
use Rattle.node_lines.specs.Nodes.{Turn, NodeRules, told}

-- ---- the answers to calls, as texts

abbrev pub handed_text : Option PacketOn → List ℕ
handed_text (Some packet) = packet_text packet
handed_text None = codes "nothing"

abbrev pub queued_text : Result (Unit {0}) TmFault → List ℕ
queued_text (Ok done) = codes "ok"
queued_text (Err fault) = fault_text (codes "refused") (tm.fault_row fault)

abbrev pub telemetry_text : FrameView → List ℕ
telemetry_text frame = sent_text (spelling frame)

-- a call of the spacecraft, and its answer as a text
abbrev pub spacecraft_call : (event : SpacecraftEvent) → (SpacecraftAnswer event → List ℕ)
    → SpacecraftState → Turn SpacecraftState
spacecraft_call event text s = record {
  answer = text (spacecraft_step s event).answer;
  after = (spacecraft_step s event).after;
}

-- ---- the state of the spacecraft

-- the CLCW that its next telemetry frame carries
abbrev pub word_text : SpacecraftState → List ℕ
word_text s =
    codes "report " ++ report_text (encode_answer (report_of s.farm s.config.vcid))

-- the receiver's flags, and FARM-B
abbrev pub farm_flags_text : FarmState → List ℕ
farm_flags_text farm = codes " l=" ++ (decimal (from_bool farm.lockout)
    ++ (codes " w=" ++ (decimal (from_bool farm.wait)
    ++ (codes " t=" ++ (decimal (from_bool farm.retransmit)
    ++ (codes " b=" ++ decimal farm.farm_b))))))

abbrev pub receiver_text : FarmState → List ℕ
receiver_text farm =
    codes "state=" ++ (farm_mode_name farm.state ++ (codes " vr=" ++ decimal farm.vr))

-- the packets that wait to be taken
abbrev pub waiting_text : SpacecraftState → List ℕ
waiting_text s = codes " ready=" ++ (decimal (length s.ready)
    ++ (codes " bypass=" ++ decimal (length s.bypass)))

abbrev pub spacecraft_show : SpacecraftState → List ℕ
spacecraft_show s = receiver_text s.farm ++ (farm_flags_text s.farm ++ waiting_text s)

-- ---- the asks of a spacecraft

abbrev pub spacecraft_asked : AskView → Option (SpacecraftState → Turn SpacecraftState)
spacecraft_asked (Happening (events.Telemetry packet)) =
    Some (spacecraft_call (calls.Telemetry packet.now) queued_text)
spacecraft_asked (Happening events.Send) = Some (spacecraft_call calls.Report telemetry_text)
spacecraft_asked (Happening events.Report) = Some (told word_text)
spacecraft_asked (Happening events.Take) = Some (spacecraft_call calls.Take handed_text)
spacecraft_asked (Happening events.TakeBypass) = Some (spacecraft_call calls.TakeBypass handed_text)
spacecraft_asked (Frame octets) = Some (spacecraft_call (calls.Receive octets) received_text)
spacecraft_asked Show = Some (told spacecraft_show)
spacecraft_asked _ = None

abbrev pub spacecraft_rules : NodeRules SpacecraftState
spacecraft_rules = record {
  new = new_spacecraft;
  asked = spacecraft_asked;
  others = codes "it is for a ground";
  lines = codes
      "config FIELD N, frame HEX, telemetry HEX, send, report, take, takebypass, show, help";
}
