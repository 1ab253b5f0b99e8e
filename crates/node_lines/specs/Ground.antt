-- A ground that is run line by line: the answer to each line.
use Rattle.std.specs.Prelude.{ℕ, ◌==◌, if◌then◌else◌, List, ◌++◌, length, codes, decimal, Option}
use Rattle.std.specs.Prelude.{Some, None, Result, Ok, Err}
use Rattle.hex.specs.Hex.{encode_upper}
use Rattle.tc_frame.specs.declared.frame.Check.TheVariants.{On}
use Rattle.tc_frame.specs.Layout.{FrameView}
use Rattle.tc_frame.specs.Encoding.{spelling}
use Rattle.cop1.specs.declared.fault.CopFault.{CopFault}
use Rattle.cop1.specs.declared.vocabulary.Alert.{Alert}
use Rattle.cop1.specs.Faults as cop
use Rattle.cop1.specs.Units.{due_units}
use Rattle.nodes.specs.declared.event.Event.TheVariants as events
use Rattle.nodes.specs.declared.fault.LinkFault.{LinkFault}
use Rattle.nodes.specs.declared.heard.HeardClcw.{HeardClcw}
use Rattle.nodes.specs.Faults as link
use Rattle.nodes.specs.Fates.{submitted, whole_with}
use Rattle.nodes.specs.Ground.{GroundState, GroundEvent, GroundAnswer, ground_step, new_ground}
use Rattle.nodes.specs.Ground.{outstanding, sent_beyond, unsent_segments}
use Rattle.nodes.specs.Ground as calls
use Rattle.node_lines.specs.Answers.{fault_text, sent_text, heard_text, reported_text, tick_text}
use Rattle.cop1.specs.Names.{fop_mode_name}
use Rattle.node_lines.specs.Lines.{AskView, Happening, ControlWord, Show}
use Rattle.node_lines.specs.Nodes.{Turn, NodeRules, told}

-- ---- the answers to calls, as texts

abbrev pub done_text : Result (Unit {0}) LinkFault → List ℕ
done_text (Ok done) = codes "ok"
done_text (Err fault) = fault_text (codes "refused") (link.fault_row fault)

abbrev pub obeyed_text : Result (Option Alert) CopFault → List ℕ
obeyed_text (Ok alert) = tick_text alert
obeyed_text (Err fault) = fault_text (codes "refused") (cop.fault_row fault)

abbrev pub resumed_text : Result ℕ LinkFault → List ℕ
resumed_text (Ok on_board) = codes "resumed " ++ decimal on_board
resumed_text (Err fault) = fault_text (codes "refused") (link.fault_row fault)

abbrev pub pulled_text : Option FrameView → List ℕ
pulled_text (Some frame) = sent_text (spelling On frame)
pulled_text None = codes "nothing"

abbrev pub taken_text : Option (List ℕ) → List ℕ
taken_text (Some packet) = codes "packet " ++ encode_upper packet
taken_text None = codes "nothing"

abbrev pub word_text : HeardClcw → List ℕ
word_text heard = reported_text heard.report heard.alert

-- a call of the ground, and its answer as a text
abbrev pub ground_call : (event : GroundEvent) → (GroundAnswer event → List ℕ) → GroundState
    → Turn GroundState
ground_call event text s = record {
  answer = text (ground_step s event).answer;
  after = (ground_step s event).after;
}

-- ---- the state of the ground

-- how far its submissions have come
abbrev pub submissions_text : GroundState → List ℕ
submissions_text s = codes " submitted=" ++ (decimal (submitted s.fates)
    ++ (codes " sent=" ++ (decimal (whole_with (sent_beyond s) s.fates)
    ++ (codes " acknowledged=" ++ (decimal (whole_with 0 s.fates)
    ++ (codes " outstanding=" ++ decimal (length (outstanding s))))))))

-- the state of its sender
abbrev pub sender_text : GroundState → List ℕ
sender_text s = codes "state=" ++ (fop_mode_name s.fop.state
    ++ (codes " vs=" ++ (decimal s.fop.vs ++ (codes " nn=" ++ decimal s.fop.nn))))

-- the ticks that are left on its timer, if the timer runs
abbrev pub timer_text : Option ℕ → List ℕ
timer_text None = codes "off"
timer_text (Some ticks) = decimal ticks

-- its transmission count, and its timer
abbrev pub count_text : GroundState → List ℕ
count_text s =
    codes " count=" ++ (decimal s.fop.count ++ (codes " timer=" ++ timer_text s.fop.ticks))

-- the segments that must be retransmitted, and what was not sent: segments, and packets by bypass
abbrev pub queues_text : GroundState → List ℕ
queues_text s = codes " due=" ++ (decimal (length (due_units s.fop.sent))
    ++ (codes " unsent=" ++ (decimal (length (unsent_segments s))
    ++ (codes " bypass=" ++ decimal (length s.fop.bypass)))))

abbrev pub ground_show : GroundState → List ℕ
ground_show s = sender_text s ++ (count_text s ++ (queues_text s ++ submissions_text s))

-- ---- the asks of a ground; a CLCW has four octets

abbrev pub ground_asked : AskView → Option (GroundState → Turn GroundState)
ground_asked (Happening (events.Submit m octets)) =
    Some (ground_call (calls.Submit m octets.now) done_text)
ground_asked (Happening (events.Bypass m octets)) =
    Some (ground_call (calls.Bypass m octets.now) done_text)
ground_asked (Happening (events.Directive directive)) =
    Some (ground_call (calls.Direct directive) obeyed_text)
ground_asked (Happening (events.Resume value)) =
    Some (ground_call (calls.Resume value) resumed_text)
ground_asked (Happening events.Send) = Some (ground_call calls.Pull pulled_text)
ground_asked (Happening events.Tick) = Some (ground_call calls.Tick tick_text)
ground_asked (Happening events.Take) = Some (ground_call calls.TakeTelemetry taken_text)
ground_asked (Happening (events.Telemetry octets)) =
    Some (ground_call (calls.Telemetry octets.now) heard_text)
ground_asked (ControlWord octets) =
    if length octets == 4 then Some (ground_call (calls.ControlWord octets) word_text) else None
ground_asked Show = Some (told ground_show)
ground_asked _ = None

abbrev pub ground_rules : NodeRules GroundState
ground_rules = record {
  new = new_ground;
  asked = ground_asked;
  others = codes "it is for a spacecraft, or its control word has other than 4 octets";
  lines = codes
      "config FIELD N, submit M HEX, bypass M HEX, init none, init check, init unlock, init set X, "
      ++ (codes
      "terminate, resume X, vs X, window X, limit X, timer X, send, tick, telemetry HEX, clcw HEX, "
      ++ codes "take, show, help");
}
