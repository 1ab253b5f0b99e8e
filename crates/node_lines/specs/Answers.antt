-- What a node's calls answer, as texts.
use Rattle.std.specs.Prelude.{ℕ, true, false, ◌==◌, if◌then◌else◌, List, [], ◌++◌, codes, decimal}
use Rattle.std.specs.Prelude.{Option, Some, None, option_map, Result, Ok, Err}
use Rattle.hex.specs.Hex.{encode_upper}
use Rattle.clcw.specs.Faults as clcw
use Rattle.clcw.specs.declared.fault.ClcwFault.{ClcwFault}
use Rattle.cop1.specs.declared.vocabulary.Alert.{Alert}
use Rattle.cop1.specs.Names.{verdict_row, alert_row}
use Rattle.map_service.specs.declared.dropped.Dropped.{Dropped}
use Rattle.map_service.specs.Causes.{cause_row}
use Rattle.tc_frame.specs.declared.frame.Command.TheVariants.{Unlock, SetVr}
use Rattle.tc_frame.specs.Faults as tc
use Rattle.tm_link.specs.declared.gap.Gap.{Gap}
use Rattle.tm_link.specs.declared.gap.Gap.TheVariants.{First, Lost as Missing}
use Rattle.tm_link.specs.Faults as tm
use Rattle.nodes.specs.declared.heard.Heard.{Heard}
use Rattle.nodes.specs.declared.heard.Heard.TheVariants as hearing
use Rattle.nodes.specs.declared.heard.HeardReport.{HeardReport}
use Rattle.nodes.specs.declared.heard.HeardReport.TheVariants.{Used, Refused, OtherChannel}
use Rattle.nodes.specs.declared.received.Received.{Received}
use Rattle.nodes.specs.declared.received.Received.TheVariants as receiving
use Rattle.nodes.specs.Packets.{PacketOn}

-- a word, and a fault by number and name
abbrev pub fault_text : List ℕ → ℕ × List ℕ → List ℕ
fault_text word (number, name) = word ++ (codes " " ++ (decimal number ++ (codes " " ++ name)))

-- a word and a name, if there is one
abbrev pub named_text : List ℕ → Option (List ℕ) → List ℕ
named_text word None = []
named_text word (Some name) = word ++ name

-- ---- what a node sends out

abbrev pub sent_text : List ℕ → List ℕ
sent_text octets = codes "sent " ++ encode_upper octets

abbrev pub packet_text : PacketOn → List ℕ
packet_text p = codes "packet " ++ (decimal p.on_map ++ (codes " " ++ encode_upper p.octets))

-- the octets of a CLCW, always four
abbrev pub report_text : Result (List ℕ) ClcwFault → List ℕ
report_text (Ok octets) = encode_upper octets
report_text (Err fault) = []

-- ---- what a spacecraft makes of octets

-- that packets are ready, and how many if there are several
abbrev pub ready_text : ℕ → List ℕ
ready_text ready =
    if ready == 0 then [] else if ready == 1 then codes " ready" else codes " ready "
    ++ decimal ready

abbrev pub dropped_text : Option Dropped → List ℕ
dropped_text dropped =
    named_text (codes " dropped ") (option_map (λ cause. (cause_row cause).1) dropped)

abbrev pub received_text : Received → List ℕ
received_text (receiving.Invalid fault) = fault_text (codes "invalid") (tc.fault_row fault)
received_text receiving.Foreign = codes "foreign"
received_text (receiving.Sequence n verdict ready dropped) =
    codes "AD " ++ (decimal n
    ++ (codes " " ++ ((verdict_row verdict).1 ++ (ready_text ready ++ dropped_text dropped))))
received_text (receiving.Bypass true) = codes "BD kept"
received_text (receiving.Bypass false) = codes "BD dropped"
received_text (receiving.Control Unlock) = codes "BC unlock"
received_text (receiving.Control (SetVr x)) = codes "BC set " ++ decimal x

-- ---- what a ground makes of octets

abbrev pub frame_gap_text : Gap → List ℕ
frame_gap_text First = codes "-"
frame_gap_text (Missing n) = decimal n

abbrev pub alert_text : Option Alert → List ℕ
alert_text alert = named_text (codes " alert ") (option_map (λ a. (alert_row a).1) alert)

abbrev pub heard_text : Heard → List ℕ
heard_text (hearing.Invalid fault) = fault_text (codes "invalid") (tm.fault_row fault)
heard_text hearing.Foreign = codes "foreign"
heard_text (hearing.Frame gap packets report alert) =
    codes "gap=" ++ (frame_gap_text gap
    ++ (codes " packets=" ++ (decimal packets ++ alert_text alert)))

-- the alert that came, or else that the call is done
abbrev pub tick_text : Option Alert → List ℕ
tick_text None = codes "ok"
tick_text (Some alert) = codes "alert " ++ (alert_row alert).1

-- what the ground does with a CLCW that arrives by itself, and the alert that it raises
abbrev pub reported_text : HeardReport → Option Alert → List ℕ
reported_text Used alert = tick_text alert
reported_text (Refused fault) alert = fault_text (codes "invalid") (clcw.fault_row fault)
reported_text OtherChannel alert = codes "foreign"
