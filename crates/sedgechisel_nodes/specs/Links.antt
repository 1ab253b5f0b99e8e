-- The simulated link of a program in C.
use Rattle.std.specs.Prelude.{ℕ, List, ◌≡◌, ◌≢◌, ◌⊎◌, [], length, option_map, false, ◌==◌}
use Rattle.std.specs.Prelude.{nat_le}
use Rattle.std.specs.Prelude.{if◌then◌else◌, slice_get, Option, Some, None, Result, Ok, Err, IfSome}
use Rattle.simulated_link.specs.World.{World, new_world, world_step, submitted, delivered, accepted}
use Rattle.std.specs.Option.{unwrap_or}
use Rattle.cop1.specs.Faults.{fault_row as cop_row}
use Rattle.cop1.specs.Names.{alert_row}
use Rattle.cop1.specs.declared.vocabulary.Directive.{Directive}
use Rattle.tm_link.specs.Faults.{fault_row as tm_row}
use Rattle.nodes.specs.Faults.{fault_row as link_row}
use Rattle.nodes.specs.Ground.{outstanding}
use Rattle.nodes.specs.Packets.{PacketOn}
use Rattle.nodes.specs.declared.config.Config.{Config}
use Rattle.nodes.specs.declared.event.Event.{Event}
use Rattle.simulated_link.specs.declared.reply.NodeFault.{NodeFault}
use Rattle.simulated_link.specs.declared.reply.NodeFault.TheVariants.{Link, Cop, Tm}
use Rattle.simulated_link.specs.declared.fault.SimFault.{SimFault}
use Rattle.simulated_link.specs.Faults.{fault_row}
use Rattle.simulated_link.specs.Events.{TakesNone}
use Rattle.simulated_link.specs.Replies.{ReplyView, Done, Nothing, Lost, Refused, Alerted, Sent}
use Rattle.simulated_link.specs.Replies.{Reported, Up, Down, DownClcw, Resumed, Packet}
use Rattle.c_words.specs.Directives.{directive_named}
use Rattle.sedgechisel_nodes.specs.declared.sim.events.KeptEvent.{KeptEvent}
use Rattle.sedgechisel_nodes.specs.declared.sim.reply.KeptReply.{KeptReply}
use Rattle.sedgechisel_nodes.specs.declared.sim.readings.SimReading.{SimReading}
use Rattle.sedgechisel_nodes.specs.Spacecraft.{no_received, received_kept}
use Rattle.sedgechisel_nodes.specs.Calls.{closed}
use Rattle.sedgechisel_nodes.specs.Ground.{mode_number}
use Rattle.sedgechisel_nodes.specs.Heard.{no_heard, heard_kept, word_kept, no_word}
use Rattle.cop1.specs.declared.vocabulary.Directive.TheVariants as directives
use Rattle.nodes.specs.declared.event.Event.TheVariants as events

-- the world, and the octets of the last event's frame or packet
pub record LinkState : Type 0 where
  pub world : World
  pub octets : List ℕ

abbrev pub new_link : Config → LinkState
new_link c = record { world = new_world c; octets = [] }

-- ---- replies

-- the octets of the frame that was sent, or of the packet that was taken
abbrev pub reply_octets : ReplyView → List ℕ
reply_octets (Sent octets) = octets
reply_octets (Packet p) = p.octets
reply_octets _ = []

-- the part of a node that refused a call, and the number of its fault
abbrev pub refused_by : NodeFault → ℕ × ℕ
refused_by (Link fault) = (1, (link_row fault).0)
refused_by (Cop fault) = (2, (cop_row fault).0)
refused_by (Tm fault) = (3, (tm_row fault).0)

abbrev pub no_reply : KeptReply
no_reply = record {
  count = 0;
  whole = 0;
  up = no_received;
  down = no_heard;
  report = no_word;
  kind = 0;
  by = 0;
  fault = 0;
  alert = 0;
  map = 0;
}

abbrev pub reply_kept : ReplyView → KeptReply
reply_kept Done = no_reply
reply_kept Nothing = record no_reply { kind = 1 }
reply_kept Lost = record no_reply { kind = 2 }
reply_kept (Refused fault) =
    record no_reply { kind = 3; by = (refused_by fault).0; fault = (refused_by fault).1 }
reply_kept (Alerted alert) = record no_reply { kind = 4; alert = (alert_row alert).0 }
reply_kept (Sent octets) = record no_reply { kind = 5; count = length octets }
reply_kept (Reported word) = record no_reply { kind = 6; report = word }
reply_kept (Up received) = record no_reply { kind = 7; up = received_kept received }
reply_kept (Down heard) = record no_reply { kind = 8; down = heard_kept heard }
reply_kept (DownClcw heard) = record no_reply { kind = 10; down = word_kept heard }
reply_kept (Resumed whole) = record no_reply { kind = 11; whole = whole }
reply_kept (Packet p) = record no_reply { kind = 9; count = length p.octets; map = p.on_map }

-- ---- events

-- the number of a refusal; without one 0, or 6 if memory ran out
abbrev pub IsStepAnswer : Result ReplyView SimFault → ℕ → Type 0
IsStepAnswer (Ok reply) answer = (answer ≡ 0) ⊎ (answer ≡ 6)
IsStepAnswer (Err fault) answer = answer ≡ (fault_row fault).0

abbrev pub octets_after : Result ReplyView SimFault → List ℕ
octets_after (Ok reply) = reply_octets reply
octets_after (Err fault) = []

abbrev pub link_step : LinkState → Event → LinkState
link_step l event = record {
  world = (world_step l.world event).after;
  octets = octets_after (world_step l.world event).answer;
}

-- the reply of the world is written
abbrev pub IsReply : Result ReplyView SimFault → KeptReply → Type 0
IsReply (Ok view) reply = reply ≡ reply_kept view
IsReply (Err fault) reply = Unit {0}

abbrev pub octet_in : ℕ → Option ℕ
octet_in value = if nat_le value 255 then Some value else None

-- the event in a struct: its kind, and the fields of that kind; the rest is ignored
abbrev pub event_named : KeptEvent → Option Event
event_named e =
    if e.kind == 1 then Some (events.Submit e.map e.octets)
    else if e.kind == 2 then Some (events.Bypass e.map e.octets)
    else if e.kind == 3 then option_map events.Directive (directive_named e.directive e.value)
    else if e.kind == 4 then Some events.Send
    else if e.kind == 5 then Some events.UpDeliver
    else if e.kind == 6 then Some events.UpLose
    else if e.kind == 7 then Some (events.UpDamage e.octets)
    else if e.kind == 8 then Some events.Report
    else if e.kind == 9 then Some events.DownDeliver
    else if e.kind == 10 then Some events.DownLose
    else if e.kind == 11 then Some (events.DownDamage e.octets)
    else if e.kind == 12 then Some events.Tick
    else if e.kind == 13 then Some events.Take
    else if e.kind == 14 then Some events.TakeBypass
    else if e.kind == 15 then Some (events.Telemetry e.octets)
    else if e.kind == 16 then Some events.DownClcw
    else if e.kind == 17 then option_map events.Resume (octet_in e.value)
    else None

-- the return value and the output of a call with an event, and the link before and after it
pub record IsEventCall (event : Event) (old new : Option LinkState) (answer : ℕ)
    (reply reply' : KeptReply) : Type 0 where
  pub none : old ≡ None → answer ≡ closed
  pub answer_is : IfSome old (λ l. IsStepAnswer (world_step l.world event).answer answer)
  pub takes_none : IfSome old (λ l. TakesNone l.world event → answer ≢ 6)
  pub after : answer ≡ 0 → new ≡ option_map (λ l. link_step l event) old
  pub replied : answer ≡ 0 → IfSome old (λ l. IsReply (world_step l.world event).answer reply')
  pub unchanged : answer ≢ 0 → (new ≡ old) × (reply' ≡ reply)

-- the same for a struct; if the struct has no event, nothing changes
abbrev pub IsStepCall : Option Event → (old new : Option LinkState) → ℕ
    → (reply reply' : KeptReply) → Type 0
IsStepCall (Some event) old new answer reply reply' = IsEventCall event old new answer reply reply'
IsStepCall None old new answer reply reply' = (answer ≡ closed) × (new ≡ old) × (reply' ≡ reply)

-- ---- readings

-- the directive that began the session, and the value of Set V(R)
abbrev pub begun_number : Option Directive → ℕ × ℕ
begun_number (Some directives.InitWithoutCheck) = (1, 0)
begun_number (Some directives.InitWithCheck) = (2, 0)
begun_number (Some directives.InitUnlock) = (3, 0)
begun_number (Some (directives.InitSetVr vr)) = (4, vr)
begun_number _ = (0, 0)

abbrev pub link_reading_of : World → SimReading
link_reading_of w = record {
  outstanding = length (outstanding w.ground_node);
  acknowledged = w.session.acknowledged;
  state = mode_number w.ground_node.fop.state;
  begun = (begun_number (option_map (λ o. o.directive) w.session.opening)).0;
  vr = (begun_number (option_map (λ o. o.directive) w.session.opening)).1;
  clean = unwrap_or (option_map (λ o. o.clean) w.session.opening) false;
  idle = unwrap_or (option_map (λ o. o.idle) w.session.opening) false;
  confirmed = w.session.confirmed;
}

-- ---- records: 1 submitted, 2 delivered, each on a MAP; 3 sent, 4 accepted on board
abbrev pub record_of : World → ℕ → ℕ → List (List ℕ)
record_of w number m =
    if number == 1 then submitted w m
    else if number == 2 then delivered w m
    else if number == 3 then w.session.sent
    else if number == 4 then accepted w
    else []

-- entry k of a record
abbrev pub entry_of : World → ℕ → ℕ → ℕ → Option (List ℕ)
entry_of w number m k = slice_get (record_of w number m) k

-- ---- submissions, in their order, each with its MAP

abbrev pub submission_of : World → ℕ → Option PacketOn
submission_of w k = slice_get w.session.submissions k

-- the MAP and the number of octets are written if there is a packet; the answer is 253 if there is
-- none
abbrev pub IsPacketIfThere : Option PacketOn → ℕ → (on_map on_map' count count' : ℕ) → Type 0
IsPacketIfThere None answer m m' count count' = (answer ≡ 253) × (m' ≡ m) × (count' ≡ count)
IsPacketIfThere (Some p) answer m m' count count' =
    (answer ≡ 0) × (m' ≡ p.on_map) × (count' ≡ length p.octets)
