-- Replies without their octets' places in memory, and the reply to each answer of a node.
use Rattle.std.specs.Prelude.{ℕ, List, Option, Some, None, Result, Ok, Err}
use Rattle.clcw.specs.declared.word.Clcw.{Clcw}
use Rattle.cop1.specs.declared.fault.CopFault.{CopFault}
use Rattle.cop1.specs.declared.vocabulary.Alert.{Alert}
use Rattle.tm_link.specs.declared.fault.TmFault.{TmFault}
use Rattle.nodes.specs.declared.fault.LinkFault.{LinkFault}
use Rattle.nodes.specs.declared.fault.LinkFault.TheVariants as link_faults
use Rattle.nodes.specs.declared.heard.Heard.{Heard}
use Rattle.nodes.specs.declared.heard.Heard.TheVariants as heard_cases
use Rattle.nodes.specs.declared.heard.HeardClcw.{HeardClcw}
use Rattle.nodes.specs.declared.received.Received.{Received}
use Rattle.simulated_link.specs.declared.reply.NodeFault.{NodeFault}
use Rattle.simulated_link.specs.declared.reply.NodeFault.TheVariants.{Link, Cop, Tm}
use Rattle.simulated_link.specs.declared.reply.Reply.{Reply}
use Rattle.simulated_link.specs.declared.reply.Reply.TheVariants as replies
use Rattle.simulated_link.specs.declared.fault.SimFault.{SimFault}
use Rattle.simulated_link.specs.declared.fault.SimFault.TheVariants.{Memory}
use Rattle.nodes.specs.Packets.{PacketOn, packet_on}

pub data ReplyView : Type 0 where
  Done : ReplyView
  Nothing : ReplyView
  Lost : ReplyView
  Refused : NodeFault → ReplyView
  Alerted : Alert → ReplyView
  Sent : List ℕ → ReplyView
  Reported : Clcw → ReplyView
  Up : Received → ReplyView
  Down : Heard → ReplyView
  DownClcw : HeardClcw → ReplyView
  Resumed : ℕ → ReplyView
  Packet : PacketOn → ReplyView

abbrev pub reply_view : Reply → ReplyView
reply_view replies.Done = Done
reply_view replies.Nothing = Nothing
reply_view replies.Lost = Lost
reply_view (replies.Refused fault) = Refused fault
reply_view (replies.Alert alert) = Alerted alert
reply_view (replies.Sent octets) = Sent octets.items
reply_view (replies.Reported report) = Reported report
reply_view (replies.Up received) = Up received
reply_view (replies.Down heard) = Down heard
reply_view (replies.DownClcw heard) = DownClcw heard
reply_view (replies.Resumed whole) = Resumed whole
reply_view (replies.Packet m octets) = Packet (packet_on m octets.items)

-- ---- the replies to the answers of a node

abbrev pub reply_to_submission : Result (Unit {0}) LinkFault → ReplyView
reply_to_submission (Ok done) = Done
reply_to_submission (Err fault) = Refused (Link fault)

-- if the ground is out of memory, the link answers its own fault Memory; other faults are replies
abbrev pub answer_to_refusal : LinkFault → Result Reply SimFault
answer_to_refusal link_faults.Memory = Err Memory
answer_to_refusal fault = Ok (replies.Refused (Link fault))

abbrev pub reply_to_alert : Option Alert → ReplyView
reply_to_alert None = Done
reply_to_alert (Some alert) = Alerted alert

abbrev pub reply_to_directive : Result (Option Alert) CopFault → ReplyView
reply_to_directive (Ok alert) = reply_to_alert alert
reply_to_directive (Err fault) = Refused (Cop fault)

abbrev pub reply_to_taking : Option PacketOn → ReplyView
reply_to_taking None = Nothing
reply_to_taking (Some packet) = Packet packet

abbrev pub reply_to_telemetry : Result (Unit {0}) TmFault → ReplyView
reply_to_telemetry (Ok done) = Done
reply_to_telemetry (Err fault) = Refused (Tm fault)

-- ---- the alert in a reply

abbrev pub heard_alert : Heard → Option Alert
heard_alert (heard_cases.Frame gap packets report alert) = alert
heard_alert _ = None

abbrev pub replied_alert : ReplyView → Option Alert
replied_alert (Alerted alert) = Some alert
replied_alert (Down heard) = heard_alert heard
replied_alert (DownClcw heard) = heard.alert
replied_alert _ = None
