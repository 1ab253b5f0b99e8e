-- What each event leaves unchanged, and the answer if the ground refuses packets.
use Rattle.simulated_link.proofs.Common.{◌≡◌, ℕ, List, [], ◌∷◌, Option, Some, None, Result, Ok, Err, refl, On, TcFault}
use Rattle.simulated_link.proofs.Common.{TmFault, GroundState, ground_step, Event, SimFault, NotDetectable}
use Rattle.simulated_link.proofs.Common.{replied_alert, Up, Down, World, WorldOutcome, world_refusal, world_reply}
use Rattle.simulated_link.proofs.Common.{world_step, world_after_pull, up_deliver_step, up_lose_step, up_damage_outcome}
use Rattle.simulated_link.proofs.Common.{up_damage_step, down_deliver_step, down_lose_step, down_damage_outcome}
use Rattle.simulated_link.proofs.Common.{down_damage_step, true, false, cond_both, Clcw, ClcwFault, GroundOutcome}
use Rattle.simulated_link.proofs.Common.{LinkFault, ◌≢◌, IfSome, ap, sym, subst, ◌∙◌, submit_fault, limits_of, not}
use Rattle.simulated_link.proofs.Common.{◌==◌, ◌+◌, length, Bool, if◌then◌else◌, is_closed, ◌++◌, append-nil}
use Rattle.simulated_link.proofs.Common.{SpacecraftState, Report, spacecraft_step, PacketOn, packet_on, Directive}
use Rattle.simulated_link.proofs.Common.{after_submission, unless_refused, clcw_step}
use Rattle.std.proofs.Common.{IsOkUnless, IsSome, IfErr, IfOk, is_some}
use Rattle.std.specs.Borrow.{Bor}
use Rattle.std.specs.Prelude.{nat_lt}
use Rattle.tc_frame.specs.Layout.{FrameView}
use Rattle.tc_frame.specs.Decoding as command
use Rattle.clcw.specs.Decoding.{clcw_at}
use Rattle.map_service.specs.Assembly.{is_open, is_too_long}
use Rattle.map_service.specs.Cutting.{alone_segment}
use Rattle.map_service.specs.Packets.{packets_in, is_some_over}
use Rattle.cop1.specs.Farm.{farm_step, BufferReleased}
use Rattle.tm_link.specs.Builder.{after_queue, is_to_send}
use Rattle.tm_link.specs.Extractor.{ExtractorState}
use Rattle.tm_link.specs.Layout as telemetry
use Rattle.tm_link.specs.Decoding as telemetry_reading
use Rattle.nodes.specs.Ground.{report_outcome, can_resume, known_at_end, is_over_slots, bypass_fault}
use Rattle.nodes.proofs.Resuming.{resumed_or, resumed_known}
use Rattle.nodes.specs.declared.fault.LinkFault.TheVariants.{NotKnown}
use Rattle.nodes.specs.Ground as ground
use Rattle.nodes.specs.Spacecraft.{spacecraft_receive, spacecraft_take, spacecraft_take_bypass, spacecraft_telemetry}
use Rattle.nodes.specs.declared.heard.Heard.TheVariants as heard_cases
use Rattle.nodes.specs.declared.received.Received.TheVariants as received_cases
use Rattle.nodes.specs.declared.event.Event.TheVariants as events
use Rattle.nodes.specs.CommandPackets.{are_commands}
use Rattle.nodes.specs.declared.fault.LinkFault.TheVariants as faults
use Rattle.simulated_link.specs.declared.fault.SimFault.TheVariants.{NothingInTransit, Memory}
use Rattle.simulated_link.specs.Replies.{ReplyView, Nothing, Lost, Refused, Resumed, answer_to_refusal}
use Rattle.simulated_link.specs.Replies.{reply_to_submission, reply_to_taking, reply_to_telemetry}
use Rattle.simulated_link.specs.World.{world_after_word, down_word_outcome, down_clcw_step, world_after_resuming}
use Rattle.simulated_link.specs.World.{resumed, directed, world_after_submission, world_after_bypass, world_after_take}
use Rattle.simulated_link.specs.World.{world_after_queueing, session_after_report, BeginsNoSession, Session}
use Rattle.simulated_link.specs.declared.reply.NodeFault.TheVariants.{Link}
use Rattle.simulated_link.specs.declared.reply.Reply.{Reply}
use Rattle.simulated_link.specs.declared.reply.Reply.TheVariants as replies
use Rattle.simulated_link.proofs.Counted.{frame_seen, report_seen}

-- What each event leaves unchanged.

-- ---- frames that are lost or damaged

abbrev pub IsLoss : Event → Type 0
IsLoss events.UpLose = Unit {0}
IsLoss (events.UpDamage octets) = Unit {0}
IsLoss events.DownLose = Unit {0}
IsLoss (events.DownDamage octets) = Unit {0}
IsLoss _ = ⊥

-- the event is refused, or removes the first frame in transit, and nothing else changes
pub record AtEachLoss (w : World) (P : WorldOutcome → Type 0) : Type 0 where
  pub refused : (fault : SimFault) → P (world_refusal w fault)
  pub up : (b : List ℕ) (bs : List (List ℕ)) → w.up ≡ b ∷ bs → (reply : ReplyView) → replied_alert reply ≡ None
      → P (world_reply reply (record w { up = bs }))
  pub down : (b : List ℕ) (bs : List (List ℕ)) → w.down ≡ b ∷ bs → (reply : ReplyView) → replied_alert reply ≡ None
      → P (world_reply reply (record w { down = bs }))

-- the first frame in transit, or none
pub first_on : (P : WorldOutcome → Type 0) (step : List (List ℕ) → WorldOutcome) (way : List (List ℕ)) → P (step [])
    → ((b : List ℕ) (bs : List (List ℕ)) → way ≡ b ∷ bs → P (step (b ∷ bs))) → P (step way)
first_on P step [] none each = none
first_on P step (b ∷ bs) none each = each b bs refl

module _ (w : World) (P : WorldOutcome → Type 0) (each : AtEachLoss w P) where
  up_seen : (b : List ℕ) (bs : List (List ℕ)) → w.up ≡ b ∷ bs → (r : Result FrameView TcFault)
      → P (up_damage_outcome w bs r)
  up_seen b bs is (Ok frame) = each.refused NotDetectable
  up_seen b bs is (Err fault) = each.up b bs is (Up (received_cases.Invalid fault)) refl

  down_seen : (b : List ℕ) (bs : List (List ℕ)) → w.down ≡ b ∷ bs → (r : Result telemetry.FrameView TmFault)
      → P (down_damage_outcome w bs r)
  down_seen b bs is (Ok frame) = each.refused NotDetectable
  down_seen b bs is (Err fault) = each.down b bs is (Down (heard_cases.Invalid fault)) refl

  none : P (world_refusal w NothingInTransit)
  none = each.refused NothingInTransit

  pub lost : (e : Event) → IsLoss e → P (world_step w e)
  lost events.UpLose loss = first_on P (up_lose_step w) w.up none (λ b bs is. each.up b bs is Lost refl)
  lost (events.UpDamage octets) loss = first_on P (λ bs. up_damage_step w bs octets.now) w.up none
      (λ b bs is. up_seen b bs is (command.frame_at On octets.now))
  lost events.DownLose loss = first_on P (down_lose_step w) w.down none (λ b bs is. each.down b bs is Lost refl)
  lost (events.DownDamage octets) loss = first_on P (λ bs. down_damage_step w bs octets.now) w.down none
      (λ b bs is. down_seen b bs is (telemetry_reading.frame_at w.ground_node.config.frame_length octets.now))
  lost _ loss = elim loss [ ]

-- ---- frames that are sent or arrive

module _ (w : World) (P : WorldOutcome → Type 0) where
  pulled_as : (next : GroundState) (frame : Option FrameView)
      → ((reply : ReplyView) (up : List (List ℕ)) (sent : List (List ℕ)) → replied_alert reply ≡ None
      → P (world_reply reply (record w {
        ground_node = next;
        up = up;
        session = record w.session { sent = sent };
      })))
      → P (world_after_pull w next frame)
  pulled_as next None each = each Nothing w.up w.session.sent refl
  pulled_as next (Some frame) each = each _ _ _ refl

  -- the ground is as a pull leaves it, and of the records only those of what was sent change
  pub pulled : ((reply : ReplyView) (up : List (List ℕ)) (sent : List (List ℕ)) → replied_alert reply ≡ None
      → P (world_reply reply (record w {
        ground_node = (ground_step w.ground_node ground.Pull).after;
        up = up;
        session = record w.session { sent = sent };
      })))
      → P (world_step w events.Send)
  pulled each =
      pulled_as (ground_step w.ground_node ground.Pull).after (ground_step w.ground_node ground.Pull).answer each

  pub up_arrives : P (world_refusal w NothingInTransit)
      → ((b : List ℕ) (bs : List (List ℕ)) → w.up ≡ b ∷ bs → P (up_deliver_step w (b ∷ bs)))
      → P (world_step w events.UpDeliver)
  up_arrives none each = first_on P (up_deliver_step w) w.up none each

  pub down_arrives : P (world_refusal w NothingInTransit)
      → ((b : List ℕ) (bs : List (List ℕ)) → w.down ≡ b ∷ bs → P (down_deliver_step w (b ∷ bs)))
      → P (world_step w events.DownDeliver)
  down_arrives none each = first_on P (down_deliver_step w) w.down none each

-- a CLCW arrives by itself
module _ (w : World) (P : WorldOutcome → Type 0) (each : AtEachLoss w P) where
  word_in : (b : List ℕ) (bs : List (List ℕ)) → w.down ≡ b ∷ bs
      → ((r : Result Clcw ClcwFault) → P (world_after_word w bs (report_outcome w.ground_node r)))
      → (r : Result telemetry.FrameView TmFault) → P (down_word_outcome w bs r)
  word_in b bs is uses (Ok frame) = uses (clcw_at frame.ocf)
  word_in b bs is uses (Err fault) = each.down b bs is (Down (heard_cases.Invalid fault)) refl

  pub word_arrives : ((b : List ℕ) (bs : List (List ℕ)) → w.down ≡ b ∷ bs
      → (r : Result Clcw ClcwFault) → P (world_after_word w bs (report_outcome w.ground_node r)))
      → P (world_step w events.DownClcw)
  word_arrives uses =
      first_on P (down_clcw_step w) w.down (each.refused NothingInTransit)
      (λ b bs is. word_in b bs is (uses b bs is)
      (telemetry_reading.frame_at w.ground_node.config.frame_length b))

-- the ground resumes, or refuses to
module _ (w : World) (value : ℕ) where
  pub resumes : (P : WorldOutcome → Type 0) → P (world_reply (Refused (Link NotKnown)) w)
      → ((whole : ℕ) → known_at_end w.ground_node value ≡ Some whole → can_resume w.ground_node value ≡ true
      → P (world_reply (Resumed whole) (resumed w value)))
      → P (world_step w (events.Resume value))
  resumes P refused each =
      resumed_or w.ground_node value
      (λ (o : GroundOutcome (Result ℕ LinkFault)). P (world_after_resuming w value o.answer))
      each (λ t. refused)

  -- if the ground does not refuse
  pub resumed_after : can_resume w.ground_node value ≡ true
      → (world_step w (events.Resume value)).after ≡ resumed w value
  resumed_after can =
      ap (λ (o : GroundOutcome (Result ℕ LinkFault)). (world_after_resuming w value o.answer).after)
      (resumed_known w.ground_node value can).2

-- What each kind of event may do.

-- the event removes the first frame in transit on the downlink
abbrev pub TakesDown : Event → Type 0
TakesDown events.DownDeliver = Unit {0}
TakesDown events.DownClcw = Unit {0}
TakesDown events.DownLose = Unit {0}
TakesDown (events.DownDamage octets) = Unit {0}
TakesDown _ = ⊥

-- the event brings a CLCW, in a frame or by itself
abbrev pub BringsReport : Event → Type 0
BringsReport events.DownDeliver = Unit {0}
BringsReport events.DownClcw = Unit {0}
BringsReport _ = ⊥

-- the event takes bypass packets
abbrev pub TakesBypass : Event → Type 0
TakesBypass events.TakeBypass = Unit {0}
TakesBypass _ = ⊥

-- the world after the first downlink frame arrived, with another ground
abbrev pub with_heard : World → GroundState → List (List ℕ) → World
with_heard w t down =
    record w { ground_node = t; down = down; session = session_after_report w.session w.ground_node t }

pub record AtEachStep (w : World) (e : Event) (P : World → Type 0) : Type 0 where
  -- the event is refused, or there is nothing to take
  pub same : P w
  -- the first frame in transit is removed
  pub up_gone : (b : List ℕ) (bs : List (List ℕ)) → w.up ≡ b ∷ bs → P (record w { up = bs })
  pub down_gone : (b : List ℕ) (bs : List (List ℕ)) → w.down ≡ b ∷ bs → TakesDown e → P (record w { down = bs })
  -- a frame arrives on board, a telemetry frame is sent, packets are taken, or telemetry is queued
  pub receives : e ≡ events.UpDeliver → (b : List ℕ) (bs : List (List ℕ)) → w.up ≡ b ∷ bs
      → P (record w { up = bs; spacecraft = (spacecraft_receive w.spacecraft b).after })
  pub reports : e ≡ events.Report → P (world_step w events.Report).after
  pub takes : e ≡ events.Take → (left : List PacketOn) → nat_lt (length left) w.spacecraft.config.ready_slots ≡ false
      → P (record w { spacecraft = record w.spacecraft { ready = left } })
  pub releases : e ≡ events.Take → (left : List PacketOn) → nat_lt (length left) w.spacecraft.config.ready_slots ≡ true
      → P (record w {
        spacecraft = record w.spacecraft { ready = left; farm = farm_step w.spacecraft.farm BufferReleased };
      })
  pub passes : TakesBypass e → (left : List PacketOn)
      → P (record w { spacecraft = record w.spacecraft { bypass = left } })
  pub queues : (octets : Bor (List ℕ)) → e ≡ events.Telemetry octets
      → P (record w { spacecraft = record w.spacecraft { builder = after_queue w.spacecraft.builder octets.now } })
  -- the ground accepts packets, executes a directive, resumes, counts a tick, or sends a frame if there is one
  pub submits : (m : ℕ) (octets : List ℕ) → submit_fault w.ground_node m octets ≡ None
      → P (record w {
        ground_node = after_submission w.ground_node m octets;
        session = record w.session { submissions = w.session.submissions ++ packet_on m octets ∷ [] };
      })
  pub bypasses : (m : ℕ) (octets : Bor (List ℕ)) → e ≡ events.Bypass m octets
      → bypass_fault w.ground_node m octets.now ≡ None
      → P (record w { ground_node = ground.after_bypass w.ground_node m octets.now })
  pub directs : (d : Directive) → e ≡ events.Directive d → P (directed w d)
  pub restarts : (value : ℕ) → e ≡ events.Resume value → can_resume w.ground_node value ≡ true → P (resumed w value)
  pub ticks : e ≡ events.Tick → P (record w { ground_node = (ground_step w.ground_node ground.Tick).after })
  pub sends : e ≡ events.Send → (up sent : List (List ℕ))
      → P (record w {
        ground_node = (ground_step w.ground_node ground.Pull).after;
        up = up;
        session = record w.session { sent = sent };
      })
  -- a frame or only its CLCW arrived. The extractor and the packets may differ. The sender used no CLCW, or one.
  pub hears_none : (b : List ℕ) (bs : List (List ℕ)) → w.down ≡ b ∷ bs → BringsReport e → (x : ExtractorState)
      (packets : List (List ℕ))
      → P (with_heard w (record w.ground_node { extractor = x; telemetry = packets }) bs)
  pub hears : (b : List ℕ) (bs : List (List ℕ)) → w.down ≡ b ∷ bs → BringsReport e → (x : ExtractorState)
      (packets : List (List ℕ)) (r : Clcw)
      → P (with_heard w (ground.after_report (record w.ground_node { extractor = x; telemetry = packets })
      (clcw_step w.ground_node.fop r)) bs)

module _ (w : World) (P : World → Type 0) where
  abbrev After : WorldOutcome → Type 0
  After o = P o.after

  submitted : (m : ℕ) (octets : List ℕ) → P w → (o : Option LinkFault)
      → (o ≡ None → After (world_after_submission w (packet_on m octets)
      (unless_refused None w.ground_node (after_submission w.ground_node m octets))))
      → After (world_after_submission w (packet_on m octets)
      (unless_refused o w.ground_node (after_submission w.ground_node m octets)))
  submitted m octets same None taken = taken refl
  submitted m octets same (Some fault) taken =
      subst (λ (ps : List PacketOn). P (record w { session = record w.session { submissions = ps } }))
      (sym (append-nil w.session.submissions)) same

  bypassed : (next : GroundState) → P w → (o : Option LinkFault) → (o ≡ None → P (record w { ground_node = next }))
      → After (world_after_bypass w (unless_refused o w.ground_node next))
  bypassed next same None taken = taken refl
  bypassed next same (Some fault) taken = same

  took : (ps : List PacketOn) → AtEachStep w events.Take P
      → After (world_after_take w (spacecraft_take w.spacecraft ps))
  took [] each = each.same
  took (p ∷ left) each =
      cond_both (nat_lt (length left) w.spacecraft.config.ready_slots) (farm_step w.spacecraft.farm BufferReleased)
      w.spacecraft.farm (λ farm. P (record w { spacecraft = record w.spacecraft { ready = left; farm = farm } }))
      (each.releases refl left) (each.takes refl left)

  passed : (ps : List PacketOn) → AtEachStep w events.TakeBypass P
      → After (world_after_take w (spacecraft_take_bypass w.spacecraft ps))
  passed [] each = each.same
  passed (p ∷ left) each = each.passes tt left

  left_up : (e : Event) → AtEachStep w e P → (b : List ℕ) (bs : List (List ℕ)) → w.up ≡ b ∷ bs
      → (r : Result FrameView TcFault) → After (up_damage_outcome w bs r)
  left_up e each b bs is (Ok frame) = each.same
  left_up e each b bs is (Err fault) = each.up_gone b bs is

  lost_so : (e : Event) → TakesDown e → AtEachStep w e P → AtEachLoss w After
  lost_so e down each = record {
    refused = λ fault. each.same;
    up = λ b bs is reply silent. each.up_gone b bs is;
    down = λ b bs is reply silent. each.down_gone b bs is down;
  }

  pub stepped : (e : Event) → AtEachStep w e P → After (world_step w e)
  stepped (events.Submit m octets) each =
      submitted m octets.now each.same (submit_fault w.ground_node m octets.now) (each.submits m octets.now)
  stepped (events.Bypass m octets) each =
      bypassed _ each.same (bypass_fault w.ground_node m octets.now) (each.bypasses m octets refl)
  stepped (events.Directive d) each = each.directs d refl
  stepped (events.Resume value) each = resumes w value After each.same (λ whole known can. each.restarts value refl can)
  stepped events.Send each = pulled w After (λ reply up sent silent. each.sends refl up sent)
  stepped events.UpDeliver each = up_arrives w After each.same (each.receives refl)
  stepped events.UpLose each = first_on After (up_lose_step w) w.up each.same each.up_gone
  stepped (events.UpDamage octets) each = first_on After (λ bs. up_damage_step w bs octets.now) w.up each.same
      (λ b bs is. left_up (events.UpDamage octets) each b bs is (command.frame_at On octets.now))
  stepped events.Report each = each.reports refl
  stepped events.DownDeliver each = down_arrives w After each.same (λ b bs is.
      let s : GroundState = w.ground_node in
      frame_seen s (λ t. P (with_heard w t bs)) (record {
        same = each.hears_none b bs is tt s.extractor s.telemetry;
        extracts = λ x. each.hears_none b bs is tt x.after (s.telemetry ++ x.packets);
        uses = λ x r. each.hears b bs is tt x.after (s.telemetry ++ x.packets) r;
      }) (telemetry_reading.frame_at s.config.frame_length b))
  stepped events.DownClcw each = word_arrives w After (lost_so events.DownClcw tt each) (λ b bs is.
      let s : GroundState = w.ground_node in
      report_seen s (λ t. P (with_heard w t bs)) (each.hears_none b bs is tt s.extractor s.telemetry)
      (each.hears b bs is tt s.extractor s.telemetry))
  stepped events.Tick each = each.ticks refl
  stepped events.Take each = took w.spacecraft.ready each
  stepped events.TakeBypass each = passed w.spacecraft.bypass each
  stepped (events.Telemetry octets) each =
      cond_both (is_to_send octets.now) _ _ (λ o. After (world_after_queueing w o)) (λ t. each.queues octets refl)
      (λ t. each.same)
  stepped events.DownLose each = lost w After (lost_so events.DownLose tt each) events.DownLose tt
  stepped (events.DownDamage octets) each =
      lost w After (lost_so (events.DownDamage octets) tt each) (events.DownDamage octets) tt

-- ---- what an event does to one part of the world

pub record AtEachStepOnBoard (w : World) (e : Event) (P : SpacecraftState → Type 0) : Type 0 where
  pub same : P w.spacecraft
  pub receives : e ≡ events.UpDeliver → (b : List ℕ) (bs : List (List ℕ)) → w.up ≡ b ∷ bs
      → P (spacecraft_receive w.spacecraft b).after
  pub reports : e ≡ events.Report → P (spacecraft_step w.spacecraft Report).after
  pub takes : e ≡ events.Take → (left : List PacketOn) → nat_lt (length left) w.spacecraft.config.ready_slots ≡ false
      → P (record w.spacecraft { ready = left })
  pub releases : e ≡ events.Take → (left : List PacketOn) → nat_lt (length left) w.spacecraft.config.ready_slots ≡ true
      → P (record w.spacecraft { ready = left; farm = farm_step w.spacecraft.farm BufferReleased })
  pub passes : TakesBypass e → (left : List PacketOn) → P (record w.spacecraft { bypass = left })
  pub queues : (octets : Bor (List ℕ)) → e ≡ events.Telemetry octets
      → P (record w.spacecraft { builder = after_queue w.spacecraft.builder octets.now })

pub board_after : (w : World) (P : SpacecraftState → Type 0) (e : Event) → AtEachStepOnBoard w e P
    → P (world_step w e).after.spacecraft
board_after w P e each = stepped w (λ new. P new.spacecraft) e (assumption each)

-- the ground, together with the records
pub record AtEachStepOnGround (w : World) (e : Event) (P : GroundState → Session → Type 0) : Type 0 where
  pub same : P w.ground_node w.session
  pub submits : (m : ℕ) (octets : List ℕ) → submit_fault w.ground_node m octets ≡ None
      → P (after_submission w.ground_node m octets)
      (record w.session { submissions = w.session.submissions ++ packet_on m octets ∷ [] })
  pub bypasses : (m : ℕ) (octets : Bor (List ℕ)) → e ≡ events.Bypass m octets
      → bypass_fault w.ground_node m octets.now ≡ None → P (ground.after_bypass w.ground_node m octets.now) w.session
  pub directs : (d : Directive) → e ≡ events.Directive d → P (directed w d).ground_node (directed w d).session
  pub restarts : (value : ℕ) → e ≡ events.Resume value → can_resume w.ground_node value ≡ true
      → P (resumed w value).ground_node (resumed w value).session
  pub ticks : e ≡ events.Tick → P (ground_step w.ground_node ground.Tick).after w.session
  pub sends : e ≡ events.Send → (sent : List (List ℕ))
      → P (ground_step w.ground_node ground.Pull).after (record w.session { sent = sent })
  pub hears_none : BringsReport e → (x : ExtractorState) (packets : List (List ℕ))
      → P (record w.ground_node { extractor = x; telemetry = packets })
      (session_after_report w.session w.ground_node (record w.ground_node { extractor = x; telemetry = packets }))
  pub hears : BringsReport e → (x : ExtractorState) (packets : List (List ℕ)) (r : Clcw)
      → P (ground.after_report (record w.ground_node { extractor = x; telemetry = packets })
      (clcw_step w.ground_node.fop r))
      (session_after_report w.session w.ground_node
      (ground.after_report (record w.ground_node { extractor = x; telemetry = packets })
      (clcw_step w.ground_node.fop r)))

pub ground_after : (w : World) (P : GroundState → Session → Type 0) (e : Event) → AtEachStepOnGround w e P
    → P (world_step w e).after.ground_node (world_step w e).after.session
ground_after w P e each =
    let sends : e ≡ events.Send → (up sent : List (List ℕ))
    → P (ground_step w.ground_node ground.Pull).after (record w.session { sent = sent }) =
    λ is up sent. each.sends is sent in
    stepped w (λ new. P new.ground_node new.session) e (assumption (sends, each))

-- the frames in transit on the uplink, unless a frame is sent, and on the downlink, unless a CLCW is sent
pub up_after : (w : World) (P : List (List ℕ) → Type 0) (e : Event) → e ≢ events.Send → P w.up
    → ((b : List ℕ) (bs : List (List ℕ)) → w.up ≡ b ∷ bs → P bs) → P (world_step w e).after.up
up_after w P e other same gone =
    let sends : e ≡ events.Send → (up sent : List (List ℕ)) → P up = λ is. absurd (other is) in
    stepped w (λ new. P new.up) e (assumption (sends, same, gone))

brings_down : (e : Event) → BringsReport e → TakesDown e
brings_down events.DownDeliver told = tt
brings_down events.DownClcw told = tt
brings_down _ told = elim told [ ]

pub down_after : (w : World) (P : List (List ℕ) → Type 0) (e : Event) → e ≢ events.Report → P w.down
    → (TakesDown e → (b : List ℕ) (bs : List (List ℕ)) → w.down ≡ b ∷ bs → P bs) → P (world_step w e).after.down
down_after w P e other same gone =
    let reports : e ≡ events.Report → P (world_step w events.Report).after.down = λ is. absurd (other is) in
    let lost : (b : List ℕ) (bs : List (List ℕ)) → w.down ≡ b ∷ bs → TakesDown e → P bs =
    λ b bs is t. gone t b bs is in
    let heard : (b : List ℕ) (bs : List (List ℕ)) → w.down ≡ b ∷ bs → BringsReport e → (x : ExtractorState)
    (packets : List (List ℕ)) → P bs = λ b bs is t x packets. gone (brings_down e t) b bs is in
    let told : (b : List ℕ) (bs : List (List ℕ)) → w.down ≡ b ∷ bs → BringsReport e → (x : ExtractorState)
    (packets : List (List ℕ)) (r : Clcw) → P bs = λ b bs is t x packets r. gone (brings_down e t) b bs is in
    stepped w (λ new. P new.down) e (assumption (reports, lost, heard, told, same))

-- Which events raise no alert.

-- a directive, a tick, and a CLCW that arrives may raise an alert
abbrev pub MayAlert : Event → Type 0
MayAlert (events.Directive d) = Unit {0}
MayAlert events.Tick = Unit {0}
MayAlert e = BringsReport e

abbrev IsSilent : WorldOutcome → Type 0
IsSilent o = IfOk o.answer (λ reply. replied_alert reply ≡ None)

submission_silent : (r : Result (Unit {0}) LinkFault) → replied_alert (reply_to_submission r) ≡ None
submission_silent (Ok done) = refl
submission_silent (Err fault) = refl

taking_silent : (r : Option PacketOn) → replied_alert (reply_to_taking r) ≡ None
taking_silent None = refl
taking_silent (Some packet) = refl

queueing_silent : (r : Result (Unit {0}) TmFault) → replied_alert (reply_to_telemetry r) ≡ None
queueing_silent (Ok done) = refl
queueing_silent (Err fault) = refl

pub silent : (w : World) (e : Event) → (MayAlert e → ⊥) → IsSilent (world_step w e)
silent w (events.Submit m octets) other = submission_silent (unless_refused (submit_fault w.ground_node m octets.now)
    w.ground_node (after_submission w.ground_node m octets.now)).answer
silent w (events.Bypass m octets) other = submission_silent (unless_refused (bypass_fault w.ground_node m octets.now)
    w.ground_node (ground.after_bypass w.ground_node m octets.now)).answer
silent w (events.Directive d) other = absurd (other tt)
silent w (events.Resume value) other = resumes w value IsSilent refl (λ whole known can. refl)
silent w events.Send other = pulled w IsSilent (λ reply up sent none. none)
silent w events.UpDeliver other = up_arrives w IsSilent tt (λ b bs is. refl)
silent w events.Report other = refl
silent w events.DownDeliver other = absurd (other tt)
silent w events.DownClcw other = absurd (other tt)
silent w events.Tick other = absurd (other tt)
silent w events.Take other = taking_silent (spacecraft_take w.spacecraft w.spacecraft.ready).answer
silent w events.TakeBypass other = taking_silent (spacecraft_take_bypass w.spacecraft w.spacecraft.bypass).answer
silent w (events.Telemetry octets) other = queueing_silent (spacecraft_telemetry w.spacecraft octets.now).answer
silent w e other = lost w IsSilent (record {
  refused = λ fault. tt;
  up = λ b bs is reply none. none;
  down = λ b bs is reply none. none;
}) e tt

-- if no session begins, the ground does not resume
pub not_restarted : {A : Type 0} (w : World) (e : Event) → BeginsNoSession w e → (value : ℕ) → e ≡ events.Resume value
    → can_resume w.ground_node value ≡ true → A
not_restarted w e goes value is can =
    absurd (let refused : can_resume w.ground_node value ≡ false = subst (BeginsNoSession w) is goes in
    cc (can, refused))

-- The answer if the ground refuses packets.

module _ (P : Result Reply SimFault → Type 0) where
  -- any fault except Memory is a reply
  replied : (fault : LinkFault) → fault ≢ faults.Memory → P (Ok (replies.Refused (Link fault)))
      → P (answer_to_refusal fault)
  replied faults.Memory other reply = absurd (other refl)
  replied fault other reply = reply

  -- the ground refuses for a reason or, if there is none, because memory runs out
  pub refused : {A : Type 0} (fault : LinkFault) (reason : Option LinkFault) (r : Result A LinkFault) → r ≡ Err fault
      → IfSome reason (λ f. r ≡ Err f) → (reason ≡ None → IsOkUnless r faults.Memory) → reason ≢ Some faults.Memory
      → ((IsSome reason → ⊥) → P (Err Memory)) → (reason ≡ Some fault → P (Ok (replies.Refused (Link fault))))
      → (x : Result Reply SimFault) → x ≡ answer_to_refusal fault → P x
  refused fault None r is why lacks never memory each x same =
      let lacking : fault ≡ faults.Memory = rw is at lacks refl in
      subst P (sym (same ∙ ap answer_to_refusal lacking)) (memory (λ some. cc some))
  refused fault (Some f) r is why lacks never memory each x same =
      let so : f ≡ fault = cc (is, why) in
      rw same (replied fault (λ lacking. never (cc (so, lacking))) (each (ap Some so)))

-- the reason, if there is one, is not Memory
or_else : (b : Bool) (fault : LinkFault) (reason : Option LinkFault) → fault ≢ faults.Memory
    → reason ≢ Some faults.Memory → (if b then Some fault else reason) ≢ Some faults.Memory
or_else true fault reason other rest is = other (cc is)
or_else false fault reason other rest is = rest is

pub submit_never : (s : GroundState) (m : ℕ) (octets : List ℕ) → submit_fault s m octets ≢ Some faults.Memory
submit_never s m octets =
    or_else (is_closed s.fop.state) faults.NotOpen _ (λ is. cc is)
    (or_else (not (is_open (limits_of s.config) m)) faults.ClosedMap _ (λ is. cc is)
    (or_else (not (are_commands (s.config.blocking == 1) octets)) faults.NotCommand _ (λ is. cc is)
    (or_else (is_some_over s.config.max_packet (packets_in octets)) faults.TooLong _ (λ is. cc is)
    (or_else (is_over_slots s m octets) faults.QueueFull None (λ is. cc is) (λ is. cc is)))))

pub bypass_never : (s : GroundState) (m : ℕ) (octets : List ℕ) → bypass_fault s m octets ≢ Some faults.Memory
bypass_never s m octets =
    or_else (not (is_open (limits_of s.config) m)) faults.ClosedMap _ (λ is. cc is)
    (or_else (not (are_commands false octets)) faults.NotCommand _ (λ is. cc is)
    (or_else (is_too_long (limits_of s.config) octets) faults.TooLong _ (λ is. cc is)
    (or_else (not (is_some (alone_segment s.config.part m octets))) faults.TooLong _ (λ is. cc is)
    (or_else (nat_lt s.config.queue_slots (length s.fop.bypass + 1)) faults.QueueFull None (λ is. cc is)
    (λ is. cc is)))))

-- A refused event leaves the world as it was.

abbrev Keeps : World → WorldOutcome → Type 0
Keeps w o = IfErr o.answer (λ _. o.after ≡ w)

losses : (w : World) → AtEachLoss w (Keeps w)
losses w = record {
  refused = λ fault. refl;
  up = λ b bs is reply silent. tt;
  down = λ b bs is reply silent. tt;
}

pub refused_keeps : (w : World) (event : Event) → Keeps w (world_step w event)
refused_keeps w events.Send = pulled w (Keeps w) (λ reply up sent silent. tt)
refused_keeps w events.UpDeliver = up_arrives w (Keeps w) refl (λ b bs is. tt)
refused_keeps w events.DownDeliver = down_arrives w (Keeps w) refl (λ b bs is. tt)
refused_keeps w events.UpLose = lost w (Keeps w) (losses w) events.UpLose tt
refused_keeps w (events.UpDamage octets) = lost w (Keeps w) (losses w) (events.UpDamage octets) tt
refused_keeps w events.DownLose = lost w (Keeps w) (losses w) events.DownLose tt
refused_keeps w (events.DownDamage octets) = lost w (Keeps w) (losses w) (events.DownDamage octets) tt
refused_keeps w events.DownClcw = word_arrives w (Keeps w) (losses w) (λ b bs is r. tt)
refused_keeps w (events.Resume value) = resumes w value (Keeps w) tt (λ whole known can. tt)
refused_keeps w _ = tt
