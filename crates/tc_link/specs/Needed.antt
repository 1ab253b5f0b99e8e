-- Each condition of a link is needed: these runs show what goes wrong if one is not kept. Within a
-- session, more may happen on the link of these runs than `AnyPast` allows.
use Rattle.std.specs.Prelude.{◌≡◌, ◌≢◌, ℕ, zero, suc, List, [], ◌∷◌, ◌++◌, take, drop, Bool, true}
use Rattle.std.specs.Prelude.{Some, map, option_map}
use Rattle.std.specs.Borrow.{Bor}
use Rattle.tc_frame.specs.declared.frame.Check.TheVariants.{On}
use Rattle.tc_frame.specs.declared.frame.SegmentFlags.TheVariants.{Alone}
use Rattle.tc_frame.specs.Layout.{Ad}
use Rattle.tc_frame.specs.Encoding.{spelling}
use Rattle.map_service.specs.Cutting.{segment_with}
use Rattle.cop1.specs.declared.vocabulary.Directive.{Directive}
use Rattle.cop1.specs.declared.vocabulary.Directive.TheVariants.{InitWithoutCheck, InitUnlock}
use Rattle.cop1.specs.declared.vocabulary.Directive.TheVariants.{InitSetVr, SetVs, Terminate}
use Rattle.cop1.specs.declared.vocabulary.FopMode.TheVariants.{S1}
use Rattle.nodes.specs.declared.config.Config.{Config}
use Rattle.nodes.specs.Ground.{outstanding, frame_of, ground_step, new_ground}
use Rattle.nodes.specs.Ground as ground_calls
use Rattle.nodes.specs.Packets.{packet_on}
use Rattle.nodes.specs.Parameters.{default_config}
use Rattle.nodes.specs.Spacecraft.{new_spacecraft, spacecraft_step}
use Rattle.nodes.specs.Spacecraft as spacecraft_calls
use Rattle.nodes.specs.declared.event.Event.{Event}
use Rattle.nodes.specs.declared.event.Event.TheVariants as events
use Rattle.simulated_link.specs.declared.session_start.Opening.{Opening}
use Rattle.simulated_link.specs.World.{World, world_step, new_world, world_after_submission}
use Rattle.simulated_link.specs.World.{world_after_queueing, submitted, delivered}
use Rattle.simulated_link.specs.World.{directive_of, IsIdle}
use Rattle.tc_link.specs.Seen.{Part, Seen}

-- ---- a link on which more may happen

pub data LooseStep : Type 0 where
  -- an event happens
  Happens : (event : Event) → LooseStep
  -- a packet is submitted on MAP 4, or a packet of telemetry is queued on board
  Submits : (octets : List ℕ) → LooseStep
  Queues : (octets : List ℕ) → LooseStep
  -- the second frame in transit on the uplink, or on the downlink, overtakes the first
  UpOvertakes : LooseStep
  DownOvertakes : LooseStep
  -- a frame of another sender joins the uplink
  UpJoins : (octets : List ℕ) → LooseStep
  -- the spacecraft, or the ground, restarts
  Restarts : LooseStep
  GroundRestarts : LooseStep

-- what is in transit, with the first two frames exchanged
abbrev pub overtaken : List (List ℕ) → List (List ℕ)
overtaken (first ∷ (second ∷ more)) = second ∷ (first ∷ more)
overtaken few = few

-- the world after one of these steps, and after several
abbrev pub loose_step : World → LooseStep → World
loose_step w (Happens event) = (world_step w event).after
loose_step w (Submits octets) =
    (world_after_submission w (packet_on 4 octets)
    (ground_step w.ground_node (ground_calls.Submit 4 octets))).after
loose_step w (Queues octets) =
    (world_after_queueing w
    (spacecraft_step w.spacecraft (spacecraft_calls.Telemetry octets))).after
loose_step w UpOvertakes = record w { up = overtaken w.up }
loose_step w DownOvertakes = record w { down = overtaken w.down }
loose_step w (UpJoins octets) = record w { up = w.up ++ octets ∷ [] }
loose_step w Restarts = record w { spacecraft = new_spacecraft w.spacecraft.config }
loose_step w GroundRestarts = record w { ground_node = new_ground w.ground_node.config }

abbrev pub loose_run : World → List LooseStep → World
loose_run w [] = w
loose_run w (step ∷ more) = loose_run (loose_step w step) more

-- two new nodes, each with its own configuration
abbrev pub two_new : (below on_board : Config) → World
two_new below on_board = record (new_world below) { spacecraft = new_spacecraft on_board }

-- ---- what goes wrong

-- All seems well: the sender is Active with nothing outstanding. `idle` states whether or not the
-- session had an idle start. In the session, on MAP 4, the packets `these` were submitted, and the
-- packets `those` were delivered.
pub record EndsWith (w : World) (idle : Bool) (these those : List (List ℕ)) : Type 0 where
  pub active : w.ground_node.fop.state ≡ S1
  pub nothing : outstanding w.ground_node ≡ []
  pub start : option_map (λ (o : Opening). o.idle) w.session.opening ≡ Some idle
  pub submitted : submitted w 4 ≡ these
  pub delivered : delivered w 4 ≡ those

-- the receiver is in Lockout, in a session that began by Unlock with an idle start
pub record IsFalseAlarm (w : World) : Type 0 where
  pub idle : IsIdle w
  pub directive : directive_of w ≡ Some InitUnlock
  pub locked : w.spacecraft.farm.lockout ≡ true

-- no step of the run submits these octets
abbrev pub IsNeverSubmitted : List ℕ → List LooseStep → Type 0
IsNeverSubmitted octets [] = Unit {0}
IsNeverSubmitted octets (Submits other ∷ more) = (other ≢ octets) × IsNeverSubmitted octets more
IsNeverSubmitted octets (step ∷ more) = IsNeverSubmitted octets more

-- ---- the configuration, the packets

-- the smallest window, and a timer that runs out at the first tick
abbrev pub small : Config
small = record default_config { width = 2; window = 1; timer = 1; frame_length = 16 }

-- a sender's window of one more than half the width
abbrev pub wide : Config
wide = record small { window = 2 }

-- a ground that puts at most seven octets into a segment
abbrev pub parted : Config
parted = record small { part = 7 }

-- a spacecraft on which no MAP is open
abbrev pub closed : Config
closed = record small { maps = 0 }

-- a ground that may put several packets into one segment
abbrev pub blocking : Config
blocking = record small { blocking = 1 }

abbrev pub command : List ℕ
command = 0x10 ∷ 0x05 ∷ 0xc0 ∷ 0 ∷ 0 ∷ 0 ∷ 0xaa ∷ []

abbrev pub another : List ℕ
another = 0x10 ∷ 0x05 ∷ 0xc0 ∷ 0x01 ∷ 0 ∷ 0 ∷ 0xbb ∷ []

-- two commands, each of which a ground with the configuration `parted` cuts into two segments
abbrev pub long : List ℕ
long = 0x10 ∷ 0x05 ∷ 0xc0 ∷ 0 ∷ 0 ∷ 1 ∷ 0x01 ∷ 0xa1 ∷ []

abbrev pub long_later : List ℕ
long_later = 0x10 ∷ 0x05 ∷ 0xc0 ∷ 1 ∷ 0 ∷ 1 ∷ 0x02 ∷ 0xb2 ∷ []

-- two packets of telemetry, each of which fills two frames
abbrev pub queued : List ℕ
queued = 0 ∷ 0x05 ∷ 0xc0 ∷ 0 ∷ 0 ∷ 1 ∷ 0xaa ∷ 0xaa ∷ []

abbrev pub queued_later : List ℕ
queued_later = 0 ∷ 0x05 ∷ 0xc0 ∷ 1 ∷ 0 ∷ 1 ∷ 0xbb ∷ 0xbb ∷ []

-- ---- the runs

-- a directive is given to the ground
abbrev pub begins : Directive → LooseStep
begins directive = Happens (events.Directive directive)

-- a frame that is sent and arrives, and a CLCW that is made and arrives
abbrev pub up : List LooseStep
up = Happens events.Send ∷ (Happens events.UpDeliver ∷ [])

abbrev pub down : List LooseStep
down = Happens events.Report ∷ (Happens events.DownDeliver ∷ [])

-- a frame that is sent and lost, and this many lost CLCWs
abbrev pub up_lost : List LooseStep
up_lost = Happens events.Send ∷ (Happens events.UpLose ∷ [])

abbrev pub down_lost : ℕ → List LooseStep
down_lost zero = []
down_lost (suc n) = Happens events.Report ∷ (Happens events.DownLose ∷ down_lost n)

-- A frame out of order. The timer sends Set V(R) twice, and the second one arrives after the
-- command. The ground retransmits the command, because no CLCW arrived.
abbrev pub frame_overtaken : List LooseStep
frame_overtaken =
    begins (InitSetVr 0) ∷ Happens events.Send ∷ Happens events.Tick ∷ up ++ down
    ++ Submits command ∷ Happens events.Send ∷ UpOvertakes ∷ Happens events.UpDeliver
    ∷ Happens events.UpDeliver ∷ Happens events.Tick ∷ up ++ down

-- A CLCW out of order. A CLCW that was made before Set V(R) arrived is delivered after a CLCW that
-- was made later.
abbrev pub report_overtaken : List LooseStep
report_overtaken =
    begins (InitSetVr 255) ∷ Happens events.Report ∷ up ++ Happens events.Report ∷ DownOvertakes
    ∷ Happens events.DownDeliver ∷ Submits command ∷ up_lost ++ Happens events.DownDeliver ∷ []

-- No idle start: a frame of the previous session is in transit on the uplink.
abbrev pub frame_left : List LooseStep
frame_left =
    begins InitWithoutCheck ∷ Submits another ∷ Happens events.Send ∷ begins Terminate
    ∷ begins (SetVs 0) ∷ begins InitWithoutCheck ∷ Submits command ∷ up
    ++ Happens events.UpDeliver ∷ down

-- No idle start: a frame with the first part of a command is in transit on the uplink, and this
-- command is no longer wanted. On board, the second part of the next command is joined to this
-- first part.
abbrev pub part_left : List LooseStep
part_left =
    begins InitWithoutCheck ∷ Submits long ∷ Happens events.Send ∷ begins Terminate
    ∷ begins (SetVs 0) ∷ begins InitWithoutCheck ∷ Submits long_later ∷ up
    ++ Happens events.UpDeliver ∷ down ++ up ++ down

-- the first segment of one command, and the second segment of the other
abbrev pub mixed : List ℕ
mixed = take 7 long ++ drop 7 long_later

-- No idle start: a CLCW of the previous session is in transit on the downlink.
abbrev pub report_left : List LooseStep
report_left =
    begins InitWithoutCheck ∷ Submits another ∷ up ++ Happens events.Report ∷ begins Terminate
    ∷ begins (InitSetVr 0) ∷ up ++ begins Terminate ∷ begins InitWithoutCheck ∷ Submits command
    ∷ up_lost ++ Happens events.DownDeliver ∷ []

-- No check, and V(S) one below V(R).
abbrev pub other_number : List LooseStep
other_number = begins (SetVs 255) ∷ begins InitWithoutCheck ∷ Submits command ∷ up ++ down

-- A second sender on the channel. Damage that the FECF does not show has the same effect.
abbrev pub second_sender : List LooseStep
second_sender =
    begins InitWithoutCheck ∷ Submits command ∷ up_lost
    ++ UpJoins (spelling On (frame_of small (Ad 0 (segment_with Alone 4 another))))
    ∷ Happens events.UpDeliver ∷ down

-- The spacecraft restarts, with V(R) = 0.
abbrev pub restarted : List LooseStep
restarted =
    begins (InitSetVr 255) ∷ up ++ down ++ Submits command ∷ up_lost ++ Restarts ∷ down

-- The ground restarts while a frame that it sent before is in transit on the uplink.
abbrev pub ground_restarted : List LooseStep
ground_restarted =
    begins InitWithoutCheck ∷ Submits another ∷ Happens events.Send ∷ GroundRestarts
    ∷ begins InitWithoutCheck ∷ Submits command ∷ up ++ Happens events.UpDeliver ∷ down

-- Two runs for nodes that are not configured alike. One submits the command, and the other submits
-- both commands together.
abbrev pub one_sent : List LooseStep
one_sent = begins InitWithoutCheck ∷ Submits command ∷ up ++ down

abbrev pub both_sent : List LooseStep
both_sent = begins InitWithoutCheck ∷ Submits (command ++ another) ∷ up ++ down

-- A sender's window of one more than half the width. Of two frames, the first is lost.
abbrev pub over_the_window : List LooseStep
over_the_window =
    begins InitUnlock ∷ up ++ down ++ Submits command ∷ up_lost ++ Submits another ∷ up

-- 256 telemetry frames are lost in a row. The first has the second half of a packet, 254 have idle
-- data, and the last has the first half of another packet.
abbrev pub frames_lost : List LooseStep
frames_lost =
    Queues queued ∷ down ++ down_lost 255 ++ Queues queued_later ∷ down_lost 1 ++ down

-- the first half of one packet, and the second half of the other
abbrev pub joined : List ℕ
joined = take 4 queued ++ drop 4 queued_later

-- ---- what a program sees if it resumes by another value than that of a CLCW made in time

abbrev pub lent : List ℕ → Bor (List ℕ)
lent octets = record { ref_ptr = (0, 0); now = octets }

-- The command is lost. The program resumes by 1, as if the command had arrived. The session that
-- begins is never confirmed. The program then resumes by the value of a CLCW, which is 0, and
-- continues after the command.
abbrev pub resumed_by_another : List Event
resumed_by_another =
    events.Directive InitUnlock ∷ events.Send ∷ events.UpDeliver ∷ events.Report
    ∷ events.DownDeliver ∷ events.Submit 4 (lent command) ∷ events.Send ∷ events.UpLose
    ∷ events.Directive Terminate ∷ events.Resume 1 ∷ events.Directive Terminate ∷ events.Report
    ∷ events.DownLose ∷ events.Resume 0 ∷ events.Send ∷ events.UpDeliver ∷ events.Report
    ∷ events.DownDeliver ∷ events.Submit 4 (lent another) ∷ events.Send ∷ events.UpDeliver
    ∷ events.Take ∷ []

-- The value is too old. The program gives up while the command is in transit. The CLCW that arrives
-- next was made before the command arrived, and the program resumes by its value, which is 0. The
-- session that begins is never confirmed. The program then resumes by the value of a CLCW made now,
-- which is 1, and submits the command again.
abbrev pub resumed_too_early : List Event
resumed_too_early =
    events.Directive InitUnlock ∷ events.Send ∷ events.UpDeliver ∷ events.Report
    ∷ events.DownDeliver ∷ events.Submit 4 (lent command) ∷ events.Send ∷ events.Directive Terminate
    ∷ events.Report ∷ events.UpDeliver ∷ events.DownDeliver ∷ events.Resume 0
    ∷ events.Directive Terminate ∷ events.Report ∷ events.DownDeliver ∷ events.Resume 1
    ∷ events.Send ∷ events.UpDeliver ∷ events.Report ∷ events.DownDeliver
    ∷ events.Submit 4 (lent command) ∷ events.Send ∷ events.UpDeliver ∷ events.Take ∷ events.Take
    ∷ []

-- a session that submitted these packets on MAP 4, after the first `from` wanted submissions
abbrev pub part_of : ℕ → List (List ℕ) → Part
part_of from packets = record { from = from; submissions = map (packet_on 4) packets }

-- Each session began after silence and submitted the next wanted command. Both commands are wanted,
-- and yet only the second was taken.
pub record SkipsTheFirst (s : Seen) : Type 0 where
  pub idle : s.idle ≡ true
  pub parts : s.before ++ s.session ∷ []
      ≡ part_of 0 [] ∷ part_of 0 (command ∷ []) ∷ part_of 1 [] ∷ part_of 1 (another ∷ []) ∷ []
  pub taken : s.taken ≡ packet_on 4 another ∷ []

-- Each session began after silence and submitted the next wanted command. One command is wanted,
-- and yet it was taken twice.
pub record TakesTwice (s : Seen) : Type 0 where
  pub idle : s.idle ≡ true
  pub parts : s.before ++ s.session ∷ []
      ≡ part_of 0 [] ∷ part_of 0 (command ∷ []) ∷ part_of 0 [] ∷ part_of 0 (command ∷ []) ∷ []
  pub taken : s.taken ≡ packet_on 4 command ∷ packet_on 4 command ∷ []
