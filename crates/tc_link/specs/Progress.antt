-- Progress: what becomes of a session once nothing more is lost on the link.
use Rattle.std.specs.Prelude.{◌≡◌, ◌<◌, ◌≤◌, ◌⊎◌, ℕ, zero, suc, ◌+◌, ◌*◌, List, [], ◌∷◌, ◌++◌}
use Rattle.std.specs.Prelude.{length, replicate, Bool, true, false, not, ◌-◌, if◌then◌else◌, Option}
use Rattle.std.specs.Prelude.{Some, None, IsSome}
use Rattle.std.specs.List.{list_all}
use Rattle.tc_frame.specs.Layout.{SegmentView}
use Rattle.cop1.specs.Units.{SentUnit}
use Rattle.cop1.specs.FopVariables.{IsActive}
use Rattle.cop1.specs.declared.vocabulary.FopMode.{FopMode}
use Rattle.cop1.specs.declared.vocabulary.FopMode.TheVariants.{S1, S4, S5}
use Rattle.nodes.specs.declared.event.Event.{Event}
use Rattle.nodes.specs.declared.event.Event.TheVariants as events
use Rattle.nodes.specs.Ground.{outstanding, is_closed}
use Rattle.simulated_link.specs.World.{World, world_step, world_run, IsIdle, submitted}
use Rattle.simulated_link.specs.World.{directive_of, is_initialising}
use Rattle.simulated_link.specs.World as records
use Rattle.tc_link.specs.Confirmation.{IsChecking}
use Rattle.tc_link.specs.FalseAlarms.{alert_in}
use Rattle.tc_link.specs.Beside.{HasOctetPast}

-- ---- a schedule: the events to come, depending on the world in which they begin

abbrev pub Schedule : Type 0
Schedule = World → List Event

-- one schedule, then another
abbrev pub followed_by : Schedule → Schedule → Schedule
followed_by first next w = first w ++ next (world_run w (first w))

-- a schedule n times, one after another
abbrev pub times : ℕ → Schedule → Schedule
times zero schedule w = []
times (suc n) schedule w = followed_by schedule (times n schedule) w

-- ---- an exchange in which nothing is lost

-- the maximum number of frames that the ground may send at once: a control command, and what it
-- holds
abbrev pub most_sent : World → ℕ
most_sent w = suc (length w.ground_node.fop.bypass + length (outstanding w.ground_node))

-- the ground sends all that its sender releases
abbrev pub all_sent : Schedule
all_sent w = replicate (most_sent w) events.Send

-- the packets that are ready on board are taken
abbrev pub all_taken : Schedule
all_taken w = replicate (length w.spacecraft.ready) events.Take

abbrev pub next_arrived : Schedule
next_arrived w = events.UpDeliver ∷ []

-- each frame in transit on the uplink arrives, once the packets that are ready are taken
abbrev pub all_arrived : Schedule
all_arrived w = times (length w.up) (followed_by all_taken next_arrived) w

abbrev pub reported : Schedule
reported w = events.Report ∷ []

-- each CLCW in transit on the downlink arrives
abbrev pub all_heard : Schedule
all_heard w = replicate (length w.down) events.DownDeliver

abbrev pub ticks_left : Option ℕ → ℕ
ticks_left None = 0
ticks_left (Some left) = left

-- each unit of a sent queue must be retransmitted
abbrev pub are_marked : List (SentUnit SegmentView) → Bool
are_marked sent = list_all (λ (u : SentUnit SegmentView). u.marked) sent

-- the sender waits for an answer: the session is not confirmed, or a unit was sent, is not
-- acknowledged, and need not be retransmitted
abbrev pub awaits : FopMode → (marked : Bool) → Bool
awaits S4 marked = true
awaits S5 marked = true
awaits _ marked = not marked

-- the timer runs out if the sender waits
abbrev pub timer_run_out : Schedule
timer_run_out w =
    if awaits w.ground_node.fop.state (are_marked w.ground_node.fop.sent)
    then replicate (ticks_left w.ground_node.fop.ticks) events.Tick else []

-- The ground sends all that its sender releases. Each frame arrives, and the packets are taken. The
-- spacecraft reports, and each CLCW arrives.
abbrev pub round_trip : Schedule
round_trip =
    followed_by all_sent
    (followed_by all_arrived (followed_by all_taken (followed_by reported all_heard)))

-- one exchange: a round trip, after which the timer runs out if the sender waits for an answer
abbrev pub exchange : Schedule
exchange = followed_by round_trip timer_run_out

-- ---- progress

-- one of the events is answered with an alert
abbrev pub AlertsIn : World → List Event → Type 0
AlertsIn w [] = ⊥
AlertsIn w (event ∷ more) =
    IsSome (alert_in (world_step w event).answer) ⊎ AlertsIn (world_step w event).after more

-- The sender is in S1 with nothing outstanding. In a session that had an idle start, everything
-- submitted is delivered.
pub record IsDone (before w : World) : Type 0 where
  pub active : w.ground_node.fop.state ≡ S1
  pub nothing : outstanding w.ground_node ≡ []
  pub delivered : IsIdle before → (m : ℕ) → records.delivered w m ≡ submitted w m

-- If at most n windows of units are outstanding, n + 1 exchanges end with an alert, or all is done
-- (`IsDone`).
abbrev pub MakesProgress : World → Type 0
MakesProgress w =
    (n : ℕ) → length (outstanding w.ground_node) ≤ n * w.ground_node.fop.window
    → AlertsIn w (times (suc n) exchange w) ⊎ IsDone w (world_run w (times (suc n) exchange w))

-- this holds wherever a run leads, in any session, while the sender is in S1 to S3
abbrev pub EachMakesProgress : Type 0
EachMakesProgress =
    (w : World) → HasOctetPast w → IsActive w.ground_node.fop.state → MakesProgress w

-- Unless an alert is raised, each exchange after the first acknowledges all outstanding units, or
-- as many as the window has room for.
abbrev pub EachAcknowledges : Type 0
EachAcknowledges =
    (w : World) → HasOctetPast w → IsActive w.ground_node.fop.state
    → AlertsIn w (times 2 exchange w)
    ⊎ (length (outstanding (world_run w (times 2 exchange w)).ground_node)
    ≤ length (outstanding (world_run w (times 1 exchange w)).ground_node)
    - w.ground_node.fop.window)

-- Consider a session that had an idle start by CLCW check, Unlock or Set V(R). If the sender is in
-- S1 to S3 and its transmission count is below the limit, no alert is raised. Everything submitted
-- is then delivered.
abbrev pub EachIsDelivered : Type 0
EachIsDelivered =
    (w : World) → HasOctetPast w → IsIdle w → IsActive w.ground_node.fop.state
    → IsChecking (directive_of w) → w.ground_node.fop.count < w.ground_node.fop.limit
    → (n : ℕ) → length (outstanding w.ground_node) ≤ n * w.ground_node.fop.window
    → (AlertsIn w (times (suc n) exchange w) → ⊥)
    × IsDone w (world_run w (times (suc n) exchange w))

-- Before the confirmation, in S4 and S5, exchanges end with an alert, or with the sender in S1 to
-- S3. The number of exchanges is at most one more than the number of transmissions left.
abbrev pub EachBegins : Type 0
EachBegins =
    (w : World) → HasOctetPast w → is_initialising w.ground_node.fop.state ≡ true
    → (m : ℕ) × (m ≤ suc (w.ground_node.fop.limit - w.ground_node.fop.count))
    × (AlertsIn w (times m exchange w)
    ⊎ IsActive (world_run w (times m exchange w)).ground_node.fop.state)

-- In any state except S6, some number of exchanges therefore ends with an alert, or all is done.
abbrev pub EachEnds : Type 0
EachEnds =
    (w : World) → HasOctetPast w → is_closed w.ground_node.fop.state ≡ false
    → (m : ℕ) × (AlertsIn w (times m exchange w) ⊎ IsDone w (world_run w (times m exchange w)))
