-- A link that is dead upwards: all frames are lost, and nothing is heard.
use Rattle.std.specs.Prelude.{◌≡◌, ◌≤◌, ◌⊎◌, suc, ◌-◌, length, replicate, true}
use Rattle.tc_frame.specs.Layout.{SegmentView}
use Rattle.cop1.specs.Units.{FopState}
use Rattle.nodes.specs.declared.event.Event.TheVariants as events
use Rattle.simulated_link.specs.World.{World, world_run, is_initialising}
use Rattle.tc_link.specs.Beside.{HasOctetPast}
use Rattle.tc_link.specs.Progress.{Schedule, followed_by, times, all_sent, ticks_left, AlertsIn}

abbrev pub all_lost : Schedule
all_lost w = replicate (length w.up) events.UpLose

abbrev pub timer_ends : Schedule
timer_ends w = replicate (ticks_left w.ground_node.fop.ticks) events.Tick

-- the ground sends all that its sender releases, all of it is lost, and the timer runs out
abbrev pub dead : Schedule
dead = followed_by all_sent (followed_by all_lost timer_ends)

-- the sender waits for an answer to its initiation, or to a unit that was sent
abbrev pub IsUnanswered : FopState SegmentView → Type 0
IsUnanswered f = (is_initialising f.state ≡ true) ⊎ (1 ≤ length f.sent)

-- In any session, whatever came before: suppose that the sender waits for an answer once all is
-- sent. An alert is then raised by the time the timer has run out as often as transmissions are
-- left, the one just made included.
abbrev pub EachNoticesSilence : Type 0
EachNoticesSilence =
    (w : World) → HasOctetPast w → IsUnanswered (world_run w (all_sent w)).ground_node.fop
    → AlertsIn w (times
    (suc (w.ground_node.fop.limit - (world_run w (all_sent w)).ground_node.fop.count)) dead w)
