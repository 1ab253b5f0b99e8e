-- A program that continues by `Ground::resume` after each alert. In each session it submits what it
-- wants delivered, from where the previous session stopped.
use Rattle.std.specs.Prelude.{◌≡◌, ◌≢◌, ◌⊎◌, ◌<◌, ℕ, ◌+◌, ◌^◌, ◌/◌, List, [], ◌++◌, length, drop}
use Rattle.std.specs.Prelude.{flat_map}
use Rattle.std.specs.Prelude.{filter}
use Rattle.std.specs.Prelude.{◌==◌, true, Ok, Some}
use Rattle.std.specs.List.{AllByRecursion}
use Rattle.octets.specs.Beginning.{IsBeginning}
use Rattle.map_service.specs.Packets.{packets_in}
use Rattle.cop1.specs.declared.vocabulary.Directive.TheVariants.{InitWithCheck}
use Rattle.nodes.specs.Failover.{failed_over}
use Rattle.nodes.specs.Ground.{ground_step, Resume, is_closed}
use Rattle.nodes.specs.Packets.{PacketOn}
use Rattle.nodes.specs.declared.event.Event.{Event}
use Rattle.nodes.specs.declared.event.Event.TheVariants as events
use Rattle.simulated_link.specs.Replies.{Resumed}
use Rattle.simulated_link.specs.World.{World, IsIdle, is_idle, accepted, delivered, directive_of}
use Rattle.simulated_link.specs.World.{resumed}
use Rattle.simulated_link.specs.World.{world_step}
use Rattle.tc_link.specs.AnyPast.{HasAnyPast, LinkStep, IsLinkStep, link_step, link_run}
use Rattle.tc_link.specs.Beside.{LeavesSession, SessionLasts, LeavesNumbers, SetsNone, ShowsNone}
use Rattle.tc_link.specs.Confirmation.{IsChecking}
use Rattle.tc_link.specs.Fates.{whole_first}
use Rattle.tc_link.specs.Reached.{IsEvent}
use Rattle.tc_link.specs.Taken.{BeginsSession}
use Rattle.tc_link.specs.Whole.{IsOneGroup}

-- the packets of these submissions on a MAP
abbrev pub packets_on_map : List PacketOn → ℕ → List (List ℕ)
packets_on_map submissions m =
    flat_map (λ (p : PacketOn). packets_in p.octets)
    (filter (λ (p : PacketOn). p.on_map == m) submissions)

-- the ground is lost, and another is opened from its last record
abbrev pub with_another : World → World
with_another w = record w { ground_node = failed_over w.ground_node }

-- Nothing is in transit on the uplink, and only CLCWs equal to one made now are in transit on the
-- downlink. `value` is the value of a CLCW made now.
pub record IsOfNow (w : World) (value : ℕ) : Type 0 where
  pub quiet : is_idle w ≡ true
  pub small : value < 256
  pub same : value ≡ w.spacecraft.farm.vr

-- The sessions of a program that wants these submissions delivered, in this order. The arguments
-- are the link now, and what the earlier sessions have done. The number counts the submissions that
-- the earlier sessions have brought on board. The function returns what those sessions have
-- delivered on each MAP.
pub data Sessions (wanted : List PacketOn) : World → ℕ → (ℕ → List (List ℕ)) → Type 0 where
  -- the first session has an idle start, whatever came before
  first : {w : World} (initiation : Event) → HasAnyPast w → BeginsSession w initiation
      → IsEvent initiation → IsIdle (world_step w initiation).after
      → Sessions wanted (world_step w initiation).after 0 (λ m. [])
  -- The session continues with a step of the link that does not set V(S). All that was submitted in
  -- the session is wanted next, in order.
  goes_on : {w : World} {done : ℕ} {before : ℕ → List (List ℕ)} (step : LinkStep)
      → Sessions wanted w done before → LeavesSession w step → LeavesNumbers w step
      → IsLinkStep step → IsBeginning (link_step w step).session.submissions (drop done wanted)
      → Sessions wanted (link_step w step) done before
  -- the program resumes by the value of a CLCW made now, and continues after as many more
  -- submissions as `resume` returns
  resumes : {w : World} {done : ℕ} {before : ℕ → List (List ℕ)} (value more : ℕ)
      → Sessions wanted w done before → IsOfNow w value
      → (world_step w (events.Resume value)).answer ≡ Ok (Resumed more)
      → Sessions wanted (world_step w (events.Resume value)).after (done + more)
      (λ m. before m ++ delivered w m)
  -- The ground was lost, and another ground is opened from the lost ground's record. The program
  -- resumes on the new ground, and continues in the same way.
  fails_over : {w : World} {done : ℕ} {before : ℕ → List (List ℕ)} (value more : ℕ)
      → Sessions wanted w done before → IsOfNow w value
      → (world_step (with_another w) (events.Resume value)).answer ≡ Ok (Resumed more)
      → Sessions wanted (world_step (with_another w) (events.Resume value)).after (done + more)
      (λ m. before m ++ delivered w m)
  -- Nothing of the session was sent. Another session begins by an idle start, and the program
  -- continues from the same submission. Meanwhile V(S) may be set, and any alert may be raised.
  begins_anew : {w : World} {done : ℕ} {before : ℕ → List (List ℕ)} (since : List LinkStep)
      (initiation : Event) → Sessions wanted w done before → SessionLasts w since
      → AllByRecursion IsLinkStep since → (link_run w since).session.sent ≡ []
      → BeginsSession (link_run w since) initiation → IsEvent initiation
      → IsIdle (world_step (link_run w since) initiation).after
      → Sessions wanted (world_step (link_run w since) initiation).after done
      (λ m. before m ++ delivered (link_run w since) m)

-- Over all sessions together, what is delivered on each MAP is a prefix of what the program wants,
-- each packet once.
abbrev pub ResumesInOrder : Type 0
ResumesInOrder =
    (wanted : List PacketOn) (w : World) (done : ℕ) (before : ℕ → List (List ℕ)) (m : ℕ)
    → Sessions wanted w done before → length wanted < 2 ^ 64
    → AllByRecursion (IsOneGroup w.ground_node.config.part) wanted
    → IsBeginning (before m ++ delivered w m) (packets_on_map wanted m)

-- The event Resume returns what an accepted `resume` returns. Both leave what two directives leave:
-- V(S) is set to the value, and a session begins by Unlock.
pub record ResumesAs (w : World) (value more : ℕ) : Type 0 where
  pub answer : (world_step w (events.Resume value)).answer ≡ Ok (Resumed more)
  pub after : (world_step w (events.Resume value)).after ≡ resumed w value
  pub leaves : (ground_step w.ground_node (Resume value)).after ≡ (resumed w value).ground_node

abbrev pub ResumesSo : Type 0
ResumesSo =
    (w : World) (value more : ℕ) → (ground_step w.ground_node (Resume value)).answer ≡ Ok more
    → ResumesAs w value more

-- ---- whether `resume` is accepted

-- By the value of a CLCW made now, `resume` returns how many submissions are on board whole.
abbrev pub AnswersResuming : World → Type 0
AnswersResuming w =
    (world_step w (events.Resume w.spacecraft.farm.vr)).answer
    ≡ Ok (Resumed (whole_first w (length (accepted w))))

-- `resume` returns this number in S6, in any session that had an idle start, whatever came before
-- the session, confirmed or not. This holds until a directive sets V(S), and while no alert shows
-- that a condition is broken, that is, after Timer, Limit and Terminated.
abbrev pub EachAnswersResuming : Type 0
EachAnswersResuming =
    (w : World) (initiation : Event) (since : List LinkStep) → HasAnyPast w
    → BeginsSession w initiation → SessionLasts (world_step w initiation).after since
    → SetsNone (world_step w initiation).after since
    → ShowsNone (world_step w initiation).after since → IsEvent initiation
    → AllByRecursion IsLinkStep since → IsIdle (world_step w initiation).after
    → let now : World = link_run (world_step w initiation).after since in
    is_closed now.ground_node.fop.state ≡ true → AnswersResuming now

-- In each state, the same holds of another ground that is opened from this one's record.
abbrev pub EachFailsOver : Type 0
EachFailsOver =
    (w : World) (initiation : Event) (since : List LinkStep) → HasAnyPast w
    → BeginsSession w initiation → SessionLasts (world_step w initiation).after since
    → SetsNone (world_step w initiation).after since
    → ShowsNone (world_step w initiation).after since → IsEvent initiation
    → AllByRecursion IsLinkStep since → IsIdle (world_step w initiation).after
    → AnswersResuming (with_another (link_run (world_step w initiation).after since))

-- After any past, the sender's room is half the configured width, so the ground's configuration
-- accepts what is kept of it.
abbrev pub EachHasRoom : Type 0
EachHasRoom =
    (w : World) → HasAnyPast w → w.ground_node.fop.room ≡ w.ground_node.config.width / 2

-- While the link keeps its conditions, no alert shows that a condition is broken. This holds after
-- any past, in a session that had an idle start by Unlock or Set V(R). In a session that had an
-- idle start by CLCW check, the same holds once the session is confirmed.
abbrev pub ShowsNoneByItself : Type 0
ShowsNoneByItself =
    (w : World) (since : List LinkStep) → HasAnyPast w → IsIdle w → IsChecking (directive_of w)
    → (directive_of w ≢ Some InitWithCheck) ⊎ (w.session.confirmed ≡ true) → SessionLasts w since
    → AllByRecursion IsLinkStep since → ShowsNone w since
