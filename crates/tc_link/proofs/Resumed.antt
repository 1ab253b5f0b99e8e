-- A program that resumes after each alert has a prefix of what it wants delivered.
use Rattle.tc_link.proofs.Common.{◌≡◌, ℕ, ◌+◌, ◌%◌, ◌<◌, ◌≤◌, true, List, [], ◌∷◌, ◌++◌, length, take, drop, Some}
use Rattle.tc_link.proofs.Common.{Result, Ok, refl, ap, sym, subst, ◌∙◌, arith, length-append, length-map}
use Rattle.tc_link.proofs.Common.{take-append-drop, AllByRecursion, Opening, length-drop, option_map, SetVs}
use Rattle.tc_link.proofs.Common.{InitUnlock, is_closed, Config, GroundState, PacketOn, Event, World, world_step}
use Rattle.tc_link.proofs.Common.{IsIdle, IsEvent, session_begun_by}
use Rattle.tc_link.proofs.Common.{delivered, accepted, GroundOutcome}
use Rattle.std.specs.Prelude.{◌^◌, ◌/◌, ◌==◌, ◌&&◌, is_some, None, Option}
use Rattle.std.specs.List.{flat_map, filter, list_all}
use Rattle.std.proofs.lemmas.Bool.{cond_both}
use Rattle.std.proofs.Math.Seq.{take-add}
use Rattle.std.proofs.lemmas.List.{take-append-le, nil_from_length}
use Rattle.std.proofs.lemmas.List.Concat.{flat_map-append}
use Rattle.std.proofs.lemmas.List.Elements.{filter-append}
use Rattle.octets.specs.Beginning.{IsBeginning}
use Rattle.map_service.specs.Packets.{packets_in}
use Rattle.nodes.specs.Ground.{ground_step, Resume, can_resume, known_on_board, known_at_end, resumed_from}
use Rattle.nodes.specs.Ground.{ground_resume}
use Rattle.nodes.specs.Failover.{failed_over}
use Rattle.nodes.proofs.Failover.{each_goes_on}
use Rattle.nodes.proofs.Resuming.{known_kept}
use Rattle.nodes.specs.declared.fault.LinkFault.{LinkFault}
use Rattle.nodes.specs.declared.event.Event.TheVariants as events
use Rattle.simulated_link.specs.World.{Session, is_idle, is_none, reports_as, report_now, world_after_resuming}
use Rattle.tc_link.proofs.AnyPast.{past_holds, run_idle, link_push, link_run_holds}
use Rattle.tc_link.proofs.Promised.{promised_so}
use Rattle.tc_link.proofs.OneLink.{sent_count, accepted_count}
use Rattle.std.proofs.Math.Seq.{drop-length}
use Rattle.tc_link.proofs.Common.{append-nil, segment_octets}
use Rattle.simulated_link.specs.World.{assembled_on}
use Rattle.tc_link.proofs.Fates.{knows_fates, since_begun, knows_at}
use Rattle.tc_link.proofs.InOrder.{has_plain_history}
use Rattle.tc_link.proofs.Invariant.{Holding, step_holds, began_at, begun_session, can_off}
use Rattle.tc_link.proofs.Sound.{all_push}
use Rattle.tc_link.specs.AnyPast.{HasAnyPast, LinkStep, Happens, NewGround, IsLinkStep, link_run, link_step}
use Rattle.tc_link.specs.Beside.{LeavesSession, SessionLasts, LeavesNumbers, SetsNone}
use Rattle.tc_link.specs.Fates.{KnowsOnBoard, whole_first}
use Rattle.tc_link.specs.Resumed.{EachAnswersResuming}
use Rattle.tc_link.specs.Resumed.{packets_on_map, Sessions, first, goes_on, resumes, fails_over}
use Rattle.tc_link.specs.Resumed.{begins_anew, ResumesInOrder, with_another, EachFailsOver, EachHasRoom}
use Rattle.tc_link.specs.Resumed.{ResumesSo}
use Rattle.tc_link.specs.Taken.{BeginsSession}
use Rattle.tc_link.specs.Whole.{on_board, IsOneGroup, AreSingle, DeliversWhole}
use Rattle.tm_link.specs.Decoding as telemetry_reading
use Rattle.simulated_link.specs.Replies.{Resumed}
use Rattle.map_service.proofs.Groups.{behind-each}

-- ---- lists of submissions

packets_append : (xs ys : List PacketOn) (m : ℕ)
    → packets_on_map (xs ++ ys) m ≡ packets_on_map xs m ++ packets_on_map ys m
packets_append xs ys m =
    ap (flat_map (λ (p : PacketOn). packets_in p.octets)) (filter-append (λ (p : PacketOn). p.on_map == m) xs ys)
    ∙ flat_map-append (λ (p : PacketOn). packets_in p.octets) (filter (λ (p : PacketOn). p.on_map == m) xs)
    (filter (λ (p : PacketOn). p.on_map == m) ys)

pub all_of_front : {X : Type 0} (P : X → Type 0) (xs ys : List X) → AllByRecursion P (xs ++ ys) → AllByRecursion P xs
all_of_front P [] ys all = tt
all_of_front P (x ∷ xs) ys all = (all.0, all_of_front P xs ys all.1)

-- ---- a run with one more event

lasts_push : (w : World) (steps : List LinkStep) (s : LinkStep) → SessionLasts w steps
    → LeavesSession (link_run w steps) s → SessionLasts w (steps ++ s ∷ [])
lasts_push w [] s lasts goes = (goes, tt)
lasts_push w (x ∷ xs) s lasts goes = (lasts.0, lasts_push (link_step w x) xs s lasts.1 goes)

sets_push : (w : World) (steps : List LinkStep) (s : LinkStep) → SetsNone w steps
    → LeavesNumbers (link_run w steps) s → SetsNone w (steps ++ s ∷ [])
sets_push w [] s quiet goes = (goes, tt)
sets_push w (x ∷ xs) s quiet goes = (quiet.0, sets_push (link_step w x) xs s quiet.1 goes)

pub past_push : (c : Config) (w : World) (p : HasAnyPast w) → p.config ≡ c → (s : LinkStep) → IsLinkStep s
    → (q : HasAnyPast (link_step w s)) × (q.config ≡ c)
past_push c w p is s fits = (
  record {
    config = p.config;
    ranges = p.ranges;
    steps = p.steps ++ s ∷ [];
    numbers = all_push IsLinkStep p.steps s p.numbers fits;
    led = link_push _ p.steps s ∙ ap (λ (x : World). link_step x s) p.led;
  },
  is,
)

past_run : (c : Config) (w : World) (p : HasAnyPast w) → p.config ≡ c → (steps : List LinkStep)
    → AllByRecursion IsLinkStep steps → (q : HasAnyPast (link_run w steps)) × (q.config ≡ c)
past_run c w p is [] fits = (p, is)
past_run c w p is (s ∷ steps) fits =
    let q = past_push c w p is s fits.0 in past_run c (link_step w s) q.0 q.1 steps fits.1

-- ---- a session that continues

pub record Began (c : Config) (w : World) : Type 0 where
  start : World
  initiation : Event
  since : List LinkStep
  past : HasAnyPast start
  config : past.config ≡ c
  begins : BeginsSession start initiation
  lasts : SessionLasts (world_step start initiation).after since
  quiet : SetsNone (world_step start initiation).after since
  fits : IsEvent initiation
  numbers : AllByRecursion IsLinkStep since
  idle : IsIdle (world_step start initiation).after
  led : link_run (world_step start initiation).after since ≡ w

-- the session has submitted what is wanted next
pub record Leads (c : Config) (wanted : List PacketOn) (w : World) (done : ℕ) : Type 0 where
  pub began : Began c w
  pub submits : IsBeginning w.session.submissions (drop done wanted)

module _ (c : Config) (w : World) (l : Began c w) where
  past_now : (q : HasAnyPast w) × (q.config ≡ c)
  past_now =
      let p = past_push c l.start l.past l.config (Happens l.initiation) l.fits in
      let q = past_run c (world_step l.start l.initiation).after p.0 p.1 l.since l.numbers in
      subst (λ (x : World). (q : HasAnyPast x) × (q.config ≡ c)) l.led q

  holds_now : Holding c w
  holds_now = subst (λ (x : Config). Holding x w) past_now.1 (past_holds w past_now.0)

  pub idle_now : IsIdle w
  idle_now = subst IsIdle l.led (run_idle (world_step l.start l.initiation).after l.since l.idle l.lasts)

  knows_now : w.ground_node.fates.kept ≡ true → KnowsOnBoard w
  knows_now =
      let now : World = link_run (world_step l.start l.initiation).after l.since in
      subst (λ (x : World). x.ground_node.fates.kept ≡ true → KnowsOnBoard x) l.led
      (knows_at l.past.config l.start now l.initiation
      (since_begun l.start l.initiation l.since l.past l.begins l.lasts l.quiet l.fits l.numbers l.idle))

  config_now : w.ground_node.config ≡ c
  config_now = holds_now.sound.ground_node.config

  -- with one more step
  pub began_on : (s : LinkStep) → LeavesSession w s → LeavesNumbers w s → IsLinkStep s → Began c (link_step w s)
  began_on s goes quiet fits =
      let at : World = (world_step l.start l.initiation).after in
      record {
        start = l.start;
        initiation = l.initiation;
        since = l.since ++ s ∷ [];
        past = l.past;
        config = l.config;
        begins = l.begins;
        lasts = lasts_push at l.since s l.lasts (subst (λ (x : World). LeavesSession x s) (sym l.led) goes);
        quiet = sets_push at l.since s l.quiet (subst (λ (x : World). LeavesNumbers x s) (sym l.led) quiet);
        fits = l.fits;
        numbers = all_push IsLinkStep l.since s l.numbers fits;
        idle = l.idle;
        led = link_push at l.since s ∙ ap (λ (x : World). link_step x s) l.led;
      }

pub began_first : (c : Config) (w : World) (p : HasAnyPast w) → p.config ≡ c → (e : Event) → BeginsSession w e
    → IsEvent e → IsIdle (world_step w e).after → Began c (world_step w e).after
began_first c w p is e begins fits idle = record {
  start = w;
  initiation = e;
  since = [];
  past = p;
  config = is;
  begins = begins;
  lasts = tt;
  quiet = tt;
  fits = fits;
  numbers = tt;
  idle = idle;
  led = refl;
}

-- ---- the ground resumes

-- in S6 it is known as at any other time
pub known_now : (s : GroundState) (value more : ℕ) → known_at_end s value ≡ Some more
    → known_on_board s value ≡ Some more
known_now s value more =
    cond_both (is_closed s.fop.state) (known_on_board s value) None
    (λ (o : Option ℕ). o ≡ Some more → known_on_board s value ≡ Some more) (λ off known. known)
    (λ on known. absurd (cc known))

-- the answer of `resume` is what is known then
answered_known : (s : GroundState) (value more : ℕ) → (ground_resume s value).answer ≡ Ok more
    → known_at_end s value ≡ Some more
answered_known s value more = known (known_at_end s value) refl where
  known : (o : Option ℕ) → known_at_end s value ≡ o → (resumed_from s value o).answer ≡ Ok more
      → known_at_end s value ≡ Some more
  known (Some whole) is answered = is ∙ ap Some (let same : whole ≡ more = cc answered in same)
  known None is answered = absurd (cc answered)

pub resumes_so : ResumesSo
resumes_so w value more answered =
    let s : GroundState = w.ground_node in
    let is : ground_resume s value ≡ resumed_from s value (Some more) =
    ap (resumed_from s value) (answered_known s value more answered) in
    record {
      answer = ap (λ (o : GroundOutcome (Result ℕ LinkFault)). (world_after_resuming w value o.answer).answer) is;
      after = ap (λ (o : GroundOutcome (Result ℕ LinkFault)). (world_after_resuming w value o.answer).after) is;
      leaves = ap (λ (o : GroundOutcome (Result ℕ LinkFault)). o.after) is;
    }

-- the link answers what the ground answers
answered_by : (w : World) (value more : ℕ) (r : Result ℕ LinkFault)
    → (world_after_resuming w value r).answer ≡ Ok (Resumed more) → r ≡ Ok more
answered_by w value more r is = grind (arith, is)

-- the ground answers what it knows
pub answer_is : (s : GroundState) (value more : ℕ) → (ground_resume s value).answer ≡ Ok more
    → known_on_board s value ≡ Some more
answer_is s value more answered = known_now s value more (answered_known s value more answered)

module _ (c : Config) (wanted : List PacketOn) (w : World) (done : ℕ) (l : Leads c wanted w done)
    (small : length wanted < 2 ^ 64) where
  few : length w.session.submissions < 2 ^ 64
  few =
      omega (arith, ap length l.submits.1, length-append w.session.submissions l.submits.0, length-drop done wanted)

  pub board_most : on_board w ≤ length w.session.submissions
  board_most =
      omega (arith, length-map {A = PacketOn} {B = ℕ})

  -- as many more as are on board
  more_known : (value more : ℕ) → value ≡ w.spacecraft.farm.vr → known_on_board w.ground_node value ≡ Some more
      → more ≡ on_board w
  more_known value more is known =
      let said = knows_now c w l.began (known_kept w.ground_node value more known) in
      let same : Some more ≡ Some (on_board w % 2 ^ 64) =
      sym known ∙ ap (known_on_board w.ground_node) is ∙ said in
      let counted : more ≡ on_board w % 2 ^ 64 = cc same in
      omega (arith, counted, few, board_most)

  pub more_is : (value more : ℕ) → value ≡ w.spacecraft.farm.vr
      → (ground_step w.ground_node (Resume value)).answer ≡ Ok more → more ≡ on_board w
  more_is value more is answered = more_known value more is (answer_is w.ground_node value more answered)

  -- another ground answers the same
  more_over : (value more : ℕ) → value ≡ w.spacecraft.farm.vr
      → (ground_step (failed_over w.ground_node) (Resume value)).answer ≡ Ok more → more ≡ on_board w
  more_over value more is answered =
      more_known value more is
      (sym ((each_goes_on w.ground_node).known value) ∙ answer_is (failed_over w.ground_node) value more answered)

  module _ (single : AllByRecursion (IsOneGroup c.part) wanted) (whole : DeliversWhole w) where
    single_now : AreSingle w
    single_now =
        rw (config_now c w l.began)
        (all_of_front (IsOneGroup c.part) w.session.submissions l.submits.0
        (subst (AllByRecursion (IsOneGroup c.part)) l.submits.1 (behind-each (IsOneGroup c.part) done wanted single)))

    -- what is delivered belongs to the submissions that are wanted next
    delivered_is : (m : ℕ) → delivered w m ≡ packets_on_map (take (on_board w) (drop done wanted)) m
    delivered_is m =
        let front : take (on_board w) (drop done wanted) ≡ take (on_board w) w.session.submissions =
        ap (take (on_board w)) l.submits.1
        ∙ take-append-le (on_board w) w.session.submissions l.submits.0 board_most in
        whole.exactly single_now m ∙ ap (λ (ps : List PacketOn). packets_on_map ps m) (sym front)

    given_on : (before : ℕ → List (List ℕ)) (m : ℕ) → before m ≡ packets_on_map (take done wanted) m
        → before m ++ delivered w m ≡ packets_on_map (take (done + on_board w) wanted) m
    given_on before m given =
        ap (λ ps. ps ++ delivered w m) given
        ∙ ap (λ ps. packets_on_map (take done wanted) m ++ ps) (delivered_is m)
        ∙ sym (packets_append (take done wanted) (take (on_board w) (drop done wanted)) m)
        ∙ ap (λ (ps : List PacketOn). packets_on_map ps m) (sym (take-add done (on_board w) wanted))

    prefix : (before : ℕ → List (List ℕ)) (m : ℕ) → before m ≡ packets_on_map (take done wanted) m
        → IsBeginning (before m ++ delivered w m) (packets_on_map wanted m)
    prefix before m given =
        let k : ℕ = done + on_board w in (
          packets_on_map (drop k wanted) m,
          ap (λ (ps : List PacketOn). packets_on_map ps m) (sym (take-append-drop k wanted))
              ∙ packets_append (take k wanted) (drop k wanted) m
              ∙ ap (λ ps. ps ++ packets_on_map (drop k wanted) m) (sym (given_on before m given)),
        )

-- ---- the next session

-- with V(S) set to an octet, the link is as idle as before
pub set_idle : (c : Config) (w : World) → Holding c w → (value : ℕ) → value < 256 → is_idle w ≡ true
    → is_idle (world_step w (events.Directive (SetVs value))).after ≡ true
set_idle c w h value octet_is quiet =
    let set : World = (world_step w (events.Directive (SetVs value))).after in
    let config : set.ground_node.config ≡ w.ground_node.config =
    (step_holds c w h (events.Directive (SetVs value)) octet_is).sound.ground_node.config
    ∙ sym h.sound.ground_node.config in
    ap (λ (x : Config). is_none w.up && list_all (λ (octets : List ℕ). reports_as (report_now w)
    (telemetry_reading.frame_at x.frame_length octets)) w.down) config ∙ quiet

module _ (c : Config) (wanted : List PacketOn) (w : World) (done : ℕ) (l : Leads c wanted w done) (value more : ℕ)
    (quiet : is_idle w ≡ true) (octet_is : value < 256)
    (answered : (ground_step w.ground_node (Resume value)).answer ≡ Ok more) where
  can : can_resume w.ground_node value ≡ true
  can = ap is_some (answered_known w.ground_node value more answered)

  abbrev set : World
  set = (world_step w (events.Directive (SetVs value))).after

  begun_so : (world_step w (events.Resume value)).after.session ≡ session_begun_by set InitUnlock
  begun_so = begun_session w (events.Resume value) (record {
    start = set;
    directive = InitUnlock;
    initiates = refl;
    closed = let off = can_off w.ground_node value can in rw off refl;
    is = (resumes_so w value more answered).after;
  })

  leads_resumed : Leads c wanted (world_step w (events.Resume value)).after (done + more)
  leads_resumed =
      let p = past_now c w l.began in
      let idle : IsIdle (world_step w (events.Resume value)).after =
      ap (λ (s : Session). option_map (λ (o : Opening). o.idle) s.opening) begun_so
      ∙ ap Some (set_idle c w (holds_now c w l.began) value octet_is quiet) in
      record {
        began = began_first c w p.0 p.1 (events.Resume value) can octet_is idle;
        submits = (
          drop (done + more) wanted,
          sym (ap (λ (s : Session). s.submissions ++ drop (done + more) wanted) begun_so),
        );
      }

-- ---- the ground is lost, and another resumes: a new one, in which V(S) is set and which begins by Unlock

module _ (c : Config) (wanted : List PacketOn) (w : World) (done : ℕ) (l : Leads c wanted w done) (value more : ℕ)
    (quiet : is_idle w ≡ true) (octet_is : value < 256)
    (answered : (ground_step (failed_over w.ground_node) (Resume value)).answer ≡ Ok more) where
  abbrev taken_over : List LinkStep
  taken_over = NewGround ∷ Happens (events.Directive (SetVs value)) ∷ []

  abbrev at_value : World
  at_value = link_run w taken_over

  abbrev by_unlock : World
  by_unlock = (world_step at_value (events.Directive InitUnlock)).after

  is_begun : (world_step (with_another w) (events.Resume value)).after ≡ by_unlock
  is_begun = (resumes_so (with_another w) value more answered).after

  leads_over : Leads c wanted (world_step (with_another w) (events.Resume value)).after (done + more)
  leads_over =
      let p = past_now c w l.began in
      let q = past_run c w p.0 p.1 taken_over (tt, (octet_is, tt)) in
      let idle : IsIdle by_unlock = ap Some quiet in
      subst (λ (x : World). Leads c wanted x (done + more)) (sym is_begun) (record {
        began = began_first c at_value q.0 q.1 (events.Directive InitUnlock) (refl, refl) tt idle;
        submits = (drop (done + more) wanted, refl);
      })

-- ---- another session, if nothing of this one was sent

module _ (c : Config) (w : World) (h : Holding c w) (idle : IsIdle w) (none : w.session.sent ≡ []) (m : ℕ) where
  -- nothing of it was accepted
  none_accepted : drop w.session.before w.spacecraft.accepted ≡ []
  none_accepted =
      let p = has_plain_history c w h.sound (h.session idle) in
      nil_from_length (drop w.session.before w.spacecraft.accepted)
      (omega (
        arith,
        ap length none,
        sent_count w p.base p.plain p.is,
        accepted_count w p.base p.plain p.is,
        length-map (drop w.session.before w.spacecraft.accepted) segment_octets,
        p.is.order.1,
      ))

  none_delivered : delivered w m ≡ []
  none_delivered =
      let all = w.spacecraft.accepted in
      let same : take w.session.before all ≡ all =
      sym (append-nil (take w.session.before all))
      ∙ ap (λ xs. take w.session.before all ++ xs) (sym none_accepted)
      ∙ take-append-drop w.session.before all in
      ap (λ xs. drop (length (assembled_on w m xs)) (assembled_on w m all)) same ∙ drop-length (assembled_on w m all)

module _ (c : Config) (wanted : List PacketOn) (w : World) (done : ℕ) (l : Leads c wanted w done)
    (since : List LinkStep) (numbers : AllByRecursion IsLinkStep since) where
  abbrev later : World
  later = link_run w since

  later_holds : Holding c later
  later_holds = link_run_holds c since w numbers (holds_now c w l.began)

  later_idle : SessionLasts w since → IsIdle later
  later_idle lasts = run_idle w since (idle_now c w l.began) lasts

  leads_anew : (initiation : Event) → BeginsSession later initiation → IsEvent initiation
      → IsIdle (world_step later initiation).after → Leads c wanted (world_step later initiation).after done
  leads_anew initiation begins fits idle =
      let p = past_now c w l.began in
      let q = past_run c w p.0 p.1 since numbers in
      let s = begun_session later initiation (began_at later initiation begins) in
      record {
        began = began_first c later q.0 q.1 initiation begins fits idle;
        submits = (drop done wanted, sym (ap (λ (s : Session). s.submissions ++ drop done wanted) s));
      }

-- ---- all sessions

abbrev config_of : {wanted : List PacketOn} {w : World} {done : ℕ} {before : ℕ → List (List ℕ)}
    → Sessions wanted w done before → Config
config_of (first initiation past begins fits idle) = past.config
config_of (goes_on step s goes quiet fits submits) = config_of s
config_of (resumes value more s now answered) = config_of s
config_of (fails_over value more s now answered) = config_of s
config_of (begins_anew since initiation s lasts numbers none begins fits idle) = config_of s

leads : {wanted : List PacketOn} {w : World} {done : ℕ} {before : ℕ → List (List ℕ)}
    (s : Sessions wanted w done before) → Leads (config_of s) wanted w done
leads {wanted} (first {w} initiation past begins fits idle) = record {
  began = began_first past.config w past refl initiation begins fits idle;
  submits =
      let s = begun_session w initiation (began_at w initiation begins) in
      (wanted, sym (ap (λ (s : Session). s.submissions ++ wanted) s));
}
leads {wanted} (goes_on {w} {done} step s goes quiet fits submits) =
    record { began = began_on (config_of s) w (leads s).began step goes quiet fits; submits = submits }
leads {wanted} (resumes {w} {done} value more s now answered) =
    leads_resumed (config_of s) wanted w done (leads s) value more now.quiet now.small
    (answered_by w value more (ground_step w.ground_node (Resume value)).answer answered)
leads {wanted} (fails_over {w} {done} value more s now answered) =
    leads_over (config_of s) wanted w done (leads s) value more now.quiet now.small
    (answered_by (with_another w) value more (ground_step (failed_over w.ground_node) (Resume value)).answer answered)
leads {wanted} (begins_anew {w} {done} since initiation s lasts numbers none begins fits idle) =
    leads_anew (config_of s) wanted w done (leads s) since numbers initiation begins fits idle

module _ (wanted : List PacketOn) (small : length wanted < 2 ^ 64) (m : ℕ) where
  whole_now : {w : World} {done : ℕ} {before : ℕ → List (List ℕ)} (s : Sessions wanted w done before) → DeliversWhole w
  whole_now {w} {done} s =
      let l = leads s in
      let c : Config = config_of s in
      (promised_so c w (holds_now c w l.began) (idle_now c w l.began)).whole

  given : {w : World} {done : ℕ} {before : ℕ → List (List ℕ)} (s : Sessions wanted w done before)
      → AllByRecursion (IsOneGroup (config_of s).part) wanted → before m ≡ packets_on_map (take done wanted) m
  given (first initiation past begins fits idle) single = refl
  given (goes_on step s goes quiet fits submits) single = given s single
  given (resumes {w} {done} {before} value more s now answered) single =
      let c : Config = config_of s in
      let count = more_is c wanted w done (leads s) small value more now.same
      (answered_by w value more (ground_step w.ground_node (Resume value)).answer answered) in
      given_on c wanted w done (leads s) small single (whole_now s) before m (given s single)
      ∙ ap (λ (k : ℕ). packets_on_map (take (done + k) wanted) m) (sym count)
  given (fails_over {w} {done} {before} value more s now answered) single =
      let c : Config = config_of s in
      let count = more_over c wanted w done (leads s) small value more now.same
      (answered_by (with_another w) value more (ground_step (failed_over w.ground_node) (Resume value)).answer answered)
      in
      given_on c wanted w done (leads s) small single (whole_now s) before m (given s single)
      ∙ ap (λ (k : ℕ). packets_on_map (take (done + k) wanted) m) (sym count)
  given (begins_anew {w} {done} {before} since initiation s lasts numbers none begins fits idle) single =
      let c : Config = config_of s in
      let l = leads s in
      ap (λ ps. before m ++ ps)
      (none_delivered c (link_run w since) (later_holds c wanted w done l since numbers)
      (later_idle c wanted w done l since numbers lasts) none m)
      ∙ append-nil (before m) ∙ given s single

pub resumes_in_order : ResumesInOrder
resumes_in_order wanted w done before m s small single =
    let c : Config = config_of s in
    let l = leads s in
    let own : AllByRecursion (IsOneGroup c.part) wanted =
    subst (λ (x : Config). AllByRecursion (IsOneGroup x.part) wanted) (config_now c w l.began) single in
    prefix c wanted w done l small own (whole_now wanted small m s) before m (given wanted small m s own)

-- ---- whether it resumes

-- the link answers what the ground knows
resuming_answer : (w : World) (value more : ℕ) → is_closed w.ground_node.fop.state ≡ true
    → known_on_board w.ground_node value ≡ Some more
    → (world_step w (events.Resume value)).answer ≡ Ok (Resumed more)
resuming_answer w value more off known =
    let s : GroundState = w.ground_node in
    let at_end : known_at_end s value ≡ Some more = rw off known in
    ap (λ (o : Option ℕ). (world_after_resuming w value (resumed_from s value o).answer).answer) at_end

pub each_answers_resuming : EachAnswersResuming
each_answers_resuming w e since r b lasts quiet none fits numbers idle off =
    let now : World = link_run (world_step w e).after since in
    resuming_answer now now.spacecraft.farm.vr (whole_first now (length (accepted now))) off
    ((knows_fates w e since r b lasts quiet fits numbers idle).1 none)

-- ---- and whether another ground resumes that is opened from its record

pub each_fails_over : EachFailsOver
each_fails_over w e since r b lasts quiet none fits numbers idle =
    let now : World = link_run (world_step w e).after since in
    let value : ℕ = now.spacecraft.farm.vr in
    resuming_answer (with_another now) value (whole_first now (length (accepted now))) refl
    ((each_goes_on now.ground_node).known value ∙ (knows_fates w e since r b lasts quiet fits numbers idle).1 none)

pub each_has_room : EachHasRoom
each_has_room w p =
    let s = (past_holds w p).sound.ground_node in
    s.fop.room ∙ ap (λ (c : Config). c.width / 2) (sym s.config)
