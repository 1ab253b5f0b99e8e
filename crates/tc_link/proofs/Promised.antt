-- What a world that a run leads to promises, whatever came before. A session's plain link is unique.
use Rattle.tc_link.proofs.Common.{false, inl, inr, Config, Event, GoesOnByAStep, IsEvent, World, IsSettled}
use Rattle.tc_link.proofs.Common.{BeginsNoSession, world_step, ◌≡◌, ℕ, ◌+◌, ◌-◌, ◌/◌, ◌%◌, ◌≤◌, Bool, List, []}
use Rattle.tc_link.proofs.Common.{◌∷◌, map, Some, refl, sym, subst, arith, ◌==◌, AllByRecursion, cond_both, eqb-false}
use Rattle.tc_link.proofs.Common.{Clcw, Directive, is_closed, WereAccepted, Rises, ◌<◌, get_or, length, take, ◌++◌}
use Rattle.tc_link.proofs.Common.{Result, Ok, Err, OnOk, ap, ◌∙◌, SimFault, ConfirmsExactly, IsHistory, HasPlainHistory}
use Rattle.tc_link.proofs.Common.{IsConfig, IsPromised, IsPromisedOf, AllReadable, IsReached, SimState, sim_run}
use Rattle.tc_link.proofs.Common.{new_world, world_run, IsClean, IsIdle, directive_of, IsChecking, HasNoFalseAlarm}
use Rattle.std.proofs.Common.{OnErr}
use Rattle.std.proofs.lemmas.List.{take_more}
use Rattle.tc_link.specs.Accepted.{SaysHowMany, SaysWhatWasAccepted}
use Rattle.tc_link.specs.InTransit.{values_down}
use Rattle.tc_link.specs.Promises.{HoldsAt, HoldsThroughout}
use Rattle.tc_link.proofs.IdleStart.{InSession, in_session}
use Rattle.tc_link.proofs.InOrder.{is_history, unsettled, ends_as, said_is, were_accepted, accepted_length}
use Rattle.tc_link.proofs.InOrder.{settled_as, is_in_order, has_plain_history}
use Rattle.tc_link.proofs.Whole.{delivers_whole}
use Rattle.tc_link.proofs.Invariant.{late_step, Holding, reached_holds, new_holds, run_holds}
use Rattle.tc_link.proofs.Known.{moves_with_records}
use Rattle.tc_link.proofs.Linked.{Next, In, kept_of, DownIs, rises_to}
use Rattle.tc_link.proofs.Sound.{step_sound, Sound, all_push}
use Rattle.tc_link.proofs.Readable.{accepts_no_more, all_readable}
use Rattle.tc_link.proofs.InTransit.{reports_of, keeps_to_window, is_confirmed_exactly}
use Rattle.tc_link.proofs.Confirmation.{has_no_false_alarm, confirms_exactly}

-- An event takes the run of a settled session's plain link on by at most one step.

pub goes_on_by_a_step : (c : Config) (w : World) (k : Sound c w) (s : InSession c w) (e : Event) → IsEvent e
    → IsSettled w → BeginsNoSession w e → GoesOnByAStep w (world_step w e).after
goes_on_by_a_step c w k s e fits settled goes = elim s.session [
  | inl g ↦ absurd (unsettled c s.directive s.base w g settled)
  | inr g ↦ (
      let new : World = (world_step w e).after in
      let next : Next false c s.directive s.base g.plain new =
      late_step c s.directive s.base w k g e fits goes in
      record {
        base = s.base;
        before = g.plain;
        ran = g.ran;
        was = is_history false c s.directive s.base w g k;
        after = next.plain;
        step = next.ran;
        is = is_history false c s.directive s.base new next (step_sound c w k e fits);
      })
]

-- What the CLCWs in transit show of the segments that are not acknowledged.

-- each value lies between what is acknowledged and what was accepted
each_value : (P : ℕ → Type 0) (base a r low : ℕ)
    → ((value v : ℕ) → value ≡ (base + v) % 256 → a ≤ v → v ≤ r → P value) → (rs : List Clcw) (vs : List ℕ)
    → a ≤ low → DownIs base rs vs → Rises low vs r → AllByRecursion P (map (λ (r : Clcw). r.value) rs)
each_value P base a r low each [] [] above down up = tt
each_value P base a r low each (c ∷ cs) (v ∷ vs) above down up =
    let high : v ≤ r = rises_to v r vs up.1 in (
      each c.value v down.0 (omega (arith, above, up.0)) high,
      each_value P base a r v each cs vs (omega (arith, above, up.0)) down.1 up.1,
    )
each_value P base a r low each _ _ above down up = elim down [ ]

module _ (c : Config) (w : World) (k : Sound c w) (early : Bool) (d : Directive) (base : ℕ) (g : In early c d base w)
  where
    half_most : c.width / 2 ≤ 127
    half_most = omega (arith, k.ranges.width)

    were : (i : ℕ) → g.plain.a + i ≤ g.plain.r → WereAccepted w i
    were = were_accepted early c d base w g k

    -- if V(S) is NN(R), the CLCW shows that none was accepted beyond the acknowledged ones
    none_said : w.ground_node.fop.vs ≡ w.ground_node.fop.nn → (value : ℕ) → SaysHowMany w value
    none_said one value =
        let s = w.ground_node.fop in (
          0,
          cond_both (s.vs == s.nn) (Some 0) _ (λ o. o ≡ Some 0) (λ t. refl) (λ t. absurd (eqb-false _ _ t one)),
          were 0 (omega (arith, g.linked.a_r)),
        )

    how_many : (value v : ℕ) → value ≡ (base + v) % 256 → g.plain.a ≤ v → v ≤ g.plain.r → SaysHowMany w value
    how_many value v is low high = elim (kept_of (is_closed w.ground_node.fop.state) _ _ _ _ _ _ _ _ g.linked.held) [
      | inl both ↦ (
        v - g.plain.a,
        said_is early c d base w g half_most both value v is low high,
        were (v - g.plain.a) (omega (arith, low, high)),
      )
      | inr one ↦ none_said one value
    ]

    each_down : IsSettled w → AllByRecursion (SaysHowMany w) (values_down w)
    each_down settled =
        let l = g.linked in
        let down_is = (settled_as early c d base w g settled).down_is in
        subst (λ (rs : List Clcw). AllByRecursion (SaysHowMany w) (map (λ (r : Clcw). r.value) rs))
        (sym (reports_of c w g.reports k.ground_node.config l.reporting)) (each_value (SaysHowMany w) base g.plain.a
        g.plain.r g.plain.a how_many g.reports g.plain.down (omega arith) down_is l.rises)

    says : SaysWhatWasAccepted w
    says =
        let l = g.linked in
        record {
          each = each_down;
          now = λ settled still. (
            g.plain.r - g.plain.a,
            said_is early c d base w g half_most (ends_as early c d base w g still) w.spacecraft.farm.vr
                g.plain.r (settled_as early c d base w g settled).vr_is l.a_r (omega arith),
            omega (arith, accepted_length early c d base w g k, l.acked_is, l.a_r),
          );
          no_more = accepts_no_more c w k;
        }

-- What a world that a run leads to promises.

module _ (c : Config) (w : World) (h : Holding c w) where
  readable_so : AllReadable w
  readable_so = all_readable c w h.sound h.carried h.reports

  pub promised_so : IsIdle w → IsPromised w
  promised_so is =
      let s = h.session is in
      record {
        in_order = is_in_order c w h.sound s;
        whole = delivers_whole c w h.sound s;
        history = has_plain_history c w h.sound s;
        window = keeps_to_window c w h.sound s;
        confirmed = is_confirmed_exactly c w h.sound s;
        says = in_session s (λ early g. says c w h.sound early s.directive s.base g);
      }

  pub promised_of_so : (e : Event) → IsEvent e → IsIdle w → IsPromisedOf w e
  promised_of_so e fits is =
      let s = h.session is in
      record {
        history = goes_on_by_a_step c w h.sound s e fits;
        numbers = moves_with_records c w h e fits is;
        confirms = λ checking. confirms_exactly c w h.sound s checking e;
        no_false_alarm = λ checking. has_no_false_alarm c w h.sound s checking e fits;
      }

  pub holds_so : (e : Event) → IsEvent e → HoldsAt w e
  holds_so e fits = record {
    clean = λ is. (promised_so (h.clean is), promised_of_so e fits (h.clean is));
    from_idle = λ is. (promised_so is, promised_of_so e fits is);
    clean_is_idle = h.clean;
    readable = readable_so;
  }

-- a session that began clean had an idle start
pub idle_of : (w : World) → IsReached w → IsClean w → IsIdle w
idle_of w r is = (reached_holds w r).clean is

pub readable_of : (w : World) → IsReached w → AllReadable w
readable_of w r = readable_so r.config w (reached_holds w r)

pub promised : (w : World) → IsReached w → IsIdle w → IsPromised w
promised w r is = promised_so r.config w (reached_holds w r) is

pub promised_of : (w : World) (e : Event) → IsReached w → IsEvent e → IsIdle w → IsPromisedOf w e
promised_of w e r fits is = promised_of_so r.config w (reached_holds w r) e fits is

-- ---- how worlds are reached

pub run_append : (w : World) (es fs : List Event) → world_run w (es ++ fs) ≡ world_run (world_run w es) fs
run_append w [] fs = refl
run_append w (e ∷ es) fs = run_append (world_step w e).after es fs

pub reached_step : (w : World) (e : Event) → IsReached w → IsEvent e → IsReached (world_step w e).after
reached_step w e r fits = record {
  config = r.config;
  ranges = r.ranges;
  events = r.events ++ e ∷ [];
  octets = all_push IsEvent r.events e r.octets fits;
  led = run_append (new_world r.config) r.events (e ∷ []) ∙ ap (λ x. (world_step x e).after) r.led;
}

pub reached_run : (c : Config) (events : List Event) → IsConfig c → AllByRecursion IsEvent events
    → IsReached (world_run (new_world c) events)
reached_run c events ranges all = record { config = c; ranges = ranges; events = events; octets = all; led = refl }

-- ---- as a call leaves it

-- what is promised of a call that lets an event happen, in a session that had an idle start
pub record IsPromisedCall (w new : World) (e : Event) : Type 0 where
  pub history : IsSettled w → BeginsNoSession w e → GoesOnByAStep w new
  pub confirms : IsChecking (directive_of w) → ConfirmsExactly w new
  pub no_false_alarm : IsChecking (directive_of w) → HasNoFalseAlarm w e

module _ {A : Type 0} (w new : World) (e : Event) where
  pub reached_after : (r : Result A SimFault) → IsReached w → IsEvent e → OnOk r (new ≡ (world_step w e).after)
      → OnErr r (new ≡ w) → IsReached new
  reached_after (Ok x) reached fits ok err = subst IsReached (sym ok) (reached_step w e reached fits)
  reached_after (Err fault) reached fits ok err = subst IsReached (sym err) reached

  confirmed_after : (r : Result A SimFault) → OnOk r (new ≡ (world_step w e).after) → OnErr r (new ≡ w)
      → ConfirmsExactly w (world_step w e).after → ConfirmsExactly w new
  confirmed_after (Ok x) ok err confirms = subst (ConfirmsExactly w) (sym ok) confirms
  confirmed_after (Err fault) ok err confirms =
      λ not_yet now. absurd (let same : new.session.confirmed ≡ w.session.confirmed =
      ap (λ (x : World). x.session.confirmed) err in cc)

  -- a refused event leaves the plain link where it is
  stepped_after : (r : Result A SimFault) → OnOk r (new ≡ (world_step w e).after) → OnErr r (new ≡ w)
      → HasPlainHistory w → GoesOnByAStep w (world_step w e).after → GoesOnByAStep w new
  stepped_after (Ok x) ok err now step = subst (GoesOnByAStep w) (sym ok) step
  stepped_after (Err fault) ok err now step = record {
    base = now.base;
    before = now.plain;
    ran = now.ran;
    was = now.is;
    after = now.plain;
    step = inl refl;
    is = subst (λ (x : World). IsHistory x now.base now.plain) (sym err) now.is;
  }

  pub promised_after : (r : Result A SimFault) → OnOk r (new ≡ (world_step w e).after) → OnErr r (new ≡ w)
      → HasPlainHistory w → IsPromisedOf w e → IsPromisedCall w new e
  promised_after r ok err now promises = record {
    history = λ settled goes. stepped_after r ok err now (promises.history settled goes);
    confirms = λ checking. confirmed_after r ok err (promises.confirms checking);
    no_false_alarm = promises.no_false_alarm;
  }

-- ---- at each event of a run

parts : (before : List Event) (e : Event) (after : List Event) → AllByRecursion IsEvent (before ++ e ∷ after)
    → AllByRecursion IsEvent before × IsEvent e
parts [] e after all = (tt, all.0)
parts (x ∷ xs) e after all = let t = parts xs e after all.1 in ((all.0, t.0), t.1)

pub holds_throughout : (c : Config) (events : List Event) → IsConfig c → AllByRecursion IsEvent events
    → HoldsThroughout c events
holds_throughout c events ranges all before after e split =
    let t = parts before e after (subst (AllByRecursion IsEvent) split all) in
    let holds = run_holds c before (new_world c) t.0 (new_holds c ranges) in
    holds_so c (world_run (new_world c) before) holds e t.1

pub reached_by : (c : Config) (events : List Event) (s : SimState) → s ≡ sim_run c events → IsConfig c
    → AllByRecursion IsEvent events → IsReached s.world
reached_by c events s ran ranges all =
    subst (λ (s : SimState). IsReached s.world) (sym ran) (reached_run c events ranges all)

-- one more event of a run is seen
pub one_more : (events : List Event) (i : ℕ) (d : Event) → i < length events → AllByRecursion IsEvent (take i events)
    → IsEvent (get_or events i d) → AllByRecursion IsEvent (take (i + 1) events)
one_more events i d lt all is =
    subst (AllByRecursion IsEvent) (sym (take_more events i d lt))
    (all_push IsEvent (take i events) (get_or events i d) all is)
