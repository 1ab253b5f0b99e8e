-- The plain link of a session is unique, since the records and what is in transit determine it.
use Rattle.tc_link.proofs.Common.{false, inl, inr, Config, Event, GoesOnByAStep, IsEvent, World, IsSettled}
use Rattle.tc_link.proofs.Common.{BeginsNoSession, world_step, ◌≡◌, ℕ, ◌+◌, ◌/◌, ◌%◌, ◌≤◌, Bool, true, List, []}
use Rattle.tc_link.proofs.Common.{◌∷◌, map, refl, sym, subst, arith, AllByRecursion}
use Rattle.tc_link.proofs.Common.{Rises, length, take}
use Rattle.tc_link.proofs.Common.{ap, ◌∙◌, IsHistory, HasPlainHistory}
use Rattle.tc_link.proofs.Common.{IsConfig}
use Rattle.tc_link.proofs.Common.{IsIdle}
use Rattle.tc_link.proofs.Common.{SegmentView}
use Rattle.tc_link.proofs.Common.{length-take-le, length-map}
use Rattle.tc_link.proofs.Common.{segment_octets, IsNear, number_of, numbered, PlainLink, PlainRun, AtMostOneStep}
use Rattle.tc_link.proofs.Common.{new_link, more, accepted}
use Rattle.tc_link.specs.AnyPast.{LinkStep}
use Rattle.tc_link.specs.AnyPast.{IsLinkStep}
use Rattle.tc_link.specs.AnyPast.{link_step, link_run}
use Rattle.tc_link.specs.OneLink.{HistoriesAre, HasOneLink, IsUnsent, EachHasOneLink, EachGoesOnAsOne}
use Rattle.tc_link.specs.PlainLink.{PlainStep, none}
use Rattle.tc_link.specs.Beside.{LeavesSession, SessionLasts}
use Rattle.tc_link.proofs.Beside.{with_telemetry, with_bypass, beside_so}
use Rattle.tc_link.proofs.IdleStart.{InSession}
use Rattle.tc_link.proofs.InOrder.{unsettled, has_plain_history}
use Rattle.tc_link.proofs.Invariant.{late_step, Holding, step_holds}
use Rattle.tc_link.proofs.Linked.{rises_to}
use Rattle.tc_link.proofs.Sound.{Sound}
use Rattle.tc_link.proofs.Promised.{goes_on_by_a_step}
use Rattle.tc_link.proofs.AnyPast.{link_step_holds, past_holds, still_idle}

-- ---- what is in transit

-- the numbers of the pairs in transit on the uplink lie less than 256 apart
up_is_one : (b c h : ℕ) (p q : PlainLink) → b % 256 ≡ c % 256 → p.r ≡ q.r → p.n ≡ q.n → p.n ≤ p.r + h → h ≤ 127
    → (xs ys : List (ℕ × SegmentView)) → map (numbered b) xs ≡ map (numbered c) ys
    → AllByRecursion (IsNear p h) xs → AllByRecursion (IsNear q h) ys → xs ≡ ys
up_is_one b c h p q base r n most small [] [] is near_x near_y = refl
up_is_one b c h p q base r n most small (x ∷ xs) (y ∷ ys) is near_x near_y =
    let first : numbered b x ≡ numbered c y = cc in
    let rest : map (numbered b) xs ≡ map (numbered c) ys = cc in
    let number : (b + x.0) % 256 ≡ (c + y.0) % 256 = ap (λ (t : ℕ × SegmentView). t.0) first in
    let place : x.0 ≡ y.0 = omega (arith, number, base, r, n, most, small, near_x.0, near_y.0) in
    let unit : x.1 ≡ y.1 = ap (λ (t : ℕ × SegmentView). t.1) first in
    let others : xs ≡ ys = up_is_one b c h p q base r n most small xs ys rest near_x.1 near_y.1 in
    grind (arith, place, unit, others)
up_is_one b c h p q base r n most small _ _ is near_x near_y = absurd cc

-- so do the numbers in transit on the downlink
down_is_one : (b c a high low least : ℕ) → b % 256 ≡ c % 256 → high ≤ a + 127 → a ≤ low → a ≤ least
    → (vs us : List ℕ) → map (number_of b) vs ≡ map (number_of c) us → Rises low vs high → Rises least us high → vs ≡ us
down_is_one b c a high low least base small above over [] [] is up rises = refl
down_is_one b c a high low least base small above over (v ∷ vs) (u ∷ us) is up rises =
    let first : (b + v) % 256 ≡ (c + u) % 256 = cc in
    let rest : map (number_of b) vs ≡ map (number_of c) us = cc in
    let most_v : v ≤ high = rises_to v high vs up.1 in
    let most_u : u ≤ high = rises_to u high us rises.1 in
    let one : v ≡ u = omega (arith, first, base, small, above, over, up.0, rises.0, most_v, most_u) in
    ap (λ (x : ℕ). x ∷ vs) one
    ∙ ap (λ (xs : List ℕ). u ∷ xs) (down_is_one b c a high v u base small (omega (arith, above, up.0))
    (omega (arith, over, rises.0)) vs us rest up.1 rises.1)
down_is_one b c a high low least base small above over _ _ is up rises = absurd cc

none_near : (p : PlainLink) (h : ℕ) → p.n ≡ 0 → (xs : List (ℕ × SegmentView)) → AllByRecursion (IsNear p h) xs → xs ≡ []
none_near p h n [] near = refl
none_near p h n (x ∷ xs) near = absurd (omega (arith, n, near.0.0))

all_zero : (vs : List ℕ) (low : ℕ) → Rises low vs 0 → AllByRecursion (λ v. v ≡ 0) vs
all_zero [] low up = tt
all_zero (v ∷ vs) low up = (omega (arith, rises_to v 0 vs up.1), all_zero vs v up.1)

-- ---- in all worlds

module _ (w : World) (b : ℕ) (p : PlainLink) (h : IsHistory w b p) where
  pub sent_count : length w.session.sent ≡ p.n
  sent_count = ap length h.sent ∙ length-map (take p.n p.units) segment_octets ∙ length-take-le p.n p.units h.order.2

  pub accepted_count : length (accepted w) ≡ p.r
  accepted_count =
      ap length h.accepted_so
      ∙ length-map (take p.r p.units) segment_octets
      ∙ length-take-le p.r p.units (omega (arith, h.order.1, h.order.2))

  unsent : w.session.sent ≡ [] → IsUnsent p
  unsent nothing =
      let n : p.n ≡ 0 = sym sent_count ∙ ap length nothing in
      let r : p.r ≡ 0 = omega (arith, n, h.order.1) in
      record {
        a = omega (arith, r, h.order.0);
        r = r;
        n = n;
        up = none_near p (w.ground_node.config.width / 2) n p.up h.near;
        down = all_zero p.down p.a (subst (Rises p.a p.down) r h.rises);
      }

link_is : (p q : PlainLink) → p.units ≡ q.units → p.a ≡ q.a → p.r ≡ q.r → p.n ≡ q.n → p.up ≡ q.up → p.down ≡ q.down
    → p ≡ q
link_is p q units a r n up down = grind (arith, units, a, r, n, up, down)

one_link : (w : World) → IsConfig w.ground_node.config → HasOneLink w
one_link w ranges settled b c p q h k =
    let small : w.ground_node.config.width / 2 ≤ 127 = omega (arith, ranges.width) in
    let a : p.a ≡ q.a = sym h.acknowledged ∙ k.acknowledged in
    let r : p.r ≡ q.r = sym (accepted_count w b p h) ∙ accepted_count w c q k in
    let n : p.n ≡ q.n = sym (sent_count w b p h) ∙ sent_count w c q k in
    let both : (b + p.r) % 256 ≡ (c + q.r) % 256 = sym (h.vr settled) ∙ k.vr settled in
    let base : b % 256 ≡ c % 256 = omega (arith, both, r) in
    let most : p.n ≤ p.r + w.ground_node.config.width / 2 = omega (arith, h.order.0, h.window) in
    let up : p.up ≡ q.up =
    up_is_one b c (w.ground_node.config.width / 2) p q base r n most small p.up q.up (sym h.up ∙ k.up) h.near k.near in
    let high : p.r ≤ p.a + 127 = omega (arith, h.order.1, h.window, small) in
    let rises : Rises q.a q.down p.r = subst (Rises q.a q.down) (sym r) k.rises in
    let down : p.down ≡ q.down =
    down_is_one b c p.a p.r p.a q.a base high (omega arith) (omega (arith, a)) p.down q.down
    (sym (h.down settled) ∙ k.down settled) h.rises rises in
    (link_is p q (h.units ∙ sym k.units) a r n up down, base)

pub each_has_one_link : EachHasOneLink
each_has_one_link w ranges = (one_link w ranges, λ nothing base plain h. unsent w base plain h nothing)

-- ---- from one moment to the next

-- a settled session stays settled
pub settled_goes : (c : Config) (w : World) (k : Sound c w) (s : InSession c w) (e : Event) → IsEvent e → IsSettled w
    → BeginsNoSession w e → IsSettled (world_step w e).after
settled_goes c w k s e fits settled goes = elim s.session [
  | inl g ↦ absurd (unsettled c s.directive s.base w g settled)
  | inr g ↦ (
      let next = late_step c s.directive s.base w k g e fits goes in
      elim settled [
        | inl confirmed ↦ inl (next.stage.confirmed_is (g.stage.confirmed_so confirmed))
        | inr without ↦ inr (next.linked.opened ∙ sym g.linked.opened ∙ without)
      ])
]

one_in : (c : Config) (w : World) → Sound c w → HasOneLink w
one_in c w k = one_link w (subst IsConfig (sym k.ground_node.config) k.ranges)

after_step : (p q s : PlainLink) → PlainStep p q → PlainRun q s → PlainRun p s
after_step p q s step none = more none step
after_step p q s step (more ran last) = more (after_step p q _ step ran) last

on_by : (p q s : PlainLink) → AtMostOneStep p q → PlainRun q s → PlainRun p s
on_by p q s (inl same) ran = subst (λ (x : PlainLink). PlainRun x s) same ran
on_by p q s (inr step) ran = after_step p q s step ran

module _ (c : Config) where
  pub steps : (w : World) → Holding c w → IsIdle w → IsSettled w → (e : Event) → IsEvent e → BeginsNoSession w e
      → HistoriesAre AtMostOneStep w (world_step w e).after
  steps w h idle settled e fits goes b d p q was is =
      let s = h.session idle in
      let t : GoesOnByAStep w (world_step w e).after = goes_on_by_a_step c w h.sound s e fits settled goes in
      let after = settled_goes c w h.sound s e fits settled goes in
      let old = one_in c w h.sound settled t.base b t.before p t.was was in
      let new = one_in c (world_step w e).after (step_holds c w h e fits).sound after t.base d t.after q t.is is in
      let step : AtMostOneStep p t.after = subst (λ (x : PlainLink). AtMostOneStep x t.after) old.0 t.step in
      (subst (AtMostOneStep p) new.0 step, sym old.1 ∙ new.1)

  -- what leaves the session as it is leaves its history
  stays : (w new : World) → Holding c w → IsSettled w
      → ((b : ℕ) (p : PlainLink) → IsHistory new b p → IsHistory w b p) → HistoriesAre AtMostOneStep w new
  stays w new h settled back b d p q was is =
      let one = one_in c w h.sound settled b d p q was (back d q is) in (inl (sym one.0), one.1)

  bypass_back : (w : World) (u : SegmentView) (kept : Bool) (b : ℕ) (p : PlainLink)
      → IsHistory (with_bypass w u kept) b p → IsHistory w b p
  bypass_back w u true b p is = assumption is
  bypass_back w u false b p is = assumption is

  steps_on : (w : World) → Holding c w → IsIdle w → IsSettled w → (s : LinkStep) → IsLinkStep s → LeavesSession w s
      → HistoriesAre AtMostOneStep w (link_step w s) × IsSettled (link_step w s)
  steps_on w h idle settled s fits goes =
      beside_so w (λ (new : World). HistoriesAre AtMostOneStep w new × IsSettled new) s goes (record {
        happens = λ e is goes.
            let event : IsEvent e = subst IsLinkStep is fits in
            (steps w h idle settled e event goes, settled_goes c w h.sound (h.session idle) e event settled goes);
        same = (stays w w h settled (λ b p is. is), settled);
        takes = λ x packets. (stays w (with_telemetry w x packets) h settled (λ b p is. assumption is), settled);
        passes = λ u kept. (stays w (with_bypass w u kept) h settled (bypass_back w u kept), settled);
      })

  runs : (w : World) → Holding c w → IsIdle w → IsSettled w → (since : List LinkStep)
      → AllByRecursion IsLinkStep since → SessionLasts w since → HistoriesAre PlainRun w (link_run w since)
  runs w h idle settled [] fits lasts b d p q was is =
      let one = one_in c w h.sound settled b d p q was is in
      (subst (PlainRun p) one.0 none, one.1)
  runs w h idle settled (s ∷ since) fits lasts b d p q was is =
      let new : World = link_step w s in
      let holds = link_step_holds c w h s fits.0 in
      let started = still_idle w s idle lasts.0 in
      let on = steps_on w h idle settled s fits.0 lasts.0 in
      let t : HasPlainHistory new = has_plain_history c new holds.sound (holds.session started) in
      let step = on.0 b t.base p t.plain was t.is in
      let rest = runs new holds started on.1 since fits.1 lasts.1 t.base d t.plain q t.is is in
      (on_by p t.plain q step.0 rest.0, step.1 ∙ rest.1)

  ran : (w : World) → Holding c w → IsIdle w → IsSettled w → (b : ℕ) (p : PlainLink) → IsHistory w b p
      → PlainRun new_link p
  ran w h idle settled b p is =
      let t : HasPlainHistory w = has_plain_history c w h.sound (h.session idle) in
      subst (PlainRun new_link) (one_in c w h.sound settled t.base b t.plain p t.is is).0 t.ran

pub each_goes_on_as_one : EachGoesOnAsOne
each_goes_on_as_one w r idle settled =
    let h = past_holds w r in
    record {
      ran = ran r.config w h idle settled;
      steps = steps r.config w h idle settled;
      runs = runs r.config w h idle settled;
    }
