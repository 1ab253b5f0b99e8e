-- What the ground sends, and a frame that arrives on board or does not, keep what holds in a
-- session.
use Rattle.tc_link.proofs.Common.{◌≡◌, ℕ, ◌⊎◌, inl, inr, Bool, true, false, refl, ◌∙◌, Command, Unlock, SetVr}
use Rattle.tc_link.proofs.Common.{SegmentView, Bc, FarmMode, Open, Wait, Directive, InitWithCheck, InitUnlock}
use Rattle.tc_link.proofs.Common.{InitSetVr, FarmState, after_unlock, after_set_vr, after_release, SpacecraftState}
use Rattle.tc_link.proofs.Common.{body_outcome, bypass_outcome, ◌+◌, ◌-◌, ◌/◌, ◌%◌, ◌<◌, ◌≤◌, arith, ◌==◌, nat_lt}
use Rattle.tc_link.proofs.Common.{cond_both, eqb-true, eqb-false, ltb-true, ltb-false, ahead_by, verdict_of, Verdict}
use Rattle.tc_link.proofs.Common.{Accepted, Ahead, NoBuffer, Outside, ◌*◌, max, List, [], ◌∷◌, ◌++◌, take, drop, Some}
use Rattle.tc_link.proofs.Common.{Result, Ok, ap, sym, subst, slice_get, eq-eqb, drop-append-le, TcFault, On, BodyView}
use Rattle.tc_link.proofs.Common.{Ad, Bd, after_verdict, Config, is_kept, frame_outcome, sequence_outcome}
use Rattle.tc_link.proofs.Common.{is_free, frame_of, World, up_deliver_step, Rises, length, farm_step, BufferReleased}
use Rattle.tc_link.proofs.Common.{PacketOn, map, option_to_list, AllByRecursion, ne_eqb, append-nil, map-append}
use Rattle.tc_link.proofs.Common.{length-take-le, segment_octets, Control, Idle, Due, Sent, FopMode, S5, units_of}
use Rattle.tc_link.proofs.Common.{PulledUnit, pull_step, oldest_marked, without_oldest_mark, unmarked_unit, FopState}
use Rattle.tc_link.proofs.Common.{FopOutcome, IsActive, after_restart, FitsFrame, is_closed, unsent_segments, with_fop}
use Rattle.tc_link.proofs.Common.{frame_to_send, world_after_pull, IsChecked, pulled_out, active_on, Option}
use Rattle.tc_link.proofs.Common.{after_count, tick_step, due_again, after_alert, after_repeat, after_stop}
use Rattle.tc_link.proofs.Common.{directive_outcome, is_initiation, world_after_directive, IsDirective, obeyed, ticked}
use Rattle.tc_link.proofs.Common.{Alert, CopFault, directive_step, closed_not}
use Rattle.std.specs.Prelude.{nat_le}
use Rattle.std.proofs.lemmas.Bool.{leb-true, leb-false}
use Rattle.std.proofs.lemmas.Option.{slice_get_within}
use Rattle.tc_frame.specs.Layout.{FrameView}
use Rattle.tc_frame.specs.Decoding.{frame_at}
use Rattle.tc_frame.specs.Encoding.{spelling}
use Rattle.cop1.specs.declared.farm.FarmMode.TheVariants.{Lockout}
use Rattle.cop1.specs.Farm.{place_at, ad_verdict}
use Rattle.cop1.specs.declared.farm.Verdict.TheVariants.{Behind, Discarded}
use Rattle.cop1.specs.FopPull.{SequencePulled, pulls, after_send_first}
use Rattle.nodes.specs.Spacecraft.{after_segment}
use Rattle.nodes.proofs.Arrivals.{bypass_same}
use Rattle.simulated_link.specs.World.{first_sent}
use Rattle.tc_link.specs.PlainLink.{leaves, puts_next, puts_again}
use Rattle.tc_link.specs.PlainLink as link_steps
use Rattle.tc_link.proofs.Linked.{CommandFits, asked, UpIs, Fits, bit, fits_less, rises_higher, ranks_higher}
use Rattle.tc_link.proofs.Linked.{WouldConfirm, Lasts, lasts_on, AllSame, In, Late, WithReceiver, Carries, Next, stays}
use Rattle.tc_link.proofs.Linked.{IsLate, up_push, up_push_bypass, up_push_control, fits_push, fits_further}
use Rattle.tc_link.proofs.Linked.{ControlFits, early_off, Begun, Stage, WithSender, Calm, Held, carries_push, holds_on}
use Rattle.tc_link.proofs.Linked.{Kept, kept_of}
use Rattle.tc_link.proofs.Lists.{take_next, drop_cons_get, drop_cons_rest, get_drop, get_take, units-push}
use Rattle.tc_link.proofs.Lists.{units-without, oldest_stands, units-marked}
use Rattle.tc_link.proofs.Sound.{Sound, Commanded}
use Rattle.tc_link.proofs.Refilled.{same_keeps as ground_same, session_refilled, held_same, off_keeps}
use Rattle.tc_link.proofs.Readable.{Goes, reads_back, fits_at}

-- What a Type-BD frame and a buffer release do to the receiver: no further flag is set.

-- what a CLCW shows, except for the wait flag, is the same
abbrev pub SaysTheSame : FarmState → FarmState → Type 0
SaysTheSame s t = (t.lockout ≡ s.lockout) × (t.retransmit ≡ s.retransmit) × (t.vr ≡ s.vr)

-- the control command of a session that counts from `base` arrived before any Type-AD frame
abbrev pub IsCommanded : Directive → ℕ → Bool → FarmState → FarmState → Type 0
IsCommanded d base front s t = (front ≡ true) × (d ≡ InitWithCheck → ⊥) × ((t.vr ≡ s.vr) ⊎ (t.vr ≡ base))

pub record Eases (d : Directive) (base : ℕ) (front : Bool) (s t : FarmState) : Type 0 where
  pub lockout : s.lockout ≡ false → t.lockout ≡ false
  pub wait : s.wait ≡ false → t.wait ≡ false
  pub retransmit : s.retransmit ≡ false → t.retransmit ≡ false
  pub so : SaysTheSame s t ⊎ IsCommanded d base front s t

module _ (d : Directive) (base : ℕ) (front : Bool) (s : FarmState) where
  pub eased_same : (t : FarmState) → t.lockout ≡ s.lockout → t.wait ≡ s.wait → t.retransmit ≡ s.retransmit
      → t.vr ≡ s.vr → Eases d base front s t
  eased_same t lockout wait retransmit vr = record {
    lockout = λ e. lockout ∙ e;
    wait = λ e. wait ∙ e;
    retransmit = λ e. retransmit ∙ e;
    so = inl (lockout, retransmit, vr);
  }

  pub release_eases : (mode : FarmMode) → Eases d base front s (after_release s mode)
  release_eases Open = eased_same s refl refl refl refl
  release_eases _ = record { lockout = λ e. e; wait = λ e. refl; retransmit = λ e. e; so = inl (refl, refl, refl) }

  unlock_eases : (mode : FarmMode) → front ≡ true → (d ≡ InitWithCheck → ⊥) → Eases d base front s (after_unlock s mode)
  unlock_eases Open is other =
      record { lockout = λ e. e; wait = λ e. e; retransmit = λ e. refl; so = inr (is, other, inl refl) }
  unlock_eases _ is other =
      record { lockout = λ e. cc; wait = λ e. refl; retransmit = λ e. refl; so = inr (is, other, inl refl) }

  set_eases : (x : ℕ) (mode : FarmMode) → x ≡ base → front ≡ true → (d ≡ InitWithCheck → ⊥)
      → Eases d base front s (after_set_vr s x mode)
  set_eases x Open value is other =
      record { lockout = λ e. e; wait = λ e. e; retransmit = λ e. refl; so = inr (is, other, inr value) }
  set_eases x Wait value is other =
      record { lockout = λ e. e; wait = λ e. refl; retransmit = λ e. refl; so = inr (is, other, inr value) }
  set_eases x Lockout value is other = eased_same (after_set_vr s x Lockout) refl refl refl refl

module _ (d : Directive) (base : ℕ) (front : Bool) (s : SpacecraftState) where
  pub bypass_eases : (u : SegmentView) (kept : Bool) → Eases d base front s.farm (bypass_outcome s u kept).after.farm
  bypass_eases u true = eased_same d base front s.farm _ refl refl refl refl
  bypass_eases u false = eased_same d base front s.farm _ refl refl refl refl

  control_by : (command : Command) (e : Directive) → e ≡ d → front ≡ true → CommandFits e base command
      → Eases d base front s.farm (body_outcome s (Bc command)).after.farm
  control_by Unlock InitUnlock is ahead fits =
      unlock_eases d base front s.farm s.farm.state ahead (λ x. absurd (cc (is, x)))
  control_by (SetVr y) (InitSetVr x) is ahead fits =
      set_eases d base front s.farm y s.farm.state fits ahead (λ x. absurd (cc (is, x)))
  control_by _ _ is ahead fits = elim fits [ ]

  pub control_eases : (command : Command) → front ≡ true → CommandFits d base command
      → Eases d base front s.farm (body_outcome s (Bc command)).after.farm
  control_eases command ahead fits = control_by command d refl ahead fits

-- The receiver's table for a number within the window.

abbrev pub VerdictFits : ℕ → ℕ → Verdict → Type 0
VerdictFits r i Accepted = i ≡ r
VerdictFits r i Ahead = r < i
VerdictFits r i NoBuffer = i ≡ r
VerdictFits r i Behind = i < r
VerdictFits r i Outside = ⊥
VerdictFits r i Discarded = Unit {0}

judged : (base h r i d : ℕ) (free : Bool) (mode : FarmMode) → h ≤ 127 → r ≤ i + h → i + 1 ≤ r + h
    → d ≡ ahead_by ((base + i) % 256) ((base + r) % 256)
    → (i ≡ r → VerdictFits r i (ad_verdict (place_at 127 0) free mode))
    → (r < i → VerdictFits r i (ad_verdict (place_at 127 1) free mode))
    → (i < r → VerdictFits r i (ad_verdict (place_at 127 255) free mode))
    → VerdictFits r i (ad_verdict (place_at h d) free mode)
judged base h r i d free mode most low high e here ahead behind =
    cond_both (d == 0) _ _ (λ p. VerdictFits r i (ad_verdict p free mode)) (λ t. here (omega (arith, eqb-true d 0 t)))
    (λ f.
    let apart = eqb-false d 0 f in
    cond_both (nat_lt d h) _ _ (λ p. VerdictFits r i (ad_verdict p free mode))
    (λ t. ahead (omega (arith, ltb-true d h t, apart))) (λ g.
    cond_both (nat_le (256 - h) d) _ _ (λ p. VerdictFits r i (ad_verdict p free mode))
    (λ t. behind (omega (arith, leb-true (256 - h) d t)))
    (λ k. absurd (omega (arith, apart, ltb-false d h g, leb-false (256 - h) d k)))))

-- the table's row for a number that is the expected one, or lies in the positive or the negative
-- window
in_mode : (r i : ℕ) (free : Bool) (mode : FarmMode)
    → (i ≡ r → VerdictFits r i (ad_verdict (place_at 127 0) free mode))
    × (r < i → VerdictFits r i (ad_verdict (place_at 127 1) free mode))
    × (i < r → VerdictFits r i (ad_verdict (place_at 127 255) free mode))
in_mode r i true Open = (λ x. x, λ x. x, λ x. x)
in_mode r i true Wait = (λ x. tt, λ x. tt, λ x. tt)
in_mode r i true Lockout = (λ x. tt, λ x. tt, λ x. tt)
in_mode r i false Open = (λ x. x, λ x. x, λ x. x)
in_mode r i false Wait = (λ x. tt, λ x. tt, λ x. tt)
in_mode r i false Lockout = (λ x. tt, λ x. tt, λ x. tt)

pub verdict_in_window : (s : FarmState) (base h r i n : ℕ) (free : Bool) → s.width / 2 ≡ h → h ≤ 127
    → s.vr ≡ (base + r) % 256 → n ≡ (base + i) % 256 → r ≤ i + h → i + 1 ≤ r + h → VerdictFits r i (verdict_of s n free)
verdict_in_window s base h r i n free half most vr number low high =
    let row = in_mode r i free s.state in
    rw half (judged base h r i (ahead_by n s.vr) free s.state most low high (rw (vr, number) refl) row.0 row.1 row.2)

-- A frame that arrives, or does not, keeps what holds in a session.

bit_most : (b : Bool) → bit b ≤ 1
bit_most b = grind arith

pub own_arrives : (s : SpacecraftState) (c : Config) (f : BodyView) (r : Result FrameView TcFault) → s.config ≡ c
    → r ≡ Ok (frame_of c f) → frame_outcome s r ≡ body_outcome s f
own_arrives s c f r is reads =
    ap (frame_outcome s) reads ∙ rw (is, eq-eqb c.scid c.scid refl, eq-eqb c.vcid c.vcid refl) refl

-- ---- a Type-AD frame

abbrev accepted_by : SpacecraftState → SegmentView → Verdict → SpacecraftState
accepted_by s u Accepted = after_segment s u
accepted_by s u _ = s

abbrev after_judging : SpacecraftState → SegmentView → Verdict → SpacecraftState
after_judging s u v = record (accepted_by s u v) { farm = after_verdict s.farm v }

judged_is : (s : SpacecraftState) (n : ℕ) (u : SegmentView) (v : Verdict) → verdict_of s.farm n (is_free s) ≡ v
    → (sequence_outcome s n u v).after ≡ after_judging s u v
judged_is s n u v e = grind (arith, e)

-- what a stage states of a receiver with no further flag set
eased : (early : Bool) (c : Config) (d : Directive) (base : ℕ) (w : World) (g : In early c d base w) (farm : FarmState)
    → Eases d base g.front w.spacecraft.farm farm → WithReceiver g farm
eased true c d base w g farm e =
    let s = g.stage in
    let was : FarmState = w.spacecraft.farm in
    let vr : was.vr ≡ base → farm.vr ≡ base =
    λ is. elim e.so [ inl t ↦ t.2 ∙ is | inr t ↦ elim t.2 [ inl v ↦ v ∙ is | inr v ↦ v ] ] in
    let lasts : Lasts base g.reports (WouldConfirm base farm) =
    lasts_on base g.reports (WouldConfirm base was) (WouldConfirm base farm)
    (λ good. (e.lockout good.0, e.wait good.1, e.retransmit good.2, vr good.3)) s.lasts in
    let same : d ≡ InitWithCheck → AllSame g.reports farm.lockout farm.retransmit farm.vr =
    λ by. elim e.so [ inl t ↦ rw (t.0, t.1, t.2) (s.same by) | inr t ↦ absurd (t.1 by) ] in
    assumption (lasts, same, s)
eased false c d base w g farm e =
    let s = g.stage in
    let p = g.plain in
    let vr_is : farm.vr ≡ (base + p.r) % 256 = elim e.so [
      | inl t ↦ t.2 ∙ s.vr_is
      | inr t ↦ elim t.2 [
        | inl v ↦ v ∙ s.vr_is
        | inr v ↦ (let none = s.first t.0 in omega (arith, v, none, g.linked.base_octet))
      ]
    ] in
    let calm : IsChecked d → Calm w.ground_node.fop.state farm g.front g.reports p.a p.r p.n p.down = λ checked.
    let m = s.calm checked in
    let asks : farm.retransmit ≡ w.spacecraft.farm.retransmit =
    elim e.so [ inl t ↦ t.1 | inr t ↦ e.retransmit (m.clear t.0) ∙ sym (m.clear t.0) ] in
    record {
      unlocked = e.lockout m.unlocked;
      clear = λ t. asks ∙ m.clear t;
      ranks = rw asks m.ranks;
      rank_most = rw asks m.rank_most;
    } in
    assumption (vr_is, calm, s)

-- ---- a Type-AD frame arrives once the session is settled

module _ (c : Config) (d : Directive) (base : ℕ) (w : World) (k : Sound c w) (g : Late c d base w) (bs : List (List ℕ))
    (fs : List BodyView) (rest : Carries c bs fs) where
  -- the first pair is no longer in transit, and the receiver may request retransmission
  left_keeps : (i : ℕ) (x : SegmentView) (qs : List (ℕ × SegmentView)) (farm : FarmState) → g.plain.up ≡ (i, x) ∷ qs
      → UpIs d base false fs qs → Fits (c.width / 2) g.plain.n g.plain.units g.plain.r ((i, x) ∷ qs)
      → farm.vr ≡ w.spacecraft.farm.vr → farm.lockout ≡ w.spacecraft.farm.lockout
      → (farm.retransmit ≡ w.spacecraft.farm.retransmit) ⊎ ((farm.retransmit ≡ true) × (g.plain.r < g.plain.n))
      → Next false c d base g.plain (record w { up = bs; spacecraft = record w.spacecraft { farm = farm } })
  left_keeps i x qs farm also up fit vr lockout asks =
      let p = g.plain in
      let l = g.linked in
      let fits : Fits (c.width / 2) p.n p.units p.r qs =
      fits_less (c.width / 2) p.n p.units (max p.r (i + 1)) p.r qs (omega arith) fit.3 in
      let s = g.stage in
      let vr_is : farm.vr ≡ (base + p.r) % 256 = vr ∙ s.vr_is in
      let first : false ≡ true → p.r ≡ 0 = λ e. cc in
      let calm : IsChecked d → Calm w.ground_node.fop.state farm false g.reports p.a p.r p.n p.down = λ checked.
      let m = s.calm checked in
      let grows : bit w.spacecraft.farm.retransmit ≤ bit farm.retransmit =
      elim asks [ inl e ↦ (rw e (omega arith)) | inr e ↦ (rw e.0 (bit_most w.spacecraft.farm.retransmit)) ] in
      record {
        unlocked = lockout ∙ m.unlocked;
        clear = λ e. cc;
        ranks = ranks_higher (2 * p.a + asked w.ground_node.fop.state) (2 * p.r + bit w.spacecraft.farm.retransmit)
            (2 * p.r + bit farm.retransmit) g.reports p.down (omega arith) m.ranks;
        rank_most = elim asks [ inl e ↦ (rw e m.rank_most) | inr e ↦ (rw e.0 (omega (arith, e.1))) ];
      } in
      record {
        plain = record p { up = qs };
        ran = inr (leaves also);
        front = false;
        frames = fs;
        reports = g.reports;
        linked = assumption (rest, up, fits, l);
        stage = assumption (vr_is, first, calm, s);
      }

  judged_keeps : (i : ℕ) (x u : SegmentView) (qs : List (ℕ × SegmentView)) (v : Verdict) → g.plain.up ≡ (i, x) ∷ qs
      → u ≡ x → UpIs d base false fs qs → Fits (c.width / 2) g.plain.n g.plain.units g.plain.r ((i, x) ∷ qs)
      → VerdictFits g.plain.r i v
      → Next false c d base g.plain (record w { up = bs; spacecraft = after_judging w.spacecraft u v })
  judged_keeps i x u qs Accepted also same up fit at_r =
      let p = g.plain in
      let l = g.linked in
      let arrives : p.up ≡ (p.r, u) ∷ qs = rw (← at_r, same) also in
      let unit_is : slice_get p.units p.r ≡ Some u = rw (← at_r, same) fit.0 in
      let r_n : p.r + 1 ≤ p.n = omega (arith, fit.1) in
      let a_r : p.a ≤ p.r + 1 = omega arith in
      let s = g.stage in
      let accepted_is : drop w.session.before (w.spacecraft.accepted ++ u ∷ []) ≡ take (p.r + 1) p.units =
      drop-append-le w.session.before w.spacecraft.accepted (u ∷ []) k.before
      ∙ ap (λ xs. xs ++ u ∷ []) l.accepted_is ∙ sym (take_next p.units p.r u unit_is) in
      let fits : Fits (c.width / 2) p.n p.units (p.r + 1) qs =
      fits_less (c.width / 2) p.n p.units (max p.r (i + 1)) (p.r + 1) qs (omega arith) fit.3 in
      let rises : Rises p.a p.down (p.r + 1) = rises_higher p.a p.r (p.r + 1) p.down (omega arith) l.rises in
      let farm : FarmState = after_verdict w.spacecraft.farm Accepted in
      let vr_is : farm.vr ≡ (base + (p.r + 1)) % 256 = omega (arith, s.vr_is) in
      let first : false ≡ true → p.r + 1 ≡ 0 = λ e. cc in
      let calm : IsChecked d → Calm w.ground_node.fop.state farm false g.reports p.a (p.r + 1) p.n p.down = λ checked.
      let m = s.calm checked in
      record {
        unlocked = m.unlocked;
        clear = λ e. refl;
        ranks = ranks_higher (2 * p.a + asked w.ground_node.fop.state) (2 * p.r + bit w.spacecraft.farm.retransmit)
            (2 * (p.r + 1) + 0) g.reports p.down (let most = bit_most w.spacecraft.farm.retransmit in omega arith)
            m.ranks;
        rank_most = omega arith;
      } in
      record {
        plain = record p { r = p.r + 1; up = qs };
        ran = inr (link_steps.takes arrives);
        front = false;
        frames = fs;
        reports = g.reports;
        linked = assumption (rest, r_n, a_r, accepted_is, up, fits, rises, l);
        stage = assumption (vr_is, first, calm, s);
      }
  judged_keeps i x u qs Outside also same up fit here = elim here [ ]
  judged_keeps i x u qs Ahead also same up fit here =
      left_keeps i x qs (after_verdict w.spacecraft.farm Ahead) also up fit refl refl (inr (refl, omega (arith, fit.1)))
  judged_keeps i x u qs NoBuffer also same up fit here =
      left_keeps i x qs (after_verdict w.spacecraft.farm NoBuffer) also up fit refl refl
      (inr (refl, omega (arith, fit.1)))
  judged_keeps i x u qs _ also same up fit here = left_keeps i x qs w.spacecraft.farm also up fit refl refl (inl refl)

  late_unit : (n : ℕ) (u : SegmentView) (i : ℕ) (x : SegmentView) (qs : List (ℕ × SegmentView))
      → g.plain.up ≡ (i, x) ∷ qs → UpIs d base g.front (Ad n u ∷ fs) ((i, x) ∷ qs)
      → Fits (c.width / 2) g.plain.n g.plain.units g.plain.r ((i, x) ∷ qs)
      → Next false c d base g.plain (record w { up = bs; spacecraft = (body_outcome w.spacecraft (Ad n u)).after })
  late_unit n u i x qs also up fit =
      let p = g.plain in
      let l = g.linked in
      let v : Verdict = verdict_of w.spacecraft.farm n (is_free w.spacecraft) in
      let fits : VerdictFits p.r i v =
      verdict_in_window w.spacecraft.farm base (c.width / 2) p.r i n (is_free w.spacecraft)
      (ap (λ x. x / 2) k.spacecraft.farm.width) (omega (arith, k.ranges.width)) g.stage.vr_is up.0 fit.2
      (omega (arith, fit.1)) in
      subst (λ (s : SpacecraftState). Next false c d base g.plain (record w { up = bs; spacecraft = s }))
      (sym (judged_is w.spacecraft n u v refl)) (judged_keeps i x u qs v also up.1 up.2 fit fits)

module _ (early : Bool) (c : Config) (d : Directive) (base : ℕ) (w : World) (k : Sound c w) (g : In early c d base w)
    (bs : List (List ℕ)) (fs : List BodyView) (rest : Carries c bs fs) where
  -- no further flag of the receiver is set
  pub other_keeps : (spacecraft : SpacecraftState) → UpIs d base g.front fs g.plain.up
      → spacecraft.accepted ≡ w.spacecraft.accepted → Eases d base g.front w.spacecraft.farm spacecraft.farm
      → Next early c d base g.plain (record w { up = bs; spacecraft = spacecraft })
  other_keeps spacecraft up accepted eases =
      let p = g.plain in
      let l = g.linked in
      let accepted_is : drop w.session.before spacecraft.accepted ≡ take p.r p.units = rw accepted l.accepted_is in
      record {
        plain = p;
        ran = inl refl;
        front = g.front;
        frames = fs;
        reports = g.reports;
        linked = assumption (rest, up, accepted_is, l);
        stage = eased early c d base w g spacecraft.farm eases;
      }

  -- the frame is lost
  lost_keeps : UpIs d base g.front fs g.plain.up → Next early c d base g.plain (record w { up = bs })
  lost_keeps up =
      other_keeps w.spacecraft up refl
      (eased_same d base g.front w.spacecraft.farm w.spacecraft.farm refl refl refl refl)

-- before that, no Type-AD frame arrives
module _ (c : Config) (d : Directive) (base : ℕ) (w : World) (k : Sound c w) (bs : List (List ℕ)) (fs : List BodyView)
    (rest : Carries c bs fs) (n : ℕ) (u : SegmentView) (i : ℕ) (x : SegmentView) (qs : List (ℕ × SegmentView)) where
  unit_keeps : (early : Bool) (g : In early c d base w) → g.plain.up ≡ (i, x) ∷ qs
      → UpIs d base g.front (Ad n u ∷ fs) ((i, x) ∷ qs)
      → Fits (c.width / 2) g.plain.n g.plain.units g.plain.r ((i, x) ∷ qs)
      → Next early c d base g.plain (record w { up = bs; spacecraft = (body_outcome w.spacecraft (Ad n u)).after })
  unit_keeps true g also up fit = absurd (omega (arith, g.stage.none_sent, fit.1))
  unit_keeps false g also up fit = late_unit c d base w k g bs fs rest n u i x qs also up fit

  unit_lost : (early : Bool) (g : In early c d base w) → g.plain.up ≡ (i, x) ∷ qs
      → UpIs d base g.front (Ad n u ∷ fs) ((i, x) ∷ qs)
      → Fits (c.width / 2) g.plain.n g.plain.units g.plain.r ((i, x) ∷ qs)
      → Next early c d base g.plain (record w { up = bs })
  unit_lost true g also up fit = absurd (omega (arith, g.stage.none_sent, fit.1))
  unit_lost false g also up fit =
      left_keeps c d base w k g bs fs rest i x qs w.spacecraft.farm also up.2 fit refl refl (inl refl)

-- ---- each frame

module _ (early : Bool) (c : Config) (d : Directive) (base : ℕ) (w : World) (k : Sound c w) (g : In early c d base w)
  where
    body_keeps : (bs : List (List ℕ)) (fs : List BodyView) → Carries c bs fs → (f : BodyView)
        (qs : List (ℕ × SegmentView)) → g.plain.up ≡ qs → UpIs d base g.front (f ∷ fs) qs
        → Fits (c.width / 2) g.plain.n g.plain.units g.plain.r qs
        → Next early c d base g.plain (record w { up = bs; spacecraft = (body_outcome w.spacecraft f).after })
    body_keeps bs fs rest (Bd s) qs also up fit =
        let kept = is_kept w.spacecraft.config s in
        other_keeps early c d base w k g bs fs rest (bypass_outcome w.spacecraft s kept).after (rw also up)
        (bypass_same w.spacecraft s kept) (bypass_eases d base g.front w.spacecraft s kept)
    body_keeps bs fs rest (Bc command) qs also up fit =
        other_keeps early c d base w k g bs fs rest (body_outcome w.spacecraft (Bc command)).after (rw also up.2) refl
        (control_eases d base g.front w.spacecraft command up.0 up.1)
    body_keeps bs fs rest (Ad n u) [] also up fit = elim up [ ]
    body_keeps bs fs rest (Ad n u) ((i, x) ∷ qs) also up fit =
        unit_keeps c d base w k bs fs rest n u i x qs early g also up fit

    lost_first : (bs : List (List ℕ)) (fs : List BodyView) → Carries c bs fs → (f : BodyView)
        (qs : List (ℕ × SegmentView)) → g.plain.up ≡ qs → UpIs d base g.front (f ∷ fs) qs
        → Fits (c.width / 2) g.plain.n g.plain.units g.plain.r qs → Next early c d base g.plain (record w { up = bs })
    lost_first bs fs rest (Bd s) qs also up fit = lost_keeps early c d base w k g bs fs rest (rw also up)
    lost_first bs fs rest (Bc command) qs also up fit = lost_keeps early c d base w k g bs fs rest (rw also up.2)
    lost_first bs fs rest (Ad n u) [] also up fit = elim up [ ]
    lost_first bs fs rest (Ad n u) ((i, x) ∷ qs) also up fit =
        unit_lost c d base w k bs fs rest n u i x qs early g also up fit

    -- ---- the events

    delivers : (bs : List (List ℕ)) (fs : List BodyView) → Carries c bs fs → UpIs d base g.front fs g.plain.up
        → Next early c d base g.plain (up_deliver_step w bs).after
    delivers [] fs carries up = stays g
    delivers (b ∷ bs) [] carries up = elim carries [ ]
    delivers (b ∷ bs) (f ∷ fs) carries up =
        subst (λ o. Next early c d base g.plain (record w { up = bs; spacecraft = o.after }))
        (sym (own_arrives w.spacecraft c f (frame_at On b) k.spacecraft.config carries.0))
        (body_keeps bs fs carries.1 f g.plain.up refl up g.linked.fits)

    loses : (b : List ℕ) (bs : List (List ℕ)) (fs : List BodyView) → Carries c (b ∷ bs) fs
        → UpIs d base g.front fs g.plain.up → Next early c d base g.plain (record w { up = bs })
    loses b bs [] carries up = elim carries [ ]
    loses b bs (f ∷ fs) carries up = lost_first bs fs carries.1 f g.plain.up refl up g.linked.fits

    pub up_lost : (b : List ℕ) (bs : List (List ℕ)) → w.up ≡ b ∷ bs → Next early c d base g.plain (record w { up = bs })
    up_lost b bs is = loses b bs g.frames (rw is at g.linked.carries) g.linked.up_is

    pub up_delivers : Next early c d base g.plain (up_deliver_step w w.up).after
    up_delivers = delivers w.up g.frames g.linked.carries g.linked.up_is

    -- ---- taking and queuing packets on board keep what holds

    pub eases_keep : (spacecraft : SpacecraftState) → spacecraft.accepted ≡ w.spacecraft.accepted
        → Eases d base g.front w.spacecraft.farm spacecraft.farm
        → Next early c d base g.plain (record w { spacecraft = spacecraft })
    eases_keep spacecraft accepted eases =
        other_keeps early c d base w k g w.up g.frames g.linked.carries spacecraft g.linked.up_is accepted eases

    pub same_keeps : (spacecraft : SpacecraftState) → spacecraft.accepted ≡ w.spacecraft.accepted
        → spacecraft.farm ≡ w.spacecraft.farm → Next early c d base g.plain (record w { spacecraft = spacecraft })
    same_keeps spacecraft accepted farm =
        eases_keep spacecraft accepted
        (rw farm (eased_same d base g.front w.spacecraft.farm w.spacecraft.farm refl refl refl refl))

    -- a buffer is released
    pub releases_keep : (left : List PacketOn) → Next early c d base g.plain (record w {
      spacecraft = record w.spacecraft { ready = left; farm = farm_step w.spacecraft.farm BufferReleased };
    })
    releases_keep left =
        eases_keep (record w.spacecraft { ready = left; farm = farm_step w.spacecraft.farm BufferReleased }) refl
        (release_eases d base g.front w.spacecraft.farm w.spacecraft.farm.state)

-- The ground sends a frame in a session.

-- ---- what a stage states of a frame that is sent

none_fit : (h n : ℕ) (units : List SegmentView) (r : ℕ) (qs : List (ℕ × SegmentView)) → n ≡ 0 → Fits h n units r qs
    → qs ≡ []
none_fit h n units r [] none fit = refl
none_fit h n units r (q ∷ qs) none fit = absurd (omega (arith, none, fit.1))

-- before the confirmation no Type-AD frame is in transit
none_up : (c : Config) (d : Directive) (base : ℕ) (w : World) (g : Begun c d base w) → g.plain.up ≡ []
none_up c d base w g =
    none_fit (c.width / 2) g.plain.n g.plain.units g.plain.r g.plain.up g.stage.none_sent g.linked.fits

pub early_up : (c : Config) (d : Directive) (base : ℕ) (w : World) (g : Begun c d base w) → UpIs d base true g.frames []
early_up c d base w g = rw (g.stage.front_is, none_up c d base w g) at g.linked.up_is

idle : (m : FopMode) (control : Control) → IsLate m → Commanded m control → control ≡ Idle
idle S5 control late is = elim late [ ]
idle _ control late is = is

-- a control command is the session's own, and is sent only before the confirmation
commanded : (early : Bool) (c : Config) (d : Directive) (base : ℕ) (w : World) (k : Sound c w)
    (g : In early c d base w) (command : Command) → w.ground_node.fop.control ≡ Due command
    → UpIs d base g.front (g.frames ++ Bc command ∷ []) g.plain.up
    × WithSender g w.ground_node.fop.state (Sent command)
commanded true c d base w k g command is =
    let s = g.stage in
    let command_is : CommandFits d base command =
    let it : ControlFits d base (Due command) = rw is at s.command_is in it in
    let up = up_push_control d base command g.frames command_is (early_up c d base w g) in
    (rw (s.front_is, none_up c d base w g) up, assumption (command_is, s))
commanded false c d base w k g command is =
    absurd (let none : w.ground_node.fop.control ≡ Idle =
    idle w.ground_node.fop.state w.ground_node.fop.control g.stage.late k.ground_node.fop.commanded in cc (none, is))

-- a unit is sent only after it
one_more : (early : Bool) (c : Config) (d : Directive) (base : ℕ) (w : World) (g : In early c d base w)
    → IsActive w.ground_node.fop.state
    → Stage early d base w.ground_node.fop.state w.ground_node.fop.control w.spacecraft.farm w.session.confirmed g.front
    g.reports g.plain.a g.plain.r (g.plain.n + 1) g.plain.down
one_more true c d base w g active = absurd (early_off d w.ground_node.fop.state g.stage.early active)
one_more false c d base w g active =
    let s = g.stage in
    let p = g.plain in
    let calm : IsChecked d → Calm w.ground_node.fop.state w.spacecraft.farm g.front g.reports p.a p.r (p.n + 1) p.down =
    λ checked.
    let m = s.calm checked in
    let rank_most : 2 * p.r + bit w.spacecraft.farm.retransmit ≤ 2 * (p.n + 1) = omega (arith, m.rank_most) in
    assumption (rank_most, m) in
    assumption (calm, s)

module _ (early : Bool) (c : Config) (d : Directive) (base : ℕ) (w : World) (k : Sound c w) (g : In early c d base w)
  where
    abbrev Leaves : FopOutcome SegmentView (PulledUnit SegmentView) → Type 0
    Leaves o = Next early c d base g.plain (world_after_pull w (with_fop w.ground_node o.after)
        (frame_to_send w.ground_node.config o.answer)).after

    carries : (f : BodyView) → Goes f
        → Carries c (w.up ++ spelling On (frame_of w.ground_node.config f) ∷ []) (g.frames ++ f ∷ [])
    carries f goes =
        carries_push c (spelling On (frame_of w.ground_node.config f)) f w.up g.frames
        (rw k.ground_node.config (reads_back c f k.ranges goes)) g.linked.carries

    -- a frame that is not a Type-AD frame, from a sender that holds the same
    sends : (f : BodyView) (fop : FopState SegmentView) → fop.vs ≡ w.ground_node.fop.vs → fop.nn ≡ w.ground_node.fop.nn
        → fop.state ≡ w.ground_node.fop.state → fop.sent ≡ w.ground_node.fop.sent
        → fop.waiting ≡ w.ground_node.fop.waiting → Goes f → UpIs d base g.front (g.frames ++ f ∷ []) g.plain.up
        → WithSender g fop.state fop.control
        → Next early c d base g.plain (record w {
          ground_node = with_fop w.ground_node fop;
          up = w.up ++ spelling On (frame_of w.ground_node.config f) ∷ [];
          session = record w.session { sent = w.session.sent ++ [] };
        })
    sends f fop vs nn state sent waiting goes up_is stage =
        let p = g.plain in
        let l = g.linked in
        let up : Carries c (w.up ++ spelling On (frame_of w.ground_node.config f) ∷ []) (g.frames ++ f ∷ []) =
        carries f goes in
        let held = held_same base w.ground_node fop p.a p.n p.units vs nn state (ap units_of sent) waiting l.held in
        let nn_octet : fop.nn < 256 = rw nn l.nn_octet in
        let sent_is : w.session.sent ++ [] ≡ map segment_octets (take p.n p.units) =
        append-nil w.session.sent ∙ l.sent_is in
        session_refilled early c d base (record w {
          ground_node = record w.ground_node { fop = fop };
          up = w.up ++ spelling On (frame_of w.ground_node.config f) ∷ [];
          session = record w.session { sent = w.session.sent ++ [] };
        }) (record {
          plain = p;
          ran = inl refl;
          front = g.front;
          frames = g.frames ++ f ∷ [];
          reports = g.reports;
          linked = assumption (up, up_is, held, nn_octet, sent_is, l);
          stage = stage;
        })

    module _ (active : IsActive w.ground_node.fop.state) where
      on : is_closed w.ground_node.fop.state ≡ false
      on = active_on w.ground_node.fop.state active

      -- a unit is sent for the first time
      first_keeps : (u : SegmentView) → w.ground_node.fop.waiting ≡ Some u
          → nat_lt (ahead_by w.ground_node.fop.vs w.ground_node.fop.nn) w.ground_node.fop.window ≡ true
          → Leaves (pulls (after_send_first w.ground_node.fop u) (SequencePulled w.ground_node.fop.vs u))
      first_keeps u is room =
          let p = g.plain in
          let l = g.linked in
          let was = holds_on l on in
          let s = w.ground_node.fop in
          let below : ahead_by s.vs s.nn < s.window = ltb-true (ahead_by s.vs s.nn) s.window room in
          let rest : u ∷ w.ground_node.pending ≡ drop p.n p.units =
          let it : option_to_list s.waiting ++ w.ground_node.pending ≡ drop p.n p.units =
          was.rest_is in rw is at it in
          let unit_is : slice_get p.units p.n ≡ Some u = drop_cons_get p.units p.n u w.ground_node.pending (sym rest) in
          let n_most : p.n + 1 ≤ length p.units = omega (arith, slice_get_within p.units p.n u unit_is) in
          let n_a : p.n + 1 ≤ p.a + c.width / 2 =
          omega (arith, was.vs_is, was.nn_is, below, k.ground_node.fop.window, k.ranges.width) in
          let r_n : p.r ≤ p.n + 1 = omega arith in
          let vs_is : (s.vs + 1) % 256 ≡ (base + (p.n + 1)) % 256 = omega (arith, was.vs_is) in
          let a_most : p.a ≤ length (take p.n p.units) = omega (arith, length-take-le p.n p.units l.n_most) in
          let queue : units_of (s.sent ++ unmarked_unit u ∷ []) ≡ drop p.a (take (p.n + 1) p.units) =
          units-push s.sent u ∙ ap (λ xs. xs ++ u ∷ []) was.sent_is
          ∙ sym (ap (drop p.a) (take_next p.units p.n u unit_is)
          ∙ drop-append-le p.a (take p.n p.units) (u ∷ []) a_most) in
          let left : w.ground_node.pending ≡ drop (p.n + 1) p.units =
          sym (drop_cons_rest p.units p.n u w.ground_node.pending (sym rest)) in
          let held : Held (is_closed s.state) base ((s.vs + 1) % 256) s.nn (s.sent ++ unmarked_unit u ∷ [])
          w.ground_node.pending p.a (p.n + 1) p.units =
          rw on (record { vs_is = vs_is; nn_is = was.nn_is; sent_is = queue; rest_is = left }) in
          let frame : BodyView = Ad s.vs u in
          let up : Carries c (w.up ++ spelling On (frame_of w.ground_node.config frame) ∷ []) (g.frames ++ frame ∷ []) =
          carries frame (fits_at p.units p.n u l.units_fit unit_is) in
          let up_is : UpIs d base g.front (g.frames ++ frame ∷ []) (p.up ++ (p.n, u) ∷ []) =
          up_push d base s.vs p.n u g.front g.frames p.up was.vs_is l.up_is in
          let fits : Fits (c.width / 2) (p.n + 1) p.units p.r (p.up ++ (p.n, u) ∷ []) =
          fits_push (c.width / 2) (p.n + 1) p.n u p.units p.r p.up (omega arith) (omega (arith, k.ranges.width))
          (omega arith) unit_is (fits_further (c.width / 2) p.n (p.n + 1) p.units p.r p.up (omega arith) l.fits) in
          let field : first_sent s.vs frame ≡ segment_octets u ∷ [] = rw (eq-eqb s.vs s.vs refl) refl in
          let sent_is : w.session.sent ++ first_sent s.vs frame ≡ map segment_octets (take (p.n + 1) p.units) =
          ap (λ xs. w.session.sent ++ xs) field ∙ ap (λ xs. xs ++ segment_octets u ∷ []) l.sent_is
          ∙ sym (ap (map segment_octets) (take_next p.units p.n u unit_is)
          ∙ map-append segment_octets (take p.n p.units) (u ∷ [])) in
          session_refilled early c d base (record w {
            ground_node = record w.ground_node { fop = after_send_first s u };
            up = w.up ++ spelling On (frame_of w.ground_node.config frame) ∷ [];
            session = record w.session { sent = w.session.sent ++ first_sent s.vs frame };
          }) (record {
            plain = record p { n = p.n + 1; up = p.up ++ (p.n, u) ∷ [] };
            ran = inr (puts_next unit_is);
            front = g.front;
            frames = g.frames ++ frame ∷ [];
            reports = g.reports;
            linked = assumption (held, n_most, n_a, r_n, up, up_is, fits, sent_is, l);
            stage = one_more early c d base w g active;
          })

      -- a unit that is retransmitted is one of those that were sent, and not the next one
      was_sent : (x : ℕ × SegmentView) → oldest_marked 0 w.ground_node.fop.sent ≡ Some x
          → (g.plain.a + x.0 < g.plain.n) × (slice_get g.plain.units (g.plain.a + x.0) ≡ Some x.1)
      was_sent x is =
          let p = g.plain in
          let l = g.linked in
          let stands = oldest_stands 0 w.ground_node.fop.sent x is in
          let within : slice_get (drop p.a (take p.n p.units)) x.0 ≡ Some x.1 =
          let place : stands.0 ≡ x.0 = omega (arith, stands.1) in rw (← (holds_on l on).sent_is, ← place) stands.2 in
          let in_sent : slice_get (take p.n p.units) (p.a + x.0) ≡ Some x.1 =
          get_drop (take p.n p.units) p.a x.0 x.1 within in
          let below : p.a + x.0 < p.n =
          omega (arith, slice_get_within _ (p.a + x.0) x.1 in_sent, length-take-le p.n p.units l.n_most) in
          (below, get_take p.units p.n (p.a + x.0) x.1 in_sent)

      pub not_next : (x : ℕ × SegmentView) → oldest_marked 0 w.ground_node.fop.sent ≡ Some x
          → ((w.ground_node.fop.nn + x.0) % 256 == w.ground_node.fop.vs) ≡ false
      not_next x is =
          let l = g.linked in
          let was = holds_on l on in
          let below = (was_sent x is).0 in
          ne_eqb ((w.ground_node.fop.nn + x.0) % 256) w.ground_node.fop.vs
          (λ e. omega (arith, was.nn_is, was.vs_is, below, l.n_a, k.ranges.width))

      -- a unit is retransmitted
      again_keeps : (x : ℕ × SegmentView) → oldest_marked 0 w.ground_node.fop.sent ≡ Some x
          → Leaves (pulls (record (after_restart w.ground_node.fop)
          { sent = without_oldest_mark w.ground_node.fop.sent })
          (SequencePulled ((w.ground_node.fop.nn + x.0) % 256) x.1))
      again_keeps x is =
          let p = g.plain in
          let l = g.linked in
          let was = holds_on l on in
          let s = w.ground_node.fop in
          let sent = was_sent x is in
          let below : p.a + x.0 < p.n = sent.0 in
          let unit_is : slice_get p.units (p.a + x.0) ≡ Some x.1 = sent.1 in
          let number_is : (s.nn + x.0) % 256 ≡ (base + (p.a + x.0)) % 256 = omega (arith, was.nn_is) in
          let held : Held (is_closed s.state) base s.vs s.nn (without_oldest_mark s.sent)
          (unsent_segments w.ground_node) p.a p.n p.units =
          rw on (record {
            vs_is = was.vs_is;
            nn_is = was.nn_is;
            sent_is = units-without s.sent ∙ was.sent_is;
            rest_is = was.rest_is;
          }) in
          let frame : BodyView = Ad ((s.nn + x.0) % 256) x.1 in
          let up : Carries c (w.up ++ spelling On (frame_of w.ground_node.config frame) ∷ []) (g.frames ++ frame ∷ []) =
          carries frame (fits_at p.units (p.a + x.0) x.1 l.units_fit unit_is) in
          let up_is : UpIs d base g.front (g.frames ++ frame ∷ []) (p.up ++ (p.a + x.0, x.1) ∷ []) =
          up_push d base ((s.nn + x.0) % 256) (p.a + x.0) x.1 g.front g.frames p.up number_is l.up_is in
          let fits : Fits (c.width / 2) p.n p.units p.r (p.up ++ (p.a + x.0, x.1) ∷ []) =
          fits_push (c.width / 2) p.n (p.a + x.0) x.1 p.units p.r p.up l.r_n (omega arith) below unit_is l.fits in
          let field : first_sent s.vs frame ≡ [] = rw (not_next x is) refl in
          let sent_is : w.session.sent ++ first_sent s.vs frame ≡ map segment_octets (take p.n p.units) =
          ap (λ xs. w.session.sent ++ xs) field ∙ append-nil w.session.sent ∙ l.sent_is in
          session_refilled early c d base (record w {
            ground_node = record w.ground_node { fop = record (after_restart s) { sent = without_oldest_mark s.sent } };
            up = w.up ++ spelling On (frame_of w.ground_node.config frame) ∷ [];
            session = record w.session { sent = w.session.sent ++ first_sent s.vs frame };
          }) (record {
            plain = record p { up = p.up ++ (p.a + x.0, x.1) ∷ [] };
            ran = inr (puts_again (omega arith) below unit_is);
            front = g.front;
            frames = g.frames ++ frame ∷ [];
            reports = g.reports;
            linked = assumption (held, up, up_is, fits, sent_is, l);
            stage = g.stage;
          })

    pub pulls_keep : Leaves (pull_step w.ground_node.fop)
    pulls_keep =
        let s = w.ground_node.fop in
        pulled_out s Leaves (record {
          none = ground_same early c d base w g w.ground_node.fates s refl refl refl refl refl (λ fits. fits);
          command = λ command is.
              let both = commanded early c d base w k g command is in
              sends (Bc command) (record (after_restart s) { control = Sent command }) refl refl refl refl refl tt
              both.0 both.1;
          bypass = λ u us is.
              let fit : AllByRecursion FitsFrame (u ∷ us) = rw is at k.ground_node.fop.bypass_fits in
              sends (Bd u) (record s { bypass = us }) refl refl refl refl refl fit.0
              (up_push_bypass d base u g.front g.frames g.plain.up g.linked.up_is) g.stage;
          again = again_keeps;
          first = first_keeps;
        })

-- A tick, and a directive within a session, keep what holds in it.

due_fits : (d : Directive) (base : ℕ) (control : Control) → ControlFits d base control
    → ControlFits d base (due_again control)
due_fits d base Idle fits = fits
due_fits d base _ fits = fits

module _ (early : Bool) (c : Config) (d : Directive) (base : ℕ) (w : World) (g : In early c d base w) where
  abbrev SenderLeaves : {A : Type 0} → FopOutcome SegmentView A → Type 0
  SenderLeaves o = Next early c d base g.plain (record w { ground_node = with_fop w.ground_node o.after })

  kept : Kept base w.ground_node.fop.vs w.ground_node.fop.nn g.plain.a g.plain.n
  kept = kept_of (is_closed w.ground_node.fop.state) _ _ _ _ _ _ _ _ g.linked.held

  same : (f : FopState SegmentView) → f.vs ≡ w.ground_node.fop.vs → f.nn ≡ w.ground_node.fop.nn
      → f.state ≡ w.ground_node.fop.state → f.sent ≡ w.ground_node.fop.sent → f.waiting ≡ w.ground_node.fop.waiting
      → f.control ≡ w.ground_node.fop.control
      → Next early c d base g.plain (record w { ground_node = with_fop w.ground_node f })
  same f vs nn state sent waiting control =
      ground_same early c d base w g w.ground_node.fates f vs nn state (ap units_of sent) waiting
      (λ fits. rw control fits)

  pub ticks : SenderLeaves (tick_step w.ground_node.fop)
  ticks =
      let s = w.ground_node.fop in
      ticked s (λ o. SenderLeaves o) (record {
        off = same s refl refl refl refl refl refl;
        runs = λ left. same (record s { ticks = Some left }) refl refl refl refl refl refl;
        stops = same (after_stop s) refl refl refl refl refl refl;
        repeats = λ active. ground_same early c d base w g w.ground_node.fates (after_repeat (after_stop s)) refl refl
            refl (units-marked s.sent) refl (λ fits. fits);
        counts = same (after_count (after_stop s)) refl refl refl refl refl refl;
        commands = λ is. ground_same early c d base w g w.ground_node.fates
            (record (after_count (after_stop s)) { control = due_again s.control }) refl refl refl refl refl
            (due_fits d base s.control);
        gives_up = off_keeps early c d base w g w.ground_node.fates
            (after_alert (after_stop s)) refl g.linked.nn_octet (λ fits. tt) kept;
      })

  -- a directive that begins no session
  abbrev Keeps : Directive → FopOutcome SegmentView (Result (Option Alert) CopFault) → Type 0
  Keeps e o = IsDirective e → (is_initiation e ≡ true → is_closed w.ground_node.fop.state ≡ false)
      → Next early c d base g.plain (world_after_directive w e (directive_outcome w.ground_node e o)).after

  pub directs : (e : Directive) → Keeps e (directive_step w.ground_node.fop e)
  directs =
      let s = w.ground_node.fop in
      obeyed s Keeps (record {
        refused = λ e fault on fits goes. stays g;
        begins = λ e is off fits goes. absurd (closed_not s.state off (goes is));
        terminated = λ fits goes. off_keeps early c d base w g w.ground_node.fates
            (after_alert s) refl g.linked.nn_octet (λ fits. tt) kept;
        numbers = λ x is fits goes. off_keeps early c d base w g _ (record s { vs = x; nn = x }) is fits
            (λ so. so) (inr refl);
        sets = λ e k n ticks plain most fits goes. rw plain
            (ground_same early c d base w g _ (record s { window = k; limit = n; timer = ticks }) refl refl refl refl
            refl (λ fits. fits));
      })
