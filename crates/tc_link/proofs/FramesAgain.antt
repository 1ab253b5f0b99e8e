-- Octets that reach the spacecraft again at once change only FARM-B and the bypass packets.
use Rattle.tc_link.proofs.Common.{◌≡◌, ◌∙◌, ℕ, suc, zero, ◌+◌, ◌-◌, ◌%◌, ◌/◌, ◌<◌, ◌≤◌, ◌==◌, nat_lt, Bool, true, false}
use Rattle.tc_link.proofs.Common.{List, ◌∷◌, replicate, Result, Ok, Err, refl, sym, ap, subst, arith, cond_both}
use Rattle.tc_link.proofs.Common.{eqb-true, ltb-true, ahead_by, TcFault, On, SegmentView, BodyView}
use Rattle.tc_link.proofs.Common.{Ad, Bd, Bc, Command, Unlock, SetVr, FarmState, FarmMode, Open, Wait, Verdict}
use Rattle.tc_link.proofs.Common.{Ahead, NoBuffer, Outside, verdict_of, after_verdict, after_unlock, after_set_vr}
use Rattle.tc_link.proofs.Common.{farm_step, AdArrives, SpacecraftState, SpacecraftOutcome, frame_outcome, body_outcome}
use Rattle.tc_link.proofs.Common.{sequence_outcome, bypass_outcome, is_free, is_kept, is_own_frame, World, Accepted}
use Rattle.tc_link.proofs.Common.{up_deliver_step}
use Rattle.std.specs.Prelude.{if◌then◌else◌, nat_le}
use Rattle.std.proofs.lemmas.Bool.{leb-false}
use Rattle.tc_frame.specs.Layout.{FrameView}
use Rattle.tc_frame.specs.Decoding.{frame_at}
use Rattle.cop1.specs.Farm.{after_type_b, place_at, ad_verdict}
use Rattle.cop1.specs.declared.farm.FarmMode.TheVariants.{Lockout}
use Rattle.cop1.specs.declared.farm.Verdict.TheVariants.{Behind, Discarded}
use Rattle.nodes.specs.Spacecraft.{command_event, is_accepted, receive_sequence_step}
use Rattle.nodes.specs.declared.received.Received.{Received}
use Rattle.nodes.specs.declared.received.Received.TheVariants.{Foreign}
use Rattle.tc_link.specs.AnyPast.{Receives, is_left, link_step, with_nodes}
use Rattle.tc_link.specs.Beside.{HasOctetPast, SessionLasts}
use Rattle.tc_link.specs.FramesAgain.{again_by, received_again, IsAnsweredLeft, EachComesAgain}
use Rattle.tc_link.specs.FramesAgain.{EachGoesOnAgain, EachGoesOnUnchanged, EachIsAnswered}
use Rattle.tc_link.proofs.Beside.{same_left, at_place}
use Rattle.tc_link.proofs.ProgressNumbers.{known}

-- ---- a Type-AD frame

-- the last number below lies in the negative window
last_behind : (h d : ℕ) (free : Bool) → 1 ≤ h → h ≤ 127 → d ≡ 255 → ad_verdict (place_at h d) free Open ≡ Behind
last_behind h d free least most is =
    cond_both (d == 0) _ _ (λ p. ad_verdict p free Open ≡ Behind) (λ t. absurd (omega (arith, eqb-true d 0 t))) (λ f.
    cond_both (nat_lt d h) _ _ (λ p. ad_verdict p free Open ≡ Behind) (λ t. absurd (omega (arith, ltb-true d h t)))
    (λ g. cond_both (nat_le (256 - h) d) _ _ (λ p. ad_verdict p free Open ≡ Behind) (λ t. refl)
    (λ k. absurd (omega (arith, leb-false (256 - h) d k)))))

one_less : (n vr : ℕ) → vr < 256 → ahead_by n vr ≡ 0 → ahead_by n ((vr + 1) % 256) ≡ 255
one_less n vr octet is = omega arith

waits_on : (free : Bool) → ad_verdict (place_at 127 0) free Wait ≡ Discarded
waits_on true = refl
waits_on false = refl

locks_on : (free : Bool) → ad_verdict (place_at 127 0) free Lockout ≡ Discarded
locks_on true = refl
locks_on false = refl

-- a frame with this number does nothing to the receiver, and no data are passed on
record DoesNothing (g : FarmState) (n : ℕ) (free : Bool) : Type 0 where
  pub accepts : is_accepted (verdict_of g n free) ≡ false
  pub same : after_verdict g (verdict_of g n free) ≡ g

nothing_by : (g : FarmState) (n : ℕ) (free : Bool) (v : Verdict) → verdict_of g n free ≡ v → is_accepted v ≡ false
    → after_verdict g v ≡ g → DoesNothing g n free
nothing_by g n free v is accepts same =
    record { accepts = ap is_accepted is ∙ accepts; same = ap (after_verdict g) is ∙ same }

-- the place of its number, the receiver's state, and whether a buffer is free, then and now
module _ (f : FarmState) (n : ℕ) (free : Bool) where
  -- the receiver's row for the number
  abbrev row : Bool → FarmMode → Verdict
  row = ad_verdict (place_at (f.width / 2) (ahead_by n f.vr))

  abbrev Is : (Bool → FarmMode → Verdict) → Type 0
  Is v = (free : Bool) (mode : FarmMode) → row free mode ≡ v free mode

  in_mode : (mode : FarmMode) → f.state ≡ mode → verdict_of f n free ≡ row free mode
  in_mode mode is = ap (row free) is

  -- the frame that was accepted is then behind
  abbrev NextBehind : Type 0
  NextBehind = ahead_by n f.vr ≡ 0
      → ad_verdict (place_at (f.width / 2) (ahead_by n ((f.vr + 1) % 256))) free Open ≡ Behind

  expected_again : (first : Bool) (mode : FarmMode) → f.state ≡ mode → NextBehind → ahead_by n f.vr ≡ 0
      → Is (ad_verdict (place_at 127 0))
      → DoesNothing (after_verdict f (ad_verdict (place_at 127 0) first mode)) n free
  expected_again true Open is next none at =
      nothing_by (after_verdict f Accepted) n free Behind
      (subst (λ (m : FarmMode).
      ad_verdict (place_at (f.width / 2) (ahead_by n ((f.vr + 1) % 256))) free m ≡ Behind) (sym is) (next none))
      refl refl
  expected_again false Open is next none at =
      nothing_by (after_verdict f NoBuffer) n free Discarded (at free Wait ∙ waits_on free) refl refl
  expected_again true Wait is next none at =
      nothing_by f n free Discarded (in_mode Wait is ∙ at free Wait ∙ waits_on free) refl refl
  expected_again false Wait is next none at =
      nothing_by f n free Discarded (in_mode Wait is ∙ at free Wait ∙ waits_on free) refl refl
  expected_again true Lockout is next none at =
      nothing_by f n free Discarded (in_mode Lockout is ∙ at free Lockout ∙ locks_on free) refl refl
  expected_again false Lockout is next none at =
      nothing_by f n free Discarded (in_mode Lockout is ∙ at free Lockout ∙ locks_on free) refl refl

  ahead_again : (first : Bool) (mode : FarmMode) → f.state ≡ mode → Is (ad_verdict (place_at 127 1))
      → DoesNothing (after_verdict f (ad_verdict (place_at 127 1) first mode)) n free
  ahead_again first Open is at =
      nothing_by (after_verdict f Ahead) n free Ahead (in_mode Open is ∙ at free Open) refl refl
  ahead_again first Wait is at = nothing_by f n free Discarded (in_mode Wait is ∙ at free Wait) refl refl
  ahead_again first Lockout is at = nothing_by f n free Discarded (in_mode Lockout is ∙ at free Lockout) refl refl

  behind_again : (first : Bool) (mode : FarmMode) → f.state ≡ mode → Is (ad_verdict (place_at 127 255))
      → DoesNothing (after_verdict f (ad_verdict (place_at 127 255) first mode)) n free
  behind_again first Open is at = nothing_by f n free Behind (in_mode Open is ∙ at free Open) refl refl
  behind_again first Wait is at = nothing_by f n free Discarded (in_mode Wait is ∙ at free Wait) refl refl
  behind_again first Lockout is at = nothing_by f n free Discarded (in_mode Lockout is ∙ at free Lockout) refl refl

  outside_again : (first : Bool) (mode : FarmMode) → f.state ≡ mode → Is (ad_verdict (place_at 1 2))
      → DoesNothing (after_verdict f (ad_verdict (place_at 1 2) first mode)) n free
  outside_again first Open is at = nothing_by (after_verdict f Outside) n free Discarded (at free Lockout) refl refl
  outside_again first Wait is at = nothing_by (after_verdict f Outside) n free Discarded (at free Lockout) refl refl
  outside_again first Lockout is at = nothing_by f n free Discarded (in_mode Lockout is ∙ at free Lockout) refl refl

  again : (first : Bool) → NextBehind → DoesNothing (after_verdict f (verdict_of f n first)) n free
  again first next =
      at_place (λ (v : Bool → FarmMode → Verdict). Is v → DoesNothing (after_verdict f (v first f.state)) n free)
      (f.width / 2) (ahead_by n f.vr) (expected_again first f.state refl next) (ahead_again first f.state refl)
      (behind_again first f.state refl) (outside_again first f.state refl) (λ free mode. refl)

-- what holds of each receiver with a configuration in its ranges
record IsFit (f : FarmState) : Type 0 where
  pub vr : f.vr < 256
  pub least : 2 ≤ f.width
  pub most : f.width ≤ 254

module _ (s : SpacecraftState) (fit : IsFit s.farm) (n : ℕ) (u : SegmentView) where
  next_behind : (free : Bool) → NextBehind s.farm n free
  next_behind free none =
      last_behind (s.farm.width / 2) (ahead_by n ((s.farm.vr + 1) % 256)) free (omega (arith, fit.least))
      (omega (arith, fit.most)) (one_less n s.farm.vr fit.vr none)

  sequence_farm : (v : Verdict) → (sequence_outcome s n u v).after.farm ≡ farm_step s.farm (AdArrives n (is_free s))
  sequence_farm v =
      cond_both (is_accepted v) _ _
      (λ (o : SpacecraftOutcome Received). o.after.farm ≡ farm_step s.farm (AdArrives n (is_free s)))
      (λ t. refl) (λ t. refl)

  sequence_again : (t : SpacecraftState) → t.farm ≡ (receive_sequence_step s n u).after.farm
      → (receive_sequence_step t n u).after ≡ t
  sequence_again t same =
      let free : Bool = is_free t in
      let nothing : DoesNothing t.farm n free =
      subst (λ (g : FarmState). DoesNothing g n free)
      (sym (same ∙ sequence_farm (verdict_of s.farm n (is_free s))))
      (again s.farm n free (is_free s) (next_behind free)) in
      cond_both (is_accepted (verdict_of t.farm n free)) _ _ (λ (o : SpacecraftOutcome Received). o.after ≡ t)
      (λ x. absurd (let no : true ≡ false = sym x ∙ nothing.accepts in cc))
      (λ x. ap (λ (g : FarmState). record t { farm = g }) nothing.same)

-- ---- a Type-B frame

unlock_again : (f : FarmState) (mode : FarmMode) → f.state ≡ mode → let g : FarmState = after_unlock f mode in
    after_unlock g g.state ≡ after_type_b g
unlock_again f Open is =
    let g : FarmState = after_unlock f Open in
    subst (λ (m : FarmMode). after_unlock g m ≡ after_type_b g) (sym is) refl
unlock_again f Wait is = refl
unlock_again f Lockout is = refl

set_again : (f : FarmState) (x : ℕ) (mode : FarmMode) → f.state ≡ mode → let g : FarmState = after_set_vr f x mode in
    after_set_vr g x g.state ≡ after_type_b g
set_again f x Open is =
    let g : FarmState = after_set_vr f x Open in
    subst (λ (m : FarmMode). after_set_vr g x m ≡ after_type_b g) (sym is) refl
set_again f x Wait is = refl
set_again f x Lockout is =
    let g : FarmState = after_set_vr f x Lockout in
    subst (λ (m : FarmMode). after_set_vr g x m ≡ after_type_b g) (sym is) refl

control_again : (f : FarmState) (command : Command) → let g : FarmState = farm_step f (command_event command) in
    farm_step g (command_event command) ≡ after_type_b g
control_again f Unlock = unlock_again f f.state refl
control_again f (SetVr x) = set_again f x f.state refl

-- ---- octets

-- these octets reach this spacecraft as octets that have just come
abbrev IsAgain : SpacecraftState → Result FrameView TcFault → Type 0
IsAgain t r = (frame_outcome t r).after ≡ received_again t r

own_or_not : (t : SpacecraftState) (f : BodyView) (own : Bool) → (body_outcome t f).after ≡ again_by t f
    → let foreign : SpacecraftOutcome Received = record { answer = Foreign; after = t } in
    (if own then body_outcome t f else foreign).after ≡ (if own then again_by t f else t)
own_or_not t f true is = is
own_or_not t f false is = refl

control_so : (f : FarmState) (t : SpacecraftState) (command : Command) → t.farm ≡ farm_step f (command_event command)
    → (body_outcome t (Bc command)).after ≡ again_by t (Bc command)
control_so f t command same =
    ap (λ (g : FarmState). record t { farm = g })
    (subst (λ (g : FarmState). farm_step g (command_event command) ≡ after_type_b g) (sym same)
    (control_again f command))

-- the octets come once, and the same holds again while the receiver has not changed since
body_later : (s t : SpacecraftState) → IsFit s.farm → (f : BodyView) → t.farm ≡ (body_outcome s f).after.farm
    → (body_outcome t f).after ≡ again_by t f
body_later s t fit (Ad n u) same = sequence_again s fit n u t same
body_later s t fit (Bd u) same = refl
body_later s t fit (Bc command) same = control_so s.farm t command same

body_once : (s : SpacecraftState) → IsFit s.farm → (f : BodyView)
    → let once : SpacecraftState = (body_outcome s f).after in (body_outcome once f).after ≡ again_by once f
body_once s fit f = body_later s (body_outcome s f).after fit f refl

body_next : (t : SpacecraftState) (f : BodyView) → (body_outcome t f).after ≡ again_by t f
    → let next : SpacecraftState = (body_outcome t f).after in (body_outcome next f).after ≡ again_by next f
body_next t (Ad n u) is =
    subst (λ (x : SpacecraftState). (body_outcome x (Ad n u)).after ≡ x) (sym is) is
body_next t (Bd u) is = refl
body_next t (Bc command) is = control_so t.farm (body_outcome t (Bc command)).after command refl

frame_once : (s : SpacecraftState) → IsFit s.farm → (r : Result FrameView TcFault) → IsAgain (frame_outcome s r).after r
frame_once s fit (Err fault) = refl
frame_once s fit (Ok frame) =
    cond_both (is_own_frame s.config frame) (body_outcome s frame.body) _
    (λ (o : SpacecraftOutcome Received). IsAgain o.after (Ok frame))
    (λ t. let once : SpacecraftState = (body_outcome s frame.body).after in
    own_or_not once frame.body (is_own_frame once.config frame) (body_once s fit frame.body)) (λ t. rw t refl)

frame_later : (s t : SpacecraftState) → IsFit s.farm → t.config ≡ s.config → (r : Result FrameView TcFault)
    → t.farm ≡ (frame_outcome s r).after.farm → IsAgain t r
frame_later s t fit config (Err fault) = λ same. refl
frame_later s t fit config (Ok frame) =
    cond_both (is_own_frame s.config frame) (body_outcome s frame.body) _
    (λ (o : SpacecraftOutcome Received). t.farm ≡ o.after.farm → IsAgain t (Ok frame))
    (λ own same. own_or_not t frame.body (is_own_frame t.config frame) (body_later s t fit frame.body same))
    (λ none same. rw (ap (λ c. is_own_frame c frame) config ∙ none) refl)

own_part : (t : SpacecraftState) (f : BodyView) (own : Bool) → own ≡ true
    → let foreign : SpacecraftOutcome Received = record { answer = Foreign; after = t } in
    (if own then body_outcome t f else foreign).after ≡ (if own then again_by t f else t)
    → (body_outcome t f).after ≡ again_by t f
own_part t f true own is = is
own_part t f false own is = absurd cc

frame_next : (t : SpacecraftState) (r : Result FrameView TcFault) → IsAgain t r → IsAgain (frame_outcome t r).after r
frame_next t (Err fault) is = refl
frame_next t (Ok frame) is =
    cond_both (is_own_frame t.config frame) (body_outcome t frame.body) _
    (λ (o : SpacecraftOutcome Received). IsAgain o.after (Ok frame))
    (λ own. let next : SpacecraftState = (body_outcome t frame.body).after in
    own_or_not next frame.body (is_own_frame next.config frame)
    (body_next t frame.body (own_part t frame.body (is_own_frame t.config frame) own is))) (λ none. is)

-- ---- so the receiver is left as it was, except for FARM-B

bypass_left : (t : SpacecraftState) (u : SegmentView) (kept : Bool)
    → is_left t.farm (bypass_outcome t u kept).after.farm ≡ true
bypass_left t u true = same_left t.farm
bypass_left t u false = same_left t.farm

body_left : (t : SpacecraftState) (f : BodyView) → is_left t.farm (again_by t f).farm ≡ true
body_left t (Ad n u) = same_left t.farm
body_left t (Bd u) = bypass_left t u (is_kept t.config u)
body_left t (Bc command) = same_left t.farm

again_left : (t : SpacecraftState) (r : Result FrameView TcFault) → is_left t.farm (received_again t r).farm ≡ true
again_left t (Err fault) = same_left t.farm
again_left t (Ok frame) =
    cond_both (is_own_frame t.config frame) _ _ (λ (x : SpacecraftState). is_left t.farm x.farm ≡ true)
    (λ own. body_left t frame.body) (λ none. same_left t.farm)

left_again : (t : SpacecraftState) (r : Result FrameView TcFault) → IsAgain t r
    → is_left t.farm (frame_outcome t r).after.farm ≡ true
left_again t r is = subst (λ (x : SpacecraftState). is_left t.farm x.farm ≡ true) (sym is) (again_left t r)

-- ---- the session continues, however often they come

lasts_again : (octets : List ℕ) (more : ℕ) (w : World) → IsAgain w.spacecraft (frame_at On octets)
    → SessionLasts w (replicate more (Receives octets))
lasts_again octets zero w is = tt
lasts_again octets (suc more) w is =
    let r : Result FrameView TcFault = frame_at On octets in
    let after : SpacecraftState = (frame_outcome w.spacecraft r).after in
    let next : IsAgain after r = frame_next w.spacecraft r is in (
      left_again w.spacecraft r is,
      lasts_again octets more (link_step w (Receives octets))
          (cond_both (is_left w.spacecraft.farm after.farm) (record w { spacecraft = after })
          (with_nodes w w.ground_node after) (λ (x : World). IsAgain x.spacecraft r) (λ t. next) (λ t. next)),
    )

fit_after : (w : World) → HasOctetPast w → IsFit w.spacecraft.farm
fit_after w past =
    let k = known w past in
    let same = k.holds.sound.spacecraft.farm.width in
    let ranges = k.holds.sound.ranges.width in record {
      vr = k.octets.receiver.vr;
      least = omega (arith, same, ranges.0);
      most = omega (arith, same, ranges.1);
    }

pub each_comes_again : EachComesAgain
each_comes_again w octets past = frame_once w.spacecraft (fit_after w past) (frame_at On octets)

pub each_goes_on_again : EachGoesOnAgain
each_goes_on_again w octets way more past first =
    subst (λ (up : List (List ℕ)). SessionLasts (up_deliver_step w up).after (replicate more (Receives octets)))
    (sym first)
    (lasts_again octets more (up_deliver_step w (octets ∷ way)).after
    (frame_once w.spacecraft (fit_after w past) (frame_at On octets)))

pub each_goes_on_unchanged : EachGoesOnUnchanged
each_goes_on_unchanged w v octets past config same =
    let r : Result FrameView TcFault = frame_at On octets in
    left_again v.spacecraft r (frame_later w.spacecraft v.spacecraft (fit_after w past) config r same)

-- ---- the answers to octets

module _ (s : SpacecraftState) where
  abbrev Left_so : SpacecraftOutcome Received → Type 0
  Left_so o = IsAnsweredLeft o.answer → is_left s.farm o.after.farm ≡ true

  verdict_so : (n : ℕ) (u : SegmentView) (v : Verdict) → verdict_of s.farm n (is_free s) ≡ v
      → Left_so (sequence_outcome s n u v)
  verdict_so n u Behind is left =
      subst (λ (g : FarmState). is_left s.farm g ≡ true) (sym (ap (after_verdict s.farm) is)) (same_left s.farm)
  verdict_so n u Discarded is left =
      subst (λ (g : FarmState). is_left s.farm g ≡ true) (sym (ap (after_verdict s.farm) is)) (same_left s.farm)
  verdict_so n u v is left = elim left [ ]

  bypass_so : (u : SegmentView) (kept : Bool) → Left_so (bypass_outcome s u kept)
  bypass_so u true left = same_left s.farm
  bypass_so u false left = same_left s.farm

  body_so : (f : BodyView) → Left_so (body_outcome s f)
  body_so (Ad n u) = verdict_so n u (verdict_of s.farm n (is_free s)) refl
  body_so (Bd u) = bypass_so u (is_kept s.config u)
  body_so (Bc command) = λ left. elim left [ ]

  answered_so : (r : Result FrameView TcFault) → Left_so (frame_outcome s r)
  answered_so (Err fault) = λ left. same_left s.farm
  answered_so (Ok frame) =
      cond_both (is_own_frame s.config frame) (body_outcome s frame.body) _ Left_so (λ t. body_so frame.body)
      (λ t left. same_left s.farm)

pub each_is_answered : EachIsAnswered
each_is_answered w octets = answered_so w.spacecraft (frame_at On octets)
