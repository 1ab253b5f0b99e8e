-- What is in transit, what a CLCW does, and how the nodes, the records and a plain link agree in a session
-- that had an idle start: before it is confirmed, before it is settled, and after.
use Rattle.tc_link.proofs.Common.{◌≡◌, ℕ, ◌+◌, ◌*◌, ◌%◌, ◌<◌, ◌≤◌, max, Bool, true, false, List, [], ◌∷◌, ◌++◌, Some}
use Rattle.tc_link.proofs.Common.{refl, arith, slice_get, Clcw, Command, Unlock, SetVr, SegmentView, BodyView, Ad, Bd}
use Rattle.tc_link.proofs.Common.{Bc, Directive, InitUnlock, InitSetVr, locks, waits, asks, Rises, ◌⊎◌, inl, inr, drop}
use Rattle.tc_link.proofs.Common.{Option, None, ◌∙◌, ltb-true, ahead_by, FopMode, S2, S3, S4, S5, Alert, Synch, Limit}
use Rattle.tc_link.proofs.Common.{FopState, FopOutcome, IsActive, units_of, report_while_active, after_move_on}
use Rattle.tc_link.proofs.Common.{retransmits, after_new_value, after_acknowledge, after_repeat, alerts, goes_on}
use Rattle.tc_link.proofs.Common.{is_closed, heard_active, active_on, length, ap, Control, Idle, Due, Sent}
use Rattle.tc_link.proofs.Common.{InitWithCheck, S6, FarmState, IsChecked, PlainLink, PlainRun, new_link, more, ◌/◌}
use Rattle.tc_link.proofs.Common.{take, map, Ok, sym, subst, AllByRecursion, On, segment_octets, is_open, segments_of}
use Rattle.tc_link.proofs.Common.{cut_fault, SentUnit, Config, limits_of, FitsFrame, PacketOn, frame_of}
use Rattle.tc_link.proofs.Common.{unsent_segments, World, directive_of, AtMostOneStep}
use Rattle.std.specs.List.{flat_map}
use Rattle.tc_frame.specs.Decoding as command
use Rattle.clcw.specs.Decoding.{clcw_at}
use Rattle.tm_link.specs.Layout as telemetry
use Rattle.tm_link.specs.Decoding as telemetry_reading
use Rattle.cop1.specs.declared.vocabulary.Alert.TheVariants.{Lockout, Clcw as ClcwAlert}
use Rattle.cop1.specs.FopWords.{after_gone}
use Rattle.tc_link.specs.PlainLink.{none, reports as tells}
use Rattle.tc_link.proofs.Lists.{get_append, units-marked, units-drop}

-- What is in transit, compared with what a plain link has in transit.

-- the control command of a session that a directive begins, counting from `base`
abbrev pub CommandFits : Directive → ℕ → Command → Type 0
CommandFits InitUnlock base Unlock = Unit {0}
CommandFits (InitSetVr x) base (SetVr y) = y ≡ base
CommandFits _ base _ = ⊥

-- the frames are the pairs; control frames come only before the first of them, and only if `front` is
-- set
abbrev pub UpIs : Directive → ℕ → Bool → List BodyView → List (ℕ × SegmentView) → Type 0
UpIs d base front [] [] = Unit {0}
UpIs d base front (Bd s ∷ fs) qs = UpIs d base front fs qs
UpIs d base front (Bc command ∷ fs) qs = (front ≡ true) × CommandFits d base command × UpIs d base front fs qs
UpIs d base front (Ad n u ∷ fs) (q ∷ qs) = (n ≡ (base + q.0) % 256) × (u ≡ q.1) × UpIs d base false fs qs
UpIs d base front _ _ = ⊥

abbrev pub DownIs : ℕ → List Clcw → List ℕ → Type 0
DownIs base [] [] = Unit {0}
DownIs base (c ∷ cs) (v ∷ vs) = (c.value ≡ (base + v) % 256) × DownIs base cs vs
DownIs base _ _ = ⊥

-- each pair was sent, and none before it takes the receiver beyond its window
abbrev pub Fits : (h n : ℕ) → List SegmentView → ℕ → List (ℕ × SegmentView) → Type 0
Fits h n units r [] = Unit {0}
Fits h n units r (q ∷ qs) =
    (slice_get units q.0 ≡ Some q.1) × (q.0 < n) × (r ≤ q.0 + h) × Fits h n units (max r (q.0 + 1)) qs

abbrev pub bit : Bool → ℕ
bit true = 1
bit false = 0

-- A CLCW's rank is twice its value, and one more if it requests retransmission. The ranks rise, no CLCW has the
-- lockout flag, and one with the wait flag requests retransmission.
abbrev pub Ranks : ℕ → List Clcw → List ℕ → ℕ → Type 0
Ranks low [] [] high = low ≤ high
Ranks low (c ∷ cs) (v ∷ vs) high =
    (locks c ≡ false) × (waits c ≡ true → asks c ≡ true) × (low ≤ 2 * v + bit (asks c))
    × Ranks (2 * v + bit (asks c)) cs vs high
Ranks low _ _ high = ⊥

-- ---- what keeps them

pub up_push : (d : Directive) (base n i : ℕ) (u : SegmentView) (front : Bool) (fs : List BodyView)
    (qs : List (ℕ × SegmentView)) → n ≡ (base + i) % 256 → UpIs d base front fs qs
    → UpIs d base front (fs ++ Ad n u ∷ []) (qs ++ (i, u) ∷ [])
up_push d base n i u front [] [] e h = (e, refl, tt)
up_push d base n i u front (Bd s ∷ fs) qs e h = up_push d base n i u front fs qs e h
up_push d base n i u front (Bc command ∷ fs) qs e h = (h.0, h.1, up_push d base n i u front fs qs e h.2)
up_push d base n i u front (Ad m v ∷ fs) (q ∷ qs) e h = (h.0, h.1, up_push d base n i u false fs qs e h.2)
up_push d base n i u front _ _ e h = elim h [ ]

pub up_push_bypass : (d : Directive) (base : ℕ) (s : SegmentView) (front : Bool) (fs : List BodyView)
    (qs : List (ℕ × SegmentView)) → UpIs d base front fs qs → UpIs d base front (fs ++ Bd s ∷ []) qs
up_push_bypass d base s front [] [] h = tt
up_push_bypass d base s front (Bd t ∷ fs) qs h = up_push_bypass d base s front fs qs h
up_push_bypass d base s front (Bc command ∷ fs) qs h = (h.0, h.1, up_push_bypass d base s front fs qs h.2)
up_push_bypass d base s front (Ad m v ∷ fs) (q ∷ qs) h = (h.0, h.1, up_push_bypass d base s false fs qs h.2)
up_push_bypass d base s front _ _ h = elim h [ ]

-- before any Type-AD frame
pub up_push_control : (d : Directive) (base : ℕ) (command : Command) (fs : List BodyView) → CommandFits d base command
    → UpIs d base true fs [] → UpIs d base true (fs ++ Bc command ∷ []) []
up_push_control d base command [] fits h = (refl, fits, tt)
up_push_control d base command (Bd s ∷ fs) fits h = up_push_control d base command fs fits h
up_push_control d base command (Bc other ∷ fs) fits h = (h.0, h.1, up_push_control d base command fs fits h.2)
up_push_control d base command (Ad m v ∷ fs) fits h = elim h [ ]

pub down_push : (base v : ℕ) (c : Clcw) (cs : List Clcw) (vs : List ℕ) → c.value ≡ (base + v) % 256 → DownIs base cs vs
    → DownIs base (cs ++ c ∷ []) (vs ++ v ∷ [])
down_push base v c [] [] e h = (e, tt)
down_push base v c (d ∷ ds) (w ∷ ws) e h = (h.0, down_push base v c ds ws e h.1)
down_push base v c _ _ e h = elim h [ ]

pub fits_less : (h n : ℕ) (units : List SegmentView) (r s : ℕ) (qs : List (ℕ × SegmentView)) → s ≤ r
    → Fits h n units r qs → Fits h n units s qs
fits_less h n units r s [] below fit = tt
fits_less h n units r s (q ∷ qs) below fit =
    (fit.0, fit.1, omega (arith, fit.2), fits_less h n units (max r (q.0 + 1)) (max s (q.0 + 1)) qs (omega arith) fit.3)

pub fits_longer : (h n : ℕ) (units new : List SegmentView) (r : ℕ) (qs : List (ℕ × SegmentView)) → Fits h n units r qs
    → Fits h n (units ++ new) r qs
fits_longer h n units new r [] fit = tt
fits_longer h n units new r (q ∷ qs) fit =
    (get_append units new q.0 q.1 fit.0, fit.1, fit.2, fits_longer h n units new (max r (q.0 + 1)) qs fit.3)

pub fits_further : (h n m : ℕ) (units : List SegmentView) (r : ℕ) (qs : List (ℕ × SegmentView)) → n ≤ m
    → Fits h n units r qs → Fits h m units r qs
fits_further h n m units r [] below fit = tt
fits_further h n m units r (q ∷ qs) below fit =
    (fit.0, omega (arith, fit.1), fit.2, fits_further h n m units (max r (q.0 + 1)) qs below fit.3)

pub fits_push : (h n i : ℕ) (u : SegmentView) (units : List SegmentView) (r : ℕ) (qs : List (ℕ × SegmentView)) → r ≤ n
    → n ≤ i + h → i < n → slice_get units i ≡ Some u → Fits h n units r qs → Fits h n units r (qs ++ (i, u) ∷ [])
fits_push h n i u units r [] below near sent is fit = (is, sent, omega arith, tt)
fits_push h n i u units r (q ∷ qs) below near sent is fit =
    (fit.0, fit.1, fit.2, fits_push h n i u units (max r (q.0 + 1)) qs (omega (arith, fit.1)) near sent is fit.3)

pub rises_push : (low high : ℕ) (vs : List ℕ) → Rises low vs high → Rises low (vs ++ high ∷ []) high
rises_push low high [] up = (up, omega arith)
rises_push low high (v ∷ vs) up = (up.0, rises_push v high vs up.1)

pub rises_higher : (low high higher : ℕ) (vs : List ℕ) → high ≤ higher → Rises low vs high → Rises low vs higher
rises_higher low high higher [] above up = omega arith
rises_higher low high higher (v ∷ vs) above up = (up.0, rises_higher v high higher vs above up.1)

pub rises_lower : (low lower high : ℕ) (vs : List ℕ) → lower ≤ low → Rises low vs high → Rises lower vs high
rises_lower low lower high [] below up = omega arith
rises_lower low lower high (v ∷ vs) below up = (omega (arith, up.0), up.1)

pub rises_to : (low high : ℕ) (vs : List ℕ) → Rises low vs high → low ≤ high
rises_to low high [] up = up
rises_to low high (v ∷ vs) up = omega (arith, up.0, rises_to v high vs up.1)

pub ranks_push : (low high r : ℕ) (c : Clcw) (cs : List Clcw) (vs : List ℕ) → locks c ≡ false
    → (waits c ≡ true → asks c ≡ true) → high ≡ 2 * r + bit (asks c) → Ranks low cs vs high
    → Ranks low (cs ++ c ∷ []) (vs ++ r ∷ []) high
ranks_push low high r c [] [] free waiting is up = (free, waiting, omega arith, omega arith)
ranks_push low high r c (d ∷ ds) (w ∷ ws) free waiting is up =
    (up.0, up.1, up.2, ranks_push (2 * w + bit (asks d)) high r c ds ws free waiting is up.3)
ranks_push low high r c _ _ free waiting is up = elim up [ ]

pub ranks_higher : (low high higher : ℕ) (cs : List Clcw) (vs : List ℕ) → high ≤ higher → Ranks low cs vs high
    → Ranks low cs vs higher
ranks_higher low high higher [] [] above up = omega arith
ranks_higher low high higher (d ∷ ds) (w ∷ ws) above up =
    (up.0, up.1, up.2, ranks_higher (2 * w + bit (asks d)) high higher ds ws above up.3)
ranks_higher low high higher _ _ above up = elim up [ ]

pub ranks_lower : (low lower high : ℕ) (cs : List Clcw) (vs : List ℕ) → lower ≤ low → Ranks low cs vs high
    → Ranks lower cs vs high
ranks_lower low lower high [] [] below up = omega arith
ranks_lower low lower high (d ∷ ds) (w ∷ ws) below up = (up.0, up.1, omega (arith, up.2), up.3)
ranks_lower low lower high _ _ below up = elim up [ ]

pub ranks_to : (low high : ℕ) (cs : List Clcw) (vs : List ℕ) → Ranks low cs vs high → low ≤ high
ranks_to low high [] [] up = up
ranks_to low high (d ∷ ds) (w ∷ ws) up = omega (arith, up.2, ranks_to (2 * w + bit (asks d)) high ds ws up.3)
ranks_to low high _ _ up = elim up [ ]

-- What a CLCW does at the sender, if its value lies between the numbers of what is acknowledged and what was sent.

-- 1 if the sender was asked to retransmit
abbrev pub asked : FopMode → ℕ
asked S2 = 1
asked S3 = 1
asked _ = 0

abbrev pub IsLate : FopMode → Type 0
IsLate S4 = ⊥
IsLate S5 = ⊥
IsLate _ = Unit {0}

active_late : (m : FopMode) → IsActive m → IsLate m
active_late S4 active = active
active_late S5 active = active
active_late _ active = tt

-- the alerts that a CLCW may lead to
abbrev pub IsAllowed : Bool → ℕ → Option Alert → Type 0
IsAllowed asking limit None = Unit {0}
IsAllowed asking limit (Some Limit) = (asking ≡ true) × (limit ≡ 1)
IsAllowed asking limit (Some _) = ⊥

-- what is kept of the queues, while the sender is off and while it is on
abbrev pub HeldBy : {A : Type 0} → Bool → FopState SegmentView → ℕ → FopOutcome SegmentView A → Type 0
HeldBy true s gone o = (o.after.sent ≡ []) × (o.after.waiting ≡ None)
HeldBy false s gone o = (units_of o.after.sent ≡ drop gone (units_of s.sent)) × (o.after.waiting ≡ s.waiting)

-- the state to which an outcome leads that acknowledges `gone` units
pub record Leads (base : ℕ) (checked : Type 0) (s : FopState SegmentView) (asking : Bool) (rank a gone : ℕ)
    (o : FopOutcome SegmentView (Option Alert)) : Type 0 where
  pub vs_is : o.after.vs ≡ s.vs
  pub nn_is : o.after.nn ≡ (base + (a + gone)) % 256
  pub late : IsLate o.after.state
  pub held : HeldBy (is_closed o.after.state) s gone o
  pub rank_is : checked → 2 * (a + gone) + asked o.after.state ≤ rank
  pub allowed : checked → IsAllowed asking s.limit o.answer

-- what is known when a CLCW arrives
pub record ReportComes (base h : ℕ) (checked : Type 0) (s : FopState SegmentView) (a n : ℕ) (c : Clcw) (v : ℕ) : Type 0
  where
    pub value_is : c.value ≡ (base + v) % 256
    pub low : a ≤ v
    pub high : v ≤ n
    pub n_a : n ≤ a + h
    pub half_most : h ≤ 127
    pub vs_is : s.vs ≡ (base + n) % 256
    pub nn_is : s.nn ≡ (base + a) % 256
    pub unlocked : checked → locks c ≡ false
    pub wait_flag : checked → waits c ≡ true → asks c ≡ true
    pub rank_low : checked → 2 * a + asked s.state ≤ 2 * v + bit (asks c)
    pub rank_high : checked → 2 * v + bit (asks c) ≤ 2 * n

abbrev pub Led : ℕ → Type 0 → FopState SegmentView → ℕ → Clcw → ℕ → FopOutcome SegmentView (Option Alert) → Type 0
Led base checked s a c v o =
    (gone : ℕ) × ((gone ≡ 0) ⊎ (a + gone ≡ v)) × Leads base checked s (asks c) (2 * v + bit (asks c)) a gone o

module _ (base h : ℕ) (checked : Type 0) (s : FopState SegmentView) (a n : ℕ) (c : Clcw) (v : ℕ)
    (k : ReportComes base h checked s a n c v) where
  alert_led : (x : Alert) → (checked → IsAllowed (asks c) s.limit (Some x)) → Led base checked s a c v (alerts s x)
  alert_led x allowed = (
    0,
    inl refl,
    record {
      vs_is = refl;
      nn_is = omega (arith, k.nn_is);
      late = tt;
      held = (refl, refl);
      rank_is = λ is. omega (arith, k.low);
      allowed = allowed;
    },
  )

  same_led : (f : FopState SegmentView) → f.vs ≡ s.vs → f.nn ≡ s.nn → IsLate f.state → is_closed f.state ≡ false
      → units_of f.sent ≡ units_of s.sent → f.waiting ≡ s.waiting
      → (checked → 2 * a + asked f.state ≤ 2 * v + bit (asks c)) → Led base checked s a c v (goes_on f)
  same_led f vs nn late on sent waiting rank_is = (
    0,
    inl refl,
    record {
      vs_is = vs;
      nn_is = omega (arith, nn, k.nn_is);
      late = late;
      held = rw on (sent, waiting);
      rank_is = λ is. omega (arith, rank_is is);
      allowed = λ is. tt;
    },
  )

  were_asked : (s.state ≡ S2) ⊎ (s.state ≡ S3) → asked s.state ≡ 1
  were_asked were = elim were [ inl is ↦ rw is refl | inr is ↦ rw is refl ]

  again_led : asks c ≡ true → (repeats : Bool) → Led base checked s a c v (goes_on (retransmits s repeats))
  again_led asking true =
      same_led (record (after_repeat s) { state = S2 }) refl refl tt refl (units-marked s.sent) refl
      (λ t. rw asking (omega (arith, k.low)))
  again_led asking false =
      same_led (record s { state = S2 }) refl refl tt refl refl refl (λ t. rw asking (omega (arith, k.low)))

  -- a CLCW that acknowledges
  gone_is : a + ahead_by c.value s.nn ≡ v
  gone_is = omega (arith, k.value_is, k.nn_is, k.low, k.high, k.n_a, k.half_most)

  gone_led : (f : FopState SegmentView) → f.vs ≡ s.vs → f.nn ≡ c.value → IsLate f.state → is_closed f.state ≡ false
      → units_of f.sent ≡ units_of (drop (ahead_by c.value s.nn) s.sent) → f.waiting ≡ s.waiting
      → asked f.state ≤ bit (asks c) → Led base checked s a c v (after_gone (ahead_by c.value s.nn) (goes_on f))
  gone_led f vs nn late on sent waiting rank_is = (
    ahead_by c.value s.nn,
    inr gone_is,
    record {
      vs_is = vs;
      nn_is = rw gone_is (nn ∙ k.value_is);
      late = late;
      held = rw on (sent ∙ units-drop (ahead_by c.value s.nn) s.sent, waiting);
      rank_is = λ is. omega (arith, gone_is);
      allowed = λ is. tt;
    },
  )

  gone_alert_led : asks c ≡ true → s.limit ≡ 1
      → Led base checked s a c v (after_gone (ahead_by c.value s.nn) (alerts (after_new_value s c.value) Limit))
  gone_alert_led asking one = (
    ahead_by c.value s.nn,
    inr gone_is,
    record {
      vs_is = refl;
      nn_is = rw gone_is k.value_is;
      late = tt;
      held = (refl, refl);
      rank_is = λ is. omega (arith, gone_is);
      allowed = λ is. (asking, one);
    },
  )

  pub active_led : IsActive s.state → Led base checked s a c v (report_while_active s c)
  active_led active = heard_active s c (Led base checked s a c v) (record {
    locked = λ t. alert_led Lockout (λ is. absurd (let no : locks c ≡ false = k.unlocked is in cc));
    outside = λ t. absurd (omega (arith, ltb-true _ _ t));
    wait_flag = λ unasked waiting. alert_led ClcwAlert
        (λ is. absurd (let yes : asks c ≡ true = k.wait_flag is waiting in cc));
    asks_none = λ asking at. alert_led Synch (λ is. absurd (
        let most : 2 * v + 1 ≤ 2 * n = rw asking at (k.rank_high is) in
        omega (arith, at, k.value_is, k.vs_is, k.low, k.n_a, k.half_most)
        ));
    same = same_led s refl refl (active_late s.state active) (active_on s.state active) refl refl k.rank_low;
    ceases = λ unasked at were. alert_led Synch (λ is. absurd (
        let low : 2 * a + 1 ≤ 2 * v + 0 = rw (were_asked were, unasked) at (k.rank_low is) in
        omega (arith, at, k.value_is, k.nn_is, k.high, k.n_a, k.half_most)
        ));
    moves = λ inside. gone_led (after_move_on (after_acknowledge s c.value)) refl refl tt refl refl refl (omega arith);
    others_over = λ inside asking one. gone_alert_led asking one;
    others_wait = λ inside asking. gone_led (record (after_new_value s c.value) { state = S3 }) refl refl tt refl refl
        refl (rw asking (omega arith));
    others_again = λ inside asking. gone_led (record (after_repeat (after_new_value s c.value)) { state = S2 }) refl
        refl tt refl (units-marked (drop (ahead_by c.value s.nn) s.sent)) refl (rw asking (omega arith));
    all_over = λ asking one. alert_led Limit (λ is. (asking, one));
    all_wait = λ asking. same_led (record s { state = S3 }) refl refl tt refl refl refl
        (λ is. rw asking (omega (arith, k.low)));
    all_again = again_led;
  })

-- Before a session that is begun by CLCW check, Unlock or Set V(R) is confirmed.

-- ---- CLCWs that confirm

-- a CLCW that confirms
abbrev pub Good : ℕ → Clcw → Type 0
Good base c = (locks c ≡ false) × (waits c ≡ false) × (asks c ≡ false) × (c.value ≡ base)

-- a receiver that would now make such a CLCW
abbrev pub WouldConfirm : ℕ → FarmState → Type 0
WouldConfirm base s = (s.lockout ≡ false) × (s.wait ≡ false) × (s.retransmit ≡ false) × (s.vr ≡ base)

-- each CLCW confirms, and at their end this holds
abbrev pub AllGood : ℕ → List Clcw → Type 0 → Type 0
AllGood base [] last = last
AllGood base (c ∷ cs) last = Good base c × AllGood base cs last

-- from a CLCW that confirms on, each one does
abbrev pub Lasts : ℕ → List Clcw → Type 0 → Type 0
Lasts base [] last = Unit {0}
Lasts base (c ∷ cs) last = (Good base c → AllGood base cs last) × Lasts base cs last

pub all_good_on : (base : ℕ) (cs : List Clcw) (l m : Type 0) → (l → m) → AllGood base cs l → AllGood base cs m
all_good_on base [] l m on all = on all
all_good_on base (c ∷ cs) l m on all = (all.0, all_good_on base cs l m on all.1)

pub lasts_on : (base : ℕ) (cs : List Clcw) (l m : Type 0) → (l → m) → Lasts base cs l → Lasts base cs m
lasts_on base [] l m on all = tt
lasts_on base (c ∷ cs) l m on all = (λ good. all_good_on base cs l m on (all.0 good), lasts_on base cs l m on all.1)

all_good_push : (base : ℕ) (c : Clcw) (cs : List Clcw) (l : Type 0) → (l → Good base c) → AllGood base cs l
    → AllGood base (cs ++ c ∷ []) l
all_good_push base c [] l is all = (is all, all)
all_good_push base c (x ∷ xs) l is all = (all.0, all_good_push base c xs l is all.1)

pub lasts_push : (base : ℕ) (c : Clcw) (cs : List Clcw) (l : Type 0) → (l → Good base c) → (Good base c → l)
    → Lasts base cs l → Lasts base (cs ++ c ∷ []) l
lasts_push base c [] l is so all = (so, tt)
lasts_push base c (x ∷ xs) l is so all =
    (λ good. all_good_push base c xs l is (all.0 good), lasts_push base c xs l is so all.1)

pub last_good : (base : ℕ) (cs : List Clcw) (l : Type 0) → AllGood base cs l → l
last_good base [] l all = all
last_good base (c ∷ cs) l all = last_good base cs l all.1

-- ---- a plain link with as many CLCWs of 0

abbrev pub zeros : List Clcw → List ℕ
zeros [] = []
zeros (c ∷ cs) = 0 ∷ zeros cs

zeros-push : (cs : List Clcw) → zeros cs ++ 0 ∷ [] ≡ 0 ∷ zeros cs
zeros-push [] = refl
zeros-push (c ∷ cs) = ap (λ l. 0 ∷ l) (zeros-push cs)

abbrev pub zeros_plain : List Clcw → PlainLink
zeros_plain cs = record new_link { down = zeros cs }

pub zeros_run : (cs : List Clcw) → PlainRun new_link (zeros_plain cs)
zeros_run [] = none
zeros_run (c ∷ cs) =
    let one : PlainRun new_link (record new_link { down = zeros cs ++ 0 ∷ [] }) = more (zeros_run cs) tells in
    rw zeros-push at one

pub zeros_rise : (cs : List Clcw) → Rises 0 (zeros cs) 0
zeros_rise [] = omega arith
zeros_rise (c ∷ cs) = (omega arith, zeros_rise cs)

pub zeros_count : (cs : List Clcw) → length cs ≡ length (zeros cs)
zeros_count [] = refl
zeros_count (c ∷ cs) = omega (arith, zeros_count cs)

-- if each CLCW confirms, 0 is the number of each
pub good_down : (base low : ℕ) (cs : List Clcw) (vs : List ℕ) (l : Type 0) → base < 256 → length cs ≡ length vs
    → Rises low vs 0 → AllGood base cs l → DownIs base cs vs
good_down base low [] [] l most count up all = tt
good_down base low (c ∷ cs) (v ∷ vs) l most count up all = (
  omega (arith, all.0.3, rises_to v 0 vs up.1),
  good_down base v cs vs l most (omega (arith, count)) up.1 all.1,
)
good_down base low _ _ l most count up all = absurd cc

pub good_ranks : (base low rank : ℕ) (cs : List Clcw) (vs : List ℕ) (l : Type 0) → rank ≡ 0 → length cs ≡ length vs
    → Rises low vs 0 → AllGood base cs l → Ranks rank cs vs 0
good_ranks base low rank [] [] l least count up all = omega (arith, least)
good_ranks base low rank (c ∷ cs) (v ∷ vs) l least count up all =
    let none_asked : bit (asks c) ≡ 0 = rw all.0.2 refl in (
      all.0.0,
      λ t. absurd (let no : waits c ≡ false = all.0.1 in cc),
      omega (arith, least),
      good_ranks base v (2 * v + bit (asks c)) cs vs l (omega (arith, none_asked, rises_to v 0 vs up.1))
          (omega (arith, count)) up.1 all.1,
    )
good_ranks base low rank _ _ l least count up all = absurd cc

-- ---- what holds before the confirmation

-- a session waits for the confirmation, or has ended before it
abbrev pub IsEarly : Directive → FopMode → Type 0
IsEarly d S4 = d ≡ InitWithCheck
IsEarly d S5 = d ≡ InitWithCheck → ⊥
IsEarly d S6 = Unit {0}
IsEarly d _ = ⊥

pub early_off : (d : Directive) (m : FopMode) → IsEarly d m → IsActive m → ⊥
early_off d S4 early active = active
early_off d S5 early active = active
early_off d S6 early active = active
early_off d _ early active = early

abbrev pub ControlFits : Directive → ℕ → Control → Type 0
ControlFits d base Idle = Unit {0}
ControlFits d base (Due command) = CommandFits d base command
ControlFits d base (Sent command) = CommandFits d base command

-- each CLCW has the receiver's lockout flag, retransmit flag and V(R), and one with the wait flag requests
-- retransmission
abbrev pub AllSame : List Clcw → (lockout retransmit : Bool) (vr : ℕ) → Type 0
AllSame [] lockout retransmit vr = Unit {0}
AllSame (c ∷ cs) lockout retransmit vr =
    (locks c ≡ lockout) × (asks c ≡ retransmit) × (c.value ≡ vr) × (waits c ≡ true → asks c ≡ true)
    × AllSame cs lockout retransmit vr

pub same_push : (c : Clcw) (cs : List Clcw) (lockout retransmit : Bool) (vr : ℕ) → (locks c ≡ lockout)
    → (asks c ≡ retransmit) → (c.value ≡ vr) → (waits c ≡ true → asks c ≡ true) → AllSame cs lockout retransmit vr
    → AllSame (cs ++ c ∷ []) lockout retransmit vr
same_push c [] lockout retransmit vr l t v w all = (l, t, v, w, tt)
same_push c (x ∷ xs) lockout retransmit vr l t v w all =
    (all.0, all.1, all.2, all.3, same_push c xs lockout retransmit vr l t v w all.4)

pub record Unsettled (d : Directive) (base : ℕ) (m : FopMode) (control : Control) (farm : FarmState)
    (confirmed front : Bool) (reports : List Clcw) (n : ℕ) : Type 0 where
  pub checked : IsChecked d
  pub early : IsEarly d m
  pub command_is : ControlFits d base control
  pub confirmed_not : confirmed ≡ false
  pub front_is : front ≡ true
  pub none_sent : n ≡ 0
  pub lasts : Lasts base reports (WouldConfirm base farm)
  pub same : d ≡ InitWithCheck → AllSame reports farm.lockout farm.retransmit farm.vr

-- How the nodes, what is in transit, the records and a plain link agree in a session that had an idle
-- start. This covers the time before it is settled, and after.

-- ---- octets in transit

abbrev pub Carries : Config → List (List ℕ) → List BodyView → Type 0
Carries c [] [] = Unit {0}
Carries c (b ∷ bs) (f ∷ fs) = (command.frame_at On b ≡ Ok (frame_of c f)) × Carries c bs fs
Carries c _ _ = ⊥

-- octets of a telemetry frame with this CLCW
pub record Tells (c : Config) (octets : List ℕ) (report : Clcw) : Type 0 where
  pub frame : telemetry.FrameView
  pub reads : telemetry_reading.frame_at c.frame_length octets ≡ Ok frame
  pub scid : frame.scid ≡ c.scid
  pub vcid : frame.vcid ≡ c.tm_vcid
  pub word : clcw_at frame.ocf ≡ Ok report
  pub own : report.vcid ≡ c.vcid

abbrev pub Reporting : Config → List (List ℕ) → List Clcw → Type 0
Reporting c [] [] = Unit {0}
Reporting c (b ∷ bs) (r ∷ rs) = Tells c b r × Reporting c bs rs
Reporting c _ _ = ⊥

-- ---- a submission that was accepted

pub record IsGiven (c : Config) (p : PacketOn) : Type 0 where
  pub opened : is_open (limits_of c) p.on_map ≡ true
  pub cut : cut_fault (limits_of c) p.octets ≡ None

abbrev pub units_of_all : Config → List PacketOn → List SegmentView
units_of_all c ps = flat_map (λ (p : PacketOn). segments_of c.part p.on_map p.octets) ps

-- ---- what the sender holds while it is on

pub record Holds (base vs nn : ℕ) (sent : List (SentUnit SegmentView)) (rest : List SegmentView) (a n : ℕ)
    (units : List SegmentView) : Type 0 where
  pub vs_is : vs ≡ (base + n) % 256
  pub nn_is : nn ≡ (base + a) % 256
  pub sent_is : units_of sent ≡ drop a (take n units)
  pub rest_is : rest ≡ drop n units

-- while the sender is off, V(S) and NN(R) are still the session's, or were set since, and are equal
abbrev pub Kept : (base vs nn a n : ℕ) → Type 0
Kept base vs nn a n = ((vs ≡ (base + n) % 256) × (nn ≡ (base + a) % 256)) ⊎ (vs ≡ nn)

abbrev pub Held : Bool → (base vs nn : ℕ) → List (SentUnit SegmentView) → List SegmentView → (a n : ℕ)
    → List SegmentView → Type 0
Held true base vs nn sent rest a n units = Kept base vs nn a n
Held false base vs nn sent rest a n units = Holds base vs nn sent rest a n units

pub kept_of : (off : Bool) (base vs nn : ℕ) (sent : List (SentUnit SegmentView)) (rest : List SegmentView) (a n : ℕ)
    (units : List SegmentView) → Held off base vs nn sent rest a n units → Kept base vs nn a n
kept_of true base vs nn sent rest a n units held = held
kept_of false base vs nn sent rest a n units held = inl (held.vs_is, held.nn_is)

-- ---- from the beginning of the session on

pub record Linked (c : Config) (d : Directive) (base : ℕ) (w : World) (p : PlainLink) (front : Bool)
    (frames : List BodyView) (reports : List Clcw) : Type 0 where
  pub opened : directive_of w ≡ Some d
  pub base_octet : base < 256
  pub nn_octet : w.ground_node.fop.nn < 256
  pub held : Held (is_closed w.ground_node.fop.state) base w.ground_node.fop.vs w.ground_node.fop.nn
      w.ground_node.fop.sent (unsent_segments w.ground_node) p.a p.n p.units
  pub given : AllByRecursion (IsGiven c) w.session.submissions
  pub units_are : p.units ≡ units_of_all c w.session.submissions
  pub units_fit : AllByRecursion FitsFrame p.units
  pub sent_is : w.session.sent ≡ map segment_octets (take p.n p.units)
  pub accepted_is : drop w.session.before w.spacecraft.accepted ≡ take p.r p.units
  pub acked_is : w.session.acknowledged ≡ p.a
  pub n_most : p.n ≤ length p.units
  pub a_r : p.a ≤ p.r
  pub r_n : p.r ≤ p.n
  pub n_a : p.n ≤ p.a + c.width / 2
  pub carries : Carries c w.up frames
  pub reporting : Reporting c w.down reports
  pub counted : length reports ≡ length p.down
  pub up_is : UpIs d base front frames p.up
  pub fits : Fits (c.width / 2) p.n p.units p.r p.up
  pub rises : Rises p.a p.down p.r

-- while the sender is on
pub holds_on : {c : Config} {d : Directive} {base : ℕ} {w : World} {p : PlainLink} {front : Bool}
    {frames : List BodyView} {reports : List Clcw} → Linked c d base w p front frames reports
    → is_closed w.ground_node.fop.state ≡ false
    → Holds base w.ground_node.fop.vs w.ground_node.fop.nn w.ground_node.fop.sent (unsent_segments w.ground_node)
    p.a p.n p.units
holds_on {base = base} {w = w} {p = p} l on =
    let f = w.ground_node.fop in
    let it : Held false base f.vs f.nn f.sent (unsent_segments w.ground_node) p.a p.n p.units = rw on at l.held in it

-- ---- once it is confirmed, or begun without check

-- nothing in transit leads to a false alarm
pub record Calm (m : FopMode) (farm : FarmState) (front : Bool) (reports : List Clcw) (a r n : ℕ) (down : List ℕ) :
    Type 0 where
  pub unlocked : farm.lockout ≡ false
  pub clear : front ≡ true → farm.retransmit ≡ false
  pub ranks : Ranks (2 * a + asked m) reports down (2 * r + bit farm.retransmit)
  pub rank_most : 2 * r + bit farm.retransmit ≤ 2 * n

pub record Settled (d : Directive) (base : ℕ) (m : FopMode) (farm : FarmState) (confirmed front : Bool)
    (reports : List Clcw) (a r n : ℕ) (down : List ℕ) : Type 0 where
  pub late : IsLate m
  pub confirmed_is : IsChecked d → confirmed ≡ true
  pub confirmed_so : confirmed ≡ true → IsChecked d
  pub vr_is : farm.vr ≡ (base + r) % 256
  pub first : front ≡ true → r ≡ 0
  pub down_is : DownIs base reports down
  pub calm : IsChecked d → Calm m farm front reports a r n down

-- ---- both

abbrev pub Stage : (early : Bool) → Directive → ℕ → FopMode → Control → FarmState → (confirmed front : Bool)
    → List Clcw → (a r n : ℕ) → List ℕ → Type 0
Stage true d base m control farm confirmed front reports a r n down =
    Unsettled d base m control farm confirmed front reports n
Stage false d base m control farm confirmed front reports a r n down =
    Settled d base m farm confirmed front reports a r n down

-- a plain link that is reached this way corresponds to the world
pub record SessionBy (early : Bool) (Reached : PlainLink → Type 0) (c : Config) (d : Directive) (base : ℕ) (w : World) :
    Type 0 where
  pub plain : PlainLink
  pub ran : Reached plain
  pub front : Bool
  pub frames : List BodyView
  pub reports : List Clcw
  pub linked : Linked c d base w plain front frames reports
  pub stage : Stage early d base w.ground_node.fop.state w.ground_node.fop.control w.spacecraft.farm w.session.confirmed
      front reports plain.a plain.r plain.n plain.down

-- a plain link that a run leads to
abbrev pub In : Bool → Config → Directive → ℕ → World → Type 0
In early c d base w = SessionBy early (PlainRun new_link) c d base w

abbrev pub Begun : Config → Directive → ℕ → World → Type 0
Begun c d base w = In true c d base w

abbrev pub Late : Config → Directive → ℕ → World → Type 0
Late c d base w = In false c d base w

-- a plain link that is a step from this one, or is this one
abbrev pub Next : Bool → Config → Directive → ℕ → PlainLink → World → Type 0
Next early c d base p w = SessionBy early (AtMostOneStep p) c d base w

-- the stage of the session, with another sender
abbrev pub WithSender : {early : Bool} {Reached : PlainLink → Type 0} {c : Config} {d : Directive} {base : ℕ}
    {w : World} → SessionBy early Reached c d base w → FopMode → Control → Type 0
WithSender {early} {Reached} {c} {d} {base} {w} g m control =
    Stage early d base m control w.spacecraft.farm w.session.confirmed g.front g.reports g.plain.a g.plain.r g.plain.n
    g.plain.down

-- the stage of the session, with another receiver
abbrev pub WithReceiver : {early : Bool} {Reached : PlainLink → Type 0} {c : Config} {d : Directive} {base : ℕ}
    {w : World} → SessionBy early Reached c d base w → FarmState → Type 0
WithReceiver {early} {Reached} {c} {d} {base} {w} g farm =
    Stage early d base w.ground_node.fop.state w.ground_node.fop.control farm w.session.confirmed g.front g.reports
    g.plain.a g.plain.r g.plain.n g.plain.down

-- the same plain link
pub beside : {early : Bool} {Was Reached : PlainLink → Type 0} {c : Config} {d : Directive} {base : ℕ} {w : World}
    (g : SessionBy early Was c d base w) (new : World) → Reached g.plain
    → Linked c d base new g.plain g.front g.frames g.reports
    → Stage early d base new.ground_node.fop.state new.ground_node.fop.control new.spacecraft.farm new.session.confirmed
    g.front g.reports g.plain.a g.plain.r g.plain.n g.plain.down → SessionBy early Reached c d base new
beside g new ran linked stage = record {
  plain = g.plain;
  ran = ran;
  front = g.front;
  frames = g.frames;
  reports = g.reports;
  linked = linked;
  stage = stage;
}

pub stays : {early : Bool} {c : Config} {d : Directive} {base : ℕ} {w : World} (g : In early c d base w)
    → Next early c d base g.plain w
stays {early} {c} {d} {base} {w} g = beside g w (inl refl) g.linked g.stage

run_on : (p q : PlainLink) → PlainRun new_link p → AtMostOneStep p q → PlainRun new_link q
run_on p q ran (inl same) = subst (PlainRun new_link) (sym same) ran
run_on p q ran (inr step) = more ran step

pub run_to : {early to : Bool} {c : Config} {d : Directive} {base : ℕ} {w new : World} (g : In early c d base w)
    → Next to c d base g.plain new → In to c d base new
run_to {early} {to} {c} {d} {base} {w} {new} g s = beside s new (run_on g.plain s.plain g.ran s.ran) s.linked s.stage

-- ---- what keeps the octets

pub carries_push : (c : Config) (octets : List ℕ) (f : BodyView) (bs : List (List ℕ)) (fs : List BodyView)
    → command.frame_at On octets ≡ Ok (frame_of c f) → Carries c bs fs → Carries c (bs ++ octets ∷ []) (fs ++ f ∷ [])
carries_push c octets f [] [] reads h = (reads, tt)
carries_push c octets f (b ∷ bs) (g ∷ gs) reads h = (h.0, carries_push c octets f bs gs reads h.1)
carries_push c octets f _ _ reads h = elim h [ ]

pub reporting_push : (c : Config) (octets : List ℕ) (r : Clcw) (bs : List (List ℕ)) (rs : List Clcw) → Tells c octets r
    → Reporting c bs rs → Reporting c (bs ++ octets ∷ []) (rs ++ r ∷ [])
reporting_push c octets r [] [] says h = (says, tt)
reporting_push c octets r (b ∷ bs) (g ∷ gs) says h = (h.0, reporting_push c octets r bs gs says h.1)
reporting_push c octets r _ _ says h = elim h [ ]
