-- Where the numbers in transit lie in a session that had an idle start.
use Rattle.tc_link.proofs.Common.{◌≡◌, ◌≢◌, ℕ, ◌+◌, ◌-◌, ◌/◌, ◌%◌, ◌<◌, ◌≤◌, inl, inr, max, Bool, true, false, List, []}
use Rattle.tc_link.proofs.Common.{◌∷◌, ◌++◌, length, take, map, Some, refl, ap, sym, subst, ◌∙◌, arith, AllByRecursion}
use Rattle.tc_link.proofs.Common.{length-take-le, length-map, Clcw, On, Command, Unlock, SetVr, SegmentView, BodyView}
use Rattle.tc_link.proofs.Common.{Ad, Bd, Bc, segment_octets, ahead_by, state_of, FarmState, FlagsAgree, IsActive}
use Rattle.tc_link.proofs.Common.{Directive, InitSetVr, Config, is_closed, World, number_of, numbered, IsChecking}
use Rattle.tc_link.proofs.Common.{number_in, in_frame, report_carried, Rises, active_on}
use Rattle.std.specs.Prelude.{flat_map}
use Rattle.std.proofs.lemmas.Bool.{cases_lt}
use Rattle.tc_frame.specs.Decoding.{frame_at}
use Rattle.cop1.specs.declared.farm.FarmMode.TheVariants.{Lockout}
use Rattle.tc_link.specs.Confirmation.{LeavesVr, IsConfirmedExactly}
use Rattle.tc_link.specs.InTransit.{command_in, unit_in, report_read, report_of_frame, reports_down, IsInWindow}
use Rattle.tc_link.specs.InTransit.{IsRising, KeepsToWindow}
use Rattle.tc_link.proofs.IdleStart.{InSession}
use Rattle.tc_link.proofs.Linked.{early_off, In, Begun, Late, Carries, Tells, Reporting, holds_on, CommandFits, UpIs}
use Rattle.tc_link.proofs.Linked.{DownIs, Fits, rises_to}
use Rattle.tc_link.proofs.Sound.{Sound}

-- ---- what octets in transit show

abbrev pub numbers : List (List ℕ) → List ℕ
numbers bs = flat_map (λ octets. in_frame number_in (frame_at On octets)) bs

abbrev commands : List (List ℕ) → List Command
commands bs = flat_map (λ octets. in_frame command_in (frame_at On octets)) bs

module _ (c : Config) (d : Directive) (base h n : ℕ) (units : List SegmentView) where
  numbers_in : (P : ℕ → Type 0) (low : ℕ) (front : Bool) (bs : List (List ℕ)) (fs : List BodyView)
      (qs : List (ℕ × SegmentView)) (r : ℕ) → ((i : ℕ) → low ≤ i + h → i < n → P ((base + i) % 256)) → low ≤ r
      → Carries c bs fs → UpIs d base front fs qs → Fits h n units r qs → AllByRecursion P (numbers bs)
  numbers_in P low front [] fs qs r each le carries up fit = tt
  numbers_in P low front (b ∷ bs) [] qs r each le carries up fit = elim carries [ ]
  numbers_in P low front (b ∷ bs) (Bd s ∷ fs) qs r each le carries up fit =
      subst (λ x. AllByRecursion P (in_frame number_in x ++ numbers bs)) (sym carries.0)
      (numbers_in P low front bs fs qs r each le carries.1 up fit)
  numbers_in P low front (b ∷ bs) (Bc command ∷ fs) qs r each le carries up fit =
      subst (λ x. AllByRecursion P (in_frame number_in x ++ numbers bs)) (sym carries.0)
      (numbers_in P low front bs fs qs r each le carries.1 up.2 fit)
  numbers_in P low front (b ∷ bs) (Ad m s ∷ fs) [] r each le carries up fit = elim up [ ]
  numbers_in P low front (b ∷ bs) (Ad m s ∷ fs) (q ∷ qs) r each le carries up fit =
      subst (λ x. AllByRecursion P (in_frame number_in x ++ numbers bs)) (sym carries.0) (
        subst P (sym up.0) (each q.0 (omega (arith, fit.2)) fit.1),
        numbers_in P low false bs fs qs (max r (q.0 + 1))
            each (omega arith) carries.1 up.2 fit.3,
      )

  commands_in : (P : Command → Type 0) (front : Bool) (bs : List (List ℕ)) (fs : List BodyView)
      (qs : List (ℕ × SegmentView)) → ((command : Command) → front ≡ true → CommandFits d base command → P command)
      → Carries c bs fs → UpIs d base front fs qs → AllByRecursion P (commands bs)
  commands_in P front [] fs qs each carries up = tt
  commands_in P front (b ∷ bs) [] qs each carries up = elim carries [ ]
  commands_in P front (b ∷ bs) (Bd s ∷ fs) qs each carries up =
      subst (λ x. AllByRecursion P (in_frame command_in x ++ commands bs)) (sym carries.0)
      (commands_in P front bs fs qs each carries.1 up)
  commands_in P front (b ∷ bs) (Bc command ∷ fs) qs each carries up =
      subst (λ x. AllByRecursion P (in_frame command_in x ++ commands bs)) (sym carries.0)
      (each command up.0 up.1, commands_in P front bs fs qs each carries.1 up.2)
  commands_in P front (b ∷ bs) (Ad m s ∷ fs) [] each carries up = elim up [ ]
  commands_in P front (b ∷ bs) (Ad m s ∷ fs) (q ∷ qs) each carries up =
      subst (λ x. AllByRecursion P (in_frame command_in x ++ commands bs)) (sym carries.0)
      (commands_in P false bs fs qs (λ command e. absurd cc) carries.1 up.2)

pub report_told : (c : Config) (b : List ℕ) (r : Clcw) → Tells c b r → report_carried c b ≡ r ∷ []
report_told c b r tells = ap report_of_frame tells.reads ∙ ap report_read tells.word

pub reports_are : (c : Config) (bs : List (List ℕ)) (rs : List Clcw) → Reporting c bs rs
    → flat_map (report_carried c) bs ≡ rs
reports_are c [] [] h = refl
reports_are c [] (r ∷ rs) h = elim h [ ]
reports_are c (b ∷ bs) [] h = elim h [ ]
reports_are c (b ∷ bs) (r ∷ rs) h =
    ap (λ xs. xs ++ flat_map (report_carried c) bs) (report_told c b r h.0)
    ∙ ap (λ xs. r ∷ xs) (reports_are c bs rs h.1)

pub reports_of : (c : Config) (w : World) (rs : List Clcw) → w.ground_node.config ≡ c → Reporting c w.down rs
    → reports_down w ≡ rs
reports_of c w rs is h = ap (λ (x : Config). flat_map (report_carried x) w.down) is ∙ reports_are c w.down rs h

rising_in : (base nn a low r last most : ℕ) (rs : List Clcw) (vs : List ℕ) → nn ≡ (base + a) % 256
    → last ≡ (base + r) % 256 → a ≤ low → r ≤ a + most → most ≤ 127 → DownIs base rs vs → Rises low vs r
    → IsRising nn (low - a) rs last
rising_in base nn a low r last most [] [] nn_is last_is le near small down up =
    omega (arith, nn_is, last_is, le, near, small, up)
rising_in base nn a low r last most [] (v ∷ vs) nn_is last_is le near small down up = elim down [ ]
rising_in base nn a low r last most (c ∷ cs) [] nn_is last_is le near small down up = elim down [ ]
rising_in base nn a low r last most (c ∷ cs) (v ∷ vs) nn_is last_is le near small down up =
    let high : v ≤ r = rises_to v r vs up.1 in
    let value : ahead_by c.value nn ≡ v - a = omega (arith, down.0, nn_is, le, near, small, up.0, high) in (
      omega (arith, value, le, up.0),
      rw value
          (rising_in base nn a v r last most cs vs nn_is last_is (omega (arith, le, up.0)) near small down.1 up.1),
    )

-- ---- what is in transit, as on the plain link

same_units : (m n : ℕ) (s u : SegmentView) (xs ys : List (ℕ × SegmentView)) → m ≡ n → s ≡ u → xs ≡ ys
    → (m, s) ∷ xs ≡ (n, u) ∷ ys
same_units m n s u xs ys number unit more = rw (number, unit, more) refl

abbrev units : List (List ℕ) → List (ℕ × SegmentView)
units bs = flat_map (λ octets. in_frame unit_in (frame_at On octets)) bs

module _ (c : Config) (d : Directive) (base : ℕ) where
  pub units_in : (front : Bool) (bs : List (List ℕ)) (fs : List BodyView) (qs : List (ℕ × SegmentView))
      → Carries c bs fs → UpIs d base front fs qs → units bs ≡ map (numbered base) qs
  units_in front [] [] [] carries up = refl
  units_in front [] [] (q ∷ qs) carries up = elim up [ ]
  units_in front [] (f ∷ fs) qs carries up = elim carries [ ]
  units_in front (b ∷ bs) [] qs carries up = elim carries [ ]
  units_in front (b ∷ bs) (Bd s ∷ fs) qs carries up =
      ap (λ x. in_frame unit_in x ++ units bs) carries.0 ∙ units_in front bs fs qs carries.1 up
  units_in front (b ∷ bs) (Bc command ∷ fs) qs carries up =
      ap (λ x. in_frame unit_in x ++ units bs) carries.0 ∙ units_in front bs fs qs carries.1 up.2
  units_in front (b ∷ bs) (Ad m s ∷ fs) [] carries up = elim up [ ]
  units_in front (b ∷ bs) (Ad m s ∷ fs) (q ∷ qs) carries up =
      ap (λ x. in_frame unit_in x ++ units bs) carries.0
      ∙ same_units m (number_of base q.0) s q.1 (units bs) (map (numbered base) qs) up.0 up.1
      (units_in false bs fs qs carries.1 up.2)

pub values_in : (base : ℕ) (rs : List Clcw) (vs : List ℕ) → DownIs base rs vs
    → map (λ (r : Clcw). r.value) rs ≡ map (number_of base) vs
values_in base [] [] down = refl
values_in base [] (v ∷ vs) down = elim down [ ]
values_in base (r ∷ rs) [] down = elim down [ ]
values_in base (r ∷ rs) (v ∷ vs) down =
    ap (λ (x : ℕ). x ∷ map (λ (r : Clcw). r.value) rs) down.0
    ∙ ap (λ (xs : List ℕ). number_of base v ∷ xs) (values_in base rs vs down.1)

-- ---- the promises

pub leaves : (d : Directive) (base vr : ℕ) (command : Command) → CommandFits d base command → vr ≡ base
    → LeavesVr vr command
leaves d base vr Unlock fits is = tt
leaves (InitSetVr x) base vr (SetVr y) fits is = fits ∙ sym is
leaves _ base vr (SetVr y) fits is = elim fits [ ]

flag_locked : (lockout wait : Bool) → lockout ≡ false → state_of lockout wait ≢ Lockout
flag_locked true wait is e = absurd cc
flag_locked false true is e = absurd cc
flag_locked false false is e = absurd cc

-- the state and the flag
pub state_by : (s : FarmState) → FlagsAgree s → s.lockout ≡ false → s.state ≢ Lockout
state_by s agree is e = flag_locked s.lockout s.wait is (sym agree.state ∙ e)

unconfirmed : {A : Type 0} (w : World) → w.session.confirmed ≡ true → w.session.confirmed ≡ false → A
unconfirmed w is not_yet = absurd cc

-- V(R) is known once a unit was sent
vr_known : (early : Bool) (c : Config) (d : Directive) (base : ℕ) (w : World) (g : In early c d base w) (i : ℕ)
    → i < g.plain.n → w.spacecraft.farm.vr ≡ (base + g.plain.r) % 256
vr_known true c d base w g i lt = absurd (omega (arith, g.stage.none_sent, lt))
vr_known false c d base w g i lt = g.stage.vr_is

-- the CLCWs are known once the session is settled
down_known : (early : Bool) (c : Config) (d : Directive) (base : ℕ) (w : World) (g : In early c d base w)
    → IsActive w.ground_node.fop.state
    → (w.spacecraft.farm.vr ≡ (base + g.plain.r) % 256) × DownIs base g.reports g.plain.down
down_known true c d base w g active = absurd (early_off d w.ground_node.fop.state g.stage.early active)
down_known false c d base w g active = (g.stage.vr_is, g.stage.down_is)

module _ (c : Config) (w : World) (k : Sound c w) (d : Directive) (base : ℕ) where
  in_window : (early : Bool) → In early c d base w → KeepsToWindow w
  in_window early g =
      let p = g.plain in
      let l = g.linked in
      let h : ℕ = c.width / 2 in
      let half : w.spacecraft.farm.width / 2 ≡ h = ap (λ x. x / 2) k.spacecraft.farm.width in
      let each : (i : ℕ) → p.r ≤ i + h → i < p.n
      → IsInWindow (w.spacecraft.farm.width / 2) w.spacecraft.farm.vr ((base + i) % 256) =
      λ i low high. let vr_is = vr_known early c d base w g i high in
      rw half (elim (cases_lt i p.r) [
        | inl lt ↦ inr (omega (arith, vr_is, lt, low, k.ranges.width))
        | inr ge ↦ inl (omega (arith, vr_is, ge, high, l.n_a, l.a_r, k.ranges.width))
      ]) in
      record {
        up = numbers_in c d base h p.n p.units (IsInWindow (w.spacecraft.farm.width / 2) w.spacecraft.farm.vr) p.r
            g.front w.up g.frames p.up p.r each (omega arith) l.carries l.up_is l.fits;
        down = λ settled active.
            let on : is_closed w.ground_node.fop.state ≡ false = active_on w.ground_node.fop.state active in
            let was = holds_on l on in
            let known = down_known early c d base w g active in
            let most : h ≤ 127 = omega (arith, k.ranges.width) in
            let rising : IsRising w.ground_node.fop.nn (p.a - p.a) g.reports w.spacecraft.farm.vr =
            rising_in base w.ground_node.fop.nn p.a p.a p.r w.spacecraft.farm.vr h g.reports p.down was.nn_is
            known.0 (omega arith) (omega (arith, l.r_n, l.n_a)) most known.1 l.rises in
            let zero : p.a - p.a ≡ 0 = omega arith in
            let from_zero : IsRising w.ground_node.fop.nn 0 g.reports w.spacecraft.farm.vr = rw zero at rising in (
              rw (reports_of c w g.reports k.ground_node.config l.reporting) from_zero,
              omega
                  (arith, was.vs_is, was.nn_is, known.0, l.a_r, l.r_n, l.n_a, most),
            );
      }

  late_confirmed : Late c d base w → IsConfirmedExactly w
  late_confirmed g =
      let p = g.plain in
      let l = g.linked in
      record {
        nothing_before = λ checking not_yet. absurd (
            let checks : IsChecking (Some d) = rw l.opened at checking in
            let confirmed : w.session.confirmed ≡ true = g.stage.confirmed_is checks in
            cc
            );
        exact = λ confirmed active nothing.
            let on : is_closed w.ground_node.fop.state ≡ false = active_on w.ground_node.fop.state active in
            let was = holds_on l on in
            let none : p.n ≡ 0 =
            sym (length-take-le p.n p.units l.n_most) ∙ sym (length-map (take p.n p.units) segment_octets)
            ∙ sym (ap length l.sent_is) ∙ ap length nothing in
            let vr_is = g.stage.vr_is in
            (omega (arith, none, vr_is, was.vs_is, l.r_n), omega (arith, none, was.nn_is, was.vs_is, l.a_r, l.r_n));
        commands = λ confirmed. commands_in c d base 0 0 [] (LeavesVr w.spacecraft.farm.vr) g.front w.up g.frames p.up
            (λ command front fits. leaves d base w.spacecraft.farm.vr command fits
            (omega (arith, g.stage.first front, g.stage.vr_is, l.base_octet))) l.carries l.up_is;
        unlocked = λ confirmed. state_by w.spacecraft.farm k.spacecraft.farm.flags
            (g.stage.calm (g.stage.confirmed_so confirmed)).unlocked;
      }

  early_confirmed : Begun c d base w → IsConfirmedExactly w
  early_confirmed g =
      let l = g.linked in
      let r_none : g.plain.r ≡ 0 = omega (arith, l.r_n, g.stage.none_sent) in
      record {
        nothing_before = λ checking not_yet. (
          l.sent_is ∙ ap (λ n. map segment_octets (take n g.plain.units)) g.stage.none_sent,
          ap (map segment_octets) (l.accepted_is ∙ ap (λ n. take n g.plain.units) r_none),
        );
        exact = λ confirmed. unconfirmed w confirmed g.stage.confirmed_not;
        commands = λ confirmed. unconfirmed w confirmed g.stage.confirmed_not;
        unlocked = λ confirmed. unconfirmed w confirmed g.stage.confirmed_not;
      }

pub keeps_to_window : (c : Config) (w : World) → Sound c w → InSession c w → KeepsToWindow w
keeps_to_window c w k s =
    elim s.session [
      | inl g ↦ in_window c w k s.directive s.base true g
      | inr g ↦ in_window c w k s.directive s.base false g
    ]

pub is_confirmed_exactly : (c : Config) (w : World) → Sound c w → InSession c w → IsConfirmedExactly w
is_confirmed_exactly c w k s =
    elim s.session [
      | inl g ↦ early_confirmed c w k s.directive s.base g
      | inr g ↦ late_confirmed c w k s.directive
          s.base g
    ]
