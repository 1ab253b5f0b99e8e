-- One exchange in which nothing is lost confirms an initiation by an idle start.
use Rattle.tc_link.proofs.Common.{◌≡◌, ◌<◌, ◌⊎◌, inl, inr, ℕ, zero, suc, ◌+◌, Bool, true, false, List, [], ◌∷◌, ◌++◌}
use Rattle.tc_link.proofs.Common.{length, Option, Some, None, Result, Ok, Err, refl, ap, sym, subst, ◌∙◌, arith}
use Rattle.tc_link.proofs.Common.{cond_both, replicate, not, ◌==◌, eq-eqb, eqb-true, and_parts, AllByRecursion, Clcw}
use Rattle.tc_link.proofs.Common.{SegmentView, BodyView, Ad, Bd, Bc, Command, Unlock, SetVr, Control, Idle, Due, Sent}
use Rattle.tc_link.proofs.Common.{ahead_by, Alert, Directive, InitWithCheck, InitUnlock, InitSetVr, SetVs, begun}
use Rattle.tc_link.proofs.Common.{closed_is}
use Rattle.tc_link.proofs.Common.{FopState, FopOutcome, FopMode, S1, S4, S5, S6, IsActive, locks, waits, asks, confirms}
use Rattle.tc_link.proofs.Common.{clcw_step, report_in, pull_step, pulled_out, PulledUnit, after_restart, goes_on, On}
use Rattle.tc_link.proofs.Common.{GroundState, with_fop, after_extraction, acknowledging, World, WorldOutcome, IsEvent}
use Rattle.tc_link.proofs.Common.{world_step, world_run, world_after_pull, up_deliver_step, frame_of, frame_to_send}
use Rattle.tc_link.proofs.Common.{FarmState, FlagsAgree, FitsFrame}
use Rattle.tc_link.proofs.Common.{report_of, SpacecraftState, SpacecraftOutcome}
use Rattle.tc_link.proofs.Common.{body_outcome, Config, Event, directive_outcome, world_after_directive, is_kept}
use Rattle.tc_link.proofs.Common.{extract_step, Extracted, ◌||◌, directive_step, CopFault}
use Rattle.std.specs.Prelude.{IsSome, IfOk, ◌&&◌}
use Rattle.std.proofs.lemmas.Bool.{le-ltb, not-true, false_from_ne_true}
use Rattle.tc_frame.specs.Decoding.{frame_at}
use Rattle.tc_frame.specs.Encoding.{spelling}
use Rattle.cop1.specs.FopDirective.{from_S6, obeys}
use Rattle.cop1.specs.FopPull.{pull_control}
use Rattle.cop1.specs.FopWords.{is_outside}
use Rattle.nodes.specs.Fates.{after_obeying}
use Rattle.nodes.specs.Ground.{outstanding}
use Rattle.nodes.specs.declared.event.Event.TheVariants as events
use Rattle.nodes.specs.declared.received.Received.{Received}
use Rattle.simulated_link.specs.World.{is_confirmation, is_idle, may_begin, directed, session_after_report}
use Rattle.simulated_link.specs.declared.fault.SimFault.{SimFault}
use Rattle.simulated_link.specs.Replies.{ReplyView, replied_alert, Resumed}
use Rattle.simulated_link.proofs.Unchanged.{silent, MayAlert, resumes}
use Rattle.tc_link.specs.Beside.{HasOctetPast}
use Rattle.tc_link.specs.Confirmed.{MayConfirm, IsConfirmedAtOnce, EachIsConfirmed, EachResumptionIsConfirmed}
use Rattle.tc_link.specs.FalseAlarms.{alert_in}
use Rattle.tc_link.specs.Progress.{Schedule, followed_by, all_sent, most_sent, all_arrived, all_taken, reported}
use Rattle.tc_link.specs.Progress.{all_heard, round_trip, timer_run_out, AlertsIn}
use Rattle.tc_link.proofs.IdleStart.{idle_parts, all_last, all_confirm, flags_are, reporting_now}
use Rattle.tc_link.proofs.ConfirmedBoard.{Keeps, bypass_keeps, take_keeps, would_keep, unlock_confirms, set_confirms}
use Rattle.tc_link.proofs.ConfirmedBoard.{good_unlocked}
use Rattle.tc_link.proofs.Invariant.{can_off}
use Rattle.tc_link.proofs.Linked.{Good, WouldConfirm, AllGood, Lasts, lasts_on, lasts_push, all_good_on, Reporting}
use Rattle.tc_link.proofs.Linked.{Tells}
use Rattle.tc_link.proofs.ProgressFirst.{with_same, with_config, heard_is, arrives, takes, Taken, IsBefore}
use Rattle.tc_link.proofs.ProgressNumbers.{known, Ends, ends_repeat, ends_once, ends_so, going_step, octet_step}
use Rattle.tc_link.proofs.ProgressSure.{IsBeginning, alerts_parted, before_all}
use Rattle.tc_link.proofs.Promised.{run_append}
use Rattle.tc_link.proofs.Readable.{Goes, reads_back}
use Rattle.tc_link.proofs.Resumed.{set_idle}
use Rattle.tc_link.proofs.Sound.{all_append, Sound, Commanded}
use Rattle.tc_link.proofs.Upward.{own_arrives}

-- ---- CLCWs that arrive: the last one confirms, and so does each one after one that does

abbrev EndsGood : ℕ → List Clcw → Type 0
EndsGood x [] = ⊥
EndsGood x (r ∷ []) = Good x r
EndsGood x (r ∷ s ∷ rs) = EndsGood x (s ∷ rs)

ends_push : (x : ℕ) (rs : List Clcw) (r : Clcw) → Good x r → EndsGood x (rs ++ r ∷ [])
ends_push x [] r good = good
ends_push x (a ∷ []) r good = good
ends_push x (a ∷ b ∷ rs) r good = ends_push x (b ∷ rs) r good

all_push_good : (x : ℕ) (rs : List Clcw) (r : Clcw) (l : Type 0) → Good x r → AllGood x rs l
    → AllGood x (rs ++ r ∷ []) (Unit {0})
all_push_good x [] r l good all = (good, tt)
all_push_good x (a ∷ rs) r l good all = (all.0, all_push_good x rs r l good all.1)

-- ---- events that are answered without an alert

none_told : (e : Event) → IsBefore e → MayAlert e → ⊥
none_told events.DownDeliver is may = is.2 refl
none_told events.Tick is may = is.1 refl
none_told (events.Directive d) is may = is.0
none_told events.DownClcw is may = is.0
none_told _ is may = may

silent_none : (r : Result ReplyView SimFault) → IfOk r (λ reply. replied_alert reply ≡ None) → IsSome (alert_in r) → ⊥
silent_none (Ok reply) is some =
    let no : IsSome {T = Alert} None = subst (λ (o : Option Alert). IsSome o) is some in absurd (cc no)
silent_none (Err fault) is some = absurd (let no : IsSome {T = Alert} None = some in cc no)

one_silent : (w : World) (e : Event) → IsBefore e → IsSome (alert_in (world_step w e).answer) → ⊥
one_silent w e is some = silent_none (world_step w e).answer (silent w e (none_told e is)) some

abbrev IsNowDue : Control → Type 0
IsNowDue Idle = ⊥
IsNowDue (Due k) = Unit {0}
IsNowDue (Sent k) = ⊥

due_is : {j k : Command} → Due j ≡ Due k → j ≡ k
due_is e = cc e

or_true : (b : Bool) → (b || true) ≡ true
or_true true = refl
or_true false = refl

-- ---- an initiation with this command and number, and the receiver until the command arrives

module _ (c : Config) (x : ℕ) (cmd : Command) (May : FarmState → Type 0)
    (may_keep : (s t : FarmState) → Keeps s t → May s → May t)
    (may_confirm : (s : SpacecraftState) → FlagsAgree s.farm → May s.farm
    → WouldConfirm x (body_outcome s (Bc cmd)).after.farm × May (body_outcome s (Bc cmd)).after.farm) where
  -- ---- until the CLCW is made

  -- a Type-BD frame, or a Type-BC frame with this command
  abbrev IsB : BodyView → Type 0
  IsB (Ad n u) = ⊥
  IsB (Bd u) = Unit {0}
  IsB (Bc k) = k ≡ cmd

  abbrev IsTypeB : List ℕ → Type 0
  IsTypeB b = (f : BodyView) × (frame_at On b ≡ Ok (frame_of c f)) × IsB f

  -- the command is the first frame in transit on the uplink
  abbrev Fronted : List (List ℕ) → Type 0
  Fronted [] = ⊥
  Fronted (b ∷ bs) = frame_at On b ≡ Ok (frame_of c (Bc cmd))

  -- the receiver confirms, or will once the command has arrived
  abbrev Coming : FarmState → List (List ℕ) → Control → Type 0
  Coming s up control = WouldConfirm x s ⊎ (Fronted up ⊎ ((up ≡ []) × IsNowDue control))

  -- the sender's state until it is answered
  record Asks (f : FopState SegmentView) : Type 0 where
    state : IsBeginning f.state
    vs : f.vs ≡ x
    nn : f.nn ≡ x
    sent : f.sent ≡ []
    due : (k : Command) → f.control ≡ Due k → k ≡ cmd

  record Tries (mode : FopMode) (farm : FarmState) (down : List (List ℕ)) : Type 0 where
    may : May farm
    reports : List Clcw
    telling : Reporting c down reports
    lasts : Lasts x reports (WouldConfirm x farm)
    checked : mode ≡ S4 → AllGood x reports (WouldConfirm x farm)

  record Trying (w : World) : Type 0 where
    config : w.ground_node.config ≡ c
    asking : Asks w.ground_node.fop
    tries : Tries w.ground_node.fop.state w.spacecraft.farm w.down
    ups : AllByRecursion IsTypeB w.up
    coming : Coming w.spacecraft.farm w.up w.ground_node.fop.control

  -- no command is due either
  abbrev TriesOn : World → Type 0
  TriesOn w = Trying w × (IsNowDue w.ground_node.fop.control → ⊥)

  asks_same : (f g : FopState SegmentView) → Asks f → g.state ≡ f.state → g.vs ≡ f.vs → g.nn ≡ f.nn → g.sent ≡ f.sent
      → ((k : Command) → g.control ≡ Due k → k ≡ cmd) → Asks g
  asks_same f g a state vs nn sent due =
      record { state = rw state a.state; vs = vs ∙ a.vs; nn = nn ∙ a.nn; sent = sent ∙ a.sent; due = due }

  asks_with : (s : GroundState) (f : FopState SegmentView) → Asks f → Asks (with_fop s f).fop
  asks_with s f a =
      let is = with_same s f in
      asks_same f (with_fop s f).fop a is.state is.vs is.nn is.sent (λ k e. a.due k (sym is.control ∙ e))

  tries_in : (m n : FopMode) (farm : FarmState) (down : List (List ℕ)) → n ≡ m → Tries m farm down → Tries n farm down
  tries_in m n farm down is t = subst (λ k. Tries k farm down) (sym is) t

  -- ---- a frame is sent

  front_push : (up : List (List ℕ)) (b : List ℕ) → Fronted up → Fronted (up ++ b ∷ [])
  front_push [] b front = elim front [ ]
  front_push (a ∷ up) b front = front

  off_active : {A : Type 0} (m : FopMode) → IsBeginning m → IsActive m → A
  off_active m begins active = elim begins [
    | inl four ↦ absurd (let no : IsActive S4 = rw four at active in no)
    | inr five ↦ absurd (let no : IsActive S5 = rw five at active in no)
  ]

  module _ (w : World) (g : HasOctetPast w) (t : Trying w) where
    abbrev s : FopState SegmentView
    s = w.ground_node.fop

    sound : Sound c w
    sound = let k = (known w g).holds.sound in subst (λ (x : Config). Sound x w) (sym k.ground_node.config ∙ t.config) k

    abbrev sent_octets : BodyView → List ℕ
    sent_octets b = spelling On (frame_of w.ground_node.config b)

    reads : (b : BodyView) → Goes b → frame_at On (sent_octets b) ≡ Ok (frame_of c b)
    reads b goes =
        subst (λ (k : Config). frame_at On (spelling On (frame_of k b)) ≡ Ok (frame_of c b)) (sym t.config)
        (reads_back c b sound.ranges goes)

    abbrev Pulls : FopOutcome SegmentView (PulledUnit SegmentView) → Type 0
    Pulls o = TriesOn (world_after_pull w (with_fop w.ground_node o.after)
        (frame_to_send w.ground_node.config o.answer)).after

    sent_to : (f : FopState SegmentView) (b : BodyView) → Goes b → IsB b → Asks f → f.state ≡ s.state
        → Coming w.spacecraft.farm (w.up ++ sent_octets b ∷ []) f.control → (IsNowDue f.control → ⊥)
        → TriesOn (world_after_pull w (with_fop w.ground_node f) (Some (frame_of w.ground_node.config b))).after
    sent_to f b goes is asking state coming undue =
        let same = with_same w.ground_node f in (
          record {
            config = with_config w.ground_node f ∙ t.config;
            asking = asks_with w.ground_node f asking;
            tries = tries_in s.state (with_fop w.ground_node f).fop.state w.spacecraft.farm w.down (same.state ∙ state)
                t.tries;
            ups = all_append IsTypeB w.up (sent_octets b ∷ []) t.ups ((b, reads b goes, is), tt);
            coming = rw same.control coming;
          },
          rw same.control undue,
        )

    pull_due : (k : Command) → s.control ≡ Due k → Pulls (pull_step s)
    pull_due k is =
        let f : FopState SegmentView = record (after_restart s) { control = Sent k } in
        let read : frame_at On (sent_octets (Bc k)) ≡ Ok (frame_of c (Bc cmd)) =
        reads (Bc k) tt ∙ ap (λ k. Ok (frame_of c (Bc k))) (t.asking.due k is) in
        let coming : Coming w.spacecraft.farm (w.up ++ sent_octets (Bc k) ∷ []) (Sent k) = elim t.coming [
          | inl good ↦ inl good
          | inr later ↦ inr (inl (elim later [
            | inl front ↦ front_push w.up (sent_octets (Bc k)) front
            | inr first ↦ rw first.0 read
          ]))
        ] in
        subst Pulls (sym (ap (pull_control s) is))
        (sent_to f (Bc k) tt (t.asking.due k is)
        (asks_same s f t.asking refl refl refl refl (λ j e. absurd (cc e))) refl
        coming (λ due. due))

    pull_undue : (IsNowDue s.control → ⊥) → Pulls (pull_step s)
    pull_undue undue = pulled_out s Pulls (record {
      none =
          let same = with_same w.ground_node s in (
            record {
              config = with_config w.ground_node s ∙ t.config;
              asking = asks_with w.ground_node s t.asking;
              tries = tries_in s.state (with_fop w.ground_node s).fop.state w.spacecraft.farm w.down same.state t.tries;
              ups = t.ups;
              coming = rw same.control t.coming;
            },
            rw same.control undue,
          );
      command = λ k is. absurd (undue (rw is tt));
      bypass = λ u us is.
          let fit : AllByRecursion FitsFrame (u ∷ us) = rw is at sound.ground_node.fop.bypass_fits in
          let f : FopState SegmentView = record s { bypass = us } in
          let coming : Coming w.spacecraft.farm (w.up ++ sent_octets (Bd u) ∷ []) s.control = elim t.coming [
            | inl good ↦ inl good
            | inr later ↦ elim later [
              | inl front ↦ inr (inl (front_push w.up (sent_octets (Bd u)) front))
              | inr first ↦ absurd (undue first.1)
            ]
          ] in
          sent_to f (Bd u) fit.0 tt (asks_same s f t.asking refl refl refl refl t.asking.due) refl coming undue;
      again = λ active y is. off_active s.state t.asking.state active;
      first = λ active u is room. off_active s.state t.asking.state active;
    })

    pull_in_control : (k : Control) → s.control ≡ k → Pulls (pull_step s)
    pull_in_control Idle is = pull_undue (λ due. let no : IsNowDue Idle = rw is at due in no)
    pull_in_control (Due k) is = pull_due k is
    pull_in_control (Sent k) is = pull_undue (λ due. let no : IsNowDue (Sent k) = rw is at due in no)

    pulls : TriesOn (world_step w events.Send).after
    pulls = pull_in_control s.control refl

  abbrev Sends : ℕ → ℕ → World → Type 0
  Sends most m w = Trying w × ((IsNowDue w.ground_node.fop.control → ⊥) ⊎ (m ≡ suc most))

  sends : (w : World) → HasOctetPast w → Trying w → Ends TriesOn w (all_sent w)
  sends w g t =
      let most : ℕ = length w.ground_node.fop.bypass + length (outstanding w.ground_node) in
      ends_so (Sends most zero) TriesOn w (all_sent w)
      (ends_repeat (Sends most) events.Send tt
      (λ m v h q. let p = pulls v h q.0 in inr (p.0, inl p.1)) (most_sent w) w g (t, inr refl))
      (λ v h q. (q.0, elim q.1 [ inl gone ↦ gone | inr more ↦ absurd (omega (arith, more)) ]))

  -- ---- frames arrive on board, and packets are taken there

  abbrev Flying : ℕ → World → Type 0
  Flying n w = TriesOn w × (length w.up ≡ n)

  tries_keep : (m : FopMode) (s t : FarmState) (down : List (List ℕ)) → Keeps s t → Tries m s down → Tries m t down
  tries_keep m s t down keeps k = record {
    may = may_keep s t keeps k.may;
    reports = k.reports;
    telling = k.telling;
    lasts = lasts_on x k.reports (WouldConfirm x s) (WouldConfirm x t) (would_keep x s t keeps) k.lasts;
    checked = λ is. all_good_on x k.reports (WouldConfirm x s) (WouldConfirm x t) (would_keep x s t keeps)
        (k.checked is);
  }

  coming_keep : (s t : FarmState) (up : List (List ℕ)) (control : Control) → Keeps s t → Coming s up control
      → Coming t up control
  coming_keep s t up control keeps coming = elim coming [
    | inl good ↦ inl (would_keep x s t keeps good)
    | inr later ↦ inr later
  ]

  taken : (n : ℕ) (w : World) → Flying n w → Flying n (world_step w events.Take).after
  taken n w k =
      let t = k.0.0 in
      let s : FarmState = w.spacecraft.farm in
      let v = (world_step w events.Take).after in (
        (
          record {
            config = t.config;
            asking = t.asking;
            tries = tries_keep w.ground_node.fop.state s v.spacecraft.farm w.down (take_keeps w) t.tries;
            ups = t.ups;
            coming = coming_keep s v.spacecraft.farm w.up w.ground_node.fop.control (take_keeps w) t.coming;
          },
          k.0.1,
        ),
        k.1,
      )

  -- the command arrives, or another Type-B frame if the receiver confirms already
  module _ (w : World) (g : HasOctetPast w) (t : Trying w) where
    abbrev farm : FarmState
    farm = w.spacecraft.farm

    abbrev Lands : SpacecraftState → Type 0
    Lands s = Tries w.ground_node.fop.state s.farm w.down × WouldConfirm x s.farm

    commanded : Lands (body_outcome w.spacecraft (Bc cmd)).after
    commanded =
        let s = (body_outcome w.spacecraft (Bc cmd)).after in
        let done = may_confirm w.spacecraft (known w g).holds.sound.spacecraft.farm.flags t.tries.may in (
          record {
            may = done.1;
            reports = t.tries.reports;
            telling = t.tries.telling;
            lasts = lasts_on x t.tries.reports (WouldConfirm x farm) (WouldConfirm x s.farm) (λ e. done.0)
                t.tries.lasts;
            checked = λ is. all_good_on x t.tries.reports (WouldConfirm x farm) (WouldConfirm x s.farm) (λ e. done.0)
                (t.tries.checked is);
          },
          done.0,
        )

    lands : (f : BodyView) → IsB f → WouldConfirm x farm → Lands (body_outcome w.spacecraft f).after
    lands (Ad n u) is good = elim is [ ]
    lands (Bd u) is good =
        let keeps = bypass_keeps w.spacecraft u (is_kept w.spacecraft.config u) in
        let s = (body_outcome w.spacecraft (Bd u)).after in
        (tries_keep w.ground_node.fop.state farm s.farm w.down keeps t.tries, would_keep x farm s.farm keeps good)
    lands (Bc k) is good = subst (λ k. Lands (body_outcome w.spacecraft (Bc k)).after) (sym is) commanded

    arrives_first : (n : ℕ) → (IsNowDue w.ground_node.fop.control → ⊥) → (us : List (List ℕ)) → w.up ≡ us
        → length us ≡ suc n → Flying n (up_deliver_step w us).after
    arrives_first n undue [] is count = absurd (omega (arith, count))
    arrives_first n undue (b ∷ bs) is count =
        let ups : AllByRecursion IsTypeB (b ∷ bs) = subst (AllByRecursion IsTypeB) is t.ups in
        let config : w.spacecraft.config ≡ c = (sound w g t).spacecraft.config in
        let on : (f : BodyView) → frame_at On b ≡ Ok (frame_of c f) → Lands (body_outcome w.spacecraft f).after
        → Flying n (up_deliver_step w (b ∷ bs)).after =
        λ f reads lands.
        subst (λ (o : SpacecraftOutcome Received). Flying n (record w { up = bs; spacecraft = o.after }))
        (sym (own_arrives w.spacecraft c f (frame_at On b) config reads)) (
          (
            record {
              config = t.config;
              asking = t.asking;
              tries = lands.0;
              ups = ups.1;
              coming = inl lands.1;
            },
            undue,
          ),
          omega (arith, count),
        ) in
        elim t.coming [
          | inl good ↦ on ups.0.0 ups.0.1 (lands ups.0.0 ups.0.2 good)
          | inr later ↦ elim later [
            | inl front ↦ on (Bc cmd) (let first : Fronted (b ∷ bs) = rw is at front in first) commanded
            | inr first ↦ absurd (undue first.1)
          ]
        ]

  flies : (w : World) → HasOctetPast w → TriesOn w → Ends (Flying zero) w (all_arrived w)
  flies w g t =
      arrives Flying taken (λ n v h q. arrives_first v h q.0.0.0 n q.0.0.1 v.up refl q.0.1) w g (t, refl)

  -- ---- the CLCWs

  record IsConfirmed (w : World) : Type 0 where
    state : w.ground_node.fop.state ≡ S1
    vs : w.ground_node.fop.vs ≡ x
    nn : w.ground_node.fop.nn ≡ x
    sent : w.ground_node.fop.sent ≡ []
    confirmed : w.session.confirmed ≡ true

  -- the sender waits in S5 or S4, or is confirmed; and the CLCWs still to be heard
  abbrev Stage : List Clcw → World → Type 0
  Stage rs w = (Asks w.ground_node.fop × EndsGood x rs
      × ((w.ground_node.fop.state ≡ S5) ⊎ ((w.ground_node.fop.state ≡ S4) × AllGood x rs (Unit {0}))))
      ⊎ (IsConfirmed w × AllGood x rs (Unit {0}))

  record Hears (rs : List Clcw) (w : World) : Type 0 where
    config : w.ground_node.config ≡ c
    telling : Reporting c w.down rs
    lasts : Lasts x rs (Unit {0})
    stage : Stage rs w

  abbrev HearsNow : World → Type 0
  HearsNow w = (rs : List Clcw) × Hears rs w

  reports : (w : World) → HasOctetPast w → Flying zero w → Ends HearsNow w (reported w)
  reports w g k =
      let t = k.0.0 in
      let tries = t.tries in
      let r : Clcw = report_of w.spacecraft.farm w.spacecraft.config.vcid in
      let good : WouldConfirm x w.spacecraft.farm = elim t.coming [
        | inl good ↦ good
        | inr later ↦ elim later [
          | inl front ↦ absurd (none_first w.up k.1 front)
          | inr first ↦ absurd (k.0.1 first.1)
        ]
      ] in
      let are = flags_are w.spacecraft.farm w.spacecraft.config.vcid in
      let fresh : Good x r = (are.0 ∙ good.0, are.1 ∙ good.1, are.2 ∙ good.2, good.3) in
      let would : Type 0 = WouldConfirm x w.spacecraft.farm in
      let ends : EndsGood x (tries.reports ++ r ∷ []) = ends_push x tries.reports r fresh in
      ends_once HearsNow w events.Report tt g (inr (
        tries.reports ++ r ∷ [],
        record {
          config = t.config;
          telling = reporting_now c w (sound w g t) tries.reports tries.telling;
          lasts = lasts_on x (tries.reports ++ r ∷ []) would (Unit {0}) (λ e. tt)
              (lasts_push x r tries.reports would (λ e. fresh) (λ e. good) tries.lasts);
          stage = inl (
            t.asking,
            ends,
            elim t.asking.state [
              | inl four ↦ inr (four, all_push_good x tries.reports r would fresh (tries.checked four))
              | inr five ↦ inl five
            ],
          );
        },
      ))
    where
      none_first : (up : List (List ℕ)) → length up ≡ 0 → Fronted up → ⊥
      none_first [] none front = front
      none_first (b ∷ bs) none front = absurd (omega (arith, none))

  -- ---- a CLCW is heard

  module _ (s : FopState SegmentView) (r : Clcw) (vs : s.vs ≡ x) where
    equal : Good x r → (r.value == s.vs) ≡ true
    equal good = eq-eqb r.value s.vs (good.3 ∙ sym vs)

    good_confirms : Good x r → confirms s r ≡ true
    good_confirms good = rw (good.0, good.1, good.2, equal good) refl

    confirms_good : confirms s r ≡ true → Good x r
    confirms_good is =
        let a = and_parts (not (locks r) && not (waits r) && not (asks r)) (r.value == s.vs) is in
        let b = and_parts (not (locks r) && not (waits r)) (not (asks r)) a.0 in
        let d = and_parts (not (locks r)) (not (waits r)) b.0 in
        (not-true (locks r) d.0, not-true (waits r) d.1, not-true (asks r) b.1, eqb-true r.value s.vs a.1 ∙ vs)

    in_S4 : Good x r → report_in s r S4 ≡ goes_on (record s { state = S1; ticks = None })
    in_S4 good = rw (good.0, good.1, good.2, equal good) refl

    in_S1 : s.state ≡ S1 → s.nn ≡ x → s.vs < 256 → Good x r → report_in s r S1 ≡ goes_on s
    in_S1 state nn octet good =
        let inside : is_outside s r.value ≡ false = le-ltb (ahead_by s.vs s.nn) (ahead_by r.value s.nn)
        (omega (arith, nn, vs, good.3, octet)) in
        let at : (r.value == s.nn) ≡ true = eq-eqb r.value s.nn (good.3 ∙ sym nn) in
        rw (good.0, inside, good.1, good.2, at, state) refl

  module _ (w : World) (g : HasOctetPast w) (r : Clcw) (rs : List Clcw) (k : Hears (r ∷ rs) w) where
    abbrev f : FopState SegmentView
    f = w.ground_node.fop

    abbrev Heard : WorldOutcome → Type 0
    Heard o = (alert_in o.answer ≡ None) × Hears rs o.after

    -- the sender continues as this one
    module _ (b : List ℕ) (bs : List (List ℕ)) (rest : Reporting c bs rs) (x' : Extracted) where
      abbrev ground_with : FopOutcome SegmentView (Option Alert) → GroundState
      ground_with o = with_fop (acknowledging (after_extraction w.ground_node x') o) o.after

      abbrev After : FopOutcome SegmentView (Option Alert) → World
      After o = record w {
        ground_node = ground_with o;
        down = bs;
        session = session_after_report w.session w.ground_node (ground_with o);
      }

      heard_with : (next : FopState SegmentView) → Stage rs (After (goes_on next)) → Hears rs (After (goes_on next))
      heard_with next stage = record {
        config = with_config (acknowledging (after_extraction w.ground_node x') (goes_on next)) next ∙ k.config;
        telling = rest;
        lasts = k.lasts.1;
        stage = stage;
      }

      -- it is confirmed now
      module _ (next : FopState SegmentView) (state : next.state ≡ S1) (vs : next.vs ≡ x) (nn : next.nn ≡ x)
          (sent : next.sent ≡ []) (all : AllGood x rs (Unit {0}))
          (confirms_now : (w.session.confirmed || is_confirmation f.state S1) ≡ true) where
        confirmed_now : Hears rs (After (goes_on next))
        confirmed_now =
            let is = with_same (acknowledging (after_extraction w.ground_node x') (goes_on next)) next in
            heard_with next (inr (
              record {
                state = is.state ∙ state;
                vs = is.vs ∙ vs;
                nn = is.nn ∙ nn;
                sent = is.sent ∙ sent;
                confirmed = rw (is.state, state) confirms_now;
              },
              all,
            ))

      abbrev Leads : FopOutcome SegmentView (Option Alert) → Type 0
      Leads o = (o.answer ≡ None) × Hears rs (After o)

      -- in S5 the CLCW confirms, or nothing changes
      five : Asks f → EndsGood x (r ∷ rs) → f.state ≡ S5 → Leads (report_in f r S5)
      five a ends is =
          cond_both (confirms f r) (goes_on (record f { state = S1; ticks = None; control = Idle })) (goes_on f) Leads
          (λ t. (
            refl,
            confirmed_now (record f { state = S1; ticks = None; control = Idle }) refl a.vs a.nn a.sent
                (k.lasts.0 (confirms_good f r a.vs t)) (rw is (or_true w.session.confirmed)),
          ))
          (λ t. (
            refl,
            heard_with f (inl (
              asks_with (acknowledging (after_extraction w.ground_node x') (goes_on f)) f a,
              later rs ends t,
              inl ((with_same (acknowledging (after_extraction w.ground_node x') (goes_on f)) f).state ∙ is),
            )),
          ))
        where
          later : (rs : List Clcw) → EndsGood x (r ∷ rs) → confirms f r ≡ false → EndsGood x rs
          later [] ends none = absurd (let is : confirms f r ≡ true = good_confirms f r a.vs ends in cc (is, none))
          later (y ∷ ys) ends none = ends

      leads : Leads (clcw_step f r)
      leads = elim k.stage [
        | inl waits ↦ elim waits.2 [
          | inl is ↦ subst (λ m. Leads (report_in f r m)) (sym is) (five waits.0 waits.1 is)
          | inr checks ↦
              let a = waits.0 in
              let good : Good x r = checks.1.0 in
              let next : FopState SegmentView = record f { state = S1; ticks = None } in
              subst (λ m. Leads (report_in f r m)) (sym checks.0) (subst Leads (sym (in_S4 f r a.vs good)) (
                refl,
                confirmed_now next refl a.vs a.nn a.sent checks.1.1 (rw checks.0 (or_true w.session.confirmed)),
              ))
        ]
        | inr done ↦
            let d = done.0 in
            let octet : f.vs < 256 = (known w g).octets.sender.vs in
            subst (λ m. Leads (report_in f r m)) (sym d.state)
            (subst Leads (sym (in_S1 f r d.vs d.state d.nn octet done.1.0))
            (refl, confirmed_now f d.state d.vs d.nn d.sent done.1.1 (rw d.confirmed refl)))
      ]

    hears_one : (ds : List (List ℕ)) → w.down ≡ ds → Reporting c ds (r ∷ rs) → Heard (world_step w events.DownDeliver)
    hears_one [] is telling = elim telling [ ]
    hears_one (b ∷ bs) is telling =
        let tells : Tells w.ground_node.config b r = rw k.config telling.0 in
        let x' : Extracted = extract_step w.ground_node.extractor tells.frame in
        subst Heard (sym (heard_is w b bs r is tells)) (leads b bs telling.1 x')

  how_many : (ds : List (List ℕ)) (rs : List Clcw) → Reporting c ds rs → length ds ≡ length rs
  how_many [] [] telling = refl
  how_many (b ∷ bs) (r ∷ rs) telling = ap suc (how_many bs rs telling.1)
  how_many _ _ telling = elim telling [ ]

  -- no alert is raised, and then this holds
  abbrev Well : (World → Type 0) → World → List Event → Type 0
  Well P w es = (AlertsIn w es → ⊥) × HasOctetPast (world_run w es) × P (world_run w es)

  hears_all : (rs : List Clcw) (w : World) → HasOctetPast w → Hears rs w
      → Well IsConfirmed w (replicate (length rs) events.DownDeliver)
  hears_all [] w g k = (λ a. a, g, elim k.stage [ inl waits ↦ absurd waits.1 | inr done ↦ done.0 ])
  hears_all (r ∷ rs) w g k =
      let one = hears_one w g r rs k w.down refl k.telling in
      let v = (world_step w events.DownDeliver).after in
      let all = hears_all rs v (going_step w g events.DownDeliver tt) one.1 in (
        λ a. elim a [
          | inl now ↦ absurd
              (let no : IsSome {T = Alert} None = subst (λ (o : Option Alert). IsSome o) one.0 now in cc no)
          | inr later ↦ all.0 later
        ],
        all.1,
        all.2,
      )

  heard_well : (w : World) → HasOctetPast w → HearsNow w → Well IsConfirmed w (all_heard w)
  heard_well w g k =
      subst (λ n. Well IsConfirmed w (replicate n events.DownDeliver)) (sym (how_many w.down k.0 k.1.telling))
      (hears_all k.0 w g k.1)

  -- ---- the whole exchange

  module _ (P Q : World → Type 0) where
    well_then : (first next : Schedule) (w : World) → Well P w (first w)
        → ((v : World) → HasOctetPast v → P v → Well Q v (next v)) → Well Q w (followed_by first next w)
    well_then first next w start more =
        let v = world_run w (first w) in
        let then = more v start.1 start.2 in
        let on = subst (λ (u : World). HasOctetPast u × Q u) (sym (run_append w (first w) (next v))) (then.1, then.2)
        in (
          λ a. elim (alerts_parted (first w) (next v) w a) [ inl now ↦ start.0 now | inr later ↦ then.0 later ],
          on.0,
          on.1,
        )

  before_silent : (es : List Event) (w : World) → AllByRecursion IsBefore es → AlertsIn w es → ⊥
  before_silent [] w all a = a
  before_silent (e ∷ es) w all a = elim a [
    | inl now ↦ one_silent w e all.0 now
    | inr later ↦ before_silent es (world_step w e).after all.1 later
  ]

  well_of : (P : World → Type 0) (w : World) (es : List Event) → AllByRecursion IsBefore es → Ends P w es → Well P w es
  well_of P w es all ends = elim ends [
    | inl a ↦ absurd (before_silent es w all a)
    | inr t ↦ (before_silent es w all, t.0, t.1)
  ]

  trip_well : (w : World) → HasOctetPast w → Trying w → Well IsConfirmed w (round_trip w)
  trip_well w g t =
      let after_taking = followed_by reported all_heard in
      let after_arriving = followed_by all_taken after_taking in
      let after_sending = followed_by all_arrived after_arriving in
      well_then TriesOn IsConfirmed all_sent after_sending w
      (well_of TriesOn w (all_sent w) (before_all w).0 (sends w g t)) (λ v h p.
      well_then (Flying zero) IsConfirmed all_arrived after_arriving v
      (well_of (Flying zero) v (all_arrived v) (before_all v).1 (flies v h p)) (λ v h p.
      well_then (Flying zero) IsConfirmed all_taken after_taking v
      (well_of (Flying zero) v (all_taken v) (before_all v).2
      (ends_so (Taken Flying zero zero) (Flying zero) v (all_taken v) (takes Flying taken zero v h p) (λ v h p. p.0)))
      (λ v h p.
      well_then HearsNow IsConfirmed reported all_heard v
      (well_of HearsNow v (reported v) (before_all v).3 (reports v h p)) heard_well)))

  timer_well : (w : World) → HasOctetPast w → IsConfirmed w → Well IsConfirmed w (timer_run_out w)
  timer_well w g k =
      let none : timer_run_out w ≡ [] = rw (k.state, k.sent) refl in
      subst (Well IsConfirmed w) (sym none) (λ a. a, g, k)

  confirms_at_once : (w : World) → HasOctetPast w → Trying w → IsConfirmedAtOnce w
  confirms_at_once w g t =
      let all = well_then IsConfirmed IsConfirmed round_trip timer_run_out w (trip_well w g t) timer_well in
      record { active = all.2.state; confirmed = all.2.confirmed; quiet = all.0 }

-- ---- a session begins

module _ (w : World) (g : HasOctetPast w) (off : w.ground_node.fop.state ≡ S6) (idle : is_idle w ≡ true) where
  abbrev farm_now : FarmState
  farm_now = w.spacecraft.farm

  abbrev began : Directive → FopState SegmentView → World
  began d f = (world_after_directive w d (directive_outcome w.ground_node d (obeys f))).after

  -- with this command due, or none if the receiver confirms already
  begins_trying : (d : Directive) (f : FopState SegmentView) (x : ℕ) (cmd : Command) (May : FarmState → Type 0)
      (keeps : (s t : FarmState) → Keeps s t → May s → May t)
      (confirms : (s : SpacecraftState) → FlagsAgree s.farm → May s.farm
      → WouldConfirm x (body_outcome s (Bc cmd)).after.farm × May (body_outcome s (Bc cmd)).after.farm)
      → IsBeginning f.state → f.vs ≡ x → f.nn ≡ x → f.sent ≡ [] → ((k : Command) → f.control ≡ Due k → k ≡ cmd)
      → May farm_now → (f.state ≡ S4 → WouldConfirm x farm_now)
      → WouldConfirm x farm_now ⊎ IsNowDue f.control
      → Trying g.config x cmd May keeps confirms (began d f)
  begins_trying d f x cmd May keeps confirms begins vs nn sent due may checked ready =
      let h = (known w g).holds in
      let parts = idle_parts g.config w h.reports h.sound.ground_node.config idle in
      let s : GroundState = record w.ground_node { fates = after_obeying w.ground_node.fates d } in
      let is = with_same s f in
      record {
        config = with_config s f ∙ h.sound.ground_node.config;
        asking = asks_with g.config x cmd May keeps confirms s f
            (record { state = begins; vs = vs; nn = nn; sent = sent; due = due });
        tries = record {
          may = may;
          reports = h.reports.reports;
          telling = h.reports.reporting;
          lasts = all_last w.spacecraft x h.reports.reports parts.1;
          checked = λ four. all_confirm w.spacecraft x h.reports.reports parts.1 (checked (sym is.state ∙ four));
        };
        ups = rw parts.0 tt;
        coming = elim ready [
          | inl would ↦ inl would
          | inr is_due ↦ inr (inr (parts.0, rw is.control is_due))
        ];
      }

  -- the initiation is obeyed
  module _ (d : Directive) (fits : IsEvent (events.Directive d))
      (obeyed : world_step w (events.Directive d)
      ≡ world_after_directive w d (directive_outcome w.ground_node d (obeys (begun w.ground_node.fop d)))) where
    abbrev Led : Type 0
    Led = IsConfirmedAtOnce (world_step w (events.Directive d)).after

    led : (x : ℕ) (cmd : Command) (May : FarmState → Type 0)
        (keeps : (s t : FarmState) → Keeps s t → May s → May t)
        (confirms : (s : SpacecraftState) → FlagsAgree s.farm → May s.farm
        → WouldConfirm x (body_outcome s (Bc cmd)).after.farm × May (body_outcome s (Bc cmd)).after.farm)
        → Trying g.config x cmd May keeps confirms (began d (begun w.ground_node.fop d)) → Led
    led x cmd May keeps confirms t =
        subst (λ (o : WorldOutcome). HasOctetPast o.after → IsConfirmedAtOnce o.after) (sym obeyed)
        (λ h. confirms_at_once g.config x cmd May keeps confirms (began d (begun w.ground_node.fop d)) h t)
        (octet_step w (events.Directive d) g fits)

  obeyed_by : (d : Directive) → directive_step w.ground_node.fop d
      ≡ from_S6 w.ground_node.fop w.ground_node.fop.state (begun w.ground_node.fop d)
      → world_step w (events.Directive d)
      ≡ world_after_directive w d (directive_outcome w.ground_node d (obeys (begun w.ground_node.fop d)))
  obeyed_by d is =
      ap (λ (o : FopOutcome SegmentView (Result (Option Alert) CopFault)). world_after_directive w d
      (directive_outcome w.ground_node d o))
      (is ∙ ap (λ m. from_S6 w.ground_node.fop m (begun w.ground_node.fop d)) off)

  by_unlock : IsEvent (events.Directive InitUnlock) → farm_now.vr ≡ w.ground_node.fop.vs
      → IsConfirmedAtOnce (world_step w (events.Directive InitUnlock)).after
  by_unlock fits may =
      let x : ℕ = w.ground_node.fop.vs in
      let May : FarmState → Type 0 = λ t. t.vr ≡ x in
      let keeps : (s t : FarmState) → Keeps s t → May s → May t = λ s t k at. k.vr ∙ at in
      let confirms : (s : SpacecraftState) → FlagsAgree s.farm → May s.farm
      → WouldConfirm x (body_outcome s (Bc Unlock)).after.farm × May (body_outcome s (Bc Unlock)).after.farm =
      λ t flags at. let would = unlock_confirms x t.farm at t.farm.state flags.state in (would, would.3) in
      led InitUnlock fits (obeyed_by InitUnlock refl) x Unlock May keeps confirms
      (begins_trying InitUnlock (begun w.ground_node.fop InitUnlock) x Unlock May keeps confirms (inr refl) refl refl
      refl (λ k is. sym (due_is is)) may (λ four. absurd (cc four)) (inr tt))

  by_set_vr : (x : ℕ) → IsEvent (events.Directive (InitSetVr x)) → farm_now.lockout ≡ false
      → IsConfirmedAtOnce (world_step w (events.Directive (InitSetVr x))).after
  by_set_vr x fits may =
      let d : Directive = InitSetVr x in
      let May : FarmState → Type 0 = λ t. t.lockout ≡ false in
      let keeps : (s t : FarmState) → Keeps s t → May s → May t = λ s t k at. k.lockout ∙ at in
      let confirms : (s : SpacecraftState) → FlagsAgree s.farm → May s.farm
      → WouldConfirm x (body_outcome s (Bc (SetVr x))).after.farm × May (body_outcome s (Bc (SetVr x))).after.farm =
      λ t flags at. let would = set_confirms x t.farm at t.farm.state flags.state in (would, would.0) in
      led d fits (obeyed_by d refl) x (SetVr x) May keeps confirms
      (begins_trying d (begun w.ground_node.fop d) x (SetVr x) May keeps confirms (inr refl) refl refl refl
      (λ k is. sym (due_is is)) may (λ four. absurd (cc four)) (inr tt))

  by_check : (farm_now.vr ≡ w.ground_node.fop.vs) × (farm_now.lockout ≡ false) × (farm_now.retransmit ≡ false)
      → IsConfirmedAtOnce (world_step w (events.Directive InitWithCheck)).after
  by_check may =
      let s = w.ground_node.fop in
      let h = (known w g).holds.sound in
      let waits : farm_now.wait ≡ false = false_from_ne_true farm_now.wait (λ waits.
      absurd (let asks = h.spacecraft.farm.flags.asks waits in cc (asks, may.2))) in
      let would : WouldConfirm s.vs farm_now = (may.1, waits, may.2, may.0) in
      let idle_control : s.control ≡ Idle =
      let it : Commanded S6 s.control = rw off at h.ground_node.fop.commanded in it in
      let May : FarmState → Type 0 = WouldConfirm s.vs in
      let confirms : (t : SpacecraftState) → FlagsAgree t.farm → May t.farm
      → WouldConfirm s.vs (body_outcome t (Bc Unlock)).after.farm × May (body_outcome t (Bc Unlock)).after.farm =
      λ t flags is. let would = good_unlocked s.vs t.farm is t.farm.state in (would, would) in
      led InitWithCheck tt (obeyed_by InitWithCheck refl) s.vs Unlock May (would_keep s.vs) confirms
      (begins_trying InitWithCheck (begun s InitWithCheck) s.vs Unlock May (would_keep s.vs) confirms (inl refl) refl
      refl refl (λ k is. absurd (cc (is, idle_control))) would (λ four. would) (inl would))

  confirmed_by : (d : Directive) → IsEvent (events.Directive d) → MayConfirm w d
      → IsConfirmedAtOnce (world_step w (events.Directive d)).after
  confirmed_by InitUnlock fits may = by_unlock fits may
  confirmed_by (InitSetVr x) fits may = by_set_vr x fits may
  confirmed_by InitWithCheck fits may = by_check may
  confirmed_by _ fits may = elim may [ ]

pub each_is_confirmed : EachIsConfirmed
each_is_confirmed w d g closed begins fits may =
    confirmed_by w g (closed_is w.ground_node.fop.state closed) (and_parts (may_begin w d) (is_idle w) begins).1 d fits
    may

-- ---- a resumption

set_value : (w : World) (value : ℕ) → w.ground_node.fop.state ≡ S6
    → ((directed w (SetVs value)).ground_node.fop.state ≡ S6) × ((directed w (SetVs value)).ground_node.fop.vs ≡ value)
set_value w value off =
    let s = w.ground_node.fop in
    let t : FopState SegmentView = record s { vs = value; nn = value } in
    let is = with_same (record w.ground_node { fates = after_obeying w.ground_node.fates (SetVs value) }) t in
    subst (λ m. let u : World = (world_after_directive w (SetVs value) (directive_outcome w.ground_node (SetVs value)
    (from_S6 s m t))).after in (u.ground_node.fop.state ≡ S6) × (u.ground_node.fop.vs ≡ value)) (sym off)
    (is.state ∙ off, is.vs)

pub each_resumption_is_confirmed : EachResumptionIsConfirmed
each_resumption_is_confirmed w value more g now =
    resumes w value (λ (o : WorldOutcome). o.answer ≡ Ok (Resumed more) → IsConfirmedAtOnce o.after)
    (λ refused. absurd (cc refused)) (λ whole at_end can answered.
    let off = can_off w.ground_node value can in
    let set = set_value w value off in
    let u : World = (world_step w (events.Directive (SetVs value))).after in
    let past : HasOctetPast u = octet_step w (events.Directive (SetVs value)) g now.small in
    let idle : is_idle u ≡ true = set_idle g.config w (known w g).holds value now.small now.quiet in
    confirmed_by u past set.0 idle InitUnlock tt (sym now.same ∙ sym set.1))
