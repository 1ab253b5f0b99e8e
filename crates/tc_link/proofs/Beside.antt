-- Which octets leave the receiver as it was, and what a step of the link may do while a session
-- continues.
use Rattle.tc_link.proofs.Common.{◌≡◌, ℕ, Bool, true, false, List, [], ◌∷◌, Result, Ok, Err, refl, sym, subst}
use Rattle.tc_link.proofs.Common.{◌==◌, cond_both, On, TcFault, TmFault, Clcw, ClcwFault, SegmentView, BodyView, Ad, Bd}
use Rattle.tc_link.proofs.Common.{Ahead, NoBuffer, Outside, ahead_by, ◌/◌, ◌≢◌}
use Rattle.tc_link.proofs.Common.{Bc, Verdict, Accepted, verdict_of, FarmState, FarmMode, Open, Wait, farm_step}
use Rattle.tc_link.proofs.Common.{after_verdict, after_unlock, after_set_vr, Command, Unlock, SetVr, SpacecraftState}
use Rattle.tc_link.proofs.Common.{and_parts, eqb-true, eq-eqb, arith, ◌∙◌, nat_lt, ◌-◌}
use Rattle.tc_link.proofs.Common.{GroundOutcome, SpacecraftOutcome, frame_outcome}
use Rattle.tc_link.proofs.Common.{body_outcome, bypass_outcome, is_free, is_kept, is_own_frame}
use Rattle.tc_link.proofs.Common.{telemetry_outcome, ExtractorState, extract_step, Event, World, world_step}
use Rattle.tc_link.proofs.Common.{BeginsNoSession}
use Rattle.std.specs.Prelude.{◌&&◌, nat_le}
use Rattle.tc_frame.specs.Layout.{FrameView}
use Rattle.tc_frame.specs.Decoding as command
use Rattle.tc_frame.specs.declared.frame.SegmentFlags.TheVariants.{Alone}
use Rattle.clcw.specs.Decoding.{clcw_at}
use Rattle.cop1.specs.Farm.{after_type_b, place_at, ad_verdict}
use Rattle.cop1.specs.declared.farm.FarmMode.TheVariants.{Lockout}
use Rattle.tm_link.specs.Extractor.{new_extractor}
use Rattle.tm_link.specs.Layout as telemetry
use Rattle.tm_link.specs.Decoding as telemetry_reading
use Rattle.nodes.specs.Ground.{report_outcome, is_own_telemetry, ground_take_telemetry}
use Rattle.nodes.specs.Spacecraft.{command_event, is_accepted, receive_sequence_step}
use Rattle.nodes.specs.declared.heard.Heard.{Heard}
use Rattle.nodes.specs.declared.heard.HeardClcw.{HeardClcw}
use Rattle.nodes.specs.declared.received.Received.{Received}
use Rattle.tc_link.specs.AnyPast.{LinkStep, Happens, TakeTelemetry, Receives, Hears, HearsReport, ForgetTelemetry}
use Rattle.tc_link.specs.AnyPast.{NewGround, NewSpacecraft, heard, heard_word, link_step, with_nodes, is_left, is_mode}
use Rattle.tc_link.specs.AnyPast.{is_flag}
use Rattle.tc_link.specs.Beside.{IsUnused, BringsNone, LeavesSession}
use Rattle.tc_link.proofs.Downward.{apart}

-- The receiver as it was except for FARM-B.

pub record Left (f g : FarmState) : Type 0 where
  pub vr : g.vr ≡ f.vr
  pub state : f.state ≡ g.state
  pub retransmit : g.retransmit ≡ f.retransmit

mode_is : (a b : FarmMode) → is_mode a b ≡ true → a ≡ b
mode_is Open Open is = refl
mode_is Wait Wait is = refl
mode_is Lockout Lockout is = refl
mode_is _ _ is = absurd cc

flag_is : (a b : Bool) → is_flag a b ≡ true → b ≡ a
flag_is true true is = refl
flag_is false false is = refl
flag_is _ _ is = absurd cc

pub left_so : (f g : FarmState) → is_left f g ≡ true → Left f g
left_so f g is =
    let flags = is_mode f.state g.state && is_flag f.retransmit g.retransmit in
    let both = and_parts (g.vr == f.vr) flags is in
    let others = and_parts (is_mode f.state g.state) (is_flag f.retransmit g.retransmit) both.1 in record {
      vr = eqb-true g.vr f.vr both.0;
      state = mode_is f.state g.state others.0;
      retransmit = flag_is f.retransmit g.retransmit others.1;
    }

same_mode : (m : FarmMode) → is_mode m m ≡ true
same_mode Open = refl
same_mode Wait = refl
same_mode Lockout = refl

same_flag : (b : Bool) → is_flag b b ≡ true
same_flag true = refl
same_flag false = refl

pub same_left : (f : FarmState) → is_left f f ≡ true
same_left f = rw (eq-eqb f.vr f.vr refl, same_mode f.state, same_flag f.retransmit) refl

-- A property holds at each place of the table if it holds in four rows: those of the expected number, which is 0
-- ahead, and of numbers ahead, behind and outside.
pub at_place : (P : (Bool → FarmMode → Verdict) → Type 0) (h d : ℕ) → (d ≡ 0 → P (ad_verdict (place_at 127 0)))
    → P (ad_verdict (place_at 127 1)) → P (ad_verdict (place_at 127 255)) → P (ad_verdict (place_at 1 2))
    → P (ad_verdict (place_at h d))
at_place P h d expected ahead behind outside =
    cond_both (d == 0) _ _ (λ p. P (ad_verdict p)) (λ t. expected (eqb-true d 0 t)) (λ f.
    cond_both (nat_lt d h) _ _ (λ p. P (ad_verdict p)) (λ t. ahead) (λ g.
    cond_both (nat_le (256 - h) d) _ _ (λ p. P (ad_verdict p)) (λ t. behind) (λ k. outside)))

-- the states in which a verdict is given
abbrev ComesIn : FarmMode → Verdict → Type 0
ComesIn mode NoBuffer = mode ≡ Open
ComesIn mode Outside = mode ≢ Lockout
ComesIn mode _ = Unit {0}

expected_in : (free : Bool) (mode : FarmMode) → ComesIn mode (ad_verdict (place_at 127 0) free mode)
expected_in true Open = tt
expected_in true Wait = tt
expected_in true Lockout = tt
expected_in false Open = refl
expected_in false Wait = tt
expected_in false Lockout = tt

ahead_in : (free : Bool) (mode : FarmMode) → ComesIn mode (ad_verdict (place_at 127 1) free mode)
ahead_in free Open = tt
ahead_in free Wait = tt
ahead_in free Lockout = tt

behind_in : (free : Bool) (mode : FarmMode) → ComesIn mode (ad_verdict (place_at 127 255) free mode)
behind_in free Open = tt
behind_in free Wait = tt
behind_in free Lockout = tt

outside_in : (free : Bool) (mode : FarmMode) → ComesIn mode (ad_verdict (place_at 1 2) free mode)
outside_in free Open = λ is. cc
outside_in free Wait = λ is. cc
outside_in free Lockout = tt

comes_in : (f : FarmState) (n : ℕ) (free : Bool) → ComesIn f.state (verdict_of f n free)
comes_in f n free =
    at_place (λ (v : Bool → FarmMode → Verdict). ComesIn f.state (v free f.state)) (f.width / 2) (ahead_by n f.vr)
    (λ none. expected_in free f.state) (ahead_in free f.state) (behind_in free f.state) (outside_in free f.state)

-- a verdict that changes only FARM-B leaves the receiver as it was
verdict_left : (f : FarmState) (v : Verdict) → ComesIn f.state v → Left f (after_verdict f v) → after_verdict f v ≡ f
verdict_left f Accepted comes left = absurd (omega (arith, left.vr))
verdict_left f NoBuffer comes left = absurd (let no : Open ≡ Wait = sym comes ∙ left.state in cc)
verdict_left f Ahead comes left =
    subst (λ (flag : Bool). record f { retransmit = flag } ≡ f) (sym left.retransmit) refl
verdict_left f Outside comes left = absurd (comes left.state)
verdict_left f _ comes left = refl

unlock_left : (f : FarmState) (mode : FarmMode) → f.state ≡ mode → Left f (after_unlock f mode)
    → after_unlock f mode ≡ after_type_b f
unlock_left f Open is left =
    subst (λ (flag : Bool). record (after_type_b f) { retransmit = flag } ≡ after_type_b f) (sym left.retransmit) refl
unlock_left f Wait is left = absurd (let no : Wait ≡ Open = sym is ∙ left.state in cc)
unlock_left f Lockout is left = absurd (let no : Lockout ≡ Open = sym is ∙ left.state in cc)

set_left : (f : FarmState) (x : ℕ) (mode : FarmMode) → f.state ≡ mode → Left f (after_set_vr f x mode)
    → after_set_vr f x mode ≡ after_type_b f
set_left f x Open is left =
    subst (λ (flag : Bool). record (after_type_b f) { retransmit = flag; vr = x } ≡ after_type_b f)
    (sym left.retransmit)
    (subst (λ (vr : ℕ). record (after_type_b f) { vr = vr } ≡ after_type_b f) (sym left.vr) refl)
set_left f x Wait is left = absurd (let no : Wait ≡ Open = sym is ∙ left.state in cc)
set_left f x Lockout is left = refl

-- a verdict that passes data on changes V(R)
accepts_more : (f : FarmState) (v : Verdict) → is_accepted v ≡ true → Left f (after_verdict f v) → ⊥
accepts_more f Accepted is left = omega (arith, left.vr)
accepts_more f _ is left = absurd cc

-- so a control command that leaves the receiver so changes only FARM-B
control_left : (f : FarmState) (command : Command) → Left f (farm_step f (command_event command))
    → farm_step f (command_event command) ≡ after_type_b f
control_left f Unlock left = unlock_left f f.state refl left
control_left f (SetVr x) left = set_left f x f.state refl left

-- What a step of the link may do while a session continues.

-- the world with another extractor, and other packets of telemetry
abbrev pub with_telemetry : World → ExtractorState → List (List ℕ) → World
with_telemetry w extractor packets = record w { ground_node = apart w.ground_node extractor packets }

-- the world after a Type-BD frame arrived
abbrev pub with_bypass : World → SegmentView → Bool → World
with_bypass w u kept = record w { spacecraft = (bypass_outcome w.spacecraft u kept).after }

pub record AtEachStepBeside (w : World) (s : LinkStep) (P : World → Type 0) : Type 0 where
  pub happens : (e : Event) → s ≡ Happens e → BeginsNoSession w e → P (world_step w e).after
  pub same : P w
  pub takes : (x : ExtractorState) (packets : List (List ℕ)) → P (with_telemetry w x packets)
  pub passes : (u : SegmentView) (kept : Bool) → P (with_bypass w u kept)

module _ (w : World) (P : World → Type 0) where
  -- when telemetry is taken, nothing else changes
  pub taken_beside : (packets : List (List ℕ)) → P w
      → ((left : List (List ℕ)) → P (with_telemetry w w.ground_node.extractor left))
      → P (record w { ground_node = (ground_take_telemetry w.ground_node packets).after })
  taken_beside [] same takes = same
  taken_beside (packet ∷ left) same takes = takes left

  -- ---- the spacecraft receives octets

  module _ (same : P w) (passes : (u : SegmentView) (kept : Bool) → P (with_bypass w u kept)) where
    abbrev Received_so : SpacecraftState → Type 0
    Received_so after = Left w.spacecraft.farm after.farm → P (record w { spacecraft = after })

    -- only the receiver takes a step, to this state
    with_farm : (f g : FarmState) → f ≡ g → P (record w { spacecraft = record w.spacecraft { farm = g } })
        → P (record w { spacecraft = record w.spacecraft { farm = f } })
    with_farm f g to =
        subst (λ (f : FarmState). P (record w { spacecraft = record w.spacecraft { farm = f } })) (sym to)

    sequence_so : (n : ℕ) (u : SegmentView) → Received_so (receive_sequence_step w.spacecraft n u).after
    sequence_so n u =
        let f : FarmState = w.spacecraft.farm in
        let free : Bool = is_free w.spacecraft in
        let v : Verdict = verdict_of f n free in
        cond_both (is_accepted v) _ _ (λ (o : SpacecraftOutcome Received). Received_so o.after)
        (λ t left. absurd (accepts_more f v t left))
        (λ t left. with_farm (after_verdict f v) f (verdict_left f v (comes_in f n free) left) same)

    bypass_so : (u : SegmentView) (kept : Bool) → Received_so (bypass_outcome w.spacecraft u kept).after
    bypass_so u true left = passes u true
    bypass_so u false left = passes u false

    -- a segment, which a frame that is not kept does not use
    no_segment : SegmentView
    no_segment = record { header = record { flags = Alone; map = 0 }; payload = [] }

    body_so : (f : BodyView) → Received_so (body_outcome w.spacecraft f).after
    body_so (Ad n u) = sequence_so n u
    body_so (Bd u) = bypass_so u (is_kept w.spacecraft.config u)
    body_so (Bc command) = λ left.
        with_farm (farm_step w.spacecraft.farm (command_event command)) (after_type_b w.spacecraft.farm)
        (control_left w.spacecraft.farm command left) (passes no_segment false)

    pub received_so : (r : Result FrameView TcFault) → Received_so (frame_outcome w.spacecraft r).after
    received_so (Err fault) = λ left. same
    received_so (Ok frame) =
        cond_both (is_own_frame w.spacecraft.config frame) (body_outcome w.spacecraft frame.body) _
        (λ (o : SpacecraftOutcome Received). Received_so o.after) (λ t. body_so frame.body) (λ t left. same)

  -- ---- the ground hears octets

  module _ (same : P w) (takes : (x : ExtractorState) (packets : List (List ℕ)) → P (with_telemetry w x packets)) where
    word_so : (x : ExtractorState) (packets : List (List ℕ)) (r : Result Clcw ClcwFault)
        → let o = report_outcome (apart w.ground_node x packets) r in IsUnused o.answer.report → P (heard_word w o)
    word_so x packets (Err fault) = λ unused. takes x packets
    word_so x packets (Ok report) =
        cond_both (report.vcid == w.ground_node.config.vcid) _ _
        (λ (o : GroundOutcome HeardClcw). IsUnused o.answer.report → P (heard_word w o)) (λ t unused. elim unused [ ])
        (λ t unused. takes x packets)

    heard_so : (r : Result telemetry.FrameView TmFault)
        → let o = telemetry_outcome w.ground_node r in BringsNone o.answer → P (heard w o)
    heard_so (Err fault) = λ none. same
    heard_so (Ok frame) =
        cond_both (is_own_telemetry w.ground_node.config frame) _ _
        (λ (o : GroundOutcome Heard). BringsNone o.answer → P (heard w o))
        (λ t. word_so (extract_step w.ground_node.extractor frame).after _ (clcw_at frame.ocf)) (λ t none. same)

  pub beside_so : (s : LinkStep) → LeavesSession w s → AtEachStepBeside w s P → P (link_step w s)
  beside_so (Happens e) goes each = each.happens e refl goes
  beside_so TakeTelemetry goes each =
      taken_beside w.ground_node.telemetry each.same (each.takes w.ground_node.extractor)
  beside_so (Receives octets) goes each =
      let after : SpacecraftState = (frame_outcome w.spacecraft (command.frame_at On octets)).after in
      cond_both (is_left w.spacecraft.farm after.farm) (record w { spacecraft = after })
      (with_nodes w w.ground_node after) P
      (λ t. received_so each.same each.passes (command.frame_at On octets) (left_so w.spacecraft.farm after.farm t))
      (λ t. absurd cc)
  beside_so (Hears octets) goes each =
      heard_so each.same each.takes (telemetry_reading.frame_at w.ground_node.config.frame_length octets) goes
  beside_so (HearsReport octets) goes each =
      word_so each.same each.takes w.ground_node.extractor w.ground_node.telemetry (clcw_at octets) goes
  beside_so ForgetTelemetry goes each = each.takes new_extractor w.ground_node.telemetry
  beside_so NewGround goes each = elim goes [ ]
  beside_so (NewSpacecraft kept) goes each = elim goes [ ]
