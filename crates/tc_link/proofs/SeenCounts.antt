-- A program counts what is in transit by what it sees of a link.
use Rattle.tc_link.proofs.Common.{◌≡◌, ℕ, List, [], ◌∷◌, length, Option, Some, None, Result, Ok, Err}
use Rattle.tc_link.proofs.Common.{true, refl, ◌==◌, eqb-true, ap, sym, subst, ◌∙◌, arith, length-append, cond_both}
use Rattle.tc_link.proofs.Common.{nat_lt, Clcw, On}
use Rattle.tc_link.proofs.Common.{report_of, FarmState, after_release, farm_step, BufferReleased, Config, GroundState}
use Rattle.tc_link.proofs.Common.{PacketOn, LinkFault, CopFault, Alert, TcFault, TmFault, Directive, is_initiation}
use Rattle.tc_link.proofs.Common.{Event, World, WorldOutcome, world_step, world_after_pull, world_after_take}
use Rattle.tc_link.proofs.Common.{spacecraft_take, spacecraft_take_bypass, spacecraft_report, report_now}
use Rattle.tc_link.proofs.Common.{world_after_queueing, up_damage_outcome, down_damage_outcome, up_deliver_step}
use Rattle.tc_link.proofs.Common.{up_lose_step, up_damage_step, down_deliver_step, down_lose_step, down_damage_step}
use Rattle.tc_link.proofs.Common.{is_to_send}
use Rattle.std.specs.Borrow.{Bor}
use Rattle.cop1.specs.declared.farm.FarmMode.{FarmMode}
use Rattle.cop1.specs.declared.farm.FarmMode.TheVariants.{Open, Wait, Lockout}
use Rattle.tc_frame.specs.Layout.{FrameView}
use Rattle.tc_frame.specs.Decoding as command
use Rattle.tc_frame.specs.Encoding.{spelling}
use Rattle.tm_link.specs.Layout as telemetry
use Rattle.tm_link.specs.Decoding as telemetry_reading
use Rattle.tm_link.specs.Encoding as telemetry_writing
use Rattle.nodes.specs.Ground as ground
use Rattle.nodes.specs.Ground.{ground_step}
use Rattle.nodes.specs.declared.event.Event.TheVariants as events
use Rattle.simulated_link.specs.Replies.{reply_to_submission, reply_to_directive}
use Rattle.simulated_link.specs.World.{down_clcw_step, down_word_outcome, is_idle}
use Rattle.simulated_link.proofs.Unchanged.{first_on, resumes}
use Rattle.tc_link.specs.Seen.{Seen, seen_step, begins, has_check, is_first, gone_up, gone_down}
use Rattle.tc_link.proofs.Silence.{AllLater, less_is, none_later, later_gone, later_push, all_later}
use Rattle.tc_link.proofs.Silence.{tells_so}
use Rattle.tc_link.proofs.Invariant.{Holding}
use Rattle.tc_link.proofs.IdleStart.{tells_now}

-- the counts are those of what is in transit, while the receiver would report the same
pub record Counts (c : Config) (up down old : ℕ) (made : Option ℕ) (ups downs : List (List ℕ)) (now : Clcw) : Type 0
  where
    pub up_is : up ≡ length ups
    pub down_is : down ≡ length downs
    pub later : up ≡ 0 → AllLater now c.frame_length old downs
    pub made_is : (v : ℕ) → made ≡ Some v → (up ≡ 0) × (v ≡ now.value)

abbrev pub CountsAt : Config → Seen → List (List ℕ) → List (List ℕ) → Clcw → Type 0
CountsAt c s ups downs now = Counts c s.up s.down s.old s.made ups downs now

released_value : (s : FarmState) (m : FarmMode) → (after_release s m).vr ≡ s.vr
released_value s Open = refl
released_value s Wait = refl
released_value s Lockout = refl

no_up : (way : List (List ℕ)) → length way ≡ 0 → way ≡ []
no_up [] is = refl
no_up (b ∷ bs) is = absurd (omega (arith, is))

module _ (c : Config) (s : Seen) (w : World) (h : Holding c w) (k : CountsAt c s w.up w.down (report_now w)) where
  abbrev now : Clcw
  now = report_now w

  -- by an event with this answer
  abbrev By : Event → WorldOutcome → Type 0
  By e o = CountsAt c (seen_step s e o.answer) o.after.up o.after.down (report_now o.after)

  up_gone : (b : List ℕ) (bs : List (List ℕ)) → w.up ≡ b ∷ bs → (then : Clcw)
      → CountsAt c (gone_up s) bs w.down then
  up_gone b bs is then = record {
    up_is = omega (arith, k.up_is, ap length is);
    down_is = k.down_is;
    later = λ none. subst (λ (n : ℕ). AllLater then c.frame_length n w.down) (sym k.down_is)
        (none_later then c.frame_length w.down);
    made_is = λ v made. absurd (omega (arith, (k.made_is v made).0, k.up_is, ap length is));
  }

  down_gone : (b : List ℕ) (bs : List (List ℕ)) → w.down ≡ b ∷ bs → CountsAt c (gone_down s) w.up bs now
  down_gone b bs is = record {
    up_is = k.up_is;
    down_is = omega (arith, k.down_is, ap length is);
    later = λ none.
        let were : AllLater now c.frame_length s.old (b ∷ bs) = rw is at (k.later none) in
        subst (λ (n : ℕ). AllLater now c.frame_length n bs) (less_is s.old)
        (later_gone now c.frame_length s.old b bs were);
    made_is = k.made_is;
  }

  -- all frames in transit on the downlink are old
  all_old : (then : Clcw) → then.value ≡ now.value → Counts c s.up s.down s.down s.made w.up w.down then
  all_old then same = record {
    up_is = k.up_is;
    down_is = k.down_is;
    later = λ none. subst (λ (n : ℕ). AllLater then c.frame_length n w.down) (sym k.down_is)
        (none_later then c.frame_length w.down);
    made_is = λ v made. let t = k.made_is v made in (t.0, t.1 ∙ sym same);
  }

  submitted : (m : ℕ) (octets : Bor (List ℕ)) (r : Result (Unit {0}) LinkFault)
      → CountsAt c (seen_step s (events.Submit m octets) (Ok (reply_to_submission r))) w.up w.down now
  submitted m octets (Ok done) = k
  submitted m octets (Err fault) = k

  directed : (d : Directive) (r : Result (Option Alert) CopFault)
      → CountsAt c (seen_step s (events.Directive d) (Ok (reply_to_directive r))) w.up w.down now
  directed d (Ok None) =
      cond_both (is_initiation d) (begins s 0 (has_check d) (is_first s)) s (λ t. CountsAt c t w.up w.down now)
      (λ t. k) (λ t. k)
  directed d (Ok (Some alert)) = k
  directed d (Err fault) = k

  sent : (next : GroundState) (frame : Option FrameView) → By events.Send (world_after_pull w next frame)
  sent next None = k
  sent next (Some frame) = record {
    up_is = omega (arith, k.up_is, length-append w.up (spelling On frame ∷ []));
    down_is = k.down_is;
    later = λ none. absurd (omega (arith, none));
    made_is = λ v made. cc made;
  }

  up_damaged : (octets : Bor (List ℕ)) (b : List ℕ) (bs : List (List ℕ)) → w.up ≡ b ∷ bs
      → (r : Result FrameView TcFault) → By (events.UpDamage octets) (up_damage_outcome w bs r)
  up_damaged octets b bs is (Ok frame) = k
  up_damaged octets b bs is (Err fault) = up_gone b bs is now

  down_damaged : (octets : Bor (List ℕ)) (b : List ℕ) (bs : List (List ℕ)) → w.down ≡ b ∷ bs
      → (r : Result telemetry.FrameView TmFault) → By (events.DownDamage octets) (down_damage_outcome w bs r)
  down_damaged octets b bs is (Ok frame) = k
  down_damaged octets b bs is (Err fault) = down_gone b bs is

  word_heard : (b : List ℕ) (bs : List (List ℕ)) → w.down ≡ b ∷ bs → (r : Result telemetry.FrameView TmFault)
      → By events.DownClcw (down_word_outcome w bs r)
  word_heard b bs is (Ok frame) = down_gone b bs is
  word_heard b bs is (Err fault) = down_gone b bs is

  took : (ps : List PacketOn) → By events.Take (world_after_take w (spacecraft_take w.spacecraft ps))
  took [] = k
  took (p ∷ left) =
      cond_both (nat_lt (length left) w.spacecraft.config.ready_slots)
      (farm_step w.spacecraft.farm BufferReleased) w.spacecraft.farm
      (λ (farm : FarmState). Counts c s.up s.down s.down s.made w.up w.down (report_of farm w.spacecraft.config.vcid))
      (λ t. all_old _ (released_value w.spacecraft.farm w.spacecraft.farm.state)) (λ t. all_old now refl)

  passed : (ps : List PacketOn) → By events.TakeBypass (world_after_take w (spacecraft_take_bypass w.spacecraft ps))
  passed [] = k
  passed (p ∷ left) = k

  reported : By events.Report (world_step w events.Report)
  reported =
      let b : List ℕ = telemetry_writing.spelling (spacecraft_report w.spacecraft).answer in
      record {
        up_is = k.up_is;
        down_is = omega (arith, k.down_is, length-append w.down (b ∷ []));
        later = λ none. later_push now c.frame_length s.old w.down b (k.later none)
            (tells_so c b now (tells_now c w h.sound));
        made_is = λ v made.
            cond_both (s.up == 0) (Some now.value) None (λ (o : Option ℕ). o ≡ Some v → (s.up ≡ 0) × (v ≡ now.value))
            (λ t is. (eqb-true s.up 0 t, cc is)) (λ t is. cc is) made;
      }

  pub counts_step : (e : Event) → By e (world_step w e)
  counts_step (events.Submit m octets) =
      submitted m octets (ground_step w.ground_node (ground.Submit m octets.now)).answer
  counts_step (events.Bypass m octets) = k
  counts_step (events.Directive d) = directed d (ground_step w.ground_node (ground.Direct d)).answer
  counts_step (events.Resume value) = resumes w value (By (events.Resume value)) k (λ whole known can. k)
  counts_step events.Send =
      let o = ground_step w.ground_node ground.Pull in sent o.after o.answer
  counts_step events.UpDeliver =
      first_on (By events.UpDeliver) (up_deliver_step w) w.up k (λ b bs is. up_gone b bs is _)
  counts_step events.UpLose =
      first_on (By events.UpLose) (up_lose_step w) w.up k (λ b bs is. up_gone b bs is now)
  counts_step (events.UpDamage octets) =
      first_on (By (events.UpDamage octets)) (λ bs. up_damage_step w bs octets.now) w.up k
      (λ b bs is. up_damaged octets b bs is (command.frame_at On octets.now))
  counts_step events.Report = reported
  counts_step events.DownDeliver = first_on (By events.DownDeliver) (down_deliver_step w) w.down k down_gone
  counts_step events.DownLose = first_on (By events.DownLose) (down_lose_step w) w.down k down_gone
  counts_step (events.DownDamage octets) =
      first_on (By (events.DownDamage octets)) (λ bs. down_damage_step w bs octets.now) w.down k
      (λ b bs is. down_damaged octets b bs is
      (telemetry_reading.frame_at w.ground_node.config.frame_length octets.now))
  counts_step events.DownClcw =
      first_on (By events.DownClcw) (down_clcw_step w) w.down k
      (λ b bs is. word_heard b bs is (telemetry_reading.frame_at w.ground_node.config.frame_length b))
  counts_step events.Tick = k
  counts_step events.Take = took w.spacecraft.ready
  counts_step events.TakeBypass = passed w.spacecraft.bypass
  counts_step (events.Telemetry octets) =
      cond_both (is_to_send octets.now) _ _
      (λ o. By (events.Telemetry octets) (world_after_queueing w o)) (λ t. k) (λ t. k)

  -- nothing is in transit on the uplink, and nothing old is in transit on the downlink
  pub idle_seen : s.up ≡ 0 → s.old ≡ 0 → is_idle w ≡ true
  idle_seen up old =
      let none : w.up ≡ [] = no_up w.up (sym k.up_is ∙ up) in
      let all = all_later now c.frame_length w.down
      (subst (λ (n : ℕ). AllLater now c.frame_length n w.down) old (k.later up)) in
      rw (none, h.sound.ground_node.config) all
