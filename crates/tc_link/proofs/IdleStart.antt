-- The CLCWs in transit are the spacecraft's and can be read, and a session begins by an idle start.
use Rattle.tc_link.proofs.Common.{◌≡◌, ℕ, ◌+◌, ◌*◌, ◌/◌, ◌%◌, ◌<◌, Bool, true, false, eqb, Ok, refl, arith, eq-eqb}
use Rattle.tc_link.proofs.Common.{Clcw, flags_number, FarmState, locks, waits, asks, report_of, ◌≤◌, max, List, [], ◌∷◌}
use Rattle.tc_link.proofs.Common.{◌++◌, length, replicate, ap, length-append, cond_both, length-take-le, BuilderState}
use Rattle.tc_link.proofs.Common.{idle_tail, data_size, is_at_rest, room_left, Config, report_octets, spacecraft_report}
use Rattle.tc_link.proofs.Common.{World, Event, world_step, sym, ◌∙◌, ◌==◌, list_all, and_parts, eqb-true, Directive}
use Rattle.tc_link.proofs.Common.{SpacecraftState, begins_clean, begins_idle, reports_as, report_now, ◌⊎◌, inl, inr}
use Rattle.tc_link.proofs.Common.{SegmentView, Idle, InitWithoutCheck, InitWithCheck, InitUnlock, InitSetVr, S6}
use Rattle.tc_link.proofs.Common.{directive_step, FopState, FopOutcome, is_closed, directive_outcome, refill_step}
use Rattle.tc_link.proofs.Common.{world_after_directive, session_begun_by, IsDirective, obeyed, begun, is_initiation}
use Rattle.tc_link.proofs.Common.{Alert, CopFault, Option, None, Result, option_to_list, IsChecked, closed_is, obeying}
use Rattle.std.proofs.Math.Seq.{drop-length}
use Rattle.std.proofs.lemmas.List.{length-replicate}
use Rattle.std.specs.Int.RustNames.{bit_and}
use Rattle.clcw.specs.Decoding.{clcw_at}
use Rattle.clcw.specs.Encoding.{spelling}
use Rattle.tm_link.specs.Builder.{idle_packet, data_from, data_built, frame_built}
use Rattle.tm_link.specs.Layout as telemetry
use Rattle.tm_link.specs.Decoding as telemetry_reading
use Rattle.tm_link.specs.Encoding as telemetry_writing
use Rattle.tm_link.specs.Decoding.{frame_at}
use Rattle.tm_link.proofs.Spelled.{built_is, frame_again}
use Rattle.tm_link.proofs.BuiltFrames.{length-idle, length-tail}
use Rattle.cop1.specs.Report.{value_if}
use Rattle.cop1.specs.FopDirective.{obeys}
use Rattle.nodes.specs.declared.event.Event.TheVariants as events
use Rattle.simulated_link.specs.World.{is_none, is_quiet, is_idle, may_begin, says_as}
use Rattle.simulated_link.proofs.Unchanged.{down_after}
use Rattle.tc_link.proofs.Linked.{Tells, Reporting, reporting_push, WouldConfirm, AllGood, Lasts, AllSame, zeros}
use Rattle.tc_link.proofs.Linked.{DownIs, Carries, Held, Stage, In, Begun, Late, IsEarly, ControlFits, zeros_plain}
use Rattle.tc_link.proofs.Linked.{zeros_run, zeros_rise, zeros_count}
use Rattle.tc_link.proofs.Sound.{Sound, Commanded}
use Rattle.tc_link.proofs.Refilled.{session_refilled}

-- CLCWs are read from the octets that are sent.

-- What a receiver reports is read from its octets.

abbrev flags_of : Bool → Bool → Bool → ℕ
flags_of l w t = value_if l 32 + value_if w 16 + value_if t 8

flags_read : (l w t : Bool) → (flags_of l w t % 8 ≡ 0) × ((bit_and (flags_of l w t) 32 == 32) ≡ l)
    × ((bit_and (flags_of l w t) 16 == 16) ≡ w) × ((bit_and (flags_of l w t) 8 == 8) ≡ t)
flags_read l w t = grind arith

pub flags_are : (s : FarmState) (vcid : ℕ) → (locks (report_of s vcid) ≡ s.lockout)
    × (waits (report_of s vcid) ≡ s.wait) × (asks (report_of s vcid) ≡ s.retransmit)
flags_are s vcid = let read = flags_read s.lockout s.wait s.retransmit in (read.1, read.2, read.3)

read_again : (word : Clcw) → word.status ≡ 0 → flags_number word.flags % 8 ≡ 0 → word.farm_b < 4
    → clcw_at (spelling word) ≡ Ok word
unfolding clcw_at
read_again word status flags farm_b =
    let kind : eqb ((4 * word.status + 1) / 128) 0 ≡ true = eq-eqb _ _ (omega (arith, status)) in
    let version : eqb ((4 * word.status + 1) / 32 % 4) 0 ≡ true = eq-eqb _ _ (omega (arith, status)) in
    let cop : eqb ((4 * word.status + 1) % 4) 1 ≡ true = eq-eqb _ _ (omega arith) in
    let spare : eqb (4 * word.vcid % 4) 0 ≡ true = eq-eqb _ _ (omega arith) in
    let last : eqb ((flags_number word.flags + 2 * word.farm_b) % 2) 0 ≡ true = eq-eqb _ _ (omega (arith, flags)) in
    let status_is : (4 * word.status + 1) / 4 % 8 ≡ word.status = omega (arith, status) in
    let vcid_is : 4 * word.vcid / 4 ≡ word.vcid = omega arith in
    let flags_is : (flags_number word.flags + 2 * word.farm_b) / 8 * 8 ≡ flags_number word.flags =
    omega (arith, flags, farm_b) in
    let farm_b_is : (flags_number word.flags + 2 * word.farm_b) / 2 % 4 ≡ word.farm_b = omega (arith, flags, farm_b) in
    rw (kind, version, cop, spare, last, status_is, vcid_is, flags_is, farm_b_is) refl

pub report_reads : (s : FarmState) (vcid : ℕ) → s.farm_b < 4
    → clcw_at (spelling (report_of s vcid)) ≡ Ok (report_of s vcid)
report_reads s vcid farm_b = read_again (report_of s vcid) refl (flags_read s.lockout s.wait s.retransmit).0 farm_b

-- A telemetry frame that is sent is read with its CLCW.

pub data_length : (s : BuilderState) → s.idle_left ≤ 6 → length (data_built s) ≡ data_size s
data_length s least =
    cond_both (is_at_rest s) (replicate (data_size s) 0x55) (data_from s.idle_left s.pending (data_size s))
    (λ (xs : List ℕ). length xs ≡ data_size s)
    (λ t. length-replicate (data_size s) 0x55)
    (λ t.
    let filler : List ℕ = idle_packet (max (room_left (data_size s) s.idle_left (length s.pending)) 7) in
    let all : List ℕ = idle_tail s.idle_left ++ s.pending ++ filler in
    let room : 7 ≤ max (room_left (data_size s) s.idle_left (length s.pending)) 7 = omega arith in
    let tail : length (idle_tail s.idle_left) ≡ s.idle_left = length-tail s.idle_left (omega (arith, least)) in
    let sizes : length all ≡ s.idle_left
    + (length s.pending + max (room_left (data_size s) s.idle_left (length s.pending)) 7) =
    let idle = length-idle (max (room_left (data_size s) s.idle_left (length s.pending)) 7) room in
    let front = length-append (idle_tail s.idle_left) s.pending in
    omega (arith, length-append (idle_tail s.idle_left ++ s.pending) filler) in
    let enough : data_size s ≤ length all = omega (arith, sizes) in
    length-take-le (data_size s) all enough)

module _ (c : Config) (w : World) (k : Sound c w) where
  -- the frame that is sent is the one that is read
  pub reads_now : telemetry_reading.frame_at c.frame_length
      (telemetry_writing.spelling (spacecraft_report w.spacecraft).answer) ≡ Ok (spacecraft_report w.spacecraft).answer
  reads_now =
      let b : BuilderState = w.spacecraft.builder in
      let ocf : List ℕ = report_octets w.spacecraft in
      let f : telemetry.FrameView = frame_built b ocf in
      let total : b.total ≡ c.frame_length = k.spacecraft.builder.total in
      let spelled =
      built_is b ocf (omega (arith, k.spacecraft.builder.scid, k.ranges.scid))
      (omega (arith, k.spacecraft.builder.vcid, k.ranges.tm_vcid)) (omega (arith, total, k.ranges.frame_length))
      (omega (arith, total, k.ranges.frame_length)) refl (data_length b k.spacecraft.idle_left) in
      rw (← total) (frame_again b.total (telemetry_writing.spelling f) f spelled)

  pub tells_now : Tells c (telemetry_writing.spelling (spacecraft_report w.spacecraft).answer)
      (report_of w.spacecraft.farm w.spacecraft.config.vcid)
  tells_now = record {
    frame = (spacecraft_report w.spacecraft).answer;
    reads = reads_now;
    scid = k.spacecraft.builder.scid;
    vcid = k.spacecraft.builder.vcid;
    word = report_reads w.spacecraft.farm w.spacecraft.config.vcid k.spacecraft.farm.farm_b;
    own = ap (λ x. x.vcid) k.spacecraft.config;
  }

  -- the frame that is sent is the last in transit
  pub reporting_now : (reports : List Clcw) → Reporting c w.down reports
      → Reporting c (w.down ++ telemetry_writing.spelling (spacecraft_report w.spacecraft).answer ∷ [])
      (reports ++ report_of w.spacecraft.farm w.spacecraft.config.vcid ∷ [])
  reporting_now reports so =
      reporting_push c (telemetry_writing.spelling (spacecraft_report w.spacecraft).answer)
      (report_of w.spacecraft.farm w.spacecraft.config.vcid) w.down reports tells_now so

-- Each frame in transit on the downlink is one of the spacecraft's, with a CLCW.

pub record HasReports (c : Config) (down : List (List ℕ)) : Type 0 where
  pub reports : List Clcw
  pub reporting : Reporting c down reports

rest_reports : (c : Config) (b : List ℕ) (bs : List (List ℕ)) (rs : List Clcw) → Reporting c (b ∷ bs) rs
    → HasReports c bs
rest_reports c b bs [] h = elim h [ ]
rest_reports c b bs (r ∷ rs) h = record { reports = rs; reporting = h.1 }

module _ (c : Config) (w : World) (k : Sound c w) (t : HasReports c w.down) where
  first_gone : (b : List ℕ) (bs : List (List ℕ)) → w.down ≡ b ∷ bs → HasReports c bs
  first_gone b bs is = rest_reports c b bs t.reports (rw is at t.reporting)

  pub step_reports : (e : Event) → HasReports c (world_step w e).after.down
  step_reports events.Report = record {
    reports = t.reports ++ report_of w.spacecraft.farm w.spacecraft.config.vcid ∷ [];
    reporting = reporting_now c w k t.reports t.reporting;
  }
  step_reports e = down_after w (HasReports c) e (λ is. cc is) t (λ gone. first_gone)

-- What the CLCWs in transit show at an idle start: what the receiver would report now.

abbrev pub Says : Clcw → Clcw → Type 0
Says now r = (r.value ≡ now.value) × (flags_number r.flags ≡ flags_number now.flags)

abbrev pub AllSay : Clcw → List Clcw → Type 0
AllSay now [] = Unit {0}
AllSay now (r ∷ rs) = Says now r × AllSay now rs

-- ---- as the octets are read

module _ (now : Clcw) (c : Config) (total : ℕ) (size : total ≡ c.frame_length) where
  says_so : (b : List ℕ) (r : Clcw) → Tells c b r → reports_as now (frame_at total b) ≡ true → Says now r
  says_so b r t is =
      let read : reports_as now (frame_at c.frame_length b) ≡ true = rw size at is in
      let frame_so : says_as now (clcw_at t.frame.ocf) ≡ true = rw t.reads at read in
      let so : says_as now (Ok r) ≡ true = rw t.word at frame_so in
      let both = and_parts (r.value == now.value) (flags_number r.flags == flags_number now.flags) so in
      (eqb-true _ _ both.0, eqb-true _ _ both.1)

  all_say : (bs : List (List ℕ)) (rs : List Clcw) → Reporting c bs rs
      → list_all (λ (b : List ℕ). reports_as now (frame_at total b)) bs ≡ true → AllSay now rs
  all_say [] [] rest is = tt
  all_say (b ∷ bs) (r ∷ rs) rest is =
      let both = and_parts (reports_as now (frame_at total b))
      (list_all (λ (b : List ℕ). reports_as now (frame_at total b)) bs) is in
      (says_so b r rest.0 both.0, all_say bs rs rest.1 both.1)
  all_say _ _ rest is = elim rest [ ]

-- ---- what they show

module _ (s : SpacecraftState) where
  says_flags : (r : Clcw) → Says (report_of s.farm s.config.vcid) r
      → (locks r ≡ s.farm.lockout) × (waits r ≡ s.farm.wait) × (asks r ≡ s.farm.retransmit) × (r.value ≡ s.farm.vr)
  says_flags r says =
      let are = flags_are s.farm s.config.vcid in (
        ap (λ n. bit_and n 32 == 32) says.1 ∙ are.0,
        ap (λ n. bit_and n 16 == 16) says.1 ∙ are.1,
        ap (λ n. bit_and n 8 == 8) says.1 ∙ are.2,
        says.0,
      )

  pub all_confirm : (base : ℕ) (rs : List Clcw) → AllSay (report_of s.farm s.config.vcid) rs → WouldConfirm base s.farm
      → AllGood base rs (WouldConfirm base s.farm)
  all_confirm base [] say would = would
  all_confirm base (r ∷ rs) say would =
      let f = says_flags r say.0 in
      ((f.0 ∙ would.0, f.1 ∙ would.1, f.2 ∙ would.2, f.3 ∙ would.3), all_confirm base rs say.1 would)

  -- only CLCWs that confirm follow one that does
  pub all_last : (base : ℕ) (rs : List Clcw) → AllSay (report_of s.farm s.config.vcid) rs
      → Lasts base rs (WouldConfirm base s.farm)
  all_last base [] say = tt
  all_last base (r ∷ rs) say =
      let f = says_flags r say.0 in (
        λ good. all_confirm base rs say.1
            (sym f.0 ∙ good.0, sym f.1 ∙ good.1, sym f.2 ∙ good.2, sym f.3 ∙ good.3),
        all_last base rs say.1,
      )

  pub all_same : (rs : List Clcw) → (s.farm.wait ≡ true → s.farm.retransmit ≡ true)
      → AllSay (report_of s.farm s.config.vcid) rs → AllSame rs s.farm.lockout s.farm.retransmit s.farm.vr
  all_same [] agree say = tt
  all_same (r ∷ rs) agree say =
      let f = says_flags r say.0 in
      (f.0, f.2, f.3, λ t. f.2 ∙ agree (sym f.1 ∙ t), all_same rs agree say.1)

  -- each has the number 0 of a plain link
  pub all_zeros : (base : ℕ) (rs : List Clcw) → base < 256 → s.farm.vr ≡ base
      → AllSay (report_of s.farm s.config.vcid) rs → DownIs base rs (zeros rs)
  all_zeros base [] octet is say = tt
  all_zeros base (r ∷ rs) octet is say =
      let value : r.value ≡ base = say.0.0 ∙ is in
      (omega (arith, value, octet), all_zeros base rs octet is say.1)

-- ---- the world

pub empty : {A : Type 0} → (xs : List A) → is_none xs ≡ true → xs ≡ []
empty [] h = refl
empty (x ∷ xs) h = absurd cc

module _ (c : Config) (w : World) (t : HasReports c w.down) where
  pub idle_parts : w.ground_node.config ≡ c → is_idle w ≡ true → (w.up ≡ []) × AllSay (report_now w) t.reports
  idle_parts config h =
      let total : ℕ = w.ground_node.config.frame_length in
      let both = and_parts (is_none w.up)
      (list_all (λ (b : List ℕ). reports_as (report_now w) (frame_at total b)) w.down) h in (
        empty w.up both.0,
        all_say (report_now w) c total (ap (λ (x : Config). x.frame_length) config) w.down t.reports t.reporting
            both.1,
      )

-- a session that begins clean has an idle start, since a quiet world is idle
pub clean_idle : (w : World) (d : Directive) → begins_clean w d ≡ true → begins_idle w d ≡ true
clean_idle w d h =
    let both = and_parts (may_begin w d) (is_quiet w) h in
    let none = and_parts (is_none w.up) (is_none w.down) both.1 in
    rw (both.0, none.0, empty w.down none.1) refl

-- A session begins by an idle start.

pub record InSession (c : Config) (w : World) : Type 0 where
  pub directive : Directive
  pub base : ℕ
  pub session : Begun c directive base w ⊎ Late c directive base w

-- this holds whether the session is confirmed or not
pub in_session : {A : Type 0} {c : Config} {w : World} (s : InSession c w)
    → ((early : Bool) → In early c s.directive s.base w → A) → A
in_session s each = elim s.session [ inl g ↦ each true g | inr g ↦ each false g ]

module _ (c : Config) (w : World) (k : Sound c w) (t : HasReports c w.down) where
  abbrev begun_with : Directive → FopState SegmentView → World
  begun_with d f = record w {
    ground_node = record (obeying w.ground_node d) { fop = f };
    session = session_begun_by w d;
  }

  parts : is_idle w ≡ true → (w.up ≡ []) × AllSay (report_now w) t.reports
  parts h = idle_parts c w t k.ground_node.config h

  module _ (off : w.ground_node.fop.state ≡ S6) where
    pending : w.ground_node.pending ≡ []
    pending = k.ground_node.pending_none (rw off refl)

    idle : w.ground_node.fop.control ≡ Idle
    idle = let it : Commanded S6 w.ground_node.fop.control = rw off at k.ground_node.fop.commanded in it

    -- the CLCWs in transit are as many zeros
    session_from : (early front : Bool) (d : Directive) (base : ℕ) (f : FopState SegmentView) → base < 256
        → is_idle w ≡ true → f.vs ≡ base → f.nn ≡ base → f.sent ≡ [] → f.waiting ≡ None → is_closed f.state ≡ false
        → Stage early d base f.state f.control w.spacecraft.farm false front t.reports 0 0 0 (zeros t.reports)
        → In early c d base (record (begun_with d f) { ground_node = refill_step (begun_with d f).ground_node })
    session_from early front d base f octet start vs nn sent waiting on stage =
        let rest : option_to_list f.waiting ++ w.ground_node.pending ≡ [] = rw waiting pending in
        let held : Held (is_closed f.state) base f.vs f.nn f.sent (option_to_list f.waiting ++ w.ground_node.pending)
        0 0 [] = rw on (record {
          vs_is = omega (arith, vs, octet);
          nn_is = omega (arith, nn, octet);
          sent_is = rw sent refl;
          rest_is = rest;
        }) in
        let nn_octet : f.nn < 256 = omega (arith, nn, octet) in
        let least : 0 ≤ 0 = omega arith in
        let most : 0 ≤ 0 + c.width / 2 = omega arith in
        let carries : Carries c w.up [] = rw (parts start).0 tt in
        let session : In early c d base (begun_with d f) = record {
          plain = zeros_plain t.reports;
          ran = zeros_run t.reports;
          front = front;
          frames = [];
          reports = t.reports;
          linked = assumption (
            nn_octet,
            held,
            drop-length w.spacecraft.accepted,
            least,
            most,
            carries,
            zeros_count t.reports,
            zeros_rise t.reports,
          );
          stage = stage;
        } in
        session_refilled early c d base (begun_with d f) session

    -- the session must be confirmed
    checked_begins : (d : Directive) (base : ℕ) (f : FopState SegmentView) → base < 256 → IsChecked d
        → is_idle w ≡ true → IsEarly d f.state → is_closed f.state ≡ false → f.vs ≡ base
        → f.nn ≡ base → f.sent ≡ [] → f.waiting ≡ None → ControlFits d base f.control
        → InSession c (record (begun_with d f) { ground_node = refill_step (begun_with d f).ground_node })
    checked_begins d base f octet checked start early on vs nn sent waiting control = record {
      directive = d;
      base = base;
      session = inl (session_from true true d base f octet start vs nn sent waiting on (assumption (
        all_last w.spacecraft base t.reports (parts start).1,
        all_same w.spacecraft t.reports k.spacecraft.farm.flags.asks (parts start).1,
      )));
    }

    begun_idle : (d : Directive) → is_initiation d ≡ true → IsDirective d → begins_idle w d ≡ true
        → InSession c (world_after_directive w d
        (directive_outcome w.ground_node d (obeys (begun w.ground_node.fop d)))).after
    begun_idle InitWithoutCheck is fits start =
        let f : FopState SegmentView = begun w.ground_node.fop InitWithoutCheck in
        let both = and_parts (w.spacecraft.farm.vr == f.vs) (is_idle w) start in
        let same : w.spacecraft.farm.vr ≡ f.vs = eqb-true _ _ both.0 in
        let octet : f.vs < 256 = k.ground_node.fop.vs_octet in
        record {
          directive = InitWithoutCheck;
          base = f.vs;
          session = inr (session_from false false InitWithoutCheck f.vs f octet both.1 refl refl refl refl refl
              (record {
                late = tt;
                confirmed_is = λ checked. absurd (checked.1 refl);
                confirmed_so = λ e. cc;
                vr_is = omega (arith, same, octet);
                first = λ e. cc;
                down_is = all_zeros w.spacecraft f.vs t.reports octet same (parts both.1).1;
                calm = λ checked. absurd (checked.1 refl);
              }));
        }
    begun_idle InitWithCheck is fits start =
        checked_begins InitWithCheck w.ground_node.fop.vs (begun w.ground_node.fop InitWithCheck)
        k.ground_node.fop.vs_octet (refl, λ e. absurd cc) start refl refl refl refl refl refl (rw idle tt)
    begun_idle InitUnlock is fits start =
        checked_begins InitUnlock w.ground_node.fop.vs (begun w.ground_node.fop InitUnlock)
        k.ground_node.fop.vs_octet (refl, λ e. absurd cc) start (λ e. absurd cc) refl refl refl refl refl tt
    begun_idle (InitSetVr x) is fits start =
        checked_begins (InitSetVr x) x (begun w.ground_node.fop (InitSetVr x)) fits (refl, λ e. absurd cc) start
        (λ e. absurd cc) refl refl refl refl refl refl
    begun_idle _ is fits start = absurd cc

  abbrev Begins : Directive → FopOutcome SegmentView (Result (Option Alert) CopFault) → Type 0
  Begins d o = is_initiation d ≡ true → IsDirective d → is_closed w.ground_node.fop.state ≡ true
      → begins_idle w d ≡ true → InSession c (world_after_directive w d (directive_outcome w.ground_node d o)).after

  -- only in S6 does an initiation begin a session
  pub begins : (d : Directive) → Begins d (directive_step w.ground_node.fop d)
  begins = obeyed w.ground_node.fop Begins (record {
    refused = λ d fault on is fits off start. absurd (on is (closed_is w.ground_node.fop.state off));
    begins = λ d is off same fits closed start. begun_idle off d is fits start;
    terminated = λ is fits off start. absurd cc;
    numbers = λ x so is fits off start. absurd cc;
    sets = λ d k n ticks plain most is fits off start. absurd cc;
  })
