-- In each session of a ground, V(S), NN(R) and the numbers of submissions count what it sent and what is acknowledged.
use Rattle.tc_link.proofs.Common.{◌≡◌, ◌<◌, ◌≤◌, ℕ, ◌+◌, ◌%◌, Bool, true, false, List, [], ◌∷◌, ◌++◌, length, map}
use Rattle.tc_link.proofs.Common.{Option}
use Rattle.tc_link.proofs.Common.{Some, None, Result, refl, ap, sym, subst, ◌∙◌, arith, append-nil, ltb-false}
use Rattle.tc_link.proofs.Common.{ltb-true, ne_eqb, eq-eqb, ◌==◌, AllByRecursion, Clcw, SegmentView, Idle}
use Rattle.tc_link.proofs.Common.{Directive}
use Rattle.tc_link.proofs.Common.{Alert, CopFault, ahead_by, FopState, FopOutcome, S1, S3, PulledUnit}
use Rattle.tc_link.proofs.Common.{clcw_step, report_while_active, tick_step, pull_step, directive_step, active_on}
use Rattle.tc_link.proofs.Common.{retransmits, after_alert, after_move_on, after_acknowledge, after_new_value}
use Rattle.tc_link.proofs.Common.{oldest_marked, pulled_out, heard_active, InitUnlock, SetVs}
use Rattle.tc_link.proofs.Common.{Config, IsConfig, PacketOn, LinkFault, GroundState, GroundOutcome}
use Rattle.tc_link.proofs.Common.{is_closed, closed_not, refill_step, unless_refused, submit_fault, bypass_fault}
use Rattle.tc_link.proofs.Common.{after_submission, after_bypass, submitting, segments_on, segments_of}
use Rattle.tc_link.proofs.Common.{acknowledging, after_report, ExtractorState, frame_to_send, moved_by, Fates}
use Rattle.tc_link.proofs.Common.{after_obeying, units_of, length-map}
use Rattle.std.specs.Prelude.{◌^◌}
use Rattle.std.proofs.lemmas.Option.{slice_get_within}
use Rattle.cop1.proofs.Cases.{obeyed_set}
use Rattle.cop1.specs.FopPull.{SequencePulled}
use Rattle.cop1.specs.FopWords.{is_outside}
use Rattle.nodes.specs.Fates.{whole_within, new_fates}
use Rattle.nodes.specs.Ground.{GroundEvent, Submit, Bypass, Direct, Resume, Pull, Tick, Telemetry, ControlWord}
use Rattle.nodes.specs.Ground.{TakeTelemetry, ForgetTelemetry, ground_step, ground_directive, ground_take_telemetry}
use Rattle.nodes.specs.Ground.{after_directive, sent_beyond}
use Rattle.nodes.proofs.Owed.{moved_is}
use Rattle.nodes.proofs.Resuming.{resumed_or, resumed_known, known_off}
use Rattle.simulated_link.proofs.Counted.{reported}
use Rattle.simulated_link.specs.World.{first_in}
use Rattle.tc_link.specs.Repeated.{ground_run}
use Rattle.tc_link.specs.GroundSession.{GroundSession, begun_at, after_call, session_step, session_run, IsCall}
use Rattle.tc_link.specs.GroundSession.{BeginsHere, BeginsNoOther, GoesOn, SetsNoVs, LeavesVs}
use Rattle.tc_link.specs.GroundSession.{IsCountedSession, segments_of_each}
use Rattle.tc_link.specs.GroundSession.{EachCountsSegments, EachCountsItsSubmissions}
use Rattle.tc_link.proofs.CountsOn.{starts_equal}
use Rattle.tc_link.proofs.Fates.{Accounts, new_accounts, with_accounts, with_acknowledged, whole_so, submitted_so}
use Rattle.tc_link.proofs.Fates.{counts, segments, counts_on, starts_account}
use Rattle.tc_link.proofs.GroundSession.{Firm, OwesAt, telemetry_comes, control_word_comes, directed_firm, call_firm}
use Rattle.tc_link.proofs.GroundSession.{run_firm, first_firm, call_owes, begins_owes, set_off}
use Rattle.tc_link.proofs.Known.{tick_same}
use Rattle.tc_link.proofs.Lists.{oldest_stands}
use Rattle.tc_link.proofs.ProgressNumbers.{Numbered}
use Rattle.tc_link.proofs.Refilled.{refilled_keeps}

-- ---- the sender's numbers

-- n segments were sent, and a of them are acknowledged
record Apart (base : ℕ) (f : FopState SegmentView) (n a : ℕ) : Type 0 where
  sent : n ≡ a + ahead_by f.vs f.nn
  nn : f.nn ≡ (base + a) % 256

module _ (base n a : ℕ) (s : FopState SegmentView) (k : Numbered s) (t : Apart base s n a) where
  same_apart : (f : FopState SegmentView) → f.vs ≡ s.vs → f.nn ≡ s.nn → Apart base f n a
  same_apart f vs nn = record { sent = rw (vs, nn) t.sent; nn = nn ∙ t.nn }

  -- ---- a pull

  abbrev Pulls : Config → FopOutcome SegmentView (PulledUnit SegmentView) → Type 0
  Pulls c o = Apart base o.after (n + length (first_in s.vs (frame_to_send c o.answer))) a

  no_more : (f : FopState SegmentView) → f.vs ≡ s.vs → f.nn ≡ s.nn → (more : ℕ) → more ≡ 0 → Apart base f (n + more) a
  no_more f vs nn more none =
      let same : n ≡ n + more = omega (arith, none) in
      subst (λ (m : ℕ). Apart base f m a) same (same_apart f vs nn)

  -- a unit that is sent again has a number below V(S)
  not_first : is_closed s.state ≡ false → (x : ℕ × SegmentView) → oldest_marked 0 s.sent ≡ Some x
      → ((s.nn + x.0) % 256 == s.vs) ≡ false
  not_first on x is =
      let stands = oldest_stands 0 s.sent x is in
      let within = slice_get_within (units_of s.sent) stands.0 x.1 stands.2 in
      let below : x.0 < length s.sent =
      omega (arith, stands.1, within, length-map s.sent (λ u. u.unit)) in
      ne_eqb ((s.nn + x.0) % 256) s.vs
      (λ e. omega (arith, e, below, k.numbered on, k.most, k.vs, k.nn))

  pull_apart : (c : Config) → s.window ≤ 127 → Pulls c (pull_step s)
  pull_apart c most = pulled_out s (Pulls c) (record {
    none = no_more s refl refl _ refl;
    command = λ command is. no_more _ refl refl _ refl;
    bypass = λ u us is. no_more _ refl refl _ refl;
    again = λ active x is.
        let other = not_first (active_on s.state active) x is in
        no_more _ refl refl _ (rw other refl);
    first = λ active u is room.
        let one : length (first_in s.vs (frame_to_send c (SequencePulled s.vs u))) ≡ 1 =
        rw (eq-eqb s.vs s.vs refl) refl in
        let room : ahead_by s.vs s.nn < s.window = ltb-true (ahead_by s.vs s.nn) s.window room in
        record { sent = omega (arith, one, room, most, k.vs, k.nn, t.sent); nn = t.nn };
  })

  -- ---- a CLCW

  module _ (r : Clcw) (octet : r.value < 256) where
    abbrev Heard : FopOutcome SegmentView (Option Alert) → Type 0
    Heard o = Apart base o.after n (a + ahead_by o.after.nn s.nn)

    none_heard : (f : FopState SegmentView) → f.vs ≡ s.vs → f.nn ≡ s.nn → Apart base f n (a + ahead_by f.nn s.nn)
    none_heard f vs nn =
        let none : a ≡ a + ahead_by f.nn s.nn = omega (arith, nn, k.nn) in
        subst (Apart base f n) none (same_apart f vs nn)

    moved_heard : is_outside s r.value ≡ false → (f : FopState SegmentView) → f.vs ≡ s.vs → f.nn ≡ r.value
        → Apart base f n (a + ahead_by f.nn s.nn)
    moved_heard inside f vs nn =
        let below = ltb-false (ahead_by s.vs s.nn) (ahead_by r.value s.nn) inside in
        record {
          sent = omega (arith, vs, nn, below, t.sent, octet, k.vs, k.nn);
          nn = omega (arith, nn, t.nn, octet, k.nn);
        }

    again_heard : (again : Bool) → Apart base (retransmits s again) n (a + ahead_by (retransmits s again).nn s.nn)
    again_heard true = none_heard (retransmits s true) refl refl
    again_heard false = none_heard (retransmits s false) refl refl

    over_heard : Heard (record { after = after_alert s; answer = None; gone = 0 })
    over_heard = none_heard (after_alert s) refl refl

    active_heard : Heard (report_while_active s r)
    active_heard = heard_active s r Heard (record {
      locked = λ t. over_heard;
      outside = λ t. over_heard;
      wait_flag = λ none waiting. over_heard;
      asks_none = λ asking at. over_heard;
      same = none_heard s refl refl;
      ceases = λ none at were. over_heard;
      moves = λ inside. moved_heard inside (after_move_on (after_acknowledge s r.value)) refl refl;
      others_over = λ inside asking one. moved_heard inside (after_alert (after_new_value s r.value)) refl refl;
      others_wait = λ inside asking. moved_heard inside (record (after_new_value s r.value) { state = S3 }) refl refl;
      others_again = λ inside asking. moved_heard inside (retransmits (after_new_value s r.value) true) refl refl;
      all_over = λ asking one. over_heard;
      all_wait = λ asking. none_heard (record s { state = S3 }) refl refl;
      all_again = λ asking. again_heard;
    })

    report_apart : Heard (clcw_step s r)
    report_apart = reported s r Heard (record {
      active = λ active. active_heard;
      alerted = λ is x cause. over_heard;
      checked = λ is confirms. none_heard (record s { state = S1; ticks = None }) refl refl;
      commanded = λ is confirms. none_heard (record s { state = S1; ticks = None; control = Idle }) refl refl;
      same = none_heard s refl refl;
    })

-- ---- the ground

-- its numbers and its bookkeeping count these submissions, n segments sent and a acknowledged
record CountedBy (c : Config) (base : ℕ) (g : GroundState) (ps : List PacketOn) (n a : ℕ) : Type 0 where
  apart : Apart base g.fop n a
  accounts : Accounts c g.fates ps a

abbrev CountedAt : Config → GroundSession → Type 0
CountedAt c l = CountedBy c l.base l.ground_node l.submissions l.sent l.acknowledged

module _ (c : Config) (base : ℕ) (ps : List PacketOn) (n a : ℕ) where
  refilled_counted : (g : GroundState) → CountedBy c base g ps n a → CountedBy c base (refill_step g) ps n a
  refilled_counted g t = refilled_keeps (λ v. CountedBy c base v ps n a) g (λ waiting pending on off. record {
    apart = record { sent = t.apart.sent; nn = t.apart.nn };
    accounts = t.accounts;
  })

  -- a call that submits, sends and acknowledges nothing
  plain_counted : (g : GroundState) → CountedBy c base g ps n a → CountedBy c base g (ps ++ []) (n + 0) (a + 0)
  plain_counted g t =
      let acked : a ≡ a + 0 = omega arith in
      let sent : n ≡ n + 0 = omega arith in
      subst (λ (qs : List PacketOn). CountedBy c base g qs (n + 0) (a + 0)) (sym (append-nil ps))
      (subst (λ (m : ℕ). CountedBy c base g ps m (a + 0)) sent (subst (CountedBy c base g ps n) acked t))

module _ (c : Config) (ranges : IsConfig c) (l : GroundSession) (k : Firm c l.ground_node) (o : OwesAt c l)
    (t : CountedAt c l) where
  abbrev s : GroundState
  s = l.ground_node

  abbrev Plain : GroundState → Type 0
  Plain u = CountedBy c l.base u l.submissions l.sent l.acknowledged

  plain_after : (u : GroundState) → Plain u
      → CountedBy c l.base u (l.submissions ++ []) (l.sent + 0) (l.acknowledged + 0)
  plain_after = plain_counted c l.base l.submissions l.sent l.acknowledged

  -- the sender is another, with the same numbers
  same_plain : (fates : Fates) (f : FopState SegmentView) → fates ≡ s.fates → f.vs ≡ s.fop.vs → f.nn ≡ s.fop.nn
      → Plain (refill_step (record s { fates = fates; fop = f }))
  same_plain fates f same vs nn =
      refilled_counted c l.base l.submissions l.sent l.acknowledged (record s { fates = fates; fop = f }) (record {
        apart = same_apart l.base l.sent l.acknowledged s.fop k.numbers t.apart f vs nn;
        accounts = rw same t.accounts;
      })

  submit_or : (m : ℕ) (octets : List ℕ) (fault : Option LinkFault)
      → CountedAt c (after_call l (Submit m octets) (unless_refused fault s (after_submission s m octets)))
  submit_or m octets (Some fault) = plain_after s t
  submit_or m octets None =
      let p : PacketOn = record { on_map = m; octets = octets } in
      let ps : List PacketOn = l.submissions ++ p ∷ [] in
      let count : length (segments_on s m octets) ≡ length (segments c p) =
      ap (λ (x : Config). length (segments_of x.part m octets)) k.steady.config in
      let sent : l.sent ≡ l.sent + 0 = omega arith in
      let acked : l.acknowledged ≡ l.acknowledged + 0 = omega arith in
      let u : GroundState = after_submission s m octets in
      subst (λ (n : ℕ). CountedBy c l.base u ps n (l.acknowledged + 0)) sent
      (subst (CountedBy c l.base u ps l.sent) acked
      (refilled_counted c l.base ps l.sent l.acknowledged (submitting s m octets) (record {
        apart = record { sent = t.apart.sent; nn = t.apart.nn };
        accounts = with_accounts c s.fates l.submissions p l.acknowledged (length (segments_on s m octets)) o.most count
            t.accounts;
      })))

  bypass_or : (m : ℕ) (octets : List ℕ) (fault : Option LinkFault)
      → CountedAt c (after_call l (Bypass m octets) (unless_refused fault s (after_bypass s m octets)))
  bypass_or m octets (Some fault) = plain_after s t
  bypass_or m octets None =
      plain_after (after_bypass s m octets)
      (record { apart = record { sent = t.apart.sent; nn = t.apart.nn }; accounts = t.accounts })

  -- ---- a directive that begins no session, and sets no V(S)

  abbrev Directed : Directive → FopOutcome SegmentView (Result (Option Alert) CopFault) → Type 0
  Directed d p = BeginsNoOther s (Direct d) → SetsNoVs s (Direct d) → Plain (after_directive s d p.answer p.after)

  directed_so : (d : Directive) → Directed d (directive_step s.fop d)
  directed_so = obeyed_set s.fop Directed (record {
    refused = λ d fault on goes quiet. t;
    begins = λ d is off goes quiet. closed_not s.fop.state off (goes is);
    terminated = λ goes quiet. same_plain s.fates (after_alert s.fop) refl refl refl;
    numbers = λ x off goes quiet. closed_not s.fop.state off quiet;
    sets = λ d m limit ticks plain set goes quiet.
        let none = counts_on d plain set.plain in
        let fates : after_obeying s.fates d ≡ s.fates = rw none refl in
        same_plain (after_obeying s.fates d) (record s.fop { window = m; limit = limit; timer = ticks }) fates refl
        refl;
  })

  taken_or : (packets : List (List ℕ)) → Plain (ground_take_telemetry s packets).after
  taken_or [] = t
  taken_or (packet ∷ left) = record { apart = t.apart; accounts = t.accounts }

  -- ---- a CLCW, or none

  abbrev Hears : GroundState → Type 0
  Hears u = CountedBy c l.base u (l.submissions ++ []) (l.sent + 0) (l.acknowledged + ahead_by u.fop.nn s.fop.nn)

  heard_as : (u : GroundState)
      → CountedBy c l.base u l.submissions l.sent (l.acknowledged + ahead_by u.fop.nn s.fop.nn) → Hears u
  heard_as u so =
      let sent : l.sent ≡ l.sent + 0 = omega arith in
      let a : ℕ = l.acknowledged + ahead_by u.fop.nn s.fop.nn in
      subst (λ (ps : List PacketOn). CountedBy c l.base u ps (l.sent + 0) a) (sym (append-nil l.submissions))
      (subst (λ (n : ℕ). CountedBy c l.base u l.submissions n a) sent so)

  hears_none : (x : ExtractorState) (packets : List (List ℕ)) → Hears (record s { extractor = x; telemetry = packets })
  hears_none x packets =
      let u : GroundState = record s { extractor = x; telemetry = packets } in
      let none : l.acknowledged ≡ l.acknowledged + ahead_by s.fop.nn s.fop.nn = omega (arith, k.numbers.nn) in
      heard_as u (subst (CountedBy c l.base u l.submissions l.sent) none
      (record { apart = t.apart; accounts = t.accounts }))

  hears : (x : ExtractorState) (packets : List (List ℕ)) (r : Clcw) → r.value < 256
      → Hears (after_report (record s { extractor = x; telemetry = packets }) (clcw_step s.fop r))
  hears x packets r octet =
      let p = clcw_step s.fop r in
      let f : FopState SegmentView = p.after in
      let u : GroundState = record (acknowledging (record s { extractor = x; telemetry = packets }) p) { fop = f } in
      let nn : (refill_step u).fop.nn ≡ f.nn =
      refilled_keeps (λ v. v.fop.nn ≡ f.nn) u (λ waiting pending on off. refl) in
      let moved : l.acknowledged + ahead_by f.nn s.fop.nn ≡ l.acknowledged + moved_by f.nn s.fop.nn =
      ap (λ (m : ℕ). l.acknowledged + m) (moved_is f.nn s.fop.nn k.numbers.nn) in
      heard_as (refill_step u) (rw nn
      (refilled_counted c l.base l.submissions l.sent (l.acknowledged + ahead_by f.nn s.fop.nn) u (record {
        apart = report_apart l.base l.sent l.acknowledged s.fop k.numbers t.apart r octet;
        accounts = with_acknowledged c s.fates l.submissions l.acknowledged (moved_by f.nn s.fop.nn)
            (l.acknowledged + ahead_by f.nn s.fop.nn) p.answer moved t.accounts;
      })))

  call_counted : (e : GroundEvent) → IsCall e → BeginsNoOther s e → SetsNoVs s e → CountedAt c (session_step l e)
  call_counted (Submit m octets) fits goes quiet = submit_or m octets (submit_fault s m octets)
  call_counted (Bypass m octets) fits goes quiet = bypass_or m octets (bypass_fault s m octets)
  call_counted (Direct d) fits goes quiet = plain_after (ground_directive s d).after (directed_so d goes quiet)
  call_counted (Resume value) fits goes quiet =
      plain_after (ground_step s (Resume value)).after
      (resumed_or s value (λ (o : GroundOutcome (Result ℕ LinkFault)). Plain o.after)
      (λ whole known can. absurd (cc (can, goes))) (λ refused. t))
  call_counted Pull fits goes quiet =
      let most : s.fop.window ≤ 127 = omega (arith, k.steady.fop.window, ranges.width) in
      let p = pull_step s.fop in
      let n : ℕ = l.sent + length (first_in s.fop.vs (frame_to_send s.config p.answer)) in
      let acked : l.acknowledged ≡ l.acknowledged + 0 = omega arith in
      let u : GroundState = (ground_step s Pull).after in
      subst (λ (ps : List PacketOn). CountedBy c l.base u ps n (l.acknowledged + 0)) (sym (append-nil l.submissions))
      (subst (CountedBy c l.base u l.submissions n) acked
      (refilled_counted c l.base l.submissions n l.acknowledged (record s { fop = p.after }) (record {
        apart = pull_apart l.base l.sent l.acknowledged s.fop k.numbers t.apart s.config most;
        accounts = t.accounts;
      })))
  call_counted Tick fits goes quiet =
      let same = tick_same s.fop in
      plain_after (ground_step s Tick).after (same_plain s.fates (tick_step s.fop).after refl same.0 same.1)
  call_counted (Telemetry octets) are goes quiet = telemetry_comes s Hears hears_none hears octets are
  call_counted (ControlWord octets) are goes quiet = control_word_comes s Hears hears_none hears octets are
  call_counted TakeTelemetry fits goes quiet = plain_after (ground_step s TakeTelemetry).after (taken_or s.telemetry)
  call_counted ForgetTelemetry fits goes quiet =
      plain_after (ground_step s ForgetTelemetry).after (record { apart = t.apart; accounts = t.accounts })

-- ---- the beginning

starts_counted : (c : Config) (u : GroundState) → u.fop.vs < 256 → u.fop.nn ≡ u.fop.vs → u.fates ≡ new_fates true
    → CountedAt c (begun_at u)
starts_counted c u octet equal fates = record {
  apart = record { sent = omega (arith, octet, equal); nn = omega (arith, octet, equal) };
  accounts = rw fates (new_accounts c);
}

begins_counted : (c : Config) (ranges : IsConfig c) (s : GroundState) → Firm c s → (e : GroundEvent) → IsCall e
    → BeginsHere s e → CountedAt c (begun_at (ground_step s e).after)
begins_counted c ranges s k (Direct d) fits begins =
    starts_counted c (ground_directive s d).after (directed_firm c ranges s k d fits).numbers.vs
    (starts_equal s d begins.0 begins.1) (starts_account s d begins.0 begins.1)
begins_counted c ranges s k (Resume value) fits can =
    let t : GroundState = (ground_directive s (SetVs value)).after in
    let firm = directed_firm c ranges s k (SetVs value) fits in
    let known = resumed_known s value can in
    let off : is_closed t.fop.state ≡ true = set_off s value (known_off s value known.0 known.1) in
    subst (λ (o : GroundOutcome (Result ℕ LinkFault)). CountedAt c (begun_at o.after)) (sym known.2)
    (starts_counted c (ground_directive t InitUnlock).after (directed_firm c ranges t firm InitUnlock tt).numbers.vs
    (starts_equal t InitUnlock refl off) (starts_account t InitUnlock refl off))
begins_counted c ranges s k _ fits begins = elim begins [ ]

-- ---- a session

record Goes (c : Config) (l : GroundSession) : Type 0 where
  firm : Firm c l.ground_node
  owes : OwesAt c l
  counted : CountedAt c l

run_counted : (c : Config) (ranges : IsConfig c) (es : List GroundEvent) (l : GroundSession) → Goes c l
    → AllByRecursion IsCall es → GoesOn l.ground_node es → LeavesVs l.ground_node es → Goes c (session_run l es)
run_counted c ranges [] l g fits goes quiet = g
run_counted c ranges (e ∷ es) l g fits goes quiet =
    run_counted c ranges es (session_step l e) (record {
      firm = call_firm c ranges l.ground_node g.firm e fits.0;
      owes = call_owes c l g.firm g.owes e fits.0 goes.0;
      counted = call_counted c ranges l g.firm g.owes g.counted e fits.0 goes.0 quiet.0;
    }) fits.1 goes.1 quiet.1

session_counted : (l : GroundSession) → (r : IsCountedSession l) → Goes r.session.config l
session_counted l r =
    let t = r.session in
    let c : Config = t.config in
    let s : GroundState = ground_run t.first t.before in
    let k = run_firm c t.ranges t.before t.first (first_firm c t.ranges t.first t.is_first) t.calls.0 in
    subst (Goes c) t.led
    (run_counted c t.ranges t.since (begun_at (ground_step s t.initiation).after) (record {
      firm = call_firm c t.ranges s k t.initiation t.calls.1;
      owes = begins_owes c t.ranges s k t.initiation t.calls.1 t.begins;
      counted = begins_counted c t.ranges s k t.initiation t.calls.1 t.begins;
    }) t.calls.2 t.goes_on r.leaves)

pub each_counts_segments : EachCountsSegments
each_counts_segments l r =
    let g = session_counted l r in
    let t = g.counted.apart in
    let k = g.firm.numbers in
    record {
      vs = omega (arith, t.sent, t.nn, k.vs, k.nn);
      nn = t.nn;
      all = λ equal. omega (arith, equal, t.sent, k.nn);
    }

pub each_counts_its_submissions : EachCountsItsSubmissions
each_counts_its_submissions l r =
    let c : Config = r.session.config in
    let g = session_counted l r in
    let t = g.counted in
    let s : GroundState = l.ground_node in
    let ps : List PacketOn = l.submissions in
    let are : segments_of_each l ≡ counts c ps =
    ap (λ (x : Config). map (λ (p : PacketOn). length (segments_of x.part p.on_map p.octets)) ps)
    g.firm.steady.config in
    record {
      submitted = submitted_so c s.fates ps l.acknowledged t.accounts;
      sent = whole_so c s.fates ps l.acknowledged (sent_beyond s) l.sent t.accounts t.apart.sent
          ∙ ap (λ (ns : List ℕ). whole_within l.sent ns % 2 ^ 64) (sym are);
      acknowledged = whole_so c s.fates ps l.acknowledged 0 l.acknowledged t.accounts (omega arith)
          ∙ ap (λ (ns : List ℕ). whole_within l.acknowledged ns % 2 ^ 64) (sym are);
    }
