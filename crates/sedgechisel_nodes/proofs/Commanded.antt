-- What calls of a commander return and leave, and the telemetry that it keeps.
use Rattle.std.proofs.Common.{◌≡◌, ◌≢◌, ◌⊎◌, ℕ, List, [], ◌∷◌, ◌++◌, Bool, true, false, Option, Some, None}
use Rattle.std.proofs.Common.{Result, Ok, Err, refl, sym, ap, ◌∙◌, length, drop, IfSome, inl, arith}
use Rattle.std.specs.Prelude.{◌≤◌, option_map, if◌then◌else◌}
use Rattle.std.proofs.lemmas.List.{take-append-drop}
use Rattle.std.specs.Array.{IsFirstChunk}
use Rattle.command_log.specs.declared.fault.LogFault.{LogFault}
use Rattle.command_log.specs.declared.status.Status.{Status}
use Rattle.command_log.specs.Status.{status_spelled}
use Rattle.command_ledger.specs.declared.fault.LedgerFault.{LedgerFault}
use Rattle.command_ledger.specs.declared.state.Tell.{Tell}
use Rattle.command_ledger.specs.Ledger.{appended_if, news}
use Rattle.cop1.specs.declared.fault.CopFault.{CopFault}
use Rattle.cop1.specs.declared.vocabulary.Alert.{Alert}
use Rattle.cop1.specs.declared.vocabulary.Directive.{Directive}
use Rattle.cop1.specs.declared.vocabulary.Directive.TheVariants.{Terminate}
use Rattle.cop1.specs.Units.{FopState}
use Rattle.cop1.specs.UnitsStep as sender
use Rattle.tc_frame.specs.Layout.{SegmentView}
use Rattle.nodes.specs.Frames.{written_over}
use Rattle.nodes.specs.Fates.{after_obeying}
use Rattle.nodes.specs.Ground.{GroundState, ground_step, ground_take_telemetry, TakeTelemetry, Direct, after_directive}
use Rattle.nodes.specs.Ground.{after_moving_up, is_closed}
use Rattle.commander.specs.declared.commander.Commander.{Commander}
use Rattle.commander.specs.Commander.{ended, ended_if, is_short, status_taken, status_heard, first_heard, first_status}
use Rattle.commander.specs.Next.{owed, next_frame}
use Rattle.sedgechisel_nodes.specs.Calls.{closed, count_of, IsHandedOut}
use Rattle.sedgechisel_nodes.specs.Commanding.{IsLedgerAnswer, IsCommanded, IsReportAnswer, IsReported, told_if}
use Rattle.sedgechisel_nodes.specs.Commanding.{IsFreshAnswer, fresh_of, IsFresh, packet_next, frame_over}
use Rattle.sedgechisel_nodes.specs.Commanding.{IsRoomAnswer}
use Rattle.command_ledger.specs.Ledger.{is_at_rest}

-- ---- calls

pub commanded : (fault : Commander → Option LedgerFault) (after : Commander → Commander) (s t : Commander)
    (old new : Option Commander) (answer : ℕ) → Some s ≡ old → new ≡ Some t → IsLedgerAnswer (fault s) answer
    → (answer ≡ 0 → t ≡ after s) → (answer ≢ 0 → t ≡ s) → IsCommanded fault after old new answer
commanded fault after s t old new answer is put said moved same =
    rw (← is) (record {
      none = λ e. absurd (cc e);
      answer_is = said;
      after_is = λ zero. put ∙ ap (λ (u : Commander). Some u) (moved zero);
      unchanged = λ other. put ∙ ap (λ (u : Commander). Some u) (same other);
    })

pub reported : (tell : Option Tell) (s t : Commander) (old new : Option Commander) (answer : ℕ) → Some s ≡ old
    → new ≡ Some t → IsReportAnswer s tell answer → (answer ≡ 0 → t ≡ told_if tell s) → (answer ≢ 0 → t ≡ s)
    → IsReported tell old new answer
reported tell s t old new answer is put said moved same =
    rw (← is) (record {
      none = λ e. absurd (cc e);
      answer_is = said;
      after_is = λ zero. put ∙ ap (λ (u : Commander). Some u) (moved zero);
      unchanged = λ other. put ∙ ap (λ (u : Commander). Some u) (same other);
    })

pub fresh : (s : Commander) (old : Option Commander) (answer count count' : ℕ) (out out' : List ℕ) → Some s ≡ old
    → IsFreshAnswer (is_at_rest s.ledger) (length (fresh_of s)) (length out) answer
    → (answer ≡ 0 → IsHandedOut (Some (fresh_of s)) count' out out')
    → (answer ≢ 0 → (count' ≡ count) × (out' ≡ out)) → IsFresh old answer count count' out out'
fresh s old answer count count' out out' is said octets unwritten =
    rw (← is)
    (record { none = λ e. absurd (cc e); answer_is = said; octets = octets; unwritten = unwritten })

-- ---- the buffer of a frame

pub roomy : (need room answer : ℕ) → need ≤ room → (answer ≡ 0) ⊎ (answer ≡ 9) → IsRoomAnswer need room answer
roomy need room answer enough so =
    record { short = λ less. absurd (omega (arith, less, enough)); long = λ more. so }

pub framed : (s : Commander) (out front written : List ℕ) → IsFirstChunk out front 1024
    → written ≡ written_over front (next_frame s (owed s)) → written ++ drop 1024 out ≡ frame_over s out
framed s out front written chunk is =
    ap (λ (xs : List ℕ). xs ++ drop 1024 out)
    (is ∙ ap (λ (xs : List ℕ). written_over xs (next_frame s (owed s))) chunk.same)

pub unframed : (out front written : List ℕ) → IsFirstChunk out front 1024 → written ≡ front
    → written ++ drop 1024 out ≡ out
unframed out front written chunk is =
    ap (λ (xs : List ℕ). xs ++ drop 1024 out) (is ∙ chunk.same) ∙ take-append-drop 1024 out

-- ---- telemetry

moved_up : (s : GroundState) (waiting : Option SegmentView) (pending : List SegmentView)
    → (after_moving_up s waiting pending).telemetry ≡ s.telemetry
moved_up s (Some segment) pending = refl
moved_up s None [] = refl
moved_up s None (segment ∷ pending) = refl

refilled : (s : GroundState) (closed : Bool)
    → (if closed then record s { pending = [] } else after_moving_up s s.fop.waiting s.pending).telemetry
    ≡ s.telemetry
refilled s true = refl
refilled s false = moved_up s s.fop.waiting s.pending

obeyed : (g : GroundState) (d : Directive) (r : Result (Option Alert) CopFault) (f : FopState SegmentView)
    → (after_directive g d r f).telemetry ≡ g.telemetry
obeyed g d (Ok alert) f =
    refilled (record g { fates = after_obeying g.fates d; fop = f }) (is_closed f.state)
obeyed g d (Err fault) f = refl

ended_keeps : (s : Commander) (b : Bool) → (ended_if b s).ground_node.telemetry ≡ s.ground_node.telemetry
ended_keeps s true =
    let o = sender.fop_step s.ground_node.fop (sender.Direct Terminate) in
    obeyed s.ground_node Terminate o.answer o.after
ended_keeps s false = refl

taken_keeps : (s : Commander) (r : Result (Status × ℕ) LogFault)
    → (status_taken s r).ground_node.telemetry ≡ s.ground_node.telemetry
taken_keeps s (Ok p) =
    ended_keeps (record s { ledger = appended_if s.ledger (news s.ledger p.0) }) (is_short s p.0 p.1)
taken_keeps s (Err fault) = refl

heard_keeps : (s : Commander) (octets : Option (List ℕ))
    → (status_heard s octets).ground_node.telemetry ≡ s.ground_node.telemetry
heard_keeps s (Some octets) = taken_keeps s (status_spelled octets)
heard_keeps s None = refl

oldest : (g h : GroundState) (packets : List (List ℕ))
    → (ground_take_telemetry g packets).answer ≡ (ground_take_telemetry h packets).answer
oldest g h [] = refl
oldest g h (packet ∷ packets) = refl

-- a status that is heard leaves the packet that is taken next
pub same_packet : (s : Commander) → packet_next (first_heard s) ≡ packet_next s
same_packet s =
    let g = (first_heard s).ground_node in
    let same = heard_keeps s (first_status s.mission.status (ground_step s.ground_node TakeTelemetry).answer) in
    ap (λ (packets : List (List ℕ)). (ground_take_telemetry g packets).answer) same
    ∙ oldest g s.ground_node s.ground_node.telemetry

pub handed : (p : Option (List ℕ)) (octets out : List ℕ) → Some octets ≡ p
    → IsHandedOut p (length octets) out (octets ++ drop (length octets) out)
handed p octets out is = rw (← is) (refl, refl)

pub fits : (p : Option (List ℕ)) (octets : List ℕ) → Some octets ≡ p → count_of p ≡ length octets
fits p octets is = rw (← is) refl
