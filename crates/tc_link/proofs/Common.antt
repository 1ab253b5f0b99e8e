-- The names that many of these proofs use.
pub use Rattle.simulated_link.proofs.Common.{◌≡◌, ℕ, ◌+◌, ◌≤◌, inl, inr, Bool, true, false, List, [], ◌∷◌, map, Some}
pub use Rattle.simulated_link.proofs.Common.{None, sym, subst, arith, IfSome, refl, ap, ◌∙◌, option_map, ◌++◌}
pub use Rattle.simulated_link.proofs.Common.{option_to_list, Option, Result, Ok, Err, if◌then◌else◌, append-nil, ◌<◌}
pub use Rattle.simulated_link.proofs.Common.{take, drop, length, not, ◌≢◌, suc, length-append, length-drop, filter}
pub use Rattle.simulated_link.proofs.Common.{zero, get_or, OnOk, replicate, cond_both, ltb-false, eq-eqb, and_parts}
pub use Rattle.simulated_link.proofs.Common.{eqb-true, not-false, ne_eqb, map-append, drop-append-le, length-map}
pub use Rattle.simulated_link.proofs.Common.{take-append-drop, take-append-le, filter-append, list_all, ◌==◌, ClcwFault}
pub use Rattle.simulated_link.proofs.Common.{Clcw, SegmentView, BodyView, Ad, Bd, Bc, segment_octets, TcFault, On}
pub use Rattle.simulated_link.proofs.Common.{assembled_begins, assembled-push, assembled-other, assembled, Limits}
pub use Rattle.simulated_link.proofs.Common.{heard_active, obeyed, begun, pulled_out, ticked, is_initiation, verdict_of}
pub use Rattle.simulated_link.proofs.Common.{directive_step, PulledUnit, pull_step, locks, waits, asks, clcw_step}
pub use Rattle.simulated_link.proofs.Common.{report_in, report_while_active, after_move_on, after_new_value}
pub use Rattle.simulated_link.proofs.Common.{retransmits, confirms, tick_step, IsActive, after_acknowledge}
pub use Rattle.simulated_link.proofs.Common.{after_repeat, after_alert, after_stop, goes_on, alerts, ahead_by, FopState}
pub use Rattle.simulated_link.proofs.Common.{FopOutcome, without_oldest_mark, SentUnit, unmarked_unit, marked_unit}
pub use Rattle.simulated_link.proofs.Common.{Verdict, Accepted, CopFault, Alert, NnR, Synch, Idle, Directive}
pub use Rattle.simulated_link.proofs.Common.{InitWithCheck, InitWithoutCheck, InitUnlock, InitSetVr, FopMode, S4, S5}
pub use Rattle.simulated_link.proofs.Common.{S6, S1, S2, S3, Extracted, extract_step, TmFault, segment_to_accept}
pub use Rattle.simulated_link.proofs.Common.{is_kept, is_closed, GroundOutcome, submit_fault, after_submission}
pub use Rattle.simulated_link.proofs.Common.{unless_refused, refill_step, with_fop, frame_to_send, GroundState}
pub use Rattle.simulated_link.proofs.Common.{after_extraction, telemetry_outcome, own_frame_outcome, PacketOn}
pub use Rattle.simulated_link.proofs.Common.{packet_on, limits_of, SpacecraftState, SpacecraftOutcome, frame_outcome}
pub use Rattle.simulated_link.proofs.Common.{body_outcome, sequence_outcome, bypass_outcome, is_free, is_own_frame}
pub use Rattle.simulated_link.proofs.Common.{spacecraft_step, Report, Config, LinkFault, Heard, Down, Up, replied_alert}
pub use Rattle.simulated_link.proofs.Common.{World, WorldOutcome, world_step, down_deliver_step, up_deliver_step}
pub use Rattle.simulated_link.proofs.Common.{world_after_pull, accepted, reports_as, world_refusal, world_reply}
pub use Rattle.simulated_link.proofs.Common.{up_lose_step, up_damage_outcome, up_damage_step, down_lose_step}
pub use Rattle.simulated_link.proofs.Common.{down_damage_outcome, down_damage_step, Event}
pub use Rattle.std.proofs.Common.{◌-◌, ◌%◌, ◌*◌, ◌/◌, ◌⊎◌, max, cond, eqb, append_assoc}
pub use Rattle.std.proofs.lemmas.Bool.{eqb-false, or_parts, ltb-true}
pub use Rattle.std.proofs.lemmas.List.{take_all, length-take-le}
pub use Rattle.std.specs.List.{AllByRecursion}
pub use Rattle.std.specs.Prelude.{nat_lt, slice_get, ◌||◌}
pub use Rattle.clcw.specs.Flags.{flags_number}
pub use Rattle.tc_frame.specs.declared.frame.Command.{Command}
pub use Rattle.tc_frame.specs.declared.frame.Command.TheVariants.{Unlock, SetVr}
pub use Rattle.map_service.specs.Assembly.{is_open}
pub use Rattle.map_service.specs.Cutting.{segments_of, cut_fault}
pub use Rattle.cop1.specs.Farm.{state_of, FarmState, after_verdict, farm_step, BufferReleased, after_unlock}
pub use Rattle.cop1.specs.Farm.{after_set_vr, after_release, FarmEvent, AdArrives, BdArrives, FlagsAgree}
pub use Rattle.cop1.specs.FopTick.{after_count, due_again}
pub use Rattle.cop1.specs.FopWords.{after_restart}
pub use Rattle.cop1.specs.Report.{report_of}
pub use Rattle.cop1.specs.Units.{oldest_marked}
pub use Rattle.cop1.specs.UnitsNext.{units_of}
pub use Rattle.cop1.specs.declared.farm.FarmMode.{FarmMode}
pub use Rattle.cop1.specs.declared.farm.FarmMode.TheVariants.{Open, Wait}
pub use Rattle.cop1.specs.declared.farm.Verdict.TheVariants.{Ahead, NoBuffer, Outside}
pub use Rattle.cop1.specs.declared.vocabulary.Alert.TheVariants.{Limit}
pub use Rattle.cop1.specs.declared.vocabulary.Directive.TheVariants.{SetVs}
pub use Rattle.cop1.specs.declared.vocabulary.Control.{Control}
pub use Rattle.cop1.specs.declared.vocabulary.Control.TheVariants.{Due, Sent}
pub use Rattle.tm_link.specs.Arrivals.{all_extracted, state_after}
pub use Rattle.tm_link.specs.Builder.{is_to_send, after_queue, BuilderState, idle_tail, data_size, is_at_rest}
pub use Rattle.tm_link.specs.Builder.{room_left, held_by, IsLaidOutBy}
pub use Rattle.tm_link.specs.Extractor.{ExtractorState, without_idle}
pub use Rattle.tm_link.specs.Stream.{choice}
pub use Rattle.nodes.proofs.Submissions.{segments_fit}
pub use Rattle.nodes.specs.Ground.{unsent_segments, bypass_fault, after_bypass, frame_of, directive_outcome}
pub use Rattle.nodes.specs.Ground.{segments_on, ground_telemetry, after_report, acknowledging, moved_by}
pub use Rattle.nodes.specs.Fates.{Fates, with_submission, after_acknowledging, after_obeying}
pub use Rattle.nodes.specs.OwnedFields.{FitsFrame}
pub use Rattle.nodes.specs.Parameters.{IsConfig}
pub use Rattle.nodes.specs.Spacecraft.{spacecraft_take, spacecraft_take_bypass, spacecraft_telemetry, report_octets}
pub use Rattle.nodes.specs.Spacecraft.{spacecraft_report}
pub use Rattle.nodes.specs.SpacecraftFields.{IsBuilderOf}
pub use Rattle.tc_link.specs.Accepted.{WereAccepted}
pub use Rattle.tc_link.specs.Confirmation.{IsChecked, IsChecking, ConfirmsExactly}
pub use Rattle.tc_link.specs.FalseAlarms.{HasNoFalseAlarm}
pub use Rattle.tc_link.specs.History.{Rises, IsHistory, HasPlainHistory, IsNear, number_of, numbered, GoesOnByAStep}
pub use Rattle.tc_link.specs.InTransit.{report_carried, number_in, in_frame}
pub use Rattle.tc_link.specs.PlainLink.{PlainLink, PlainRun, new_link, more, AtMostOneStep}
pub use Rattle.tc_link.specs.Promises.{IsPromised, IsPromisedOf}
pub use Rattle.tc_link.specs.Reached.{IsDirective, IsEvent, IsReached}
pub use Rattle.tc_link.specs.Readable.{AllReadable}
pub use Rattle.tc_link.specs.Simulation.{SimState, sim_run, run_from, new_sim}
pub use Rattle.tc_link.specs.Telemetry.{AreSomeOf}
pub use Rattle.simulated_link.specs.World.{IsSettled, world_after_directive, session_begun_by, begins_idle, report_now}
pub use Rattle.simulated_link.specs.World.{world_after_take, world_after_queueing, delivered, is_confirmation}
pub use Rattle.simulated_link.specs.World.{is_initialising, begins_clean, new_world, world_run, IsClean, IsIdle}
pub use Rattle.simulated_link.specs.World.{BeginsNoSession, session_after_directive, directive_of, KeepsSession}
pub use Rattle.simulated_link.specs.World.{run_answers}
pub use Rattle.simulated_link.specs.declared.fault.SimFault.{SimFault}
pub use Rattle.simulated_link.specs.declared.fault.SimFault.TheVariants.{NotDetectable}
pub use Rattle.simulated_link.specs.declared.session_start.Opening.{Opening}

-- The ground, with the submissions that a directive, a submission or a CLCW leaves, before its sender continues.

abbrev pub obeying : GroundState → Directive → GroundState
obeying s d = record s { fates = after_obeying s.fates d }

abbrev pub submitting : GroundState → ℕ → List ℕ → GroundState
submitting s m octets = record s {
  pending = s.pending ++ segments_on s m octets;
  fates = with_submission (length (segments_on s m octets)) s.fates;
}

-- The sender is closed in S6, and in no other state.

pub closed_not : {A : Type 0} (m : FopMode) → m ≡ S6 → is_closed m ≡ false → A
closed_not m off on = absurd (let no : true ≡ false = rw off at on in cc)

pub closed_is : (m : FopMode) → is_closed m ≡ true → m ≡ S6
closed_is S6 off = refl
closed_is _ off = absurd cc

pub active_on : (m : FopMode) → IsActive m → is_closed m ≡ false
active_on S6 active = elim active [ ]
active_on _ active = refl
