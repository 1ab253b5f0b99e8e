-- The names that many of these proofs use.
pub use Rattle.std.proofs.Common.{◌≡◌, ℕ, ◌+◌, ◌≤◌, inl, inr, Bool, true, false, List, [], ◌∷◌, map, Some, None, sym}
pub use Rattle.std.proofs.Common.{subst, arith, IfSome, refl, ap, ◌∙◌, option_map, ◌++◌, option_to_list, Option}
pub use Rattle.std.proofs.Common.{Result, Ok, Err, if◌then◌else◌, append-nil, ◌<◌, take, drop, length, not, ◌≢◌, suc}
pub use Rattle.std.proofs.Common.{length-append, length-drop, filter, zero, get_or, OnOk, replicate}
pub use Rattle.std.proofs.lemmas.Bool.{cond_both, ltb-false, eq-eqb, and_parts, eqb-true, not-false, cases_eq, ne_eqb}
pub use Rattle.std.proofs.lemmas.List.{map-append, drop-append-le, length-map, take-append-drop, take-append-le}
pub use Rattle.std.proofs.lemmas.List.Elements.{filter-append}
pub use Rattle.std.specs.List.{list_all}
pub use Rattle.std.specs.Prelude.{◌==◌}
pub use Rattle.std.specs.Vec.{vec_len, vec_capacity}
pub use Rattle.clcw.specs.declared.fault.ClcwFault.{ClcwFault}
pub use Rattle.clcw.specs.declared.word.Clcw.{Clcw}
pub use Rattle.tc_frame.specs.Layout.{SegmentView, BodyView, Ad, Bd, Bc, segment_octets}
pub use Rattle.tc_frame.specs.declared.fault.TcFault.{TcFault}
pub use Rattle.tc_frame.specs.declared.frame.Check.TheVariants.{On}
pub use Rattle.map_service.proofs.AssemblerSteps.{assembled_begins}
pub use Rattle.map_service.proofs.AssemblerSteps.{assembled-push, assembled-other}
pub use Rattle.map_service.specs.Assembly.{assembled}
pub use Rattle.map_service.specs.Views.{packets_view}
pub use Rattle.map_service.specs.declared.limits.Limits.{Limits}
pub use Rattle.cop1.proofs.Cases.{heard_active}
pub use Rattle.cop1.proofs.Cases.{obeyed, begun}
pub use Rattle.cop1.proofs.Cases.{pulled_out}
pub use Rattle.cop1.proofs.Cases.{ticked}
pub use Rattle.cop1.specs.FopDirective.{is_initiation}
pub use Rattle.cop1.specs.Farm.{verdict_of}
pub use Rattle.cop1.specs.FopDirective.{directive_step}
pub use Rattle.cop1.specs.FopPull.{PulledUnit, pull_step}
pub use Rattle.cop1.specs.FopReport.{locks, waits, asks, clcw_step, report_in, report_while_active, after_move_on}
pub use Rattle.cop1.specs.FopReport.{after_new_value, retransmits, confirms}
pub use Rattle.cop1.specs.FopTick.{tick_step}
pub use Rattle.cop1.specs.FopVariables.{IsActive}
pub use Rattle.cop1.specs.FopWords.{after_acknowledge, after_repeat, after_alert, after_stop, goes_on, alerts}
pub use Rattle.cop1.specs.Modulo.{ahead_by}
pub use Rattle.cop1.specs.Units.{FopState, FopOutcome, without_oldest_mark, SentUnit, unmarked_unit, marked_unit}
pub use Rattle.cop1.specs.declared.farm.Verdict.{Verdict}
pub use Rattle.cop1.specs.declared.farm.Verdict.TheVariants.{Accepted}
pub use Rattle.cop1.specs.declared.fault.CopFault.{CopFault}
pub use Rattle.cop1.specs.declared.vocabulary.Alert.{Alert}
pub use Rattle.cop1.specs.declared.vocabulary.Alert.TheVariants.{NnR, Synch}
pub use Rattle.cop1.specs.declared.vocabulary.Control.TheVariants.{Idle}
pub use Rattle.cop1.specs.declared.vocabulary.Directive.{Directive}
pub use Rattle.cop1.specs.declared.vocabulary.Directive.TheVariants.{InitWithCheck, InitWithoutCheck, InitUnlock}
pub use Rattle.cop1.specs.declared.vocabulary.Directive.TheVariants.{InitSetVr}
pub use Rattle.cop1.specs.declared.vocabulary.FopMode.{FopMode}
pub use Rattle.cop1.specs.declared.vocabulary.FopMode.TheVariants.{S4, S5, S6, S1, S2, S3}
pub use Rattle.tm_link.specs.Extractor.{Extracted, extract_step, octets_of}
pub use Rattle.tm_link.specs.declared.fault.TmFault.{TmFault}
pub use Rattle.nodes.specs.Arrival.{segment_to_accept}
pub use Rattle.nodes.specs.BypassSegments.{is_kept}
pub use Rattle.nodes.specs.Ground.{is_closed, GroundOutcome, submit_fault, after_submission, unless_refused}
pub use Rattle.nodes.specs.Ground.{refill_step, with_fop, frame_to_send, GroundState, after_extraction}
pub use Rattle.nodes.specs.Ground.{telemetry_outcome, own_frame_outcome, ground_step}
pub use Rattle.nodes.specs.Packets.{PacketOn, packet_on}
pub use Rattle.nodes.specs.Parameters.{limits_of}
pub use Rattle.nodes.specs.Spacecraft.{SpacecraftState, SpacecraftOutcome, spacecraft_receive, frame_outcome}
pub use Rattle.nodes.specs.Spacecraft.{body_outcome, sequence_outcome, bypass_outcome, is_free, is_own_frame}
pub use Rattle.nodes.specs.Spacecraft.{spacecraft_step, Report}
pub use Rattle.nodes.specs.declared.config.Config.{Config}
pub use Rattle.nodes.specs.declared.fault.LinkFault.{LinkFault}
pub use Rattle.nodes.specs.declared.heard.Heard.{Heard}
pub use Rattle.simulated_link.specs.Acceptance.{AcceptanceView, acceptance_with}
pub use Rattle.simulated_link.specs.Replies.{Down, Up, replied_alert}
pub use Rattle.simulated_link.specs.World.{World, WorldOutcome, world_step, down_deliver_step, up_deliver_step}
pub use Rattle.simulated_link.specs.World.{world_after_pull, first_in, accepted, reports_as, world_refusal}
pub use Rattle.simulated_link.specs.World.{world_reply, up_lose_step, up_damage_outcome, up_damage_step}
pub use Rattle.simulated_link.specs.World.{down_lose_step, down_damage_outcome, down_damage_step}
pub use Rattle.simulated_link.specs.WorldFields.{packets_accepted_on}
pub use Rattle.nodes.specs.declared.event.Event.{Event}
pub use Rattle.simulated_link.specs.declared.fault.SimFault.{SimFault}
pub use Rattle.simulated_link.specs.declared.fault.SimFault.TheVariants.{NotDetectable}
