use Rattle.std.proofs.Common.{ℕ, Option, sym, ap, ◌∙◌}
use Rattle.tm_link.specs.Extractor.{gap_of}
use Rattle.sedgechisel.specs.declared.part.Part.{Part}
use Rattle.sedgechisel.specs.Extractors.{octets_at}
use Rattle.std.proofs.lemmas.Bool.{not-true}
use Rattle.sedgechisel.proofs.Extractors.{frame_taken, begins_at}
use Rattle.sedgechisel.proofs.telemetry_extractor.sedge_tm_extractor_frame.Goals as goal

pub returns-in-Some-clause-describes : goal.returns-in-Some-clause-describes
returns-in-Some-clause-describes c =
    frame_taken c.args.extractor.now c.args.frame.now c.args.payload.now c.args.memory.now c.take_field.new.memory
    (octets_at c.part_over_gap.result c.args.memory.now) c.pointer_from-pointer.result c.gap_before-gap.result
    c.in-Some.kept c.taken_with.result (sym c.is_whole.ensures ∙ c.if-not-is_whole.false)
    c.pointer_from-pointer.ensures (sym c.is_pointer_within.ensures ∙ c.if-not-is_pointer_within.false)
    (c.gap_before-gap.ensures
    ∙ ap (λ (o : Option ℕ). gap_of o c.args.frame.now.vc_count) c.last_of.ensures)
    (ap (λ (p : Part). octets_at p c.args.memory.now) c.part_over_gap.ensures)
    (not-true _ (sym c.in-Some.ensures.room)) c.in-Some.ensures.kept
    c.taken_with.ensures.gap c.taken_with.ensures.joined
    (c.taken_with.ensures.packets ∙ ap begins_at c.packets_from.ensures.from)
