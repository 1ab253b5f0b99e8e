use Rattle.std.proofs.Common.{ℕ, Option, sym, ap, ◌∙◌, take}
use Rattle.tm_link.specs.declared.frame.Pointer.{Pointer}
use Rattle.tm_link.specs.Extractor.{gap_of, is_any_lost}
use Rattle.tm_link.specs.Layout.{FrameView}
use Rattle.sedgechisel.specs.Extractors.{state_of, front_of}
use Rattle.sedgechisel.specs.TelemetryFrames.{frame_described}
use Rattle.sedgechisel.proofs.Pieces.{piece_is}
use Rattle.sedgechisel.proofs.Extractors.{is_begun, dropped_by}
use Rattle.sedgechisel.proofs.extracted_frames.is_dropped.Goals as goal

pub returns-in-NoStart : goal.returns-in-NoStart
returns-in-NoStart c = λ is fits.
    let f : FrameView = frame_described c.args.frame.now c.args.payload.now in
    let at = sym c.in-NoStart.is ∙ c.pointer_from-pointer.ensures in
    let gap = c.gap_before.ensures ∙ ap (λ (o : Option ℕ). gap_of o c.args.frame.now.vc_count) c.last_of.ensures in
    c.is_cut_off.ensures
    ∙ dropped_by (state_of c.args.extractor.now c.args.memory.now) f _ _ _
    (is_begun c.args.extractor.now c.args.memory.now is c.if-extractor-eq0.false)
    (ap is_any_lost (sym gap) ∙ sym c.is_lost.ensures ∙ c.if-is_lost.false) c.pointer_from-pointer.ensures
    (piece_is c.args.memory.now c.args.extractor.now.from c.args.extractor.now.count)
    (ap (λ (p : Pointer). front_of p c.args.payload.now) at)

pub returns-in-At : goal.returns-in-At
returns-in-At c = λ is fits.
    let f : FrameView = frame_described c.args.frame.now c.args.payload.now in
    let at = sym c.in-At.is ∙ c.pointer_from-pointer.ensures in
    let gap = c.gap_before.ensures ∙ ap (λ (o : Option ℕ). gap_of o c.args.frame.now.vc_count) c.last_of.ensures in
    c.is_cut_off-in-At.ensures
    ∙ dropped_by (state_of c.args.extractor.now c.args.memory.now) f _ _ _
    (is_begun c.args.extractor.now c.args.memory.now is c.if-extractor-eq0.false)
    (ap is_any_lost (sym gap) ∙ sym c.is_lost.ensures ∙ c.if-is_lost.false) at
    (piece_is c.args.memory.now c.args.extractor.now.from c.args.extractor.now.count)
    (ap (λ (n : ℕ). take n c.args.payload.now) c.from.ensures
    ∙ ap (λ (p : Pointer). front_of p c.args.payload.now) at)
