use Rattle.std.proofs.Common.{◌≡◌, ℕ, Bool, true, false, List, [], ◌∷◌, ◌++◌, length, replicate, refl, sym, ap, ◌∙◌}
use Rattle.std.proofs.Common.{arith, append_assoc}
use Rattle.std.proofs.lemmas.List.{append-nil}
use Rattle.tm_link.specs.Arrivals.{all_extracted, state_after, IsGain, HasGained}
use Rattle.tm_link.specs.Extractor.{ExtractorState, new_extractor, extract_step, octets_of}
use Rattle.tm_link.specs.Layout.{FrameView, frame_view}
use Rattle.tm_link.specs.Stream.{IsClose, choice}
use Rattle.tm_link.proofs.Choices.{extraction_exact}
use Rattle.std.proofs.lemmas.Grind.{common_steps}
use Rattle.tm_link.proofs.extractor.Extractor.frame.Goals as goal

-- One more frame adds to what arrives exactly what the extractor delivers with it.

choice-none : (frames : List FrameView) → choice frames [] ≡ []
choice-none [] = refl
choice-none (f ∷ frames) = refl

choice-push : (before after : List FrameView) (f : FrameView) (chosen : List Bool) → length chosen ≡ length before
    → choice (before ++ f ∷ after) (chosen ++ true ∷ []) ≡ choice (before ++ f ∷ after) chosen ++ f ∷ []
choice-push [] after f [] h = ap (λ (xs : List FrameView). f ∷ xs) (choice-none after)
choice-push [] after f (c ∷ chosen) h = absurd (omega arith)
choice-push (g ∷ before) after f [] h = absurd (omega arith)
choice-push (g ∷ before) after f (true ∷ chosen) h =
    ap (λ (xs : List FrameView). g ∷ xs) (choice-push before after f chosen (omega arith))
choice-push (g ∷ before) after f (false ∷ chosen) h = choice-push before after f chosen (omega arith)

all_extracted-push : (s : ExtractorState) (frames : List FrameView) (f : FrameView)
    → all_extracted s (frames ++ f ∷ []) ≡ all_extracted s frames ++ (extract_step (state_after s frames) f).packets
all_extracted-push s [] f = append-nil (extract_step s f).packets
all_extracted-push s (g ∷ frames) f =
    let next : ExtractorState = (extract_step s g).after in
    ap (λ (xs : List (List ℕ)). (extract_step s g).packets ++ xs) (all_extracted-push next frames f)
    ∙ sym (append_assoc (extract_step s g).packets (all_extracted next frames)
    (extract_step (state_after next frames) f).packets)

close_before : (chosen : List Bool) → IsClose (chosen ++ true ∷ []) → IsClose chosen
close_before chosen h before after n e =
    h before (after ++ true ∷ []) n
    (ap (λ (xs : List Bool). xs ++ true ∷ []) e
    ∙ append_assoc before (true ∷ (replicate n false ++ true ∷ after)) (true ∷ [])
    ∙ ap (λ (xs : List Bool). before ++ true ∷ xs) (append_assoc (replicate n false) (true ∷ after) (true ∷ [])))

step_gains : (s : ExtractorState) (f : FrameView) → IsGain s f (extract_step s f).packets
step_gains s f packets frames rest laid chosen each leads =
    let next : choice frames (chosen ++ true ∷ []) ≡ choice frames chosen ++ f ∷ [] =
    ap (λ (xs : List FrameView). choice xs (chosen ++ true ∷ [])) leads.parts
    ∙ choice-push leads.before leads.after f chosen leads.counted
    ∙ ap (λ (xs : List FrameView). choice xs chosen ++ f ∷ []) (sym leads.parts) in
    sym (extraction_exact packets frames rest laid (chosen ++ true ∷ []) each leads.close)
    ∙ ap (all_extracted new_extractor) next
    ∙ all_extracted-push new_extractor (choice frames chosen) f
    ∙ ap (λ (t : ExtractorState). all_extracted new_extractor (choice frames chosen) ++ (extract_step t f).packets)
    (sym leads.state)
    ∙ ap (λ (xs : List (List ℕ)). xs ++ (extract_step s f).packets)
    (extraction_exact packets frames rest laid chosen each (close_before chosen leads.close))

has_gained : (s : ExtractorState) (f : FrameView) (old new : List (List ℕ))
    → new ≡ old ++ (extract_step s f).packets → HasGained s f old new
has_gained s f old new e = ((extract_step s f).packets, e, step_gains s f)

pub returns-clause-packets : goal.returns-clause-packets
returns-clause-packets c = grind (arith, common_steps)

pub returns-clause-exact : goal.returns-clause-exact
returns-clause-exact c =
    has_gained c.args.self.now (frame_view c.args.frame.now) (octets_of c.args.packets.now.items)
    (octets_of c.append.new.self.items) (returns-clause-packets c)
