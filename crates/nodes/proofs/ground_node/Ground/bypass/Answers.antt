use Rattle.std.proofs.Common.{◌≡◌, ◌++◌, ◌∷◌, [], ℕ, List, None, Result, Ok, Err, OnOk, OnErr, sym, subst, ap, ◌∙◌}
use Rattle.tc_frame.specs.declared.frame.SegmentFlags.TheVariants.{Alone}
use Rattle.tc_frame.specs.Layout.{SegmentView}
use Rattle.map_service.specs.Cutting.{segment_with}
use Rattle.cop1.specs.Units.{FopState}
use Rattle.nodes.specs.declared.ground_node.Ground.TheInside.{Inside}
use Rattle.nodes.specs.OwnedFields.{FitsFrame}
use Rattle.nodes.specs.Parameters.{IsConfig}
use Rattle.nodes.specs.Ground.{GroundState, bypass_fault}
use Rattle.nodes.specs.GroundBounds.{IsSenderOf}
use Rattle.nodes.specs.GroundFields.{state_of, IsSound}
use Rattle.nodes.proofs.GroundBounds.{past_bounded}
use Rattle.nodes.proofs.Submissions.{bypass_fits}
use Rattle.nodes.proofs.ground_node.Ground.bypass.Goals as goal

pub new-requires : goal.new-requires
new-requires c =
    subst (λ (s : SegmentView). FitsFrame s) (sym c.in_ok-segment.ensures.ok)
    (bypass_fits c.args.self.now c.args.map c.args.octets.now
    (subst (λ (s : GroundState). IsConfig s.config) c.self.view_is c.self.invariant.config)
    c.in_ok-segment.ensures.passed)

-- one more segment is in the bypass queue, or memory ran out

with_past : (i : Inside) (past : List SegmentView) → IsSound i
    → IsSenderOf i.config (record i.fop { bypass = past })
    → IsSound (record i { fop = record i.fop { bypass = past } })
with_past i past sound sender = assumption (sender, sound)

by_result : {A E : Type 0} (P : FopState SegmentView → Type 0) (r : Result A E) (new next old : FopState SegmentView)
    → OnOk r (new ≡ next) → OnErr r (new ≡ old) → P next → P old → P new
by_result P (Ok x) new next old ok err taken left = subst P (sym ok) taken
by_result P (Err e) new next old ok err taken left = subst P (sym err) left

pub invariant_of-self-2 : goal.invariant_of-self-2
invariant_of-self-2 c =
    let i : Inside = c.self.inside in
    let m : ℕ = c.args.map in
    let octets : List ℕ = c.args.octets.now in
    let past : List SegmentView = i.fop.bypass ++ c.in_ok-copied.copied ∷ [] in
    let fault : bypass_fault (state_of i) m octets ≡ None =
    ap (λ (s : GroundState). bypass_fault s m octets) c.self.view_is ∙ c.in_ok-segment.ensures.passed in
    let segment : c.in_ok-copied.copied ≡ segment_with Alone m octets =
    c.in_ok-copied.ensures.copied ∙ c.in_ok-segment.ensures.ok in
    let sender : IsSenderOf i.config (record i.fop { bypass = past }) =
    rw segment (past_bounded (state_of i) m octets fault c.self.invariant.sender) in
    by_result (λ (f : FopState SegmentView). IsSound (record i { fop = f })) c.bypass.result c.bypass.new.self
    (record i.fop { bypass = past }) i.fop c.bypass.ensures.ok c.bypass.ensures.err
    (with_past i past c.self.invariant sender) c.self.invariant
