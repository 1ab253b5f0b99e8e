use Rattle.std.proofs.Common.{ap, ◌∙◌, ◌≤◌, ◌+◌, length, arith}
use Rattle.std.specs.Prelude.{option_to_list}
use Rattle.tc_frame.specs.Layout.{SegmentView}
use Rattle.cop1.specs.FopPull.{pull_step}
use Rattle.cop1.specs.Units.{FopState}
use Rattle.nodes.specs.Ground.{GroundState, ground_step, Pull, with_fop}
use Rattle.nodes.specs.GroundBounds.{IsSenderOf}
use Rattle.nodes.specs.GroundFields.{state_of}
use Rattle.nodes.proofs.GroundBounds.{KeepsBounds, pulled_bounded}
use Rattle.nodes.proofs.Owed.{AreOwed, pulled_holds, still_owed}
use Rattle.nodes.proofs.ground_node.Ground.advance.Goals as goal

pub invariant_of-self : goal.invariant_of-self
invariant_of-self c =
    let s = c.self.inside in
    let after : FopState SegmentView = c.advance.new.self in
    let owed : AreOwed after s.pending.items s.left.items = rw c.advance.ensures (still_owed s.fop
    (pull_step s.fop).after s.pending.items s.left.items 0 (pulled_holds s.fop) c.self.invariant.owed) in
    let keeps : KeepsBounds s.config s.fop after = rw c.advance.ensures (pulled_bounded s.config s.fop) in
    let sender : IsSenderOf s.config after = keeps.sender c.self.invariant.sender in
    let unsent : length (option_to_list after.waiting) + length s.pending.items ≤ s.config.queue_slots =
    omega (arith, keeps.fewer, c.self.invariant.unsent) in
    assumption (owed, sender, unsent, c.self.invariant)

pub returns : goal.returns
returns c =
    c.refill.ensures ∙ ap (with_fop (state_of c.self.inside)) c.advance.ensures
    ∙ ap (λ (s : GroundState). (ground_step s Pull).after) c.self.view_is
