use Rattle.std.proofs.Common.{◌≡◌, true, false, Option, Some, None, is_some, refl, sym, ap, ◌∙◌}
use Rattle.tc_frame.specs.Layout.{SegmentView}
use Rattle.nodes.specs.Ground.{GroundState, is_closed, refill_step, after_moving_up}
use Rattle.nodes.proofs.ground_node.Ground.refill.Goals as goal

taken : (s : GroundState) (waiting : Option SegmentView) → is_some waiting ≡ true
    → s ≡ after_moving_up s waiting s.pending
taken s (Some w) is = refl
taken s None is = absurd (cc is)

waiting_refilled : (s : GroundState) → is_closed s.fop.state ≡ false → is_some s.fop.waiting ≡ true → s ≡ refill_step s
waiting_refilled s active is = rw active (taken s s.fop.waiting is)

pub returns-then-waiting : goal.returns-then-waiting
returns-then-waiting c =
    waiting_refilled c.args.self.now (sym c.if-is_closed.ensures)
    (ap (λ (s : GroundState). is_some s.fop.waiting) (sym c.self.view_is) ∙ sym c.if-waiting.ensures)
