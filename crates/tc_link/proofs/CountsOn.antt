-- V(S) and NN(R) count from the beginning of a session.
use Rattle.tc_link.proofs.Common.{Config, World}
use Rattle.tc_link.proofs.Common.{world_step, ◌≡◌, ℕ, ◌+◌, ◌/◌, ◌%◌, ◌≤◌, true, List, []}
use Rattle.tc_link.proofs.Common.{◌∷◌, sym, subst, arith, AllByRecursion}
use Rattle.tc_link.proofs.Common.{Directive, is_closed, ◌<◌, length}
use Rattle.tc_link.proofs.Common.{Result, ap, ◌∙◌}
use Rattle.tc_link.proofs.Common.{IsIdle}
use Rattle.tc_link.proofs.Common.{SegmentView}
use Rattle.tc_link.proofs.Common.{Option, CopFault, Alert, directive_step}
use Rattle.tc_link.proofs.Common.{FopState, FopOutcome, begun, obeyed, is_initiation, directive_outcome, closed_is}
use Rattle.tc_link.proofs.Common.{obeying, GroundState}
use Rattle.simulated_link.specs.World.{Session}
use Rattle.tc_link.specs.AnyPast.{LinkStep}
use Rattle.tc_link.specs.AnyPast.{IsLinkStep}
use Rattle.tc_link.specs.AnyPast.{link_step, link_run}
use Rattle.tc_link.specs.Beside.{SessionLasts, SetsNone}
use Rattle.tc_link.specs.CountsOn.{CountsFrom, KeepsWhatIsKnown}
use Rattle.tc_link.specs.Known.{MovesWithRecords}
use Rattle.tc_link.proofs.InOrder.{has_plain_history}
use Rattle.tc_link.proofs.Invariant.{Holding, step_holds, began_at, begun_session}
use Rattle.tc_link.proofs.Known.{with_same, octet}
use Rattle.tc_link.proofs.AnyPast.{link_step_holds, past_holds, still_idle, moves_still}
use Rattle.tc_link.proofs.OneLink.{sent_count, steps}

-- an initiation sets NN(R) to V(S)
begun_equal : (f : FopState SegmentView) (d : Directive) → is_initiation d ≡ true → (begun f d).nn ≡ (begun f d).vs
begun_equal f d is = grind arith

module _ (g : GroundState) where
  abbrev StartsEqual : Directive → FopOutcome SegmentView (Result (Option Alert) CopFault) → Type 0
  StartsEqual d o = is_initiation d ≡ true → is_closed g.fop.state ≡ true
      → (directive_outcome g d o).after.fop.nn ≡ (directive_outcome g d o).after.fop.vs

  pub starts_equal : (d : Directive) → StartsEqual d (directive_step g.fop d)
  starts_equal =
      let s = g.fop in
      obeyed s StartsEqual (record {
        refused = λ d fault on is off. absurd (on is (closed_is s.state off));
        begins = λ d is off so closed.
            let same = with_same (obeying g d) (begun s d) in same.1 ∙ begun_equal s d is ∙ sym same.0;
        terminated = λ is off. absurd cc;
        numbers = λ x same is off. absurd cc;
        sets = λ d k n ticks plain most is off. absurd (cc (plain, is));
      })

-- V(S) and NN(R) count from `base`
record Counts (base : ℕ) (w : World) : Type 0 where
  vs : w.ground_node.fop.vs ≡ (base + length w.session.sent) % 256
  nn : w.ground_node.fop.nn ≡ (base + w.session.acknowledged) % 256

counts_on : (base : ℕ) (old new : World) → Counts base old → MovesWithRecords old new
    → new.ground_node.fop.vs < 256 → new.ground_node.fop.nn < 256 → Counts base new
counts_on base old new t moves vs nn = record {
  vs = omega (arith, t.vs, moves.vs, vs);
  nn = omega (arith, t.nn, moves.nn, nn);
}

module _ (c : Config) (base : ℕ) where
  -- fewer than 256 segments were sent and are not acknowledged
  all_of : (w : World) (h : Holding c w) → IsIdle w → Counts base w → CountsFrom base w
  all_of w h idle t =
      let p = has_plain_history c w h.sound (h.session idle) in
      let n = sent_count w p.base p.plain p.is in
      let half : w.ground_node.config.width / 2 ≤ 127 =
      let it : c.width / 2 ≤ 127 = omega (arith, h.sound.ranges.width) in rw h.sound.ground_node.config it in
      record {
        vs = t.vs;
        nn = t.nn;
        all = λ equal.
            omega (arith, equal, t.vs, t.nn, n, p.is.acknowledged, p.is.order.0, p.is.order.1, p.is.window, half);
      }

  count_on : (w : World) → Holding c w → IsIdle w → Counts base w → (steps : List LinkStep)
      → AllByRecursion IsLinkStep steps → SessionLasts w steps → SetsNone w steps → CountsFrom base (link_run w steps)
  count_on w h idle t [] fits lasts quiet = all_of w h idle t
  count_on w h idle t (s ∷ steps) fits lasts quiet =
      let new : World = link_step w s in
      let after = link_step_holds c w h s fits.0 in
      let still = still_idle w s idle lasts.0 in
      let moved = moves_still c w h s fits.0 idle lasts.0 quiet.0 in
      let octet_nn = octet c new after.sound (after.session still) in
      count_on new after still (counts_on base w new t moved after.sound.ground_node.fop.vs_octet octet_nn) steps fits.1
      lasts.1 quiet.1

pub keeps_what_is_known : KeepsWhatIsKnown
keeps_what_is_known w e since r b lasts quiet fits numbers idle =
    let start : World = (world_step w e).after in
    let h = step_holds r.config w (past_holds w r) e fits in
    let f = start.ground_node.fop in
    let at = began_at w e b in
    let s = begun_session w e at in
    let equal =
    subst (λ (x : World). x.ground_node.fop.nn ≡ x.ground_node.fop.vs) (sym at.is)
    (starts_equal at.start.ground_node at.directive at.initiates at.closed) in
    let small = h.sound.ground_node.fop.vs_octet in
    let sent : length start.session.sent ≡ 0 = ap (λ (s : Session). length s.sent) s in
    let acked : start.session.acknowledged ≡ 0 = ap (λ (s : Session). s.acknowledged) s in
    count_on r.config f.vs start h idle (record {
      vs = omega (arith, small, sent);
      nn = omega (arith, small, acked, equal);
    }) since numbers lasts quiet
