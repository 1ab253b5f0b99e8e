-- In S6, whatever happens that leaves the session as it is, no more segments are accepted than Type-AD frames are
-- in transit on the uplink.
use Rattle.tc_link.proofs.Common.{◌≡◌, ap, arith, refl, List, [], ◌∷◌, drop, map, segment_octets, SegmentView, S6}
use Rattle.tc_link.proofs.Common.{World, Config, AllByRecursion}
use Rattle.nodes.proofs.Arrivals.{bypass_same}
use Rattle.tc_link.specs.AnyPast.{LinkStep, IsLinkStep, link_step, link_run}
use Rattle.tc_link.specs.Beside.{LeavesSession, SessionLasts}
use Rattle.tc_link.specs.Taken.{EachAcceptsAtMost}
use Rattle.tc_link.proofs.Beside.{beside_so}
use Rattle.tc_link.proofs.Invariant.{Holding}
use Rattle.tc_link.proofs.AnyPast.{link_step_holds, past_holds}
use Rattle.tc_link.proofs.Readable.{closed_so, step_fewer, Fewer, still, then_fewer}

-- from one world to another the sender stays in S6
record Ended (old new : World) : Type 0 where
  pub off : new.ground_node.fop.state ≡ S6
  pub fewer : Fewer old new

module _ (c : Config) where
  step_ends : (w : World) → Holding c w → w.ground_node.fop.state ≡ S6 → (s : LinkStep) → LeavesSession w s
      → Ended w (link_step w s)
  step_ends w h off s goes = beside_so w (Ended w) s goes (record {
    happens = λ e is goes. record {
      off = closed_so c w h.sound off e goes;
      fewer = step_fewer c w h.sound off e goes;
    };
    same = record { off = off; fewer = still w w refl (omega arith) };
    takes = λ x packets. record { off = off; fewer = still w _ refl (omega arith) };
    passes = λ u kept. record {
      off = off;
      fewer = still w _ (ap (λ (xs : List SegmentView). map segment_octets (drop w.session.before xs))
          (bypass_same w.spacecraft u kept)) (omega arith);
    };
  })

  run_ends : (since : List LinkStep) (w : World) → Holding c w → w.ground_node.fop.state ≡ S6
      → AllByRecursion IsLinkStep since → SessionLasts w since → Fewer w (link_run w since)
  run_ends [] w h off fits lasts = still w w refl (omega arith)
  run_ends (s ∷ since) w h off fits lasts =
      let next = link_step w s in
      let t : Ended w next = step_ends w h off s lasts.0 in
      then_fewer w next (link_run next since) t.fewer
      (run_ends since next (link_step_holds c w h s fits.0) t.off fits.1 lasts.1)

pub each_accepts_at_most : EachAcceptsAtMost
each_accepts_at_most w since past off fits lasts =
    let t : Fewer w (link_run w since) = run_ends past.config since w (past_holds w past) off fits lasts in
    record { more = t.more; after = t.after; most = omega (arith, t.most) }
