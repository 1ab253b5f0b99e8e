use Rattle.simulated_link.proofs.Common.{◌≡◌, list_all, octets_of, reports_as}
use Rattle.std.specs.VecDeque.Iter.{deque_iter_rest}
use Rattle.tm_link.specs.Decoding.{frame_at}
use Rattle.simulated_link.proofs.world.calls.all_report_as.Given as goal

abbrev pub invariant-loop-octets : goal.invariant-loop-octets
invariant-loop-octets l =
    list_all (λ octets. reports_as l.now (frame_at l.total octets)) (octets_of l.down.items)
    ≡ list_all (λ octets. reports_as l.now (frame_at l.total octets)) (octets_of (deque_iter_rest l.octets-iterator))
