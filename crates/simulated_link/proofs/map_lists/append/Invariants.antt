use Rattle.simulated_link.proofs.Common.{◌≡◌, ◌≤◌, ◌+◌, ◌++◌, length, map, vec_len, vec_capacity, packets_view}
use Rattle.std.specs.Vec.Iter.{into_iter_items}
use Rattle.simulated_link.proofs.map_lists.append.Given as goal

abbrev pub invariant-loop-octets : goal.invariant-loop-octets
invariant-loop-octets l =
    (goal.iterator-loop-octets).can_next l.octets-iterator ×
    (goal.iterator-loop-octets).is_finite l.octets-iterator ×
    (packets_view l.list ++ map (λ v. v.items) (into_iter_items l.octets-iterator) ≡ packets_view l.fn.list
    ++ packets_view l.fn.packets) ×
    (vec_len l.list + length (into_iter_items l.octets-iterator) ≤ vec_capacity l.list)
