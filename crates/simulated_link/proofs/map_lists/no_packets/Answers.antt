use Rattle.simulated_link.proofs.Common.{◌≡◌, [], get_or, map, ap, arith}
use Rattle.std.proofs.Common.{rules}
use Rattle.simulated_link.proofs.Lists.{none_at}
use Rattle.simulated_link.proofs.map_lists.no_packets.Goals as goal

pub returns-clause-none : goal.returns-clause-none
returns-clause-none c = none_at c.from_fn.result (λ i d lt.
    let called = (c.from_fn.ensures.items.at i d (omega arith)).2 in
    let none : (get_or c.from_fn.result i d).items ≡ [] = search (rules, called) in
    ap (map (λ v. v.items)) none)
