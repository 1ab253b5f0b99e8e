use Rattle.std.proofs.Common.{◌≡◌, ℕ, ◌+◌, ◌-◌, List, length, ap, sym, ◌∙◌, arith}
use Rattle.std.specs.List.{concat}
use Rattle.map_service.specs.Cutting.{longest_run}
use Rattle.map_service.specs.Packets.{packets_in, rest_in}
use Rattle.space_packet.proofs.WholePackets.{no_more}
use Rattle.map_service.proofs.Groups.{group-over, group-run, run-more}
use Rattle.map_service.proofs.cutting.group_len.Goals as goal

pub returns-then-len-part-clause-group : goal.returns-then-len-part-clause-group
returns-then-len-part-clause-group c =
    sym (group-over c.args.part c.in-Some.len c.args.octets.now c.in-Some.ensures.first c.in-Some.ensures.within.1
    c.if-len-part.true)

pub unreachable-requires : goal.unreachable-requires
unreachable-requires c =
    let left : rest_in c.args.octets.now ≡ c.args.octets.now =
    (no_more c.args.octets.now (sym c.in-None.ensures.first)).1 in
    omega (arith, c.requires.some_octet, ap length (sym left ∙ c.requires.whole))

pub returns-clause-group : goal.returns-clause-group
returns-clause-group c =
    let part : ℕ = c.args.part in
    let len : ℕ = c.in-Some.len in
    let octets : List ℕ = c.args.octets.now in
    let first = c.in-Some.ensures.first in
    let within = c.in-Some.ensures.within.1 in
    ap (λ (k : ℕ). len + k)
    (c.run_len.ensures.run
    ∙ ap (λ (xs : List ℕ). length (concat (longest_run (part - len) (packets_in xs)))) c.split_at.ensures.back)
    ∙ sym (group-run part len octets first within c.if-len-part.false
    ∙ run-more part len octets first within c.if-len-part.false)
