use Rattle.std.proofs.Common.{◌≡◌, ◌++◌, ◌∷◌, [], true, ℕ, List, Bool, Bor, take, drop, refl, sym, ap, ◌∙◌, arith}
use Rattle.std.proofs.Common.{length-take, cond, Some, None}
use Rattle.std.specs.Prelude.{◌||◌, ◌&&◌, nat_lt}
use Rattle.std.specs.List.{list_all}
use Rattle.std.proofs.Math.Bool.{or_assoc}
use Rattle.std.proofs.lemmas.List.{append_assoc, append-nil}
use Rattle.map_service.specs.Packets.{packets_in, rest_in, is_some_over}
use Rattle.space_packet.specs.Layout.{PacketView, packet_view, IsFirstPacket}
use Rattle.nodes.specs.declared.fault.LinkFault.TheVariants.{TooLong}
use Rattle.nodes.specs.CommandPackets.{is_command_packet, is_command, commands_fault, slices_view}
use Rattle.nodes.proofs.CommandPackets.{one_more, all_more, over_more, refused_here, none_there, not_whole}
use Rattle.nodes.proofs.CommandPackets.{not_commands, judged, no_more_read}
use Rattle.nodes.proofs.command_packets.several_commands.Goals as goal
use Rattle.nodes.proofs.command_packets.several_commands.Goals.{Else-not-is_empty, then-is_empty-via-then-is_empty}
use Rattle.nodes.proofs.command_packets.several_commands.Goals.{then-is_empty-via-else-is_empty+then-not-is_empty}

pub packets-init : goal.packets-init
packets-init c = record {
  rest = refl;
  commands = refl;
  over = refl;
  kept = λ e.
      ap (λ (xs : List (Bor (List ℕ))). slices_view xs ++ packets_in c.args.octets.now)
      c.new-packets.ensures.items;
}

pub returns-then-not-is_command_packet-clause-err : goal.returns-then-not-is_command_packet-clause-err
returns-then-not-is_command_packet-clause-err c =
    not_commands c.args.limits.now c.args.octets.now c.requires
    (refused_here c.args.octets.now c.packets.rest.now (packet_view c.in-Ok.packet) c.in-Ok.size
    c.in-Ok.ensures.found
    (sym c.is_command_packet.ensures ∙ c.if-not-is_command_packet.true) c.packets.invariant.commands)

pub packets-smaller : goal.packets-smaller
packets-smaller c =
    let first : IsFirstPacket (packet_view c.in-Ok.packet) c.in-Ok.size c.packets.rest.now = c.in-Ok.ensures.found in
    omega (arith, c.split_at.ensures.back_len, first.spells.least, length-take c.in-Ok.size c.packets.rest.now)

pub packets-preserved : goal.packets-preserved
packets-preserved c =
    let rest : List ℕ = c.packets.rest.now in
    let behind : List ℕ = c.split_at.result.1.now in
    let p : PacketView = packet_view c.in-Ok.packet in
    let n : ℕ = c.in-Ok.size in
    let most : ℕ = c.args.limits.now.max_packet in
    let first : IsFirstPacket p n rest = c.in-Ok.ensures.found in
    let more = one_more rest p n first in
    let front : c.split_at.result.0.now ≡ take n rest = c.split_at.ensures.front in
    let back : behind ≡ drop n rest = c.split_at.ensures.back in
    let is : is_command_packet p ≡ true = sym c.is_command_packet.ensures ∙ c.if-not-is_command_packet.false in
    record {
      rest = ap rest_in back ∙ sym more.1 ∙ c.packets.invariant.rest;
      commands =
          ap (λ (xs : List ℕ). list_all is_command (packets_in xs)) back
          ∙ ap (λ (t : Bool). t && list_all is_command (packets_in (drop n rest))) (sym is)
          ∙ sym (all_more rest p n first) ∙ c.packets.invariant.commands;
      over =
          ap (λ (t : Bool). (c.packets.too_long || t) || is_some_over most (packets_in behind))
          c.is_too_long-too_long.ensures
          ∙ or_assoc c.packets.too_long (nat_lt most n) (is_some_over most (packets_in behind))
          ∙ ap (λ (xs : List ℕ). c.packets.too_long || (nat_lt most n || is_some_over most (packets_in xs))) back
          ∙ ap (λ (t : Bool). c.packets.too_long || t) (sym (over_more most rest p n first))
          ∙ c.packets.invariant.over;
      kept = λ e.
          let held = c.keep-kept.ensures e in
          let before : List (List ℕ) = slices_view c.packets.packets.items in
          ap (λ (xs : List (List ℕ)). xs ++ packets_in behind) held.1
          ∙ append_assoc before (c.split_at.result.0.now ∷ []) (packets_in behind)
          ∙ ap (λ (xs : List ℕ). before ++ (c.split_at.result.0.now ∷ packets_in xs)) back
          ∙ ap (λ (xs : List ℕ). before ++ (xs ∷ packets_in (drop n rest))) front
          ∙ ap (λ (xs : List (List ℕ)). before ++ xs) (sym more.0)
          ∙ c.packets.invariant.kept held.0;
    }

pub returns-then-is_empty-clause-err : goal.returns-then-is_empty-clause-err
returns-then-is_empty-clause-err c =
    not_commands c.args.limits.now c.args.octets.now c.requires
    (elim c.then-is_empty.branch [
      | then-is_empty-via-then-is_empty w ↦
          none_there c.args.octets.now (sym c.is_empty.ensures ∙ w.if-is_empty.true)
      | then-is_empty-via-else-is_empty+then-not-is_empty w ↦
          not_whole c.args.octets.now c.packets.rest.now c.in_default.field-0 c.in_default.ensures.answer
          c.packets.invariant.rest (sym w.is_empty-else-is_empty.ensures ∙ w.if-not-is_empty.true)
    ])

-- no packet and no other octets are left
judged_whole : (c : Else-not-is_empty)
    → commands_fault c.args.limits.now c.args.octets.now ≡ cond c.packets.too_long (Some TooLong) None
judged_whole c =
    judged c.args.limits.now c.args.octets.now c.packets.rest.now c.in_default.field-0 c.packets.too_long
    c.packets.too_long c.requires c.in_default.ensures.answer c.packets.invariant.rest c.packets.invariant.commands
    c.packets.invariant.over
    (sym c.is_empty.ensures ∙ c.if-is_empty.false)
    (sym c.is_empty-else-is_empty.ensures ∙ c.if-not-is_empty.false)
    refl

pub returns-then-too_long-clause-err : goal.returns-then-too_long-clause-err
returns-then-too_long-clause-err c =
    judged_whole (goal.at.returns-then-too_long-clause-err c).Else-not-is_empty
    ∙ ap (λ (t : Bool). cond t (Some TooLong) None) c.if-too_long.true

pub returns-then-kept-clause-packets : goal.returns-then-kept-clause-packets
returns-then-kept-clause-packets c =
    let none = no_more_read c.packets.rest.now c.in_default.field-0 c.in_default.ensures.answer in
    sym (append-nil (slices_view c.packets.packets.items))
    ∙ ap (λ (xs : List (List ℕ)). slices_view c.packets.packets.items ++ xs) (sym none.0)
    ∙ c.packets.invariant.kept c.if-kept.true

pub returns-then-kept-clause-ok : goal.returns-then-kept-clause-ok
returns-then-kept-clause-ok c =
    judged_whole (goal.at.returns-then-kept-clause-ok c).Else-not-is_empty
    ∙ ap (λ (t : Bool). cond t (Some TooLong) None) c.if-too_long.false

pub returns-clause-ok : goal.returns-clause-ok
returns-clause-ok c =
    judged_whole (goal.at.returns-clause-ok c).Else-not-is_empty
    ∙ ap (λ (t : Bool). cond t (Some TooLong) None) c.if-too_long.false
