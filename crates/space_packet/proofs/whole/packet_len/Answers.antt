use Rattle.std.proofs.Common.{List, ℕ, take, Result, ap, ◌∙◌}
use Rattle.std.specs.Prelude.{option_map}
use Rattle.space_packet.specs.declared.fault.PacketFault.{PacketFault}
use Rattle.space_packet.specs.Layout.{PacketView}
use Rattle.space_packet.proofs.WholePackets.{len_of, first_is}
use Rattle.space_packet.proofs.whole.packet_len.Goals as goal

pub returns-in-Ok-clause-first : goal.returns-in-Ok-clause-first
returns-in-Ok-clause-first c =
    let octets : List ℕ = c.args.octets.now in
    ap (λ (r : Result (PacketView × ℕ) PacketFault). option_map (λ k. take k octets) (len_of r)) c.in-Ok.ensures.answer
    ∙ first_is octets

pub returns-in-Err-clause-first : goal.returns-in-Err-clause-first
returns-in-Err-clause-first c =
    let octets : List ℕ = c.args.octets.now in
    ap (λ (r : Result (PacketView × ℕ) PacketFault). option_map (λ k. take k octets) (len_of r)) c.in-Err.ensures.answer
    ∙ first_is octets
