-- The spelling of a packet spells it, whatever follows.
use Rattle.std.proofs.Common.{◌≡◌, ◌<◌, ◌≤◌, ℕ, true, List, [], ◌++◌, length, refl, sym, subst, arith}
use Rattle.std.proofs.Common.{length-append}
use Rattle.std.proofs.lemmas.Bool.{ltb-true, and_parts, not-true}
use Rattle.std.proofs.lemmas.List.{take_at}
use Rattle.octets.proofs.Checked.{number_of_two}
use Rattle.octets.proofs.Streams.{le_true}
use Rattle.space_packet.specs.Laws.{kind_again, secondary_again}
use Rattle.space_packet.specs.Layout.{PacketView, IsPacket, IsFirstPacket}
use Rattle.space_packet.specs.Encoding.{first_number, second_number, third_number, spelling, packet_fits}

-- a packet in front of other octets
pub first_is : (p : PacketView) (b more : List ℕ) → IsPacket p b → IsFirstPacket p (length b) (b ++ more)
first_is p b more h = record {
  within = omega (arith, length-append b more);
  spells = subst (IsPacket p) (sym (take_at b more (length b) refl)) h;
}

-- the spelling of a packet spells it
pub spelling_is : (p : PacketView) → packet_fits p ≡ true → IsPacket p (spelling p)
spelling_is p fits =
    let idle = and_parts _ _ fits in
    let most = and_parts _ _ idle.0 in
    let some = and_parts _ _ most.0 in
    let count = and_parts _ _ some.0 in
    let fields = and_parts _ _ count.0 in
    let apid : p.apid < 2048 = ltb-true _ _ fields.0 in
    let flags : p.flags < 4 = ltb-true _ _ fields.1 in
    let sequence : p.count < 16384 = ltb-true _ _ count.1 in
    let least : 0 < length p.payload = ltb-true _ _ some.1 in
    let short : length p.payload ≤ 65536 = le_true _ _ most.1 in
    let kind = kind_again p.kind in
    let secondary = secondary_again p.secondary in
    record {
      first = number_of_two (first_number p) [] (omega arith);
      second = number_of_two (second_number p) [] (omega arith);
      third = number_of_two (third_number p) [] (omega arith);
      rest = refl;
      apid = apid;
      flags = flags;
      count = sequence;
      least = omega arith;
      most = omega arith;
      idle = not-true _ idle.1;
    }
