-- Packets are read exactly as they are spelled.
use Rattle.std.proofs.Common.{◌≡◌, ◌<◌, ◌≤◌, ℕ, zero, suc, ◌+◌, ◌/◌, ◌%◌, false, eqb, ltb, List, [], ◌∷◌, ◌++◌, length}
use Rattle.std.proofs.Common.{take, drop, Result, Ok, Err, refl, sym, ap, subst, ◌∙◌, arith}
use Rattle.std.specs.Prelude.{IfOk}
use Rattle.std.specs.List.{AllByRecursion, concat}
use Rattle.std.proofs.lemmas.Bool.{ltb-false, le-ltb}
use Rattle.std.proofs.lemmas.List.{length-take, length-drop, take-take, take_all, take_at, drop_at}
use Rattle.octets.specs.Number.{number_of, IsOctets}
use Rattle.octets.specs.Outcome.{map_ok}
use Rattle.octets.specs.Records.{IsRecord}
use Rattle.octets.proofs.Streams.{passed, ok_is}
use Rattle.octets.proofs.Checked.{two_below}
use Rattle.octets.proofs.Checked.{take_fits, drop_fits}
use Rattle.space_packet.specs.declared.packet.Packet.{Packet}
use Rattle.space_packet.specs.declared.fault.PacketFault.{PacketFault}
use Rattle.space_packet.specs.declared.fault.PacketFault.TheVariants as faults
use Rattle.space_packet.specs.Layout.{PacketView, packet_view, type_bit, secondary_bit, is_idle_with_secondary}
use Rattle.space_packet.specs.Layout.{IsPacket, IsSomePacket, IsFirstPacket}
use Rattle.space_packet.specs.Decoding.{found_view, extent_at, kind_at, packet_with, packet_of, packet_at}
use Rattle.space_packet.specs.Laws.{HasExtent, extent_is, kind_again, secondary_again, own_extent_of, two_within}

-- ---- from what was read

type_from : (bit : ℕ) → bit < 2 → type_bit (kind_at bit) ≡ bit
type_from zero lt = refl
type_from (suc zero) lt = refl
type_from (suc (suc n)) lt = absurd (omega arith)

secondary_from : (bit : ℕ) → bit < 2 → secondary_bit (eqb bit 1) ≡ bit
secondary_from zero lt = refl
secondary_from (suc zero) lt = refl
secondary_from (suc (suc n)) lt = absurd (omega arith)

-- the packet that the octets begin with, with its extent
pub record IsRead (b : List ℕ) (p : PacketView) (n : ℕ) : Type 0 where
  pub extent : extent_at (take 6 b) ≡ Ok n
  pub within : n ≤ length b
  pub is : packet_with (number_of (take 2 b)) (number_of (take 2 (drop 2 b))) (drop 6 (take n b)) ≡ p

read_of : (b : List ℕ) (r : Result ℕ PacketFault) (p : PacketView) (n : ℕ) → extent_at (take 6 b) ≡ r
    → packet_of b r ≡ Ok (p, n) → IsRead b p n
read_of b (Err e) p n is h = absurd cc
read_of b (Ok m) p n is h =
    let made : PacketView = packet_with (number_of (take 2 b)) (number_of (take 2 (drop 2 b))) (drop 6 (take m b)) in
    let enough = passed (ltb (length b) m) faults.Truncated (Ok (made, m)) (p, n) h in
    let both : (made, m) ≡ (p, n) = ok_is {F = PacketFault} (made, m) (p, n) enough.1 in
    let total : m ≡ n = ap (λ (f : PacketView × ℕ). f.1) both in
    let packet : made ≡ p = ap (λ (f : PacketView × ℕ). f.0) both in
    subst (λ (k : ℕ). IsRead b p k) total (record { extent = is; within = ltb-false _ _ enough.0; is = packet })

made_is : (b : List ℕ) (n : ℕ) → IsOctets b → HasExtent (take 6 b) n → n ≤ length b
    → IsPacket (packet_with (number_of (take 2 b)) (number_of (take 2 (drop 2 b))) (drop 6 (take n b))) (take n b)
made_is b n octets has within =
    let first : ℕ = number_of (take 2 b) in
    let second : ℕ = number_of (take 2 (drop 2 b)) in
    let third : ℕ = number_of (take 2 (drop 4 b)) in
    let head : take 2 (take 6 b) ≡ take 2 b = two_within b 6 0 (omega arith) in
    let size : take 2 (drop 4 (take 6 b)) ≡ take 2 (drop 4 b) = two_within b 6 4 (omega arith) in
    let version : first / 8192 ≡ 0 = rw head at has.version in
    let idle : is_idle_with_secondary (first % 2048) (eqb (first / 2048 % 2) 1) ≡ false = rw head at has.idle in
    let total : third + 7 ≡ n = rw size at has.total in
    let small : third < 65536 = two_below (drop 4 b) (drop_fits b 4 octets) in
    let one : take 2 (take n b) ≡ take 2 b = two_within b n 0 (omega arith) in
    let two : take 2 (drop 2 (take n b)) ≡ take 2 (drop 2 b) = two_within b n 2 (omega arith) in
    let three : take 2 (drop 4 (take n b)) ≡ take 2 (drop 4 b) = two_within b n 4 (omega arith) in
    let kind : type_bit (kind_at (first / 4096 % 2)) ≡ first / 4096 % 2 = type_from (first / 4096 % 2) (omega arith) in
    let flag : secondary_bit (eqb (first / 2048 % 2) 1) ≡ first / 2048 % 2 =
    secondary_from (first / 2048 % 2) (omega arith) in
    record {
      first = ap number_of one ∙ omega arith;
      second = ap number_of two ∙ omega arith;
      third = ap number_of three ∙ omega (arith, length-drop 6 (take n b), length-take n b);
      rest = refl;
      apid = omega arith;
      flags = omega (arith, two_below (drop 2 b) (drop_fits b 2 octets));
      count = omega arith;
      least = omega (arith, length-take n b);
      most = omega (arith, length-take n b);
      idle = idle;
    }

pub packet_is : (b : List ℕ) (p : PacketView) (n : ℕ) → IsOctets b → packet_at b ≡ Ok (p, n) → IsFirstPacket p n b
unfolding packet_at
packet_is b p n octets h =
    let long = passed (ltb (length b) 6) faults.Truncated (packet_of b (extent_at (take 6 b))) (p, n) h in
    let read = read_of b (extent_at (take 6 b)) p n refl long.1 in
    let whole = made_is b n octets (extent_is (take 6 b) n read.extent) read.within in
    record { within = read.within; spells = subst (λ (q : PacketView). IsPacket q (take n b)) read.is whole }

-- a record of a stream of packets is a packet
pub record_is : (b : List ℕ) → IsOctets b → IsRecord 6 extent_at b → IsSomePacket b
record_is b octets h =
    let made = made_is b (length b) octets (extent_is (take 6 b) (length b) h.extent_is) (omega arith) in
    (_, subst (IsPacket _) (take_all (length b) b (omega arith)) made)

-- so are all records one after another
pub records_are : (records : List (List ℕ)) → IsOctets (concat records) → AllByRecursion (IsRecord 6 extent_at) records
    → AllByRecursion IsSomePacket records
records_are [] octets h = tt
records_are (b ∷ bs) octets h =
    let here : IsOctets b =
    subst IsOctets (take_at b (concat bs) (length b) refl) (take_fits (b ++ concat bs) (length b) octets) in
    let behind : IsOctets (concat bs) =
    subst IsOctets (drop_at b (concat bs) (length b) refl) (drop_fits (b ++ concat bs) (length b) octets) in
    (record_is b here h.0, records_are bs behind h.1)

-- ---- from what was spelled

-- a packet is a record of a stream of packets
pub record_again : (b : List ℕ) → IsSomePacket b → IsRecord 6 extent_at b
record_again b h = let own = own_extent_of h.0 b h.1 in record { has_head = own.0; extent_is = own.1 }

pub packet_again : (b : List ℕ) (p : PacketView) (n : ℕ) → IsFirstPacket p n b → packet_at b ≡ Ok (p, n)
unfolding packet_at
packet_again b p n h =
    let kind = kind_again p.kind in
    let secondary = secondary_again p.secondary in
    let count : length (take n b) ≡ n = omega (arith, length-take n b, h.within) in
    let own = own_extent_of p (take n b) h.spells in
    let extent : extent_at (take 6 b) ≡ Ok n =
    ap extent_at (sym (take-take 6 n b (omega arith))) ∙ own.1 ∙ ap (λ (m : ℕ). Ok m) count in
    let one : number_of (take 2 b) ≡ number_of (take 2 (take n b)) =
    ap number_of (sym (two_within b n 0 (omega arith))) in
    let two : number_of (take 2 (drop 2 b)) ≡ number_of (take 2 (drop 2 (take n b))) =
    ap number_of (sym (two_within b n 2 (omega arith))) in
    let long : ltb (length b) 6 ≡ false = le-ltb _ _ (omega (arith, h.within)) in
    let whole : ltb (length b) n ≡ false = le-ltb _ _ h.within in
    let bit : number_of (take 2 b) / 4096 % 2 ≡ type_bit p.kind = omega arith in
    let flag : number_of (take 2 b) / 2048 % 2 ≡ secondary_bit p.secondary = omega arith in
    let apid : number_of (take 2 b) % 2048 ≡ p.apid = omega arith in
    let flags : number_of (take 2 (drop 2 b)) / 16384 ≡ p.flags = omega arith in
    let sequence : number_of (take 2 (drop 2 b)) % 16384 ≡ p.count = omega arith in
    rw (long, extent, whole, bit, kind.0, flag, secondary.0, apid, flags, sequence, h.spells.rest) refl

-- what a decoder returned
pub is_found : (b : List ℕ) (r : Result (Packet × ℕ) PacketFault) → IsOctets b → map_ok found_view r ≡ packet_at b
    → IfOk r (λ f. IsFirstPacket (packet_view f.0) f.1 b)
is_found b (Ok f) octets h = packet_is b (packet_view f.0) f.1 octets (sym h)
is_found b (Err e) octets h = tt
