-- Packets on a stream.
use Rattle.std.specs.Prelude.{List, ℕ}
use Rattle.octets.specs.Number.{IsOctets, number_of}
use Rattle.space_packet.specs.Layout.{PacketView, IsPacket, type_bit, secondary_bit}
use Rattle.space_packet.specs.Layout.{is_idle_with_secondary}
use Rattle.std.proofs.Common.{◌≡◌, ◌≤◌, ◌+◌, ◌-◌, ◌/◌, ◌%◌, ◌++◌, length, take, drop, Bool, true}
use Rattle.std.proofs.Common.{false, not, cond, eqb, Result, Ok, Err, refl, sym, ap, ◌∙◌, arith}
use Rattle.std.proofs.lemmas.List.{take-append-drop, take-take, drop-take, drop-drop, length-take}
use Rattle.std.proofs.lemmas.List.{length-drop}
use Rattle.byteorder.specs.Endian.{big_bytes}
use Rattle.octets.proofs.Checked.{drop_fits, take_fits}
use Rattle.octets.proofs.Checked.{two_octets}
use Rattle.octets.proofs.Streams.{passed, ok_is, is_zero}
use Rattle.space_packet.specs.declared.packet.PacketKind.{PacketKind}
use Rattle.space_packet.specs.declared.packet.PacketKind.TheVariants.{Telemetry, Telecommand}
use Rattle.space_packet.specs.declared.fault.PacketFault.{PacketFault}
use Rattle.space_packet.specs.Decoding.{extent_at, kind_at}
use Rattle.space_packet.specs.Encoding.{first_number, second_number, third_number, header_octets}
use Rattle.space_packet.specs.Encoding.{spelling}
use Rattle.space_packet.specs.declared.fault.PacketFault.TheVariants as faults

-- Packets on a stream: a packet is as long as its header declares (CCSDS 133.0-B-2, 4.1.3.5).

-- octets, which are whole numbers from 0 to 255, spell the packet
pub record IsSpelling (p : PacketView) (b : List ℕ) : Type 0 where
  pub spells : IsPacket p b
  pub octets : IsOctets b

-- Packets on a stream: the laws of their layout.

-- what a header declares if its extent is not refused
pub record HasExtent (head : List ℕ) (n : ℕ) : Type 0 where
  pub version : number_of (take 2 head) / 8192 ≡ 0
  pub idle : is_idle_with_secondary (number_of (take 2 head) % 2048)
      (eqb (number_of (take 2 head) / 2048 % 2) 1) ≡ false
  pub total : number_of (take 2 (drop 4 head)) + 7 ≡ n

pub extent_is : (head : List ℕ) (n : ℕ) → extent_at head ≡ Ok n → HasExtent head n
unfolding extent_at
extent_is head n h =
    let first : ℕ = number_of (take 2 head) in
    let idle : Bool = is_idle_with_secondary (first % 2048) (eqb (first / 2048 % 2) 1) in
    let total : ℕ = number_of (take 2 (drop 4 head)) + 7 in
    let after_version : Result ℕ PacketFault =
    cond idle (Err faults.IdleWithSecondary) (Ok total) in
    let known = passed (not (eqb (first / 8192) 0)) faults.Version after_version n h in
    let plain = passed idle faults.IdleWithSecondary (Ok total) n known.1 in
    record {
      version =
          is_zero (first / 8192) known.0;
      idle =
          plain.0;
      total = ok_is {F = PacketFault} total n plain.1;
    }

-- an accepted extent includes the header
pub extent_has_header : (head : List ℕ) (n : ℕ) → extent_at head ≡ Ok n → 6 ≤ n
extent_has_header head n h = let has = extent_is head n h in omega arith

pub kind_again : (kind : PacketKind) → (kind_at (type_bit kind) ≡ kind) × (type_bit kind ≤ 1)
kind_again Telemetry = (refl, omega arith)
kind_again Telecommand = (refl, omega arith)

pub secondary_again : (secondary : Bool)
    → (eqb (secondary_bit secondary) 1 ≡ secondary) × (secondary_bit secondary ≤ 1)
secondary_again true = (refl, omega arith)
secondary_again false = (refl, omega arith)

-- two octets within the first n
pub two_within : (b : List ℕ) (n k : ℕ) → k + 2 ≤ n → take 2 (drop k (take n b)) ≡ take 2 (drop k b)
two_within b n k le =
    let count : n ≡ k + (n - k) = omega arith in
    ap (λ (i : ℕ). take 2 (drop k (take i b))) count ∙ ap (take 2) (drop-take k (n - k) b)
    ∙ take-take 2 (n - k) (drop k b) (omega arith)

-- how many octets a packet has
pub payload_length : (p : PacketView) (b : List ℕ) → IsPacket p b → length b ≡ 6 + length p.payload
payload_length p b h = omega (arith, length-drop 6 b, ap length h.rest, h.least)

-- the octets of a packet begin with its header, which declares their number
pub own_extent_of : (p : PacketView) (b : List ℕ) → IsPacket p b
    → (6 ≤ length b) × (extent_at (take 6 b) ≡ Ok (length b))
unfolding extent_at
own_extent_of p b h =
    let kind = kind_again p.kind in
    let secondary = secondary_again p.secondary in
    let front : take 2 (take 6 b) ≡ take 2 b = two_within b 6 0 (omega arith) in
    let size : take 2 (drop 4 (take 6 b)) ≡ take 2 (drop 4 b) = two_within b 6 4 (omega arith) in
    let long : length b ≡ 6 + length p.payload = payload_length p b h in
    let version : number_of (take 2 b) / 8192 ≡ 0 = omega arith in
    let apid : number_of (take 2 b) % 2048 ≡ p.apid = omega arith in
    let flag : number_of (take 2 b) / 2048 % 2 ≡ secondary_bit p.secondary = omega arith in
    let total : number_of (take 2 (drop 4 b)) + 7 ≡ length b = omega arith in
    (omega arith, rw (front, size, version, apid, flag, secondary.0, h.idle, total) refl)

-- two octets from a place on are the octets of their number
pub two_at : (b : List ℕ) (k : ℕ) → k + 2 ≤ length b → IsOctets b
    → take 2 (drop k b) ≡ big_bytes 2 (number_of (take 2 (drop k b)))
two_at b k long octets =
    two_octets (take 2 (drop k b)) (omega (arith, length-take 2 (drop k b), length-drop k b))
    (take_fits (drop k b) 2 (drop_fits b k octets))

-- the header's octets, from their numbers
header_is : (p : PacketView) (b : List ℕ) → IsSpelling p b → take 6 b ≡ header_octets p
header_is p b h =
    let least : 7 ≤ length b = h.spells.least in
    let one : take 2 b ≡ big_bytes 2 (first_number p) =
    two_at b 0 (omega arith) h.octets ∙ ap (big_bytes 2) h.spells.first in
    let two : take 2 (drop 2 b) ≡ big_bytes 2 (second_number p) =
    two_at b 2 (omega arith) h.octets ∙ ap (big_bytes 2) h.spells.second in
    let three : take 2 (drop 4 b) ≡ big_bytes 2 (third_number p) =
    two_at b 4 (omega arith) h.octets ∙ ap (big_bytes 2) h.spells.third in
    let last : take 4 (drop 2 b) ≡ take 2 (drop 2 b) ++ take 2 (drop 4 b) =
    sym (take-append-drop 2 (take 4 (drop 2 b)))
    ∙ rw (take-take 2 4 (drop 2 b) (omega arith), drop-take 2 2 (drop 2 b), drop-drop 2 2 b)
    refl in
    let parts : take 6 b ≡ take 2 b ++ take 4 (drop 2 b) =
    sym (take-append-drop 2 (take 6 b))
    ∙ rw (take-take 2 6 b (omega arith), drop-take 2 4 b) refl in
    parts ∙ rw (last, one, two, three) refl

-- octets that spell a packet are its spelling
pub spelling_from : (p : PacketView) (b : List ℕ) → IsSpelling p b → b ≡ spelling p
spelling_from p b h = sym (take-append-drop 6 b) ∙ rw (header_is p b h, h.spells.rest) refl

pub one_spelling_of : (p : PacketView) (xs ys : List ℕ) → IsSpelling p xs → IsSpelling p ys
    → xs ≡ ys
one_spelling_of p xs ys h k = spelling_from p xs h ∙ sym (spelling_from p ys k)
