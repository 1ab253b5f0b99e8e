-- The check of records, statuses, orders and command packets: CRC-32 (ISO/IEC 3309, IEEE 802.3),
-- the remainder of a division of bits. The lowest bit of each octet comes first.
use Rattle.std.specs.Prelude.{◌-◌, take, drop, ℕ, zero, suc, ◌+◌, ◌*◌, ◌/◌, ◌%◌, ◌==◌, Bool}
use Rattle.std.specs.Prelude.{true, false, ◌&&◌, nat_le, if◌then◌else◌, List, [], ◌∷◌, ◌++◌, length}
use Rattle.std.specs.Prelude.{replicate, bit_xor}
use Rattle.std.specs.List.{flat_map}
use Rattle.byteorder.specs.Endian.{big_number, big_bytes}
use Rattle.octets.specs.Check.{bits_of, sum_without_carries}

-- the lowest n bits of a number, the lowest of them first
abbrev pub low_bits : ℕ → ℕ → List Bool
low_bits zero x = []
low_bits (suc n) x = (x % 2 == 1) ∷ low_bits n (x / 2)

-- the number that bits spell, the lowest first
abbrev pub number_of_low_bits : List Bool → ℕ
number_of_low_bits [] = 0
number_of_low_bits (b ∷ bits) = (if b then 1 else 0) + 2 * number_of_low_bits bits

-- the bits of octets
abbrev pub octet_bits : List ℕ → List Bool
octet_bits octets = flat_map (low_bits 8) octets

-- the bits of the generator after its first: x^32 + x^26 + x^23 + x^22 + x^16 + x^12 + x^11 + x^10
-- + x^8 + x^7 + x^5 + x^4 + x^2 + x + 1
abbrev pub generator_rest : List Bool
generator_rest = bits_of 32 0x04C11DB7

-- Long division by the generator, with as many steps as the quotient has bits. If the first bit is
-- 1, the generator is subtracted there, modulo 2. Then the first bit, which is now 0, is left out.
unfoldable pub remainder : ℕ → List Bool → List Bool
remainder zero bits = bits
remainder (suc n) [] = []
remainder (suc n) (b ∷ bits) =
    remainder n (if b then sum_without_carries generator_rest bits else bits)

-- The check of octets. Their bits are followed by 32 zero bits, and the first 32 of all these bits
-- are inverted. The result is divided by the generator. The remainder's bits are inverted, and the
-- first of them is the lowest of the number.
unfoldable pub check_of : List ℕ → ℕ
check_of octets =
    4294967295 - number_of_low_bits (remainder (8 * length octets)
    (sum_without_carries (replicate 32 true) (octet_bits octets ++ replicate 32 false)))

-- the check of earlier octets and of these octets after them, from the check of the earlier octets
unfoldable pub check_after : ℕ → List ℕ → ℕ
check_after check octets =
    4294967295 - number_of_low_bits (remainder (8 * length octets)
    (sum_without_carries (low_bits 32 (4294967295 - check))
    (octet_bits octets ++ replicate 32 false)))

-- octets, followed by their check
abbrev pub sealed : List ℕ → List ℕ
sealed front = front ++ big_bytes 4 (check_of front)

-- there are at least four octets, and the last four are the check of those before them
abbrev pub holds_check : List ℕ → Bool
holds_check octets =
    let long = length octets - 4 in
    nat_le 4 (length octets) && (big_number 4 (drop long octets) == check_of (take long octets))

-- The register that computes the check.

-- the register after one more bit
abbrev pub register_step : ℕ → ℕ
register_step r = if r % 2 == 1 then bit_xor (r / 2) 0xEDB88320 else r / 2

-- the register after n more bits
abbrev pub register_after : ℕ → ℕ → ℕ
register_after zero r = r
register_after (suc n) r = register_after n (register_step r)
