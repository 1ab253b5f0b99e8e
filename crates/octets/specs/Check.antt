-- The check of a frame (CCSDS 232.0-B-4, 4.1.4.2; CCSDS 132.0-B-3, 4.1.6.2): the remainder of a
-- division of bits.
use Rattle.std.specs.Prelude.{◌≡◌, ◌≤◌, ◌-◌, take, drop, ℕ, zero, suc, ◌+◌, ◌*◌, ◌^◌, ◌==◌, Bool}
use Rattle.std.specs.Prelude.{true, false, not, if◌then◌else◌, List, [], ◌∷◌, ◌++◌, length}
use Rattle.std.specs.Prelude.{replicate, ◌/◌, ◌%◌, slice_index, bit_xor}
use Rattle.std.specs.Int.{bit_at}
use Rattle.std.specs.List.{flat_map}
use Rattle.octets.specs.Number.{number_of}
use Rattle.octets.specs.declared.table.TheConstants.{TABLES}

-- the lowest n bits of a number, the highest of them first
abbrev pub bits_of : ℕ → ℕ → List Bool
bits_of zero x = []
bits_of (suc n) x = (bit_at x n == 1) ∷ bits_of n x

-- the number that bits spell, the highest first
abbrev pub number_of_bits : List Bool → ℕ
number_of_bits [] = 0
number_of_bits (b ∷ bits) = (if b then 2 ^ length bits else 0) + number_of_bits bits

-- the bits of octets, in the order in which they are sent
abbrev pub octet_bits : List ℕ → List Bool
octet_bits octets = flat_map (bits_of 8) octets

abbrev pub bit_sum : Bool → Bool → Bool
bit_sum true y = not y
bit_sum false y = y

-- the sum of two lists of bits without carries, both from their first bit on
abbrev pub sum_without_carries : List Bool → List Bool → List Bool
sum_without_carries [] ys = ys
sum_without_carries (x ∷ xs) [] = x ∷ xs
sum_without_carries (x ∷ xs) (y ∷ ys) = bit_sum x y ∷ sum_without_carries xs ys

-- the bits of the generator x^16 + x^12 + x^5 + 1 after its first
abbrev pub generator_rest : List Bool
generator_rest = bits_of 16 0x1021

-- Long division by the generator, with as many steps as the quotient has bits. If the first bit is
-- 1, the generator is subtracted there, modulo 2. Then the first bit, which is now 0, is left out.
unfoldable pub remainder : ℕ → List Bool → List Bool
remainder zero bits = bits
remainder (suc n) [] = []
remainder (suc n) (b ∷ bits) =
    remainder n (if b then sum_without_carries generator_rest bits else bits)

-- The check of octets. Their bits are followed by 16 zero bits, and the first 16 of all these bits
-- are inverted. The result is divided by the generator.
unfoldable pub check_of : List ℕ → ℕ
check_of octets =
    number_of_bits (remainder (8 * length octets)
    (sum_without_carries (replicate 16 true) (octet_bits octets ++ replicate 16 false)))

-- there are at least two octets, and the last two spell the check of the octets before them
pub record HoldsCheck (octets : List ℕ) : Type 0 where
  pub long : 2 ≤ length octets
  pub same : number_of (drop (length octets - 2) octets)
      ≡ check_of (take (length octets - 2) octets)

-- The tables of the check.

-- what an octet in this place has become `later` octets later
abbrev pub entry_at : ℕ → ℕ → ℕ
entry_at later place = slice_index TABLES (later * 256 + place)

-- the entries of the octets from place i on, n of them after the first
abbrev pub entries : (n i : ℕ) → (ℕ → ℕ) → ℕ
entries zero i x = entry_at 0 (x i)
entries (suc n) i x = bit_xor (entries n (i + 1) x) (entry_at (suc n) (x i))

-- the register after n + 3 octets; it is added, without carries, to the first two
abbrev pub entries_after : (n register : ℕ) → (ℕ → ℕ) → ℕ
entries_after n register x =
    bit_xor (bit_xor (entries n 2 x)
    (entry_at (n + 1) (bit_xor (register % 256) (x 1))))
    (entry_at (n + 2) (bit_xor (register / 256) (x 0)))

-- Damage to octets in transit.

-- the lists differ at most within the two octets from this place on
pub record DiffersInTwoOctets (xs ys : List ℕ) : Type 0 where
  pub place : ℕ
  pub long : length xs ≡ length ys
  pub before : take place xs ≡ take place ys
  pub behind : drop (place + 2) xs ≡ drop (place + 2) ys

-- the lists differ at most within the 16 bits from this place on: a burst
pub record DiffersInBurst (xs ys : List ℕ) : Type 0 where
  pub place : ℕ
  pub long : length xs ≡ length ys
  pub before : take place (octet_bits xs) ≡ take place (octet_bits ys)
  pub behind : drop (place + 16) (octet_bits xs) ≡ drop (place + 16) (octet_bits ys)
