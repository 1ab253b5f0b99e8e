-- The layout of the communications link control word, CLCW (CCSDS 232.0-B-4, 4.2.1), octet by
-- octet: type 0, version 00, status, COP in effect 01; virtual channel, spare 00; five flags,
-- FARM-B, spare 0; report value.
use Rattle.std.specs.Prelude.{◌≡◌, ℕ, ◌+◌, ◌*◌, ◌%◌, ◌<◌, List, [], ◌∷◌}
use Rattle.clcw.specs.declared.word.Clcw.{Clcw}
use Rattle.clcw.specs.Flags.{flags_number}

-- the octets spell the CLCW; the flags are the sum of the values 128, 64, 32, 16 and 8 of those
-- that are set
pub record IsClcw (word : Clcw) (octets : List ℕ) : Type 0 where
  pub spelled : octets ≡ (4 * word.status + 1) ∷ (4 * word.vcid)
      ∷ (flags_number word.flags + 2 * word.farm_b) ∷ word.value ∷ []
  pub status : word.status < 8
  pub vcid : word.vcid < 64
  pub flags : flags_number word.flags % 8 ≡ 0
  pub farm_b : word.farm_b < 4
