-- Sequence counts for each application process (CCSDS 133.0-B-2, 4.1.3.4.3).
use Rattle.std.specs.Prelude.{◌<◌, ℕ, ◌+◌, ◌-◌, ◌%◌, List, Option, Some, None, slice_index}
use Rattle.std.specs.Prelude.{slice_set}

-- each is a sequence count
abbrev pub IsCounts : List ℕ → Type 0
IsCounts counts = (apid : ℕ) → slice_index counts apid < 16384

-- the counts after a packet of this APID
abbrev pub counts_after : List ℕ → ℕ → List ℕ
counts_after counts apid = slice_set counts apid ((slice_index counts apid + 1) % 16384)

-- the number of missing packets: (count - last - 1) modulo 16,384; adding 65,536, a multiple of
-- 16,384, keeps the difference from falling below 0
abbrev pub gap_between : ℕ → ℕ → ℕ
gap_between last count = (count + 65536 - last - 1) % 16384

-- the same, if a count was seen
abbrev pub gap_after : Option ℕ → ℕ → Option ℕ
gap_after None count = None
gap_after (Some last) count = Some (gap_between last count)

-- the last counts after a packet of this APID with this count
abbrev pub counts_seen : List (Option ℕ) → ℕ → ℕ → List (Option ℕ)
counts_seen seen apid count = slice_set seen apid (Some count)
