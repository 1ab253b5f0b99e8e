-- Frame sequence numbers, which count modulo 256 (CCSDS 232.1-B-2, 5.1 and 6.1).
use Rattle.std.specs.Prelude.{ℕ, ◌+◌, ◌-◌, ◌%◌}

-- how far a number is above another, modulo 256
abbrev pub ahead_by : ℕ → ℕ → ℕ
ahead_by n from = (n + (256 - from)) % 256
