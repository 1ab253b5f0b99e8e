-- The CLCW of a receiver (CCSDS 232.0-B-4, 4.2.1), with its current V(R), flags and FARM-B.
use Rattle.std.specs.Prelude.{ℕ, ◌+◌, Bool, true, false}
use Rattle.clcw.specs.declared.word.Clcw.{Clcw}
use Rattle.clcw.specs.declared.flags.ClcwFlags.{ClcwFlags}
use Rattle.clcw.specs.Flags.{flags_from}
use Rattle.cop1.specs.Farm.{FarmState}

-- a flag's value if it is set, and otherwise 0
abbrev pub value_if : Bool → ℕ → ℕ
value_if true value = value
value_if false value = 0

abbrev pub report_flags : FarmState → ClcwFlags
report_flags s = flags_from (value_if s.lockout 32 + value_if s.wait 16 + value_if s.retransmit 8)

abbrev pub report_of : FarmState → ℕ → Clcw
report_of s vcid =
    record { status = 0; vcid = vcid; flags = report_flags s; farm_b = s.farm_b; value = s.vr }
