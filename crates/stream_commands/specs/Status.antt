-- How the program ends: its exit status, and the line on standard error.
use Rattle.std.specs.Prelude.{ℕ, List, [], ◌++◌, codes, decimal, Result, Ok, Err}
use Rattle.listings.specs.Text.{line_end}
use Rattle.streams.specs.declared.fault.StreamFault.{StreamFault}
use Rattle.streams.specs.declared.fault.StreamFault.TheVariants.{Read, Write, Memory, TooLong}
use Rattle.stream_commands.specs.declared.outcome.Outcome.{Outcome}
use Rattle.stream_commands.specs.declared.outcome.Outcome.TheVariants.{Good, Faulty}
use Rattle.stream_commands.specs.declared.outcome.Outcome.TheVariants.{Unreadable, OutOfRange}

abbrev pub exit_status : Result Outcome StreamFault → ℕ
exit_status (Ok Good) = 0
exit_status (Ok Faulty) = 1
exit_status (Ok (Unreadable line)) = 1
exit_status (Ok (OutOfRange field)) = 1
exit_status (Err fault) = 3

-- the line of a fault on standard error
abbrev pub fault_line : StreamFault → List ℕ
fault_line Read = codes "tctool: read failed" ++ line_end
fault_line Write = codes "tctool: write failed" ++ line_end
fault_line Memory = codes "tctool: no memory" ++ line_end
fault_line TooLong = codes "tctool: input too long" ++ line_end

-- the line on standard error, or nothing if there is none
abbrev pub ending_line : Result Outcome StreamFault → List ℕ
ending_line (Ok Good) = []
ending_line (Ok Faulty) = []
ending_line (Ok (Unreadable line)) =
    codes "tctool: line " ++ (decimal line ++ (codes ": unreadable" ++ line_end))
ending_line (Ok (OutOfRange field)) =
    codes "tctool: config out of range: " ++ (field.now ++ line_end)
ending_line (Err fault) = fault_line fault
