-- The lines of CLCWs: what a receiver reports in each, or why octets are not a valid CLCW.
use Rattle.std.specs.Prelude.{ℕ, is_ok, List, ◌++◌, codes, decimal, Result, Ok, Err}
use Rattle.clcw.specs.declared.word.Clcw.{Clcw}
use Rattle.clcw.specs.declared.fault.ClcwFault.{ClcwFault}
use Rattle.clcw.specs.Faults as words
use Rattle.clcw.specs.Flags.{has_flag, has_lockout, has_wait, has_retransmit}
use Rattle.listings.specs.declared.control_words.WordFault.{WordFault}
use Rattle.listings.specs.declared.control_words.WordFault.TheVariants.{Refused, Short, Memory}
use Rattle.listings.specs.Layouts.{word_in}
use Rattle.listings.specs.Listing.{Lines}
use Rattle.listings.specs.Text.{flag_number, invalid_line, line_end}

-- the number of a fault, and its name in ASCII; the faults of a CLCW keep theirs
abbrev pub fault_row : WordFault → ℕ × List ℕ
fault_row (Refused fault) = words.fault_row fault
fault_row Short = (6, codes "Short")
fault_row Memory = (7, codes "Memory")

-- the status field, and the flags no RF available and no bit lock, at the end of the line
abbrev pub status_text : Clcw → List ℕ
status_text w =
    codes " status=" ++ (decimal w.status
    ++ (codes " rf=" ++ (decimal (flag_number (has_flag w.flags 128))
    ++ (codes " lock=" ++ (decimal (flag_number (has_flag w.flags 64)) ++ line_end)))))

-- V(R), the flags lockout, wait and retransmit, FARM-B, and what follows
abbrev pub receiver_text : Clcw → List ℕ
receiver_text w =
    codes " vr=" ++ (decimal w.value
    ++ (codes " l=" ++ (decimal (flag_number (has_lockout w.flags))
    ++ (codes " w=" ++ (decimal (flag_number (has_wait w.flags))
    ++ (codes " t=" ++ (decimal (flag_number (has_retransmit w.flags))
    ++ (codes " b=" ++ (decimal w.farm_b ++ status_text w)))))))))

-- the line of a CLCW
abbrev pub report_line : Clcw → List ℕ
report_line w = codes "report vcid=" ++ (decimal w.vcid ++ receiver_text w)

-- the line of a telemetry frame's CLCW, or of a field that is not a valid CLCW
abbrev pub field_line : Result Clcw ClcwFault → List ℕ
field_line (Ok w) = report_line w
field_line (Err e) =
    codes "report invalid " ++ (decimal (words.fault_row e).0
    ++ (codes " " ++ ((words.fault_row e).1 ++ line_end)))

abbrev pub word_fault_line : ℕ → WordFault → List ℕ
word_fault_line i e = invalid_line i (fault_row e)

-- the line of a record
abbrev pub word_line : ℕ → Result Clcw WordFault → List ℕ
word_line i (Ok w) = decimal i ++ (codes " " ++ report_line w)
word_line i (Err e) = word_fault_line i e

-- what is written for CLCWs
abbrev pub report_lines : Lines (Unit {0}) WordFault
report_lines = record {
  line_of = λ s i octets. word_line i (word_in octets);
  after = λ s octets. s;
  is_good = λ octets. is_ok (word_in octets);
  fault_line = word_fault_line;
}
