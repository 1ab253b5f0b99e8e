-- A status in octets, as telemetry carries it: kind (1), the fields of a record, the number of
-- commands that wait (1), and the check (4).
use Rattle.std.specs.Prelude.{ℕ, ◌<◌, ◌^◌, List, [], ◌∷◌, ◌++◌, ⊤, if◌then◌else◌, ◌==◌, not}
use Rattle.std.specs.Prelude.{length, drop, slice_index, Result, Ok, Err}
use Rattle.std.specs.Str.{bytes_eq}
use Rattle.command_log.specs.Check.{sealed}
use Rattle.command_log.specs.Record.{no_commands}
use Rattle.command_log.specs.Layout.{front_octets, fields_of, IsInRange}
use Rattle.command_log.specs.declared.fault.LogFault.{LogFault}
use Rattle.command_log.specs.declared.fault.LogFault.TheVariants as faults
use Rattle.command_log.specs.declared.record.Record.{Record}
use Rattle.command_log.specs.declared.status.Status.{Status}
use Rattle.command_log.specs.declared.status.Status.TheVariants.{Says, Changes, Starts, Lost}

abbrev pub kind_of : Status → ℕ
kind_of (Says kept) = 0
kind_of Changes = 1
kind_of Starts = 2
kind_of (Lost mark) = 3

-- the record in a status; the mark of a loss takes the boot count's field, and all other fields are
-- 0
abbrev pub record_of : Status → Record
record_of (Says kept) = kept
record_of Changes = no_commands 0 0
record_of Starts = no_commands 0 0
record_of (Lost mark) = no_commands mark 0

abbrev pub status_front : Status → ℕ → List ℕ
status_front status waiting = kind_of status ∷ (front_octets (record_of status) ++ waiting ∷ [])

abbrev pub status_octets : Status → ℕ → List ℕ
status_octets status waiting = sealed (status_front status waiting)

-- the status of this kind with these fields, except those that it does not have
abbrev pub status_with : ℕ → Record → Status
status_with kind kept =
    if kind == 0 then Says kept else if kind == 1 then Changes
    else if kind == 2 then Starts else Lost kept.boot

abbrev pub IsStatusInRange : Status → Type 0
IsStatusInRange (Says kept) = IsInRange kept
IsStatusInRange Changes = ⊤
IsStatusInRange Starts = ⊤
IsStatusInRange (Lost mark) = mark < 2 ^ 32

-- the status in the octets, whether or not the check holds
abbrev pub status_in : List ℕ → Status
status_in octets = status_with (slice_index octets 0) (fields_of (drop 1 octets))

-- the status that octets spell and the number of commands that wait, or why they do not spell a
-- status
abbrev pub status_spelled : List ℕ → Result (Status × ℕ) LogFault
status_spelled octets =
    if not (length octets == 27) then Err faults.Layout
    else if bytes_eq (status_octets (status_in octets) (slice_index octets 22)) octets
    then Ok (status_in octets, slice_index octets 22)
    else Err faults.Check
