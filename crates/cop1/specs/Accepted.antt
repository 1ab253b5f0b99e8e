-- What a CLCW's value shows of the units that were sent and not acknowledged (CCSDS 232.1-B-2,
-- 5.1).
use Rattle.std.specs.Prelude.{ℕ, Option, Some, None, nat_lt, if◌then◌else◌, ◌==◌}
use Rattle.cop1.specs.Modulo.{ahead_by}

-- How many of these units, the oldest ones, were accepted. It is 0 if there are no such units, and
-- `None` if there are some and the value lies beyond V(S).
abbrev pub accepted_beyond : (nn vs value : ℕ) → Option ℕ
accepted_beyond nn vs value =
    if vs == nn
    then Some 0
    else if nat_lt (ahead_by vs nn) (ahead_by value nn)
    then None
    else Some (ahead_by value nn)
