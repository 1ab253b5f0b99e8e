-- The running check of a board's history: CRC-32 over the checks of all command packets that were
-- taken since its record was new or was brought, in the order in which they were taken.
use Rattle.std.specs.Prelude.{◌≡◌, ℕ, ◌-◌, List, [], ◌∷◌, ◌++◌, drop, length}
use Rattle.std.specs.List.{AllByRecursion}
use Rattle.octets.specs.Number.{IsOctets}
use Rattle.command_log.specs.Check.{check_of, check_after}

-- the check at the end of a packet
abbrev pub check_octets : List ℕ → List ℕ
check_octets packet = drop (length packet - 4) packet

-- the history after one more packet
abbrev pub history_after : ℕ → List ℕ → ℕ
history_after history packet = check_after history (check_octets packet)

-- the history of packets, and the octets of their checks; the packets are newest first
abbrev pub history_of : List (List ℕ) → ℕ
history_of [] = 0
history_of (packet ∷ packets) = history_after (history_of packets) packet

abbrev pub checks_of : List (List ℕ) → List ℕ
checks_of [] = []
checks_of (packet ∷ packets) = checks_of packets ++ check_octets packet

abbrev pub EachHistoryIsACheck : Type 0
EachHistoryIsACheck =
    (packets : List (List ℕ)) → AllByRecursion IsOctets packets
    → history_of packets ≡ check_of (checks_of packets)
