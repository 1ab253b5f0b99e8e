-- The causes for which octets on a MAP are dropped, one row each.
use Rattle.std.specs.Prelude.{ℕ, List, codes}
use Rattle.map_service.specs.declared.dropped.Dropped.{Dropped}
use Rattle.map_service.specs.declared.dropped.Dropped.TheVariants.{ClosedMap, Interrupted}
use Rattle.map_service.specs.declared.dropped.Dropped.TheVariants.{NoBeginning, NotAPacket, TooLong}

-- the number, and the name in ASCII
abbrev pub cause_row : Dropped → ℕ × List ℕ
cause_row ClosedMap = (1, codes "ClosedMap")
cause_row Interrupted = (2, codes "Interrupted")
cause_row NoBeginning = (3, codes "NoBeginning")
cause_row NotAPacket = (4, codes "NotAPacket")
cause_row TooLong = (5, codes "TooLong")
