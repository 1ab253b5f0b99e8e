-- The faults of cutting and assembling, one row each.
use Rattle.std.specs.Prelude.{ℕ, List, codes}
use Rattle.map_service.specs.declared.fault.MapFault.{MapFault}
use Rattle.map_service.specs.declared.fault.MapFault.TheVariants.{NotAPacket, TooLong, Memory}

-- the number, and the name in ASCII
abbrev pub fault_row : MapFault → ℕ × List ℕ
fault_row NotAPacket = (1, codes "NotAPacket")
fault_row TooLong = (2, codes "TooLong")
fault_row Memory = (3, codes "Memory")
