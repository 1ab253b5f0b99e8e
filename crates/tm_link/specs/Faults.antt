-- The faults of telemetry frames, one row for each.
use Rattle.std.specs.Prelude.{ℕ, List, codes}
use Rattle.tm_link.specs.declared.fault.TmFault.{TmFault}
use Rattle.tm_link.specs.declared.fault.TmFault.TheVariants.{Length, Version, Check, Status}
use Rattle.tm_link.specs.declared.fault.TmFault.TheVariants.{Pointer, NoOcf, Memory, NotAPacket}
use Rattle.tm_link.specs.declared.fault.TmFault.TheVariants.{Room, FieldRange}

-- the number, and the name in ASCII
abbrev pub fault_row : TmFault → ℕ × List ℕ
fault_row Length = (1, codes "Length")
fault_row Version = (2, codes "Version")
fault_row Check = (3, codes "Check")
fault_row Status = (4, codes "Status")
fault_row Pointer = (5, codes "Pointer")
fault_row NoOcf = (6, codes "NoOcf")
fault_row Memory = (7, codes "Memory")
fault_row NotAPacket = (8, codes "NotAPacket")
fault_row Room = (9, codes "Room")
fault_row FieldRange = (10, codes "FieldRange")
