-- The faults of telecommand frames, one row each.
use Rattle.std.specs.Prelude.{ℕ, List, codes}
use Rattle.tc_frame.specs.declared.fault.TcFault.{TcFault}
use Rattle.tc_frame.specs.declared.fault.TcFault.TheVariants.{Short, Version, ReservedType, Spare}
use Rattle.tc_frame.specs.declared.fault.TcFault.TheVariants.{Length, Check, BypassNumber}
use Rattle.tc_frame.specs.declared.fault.TcFault.TheVariants.{EmptyData, Command, Room, FieldRange}
use Rattle.tc_frame.specs.declared.fault.TcFault.TheVariants.{Memory}

-- the number, and the name in ASCII
abbrev pub fault_row : TcFault → ℕ × List ℕ
fault_row Short = (1, codes "Short")
fault_row Version = (2, codes "Version")
fault_row ReservedType = (3, codes "ReservedType")
fault_row Spare = (4, codes "Spare")
fault_row Length = (5, codes "Length")
fault_row Check = (6, codes "Check")
fault_row BypassNumber = (7, codes "BypassNumber")
fault_row EmptyData = (8, codes "EmptyData")
fault_row Command = (9, codes "Command")
fault_row Room = (10, codes "Room")
fault_row FieldRange = (11, codes "FieldRange")
fault_row Memory = (12, codes "Memory")
