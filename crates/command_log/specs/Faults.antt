-- The faults of the command log, one row each.
use Rattle.std.specs.Prelude.{ℕ, List, codes}
use Rattle.command_log.specs.declared.fault.LogFault.{LogFault}
use Rattle.command_log.specs.declared.fault.LogFault.TheVariants.{Layout, Check, Starting, Busy}
use Rattle.command_log.specs.declared.fault.LogFault.TheVariants.{Lost}
use Rattle.command_log.specs.declared.fault.LogFault.TheVariants.{Behind, Ahead, OtherBoot, NotLost}
use Rattle.command_log.specs.declared.fault.LogFault.TheVariants.{OtherMark, FieldRange, Room}

-- the number, and the name in ASCII
abbrev pub fault_row : LogFault → ℕ × List ℕ
fault_row Layout = (1, codes "Layout")
fault_row Check = (2, codes "Check")
fault_row Starting = (3, codes "Starting")
fault_row Busy = (4, codes "Busy")
fault_row Lost = (5, codes "Lost")
fault_row Behind = (6, codes "Behind")
fault_row Ahead = (7, codes "Ahead")
fault_row OtherBoot = (8, codes "OtherBoot")
fault_row NotLost = (9, codes "NotLost")
fault_row OtherMark = (10, codes "OtherMark")
fault_row FieldRange = (11, codes "FieldRange")
fault_row Room = (12, codes "Room")
