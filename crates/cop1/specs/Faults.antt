-- The faults of the receiver and the sender, one row for each.
use Rattle.std.specs.Prelude.{ℕ, List, codes}
use Rattle.cop1.specs.declared.fault.CopFault.{CopFault}
use Rattle.cop1.specs.declared.fault.CopFault.TheVariants.{Width, Window, Limit, Timer, Memory}
use Rattle.cop1.specs.declared.fault.CopFault.TheVariants.{NotOpen, Busy, WrongState, State}

-- the number, and the name in ASCII
abbrev pub fault_row : CopFault → ℕ × List ℕ
fault_row Width = (1, codes "Width")
fault_row Window = (2, codes "Window")
fault_row Limit = (3, codes "Limit")
fault_row Timer = (4, codes "Timer")
fault_row Memory = (5, codes "Memory")
fault_row NotOpen = (6, codes "NotOpen")
fault_row Busy = (7, codes "Busy")
fault_row WrongState = (8, codes "WrongState")
fault_row State = (9, codes "State")
