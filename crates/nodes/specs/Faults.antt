-- The faults of a node, one row each.
use Rattle.std.specs.Prelude.{ℕ, List, codes}
use Rattle.nodes.specs.declared.fault.LinkFault.{LinkFault}
use Rattle.nodes.specs.declared.fault.LinkFault.TheVariants.{NotOpen, ClosedMap, NotCommand}
use Rattle.nodes.specs.declared.fault.LinkFault.TheVariants.{TooLong, QueueFull, Memory, NotKnown}

-- the fault's number, and its name in ASCII
abbrev pub fault_row : LinkFault → ℕ × List ℕ
fault_row NotOpen = (1, codes "NotOpen")
fault_row ClosedMap = (2, codes "ClosedMap")
fault_row NotCommand = (3, codes "NotCommand")
fault_row TooLong = (4, codes "TooLong")
fault_row QueueFull = (5, codes "QueueFull")
fault_row Memory = (6, codes "Memory")
fault_row NotKnown = (10, codes "NotKnown")
