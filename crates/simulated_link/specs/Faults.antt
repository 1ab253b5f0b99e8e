-- The faults of a simulated link, one row each.
use Rattle.std.specs.Prelude.{ℕ, List, codes}
use Rattle.simulated_link.specs.declared.fault.SimFault.{SimFault}
use Rattle.simulated_link.specs.declared.fault.SimFault.TheVariants.{Memory, NothingInTransit}
use Rattle.simulated_link.specs.declared.fault.SimFault.TheVariants.{NotDetectable, Config}

-- the fault's number, and its name in ASCII
abbrev pub fault_row : SimFault → ℕ × List ℕ
fault_row Memory = (6, codes "Memory")
fault_row NothingInTransit = (7, codes "NothingInTransit")
fault_row NotDetectable = (8, codes "NotDetectable")
fault_row (Config field) = (9, codes "Config")
