-- The faults of a CLCW, one row each.
use Rattle.std.specs.Prelude.{ℕ, List, codes}
use Rattle.clcw.specs.declared.fault.ClcwFault.{ClcwFault}
use Rattle.clcw.specs.declared.fault.ClcwFault.TheVariants.{Kind, Version, Cop, Spare, Range}

-- the number, and the name in ASCII
abbrev pub fault_row : ClcwFault → ℕ × List ℕ
fault_row Kind = (1, codes "Kind")
fault_row Version = (2, codes "Version")
fault_row Cop = (3, codes "Cop")
fault_row Spare = (4, codes "Spare")
fault_row Range = (5, codes "Range")
