-- The refusals of a ledger, one row each.
use Rattle.std.specs.Prelude.{ℕ, List, codes}
use Rattle.command_ledger.specs.declared.fault.LedgerFault.{LedgerFault}
use Rattle.command_ledger.specs.declared.fault.LedgerFault.TheVariants.{Layout, Check, FieldRange}
use Rattle.command_ledger.specs.declared.fault.LedgerFault.TheVariants.{TooLong, NoNumber, NotLost}
use Rattle.command_ledger.specs.declared.fault.LedgerFault.TheVariants.{NoBoot, Owing, Memory}

-- the number, and the name in ASCII
abbrev pub fault_row : LedgerFault → ℕ × List ℕ
fault_row Layout = (1, codes "Layout")
fault_row Check = (2, codes "Check")
fault_row FieldRange = (3, codes "FieldRange")
fault_row TooLong = (4, codes "TooLong")
fault_row NoNumber = (5, codes "NoNumber")
fault_row NotLost = (6, codes "NotLost")
fault_row NoBoot = (7, codes "NoBoot")
fault_row Owing = (8, codes "Owing")
fault_row Memory = (9, codes "Memory")
