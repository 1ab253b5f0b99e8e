-- The faults of space packets, one row each.
use Rattle.std.specs.Prelude.{ℕ, List, codes}
use Rattle.space_packet.specs.declared.fault.PacketFault.{PacketFault}
use Rattle.space_packet.specs.declared.fault.PacketFault.TheVariants.{Truncated, Version}
use Rattle.space_packet.specs.declared.fault.PacketFault.TheVariants.{IdleWithSecondary, Room}
use Rattle.space_packet.specs.declared.fault.PacketFault.TheVariants.{FieldRange, Memory}

-- the number, and the name in ASCII
abbrev pub fault_row : PacketFault → ℕ × List ℕ
fault_row Truncated = (1, codes "Truncated")
fault_row Version = (2, codes "Version")
fault_row IdleWithSecondary = (3, codes "IdleWithSecondary")
fault_row Room = (4, codes "Room")
fault_row FieldRange = (5, codes "FieldRange")
fault_row Memory = (6, codes "Memory")
