-- Command packets (CCSDS 133.0-B-2, 4.1.3.3).
use Rattle.std.specs.Prelude.{ℕ, List, map, Bool, true, false, not, ◌&&◌, Result, Ok, Err}
use Rattle.std.specs.Prelude.{Option, Some, None, if◌then◌else◌}
use Rattle.std.specs.List.{list_all}
use denote.Bor.{Bor}
use Rattle.space_packet.specs.declared.fault.PacketFault.{PacketFault}
use Rattle.space_packet.specs.declared.packet.PacketKind.{PacketKind}
use Rattle.space_packet.specs.declared.packet.PacketKind.TheVariants.{Telemetry, Telecommand}
use Rattle.space_packet.specs.Layout.{PacketView, is_idle_apid}
use Rattle.space_packet.specs.Decoding.{packet_at}
use Rattle.map_service.specs.Packets.{packets_in, are_taken, is_some_over}
use Rattle.map_service.specs.declared.limits.Limits.{Limits}
use Rattle.nodes.specs.declared.fault.LinkFault.{LinkFault}
use Rattle.nodes.specs.declared.fault.LinkFault.TheVariants.{NotCommand, TooLong}

abbrev pub is_telecommand : PacketKind → Bool
is_telecommand Telemetry = false
is_telecommand Telecommand = true

-- a telecommand packet that is not idle
abbrev pub is_command_packet : PacketView → Bool
is_command_packet p = is_telecommand p.kind && not (is_idle_apid p.apid)

abbrev pub finds_command : Result (PacketView × ℕ) PacketFault → Bool
finds_command (Ok p) = is_command_packet p.0
finds_command (Err e) = false

-- the octets begin with a command packet
abbrev pub is_command : List ℕ → Bool
is_command octets = finds_command (packet_at octets)

-- exactly one command packet or, with blocking, one or more
abbrev pub are_commands : Bool → List ℕ → Bool
are_commands blocking octets = are_taken blocking octets && list_all is_command (packets_in octets)

-- why octets are refused whatever state the ground is in
abbrev pub commands_fault : Limits → List ℕ → Option LinkFault
commands_fault limits octets =
    if not (are_commands limits.blocking octets) then Some NotCommand
    else if is_some_over limits.max_packet (packets_in octets) then Some TooLong
    else None

-- the octets of slices, without their places in memory
abbrev pub slices_view : List (Bor (List ℕ)) → List (List ℕ)
slices_view slices = map (λ slice. slice.now) slices
