use Rattle.std.specs.Prelude.{◌-◌}
use Rattle.stream_commands.proofs.listed.list_lines.Given as goal

-- the length of the frames is the one in the arguments
abbrev pub ghosts-list_telemetry : goal.ghosts-list_telemetry
ghosts-list_telemetry g a = record { payload = a.size - 12 }
