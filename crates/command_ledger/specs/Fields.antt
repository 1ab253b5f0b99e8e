-- The state that the fields represent.
use Rattle.std.specs.Prelude.{◌+◌, ◌<◌, ◌^◌, length}
use Rattle.command_ledger.specs.declared.state.State.TheInside.{Inside}
use Rattle.command_ledger.specs.State.{State}

abbrev pub state_of : Inside → State
state_of s =
    record {
      standing = s.standing;
      commands = s.commands.items;
      tells = s.tells.items;
      live = s.live;
    }

-- no number is above the greatest one
abbrev pub IsSound : Inside → Type 0
IsSound s = s.standing.below + length s.commands.items < 2 ^ 32
