-- How the fields of a simulation represent its state.
use Rattle.std.specs.Prelude.{map}
use Rattle.octets.specs.Outcome.{map_ok}
use Rattle.tc_link.specs.declared.sim.Sim.TheInside.{Inside}
use Rattle.simulated_link.specs.Replies.{reply_view}
use Rattle.tc_link.specs.Reached.{IsReached}
use Rattle.tc_link.specs.Simulation.{SimState}

abbrev pub state_of : Inside → SimState
state_of s = record { world = s.world; answers = map (λ a. map_ok reply_view a) s.answers.items }

-- the link is as a run of events has left it
abbrev pub IsSound : Inside → Type 0
IsSound s = IsReached s.world
