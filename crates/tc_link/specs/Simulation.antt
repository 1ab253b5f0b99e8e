-- A simulated link, with the answers of a run.
use Rattle.std.specs.Prelude.{ℕ, List, [], ◌∷◌, ◌++◌, Option, Some, None, Result, Ok, Err}
use Rattle.nodes.specs.declared.config.Config.{Config}
use Rattle.nodes.specs.declared.event.Event.{Event}
use Rattle.simulated_link.specs.declared.fault.SimFault.{SimFault}
use Rattle.simulated_link.specs.declared.fault.SimFault.TheVariants as faults
use Rattle.simulated_link.specs.Replies.{ReplyView}
use Rattle.simulated_link.specs.World.{World, new_world, world_step, world_run, run_answers}

pub record SimState : Type 0 where
  pub world : World
  -- the answer to each event of the run
  pub answers : List (Result ReplyView SimFault)

abbrev pub new_sim : Config → SimState
new_sim c = record { world = new_world c; answers = [] }

abbrev pub sim_run : Config → List Event → SimState
sim_run c events = record {
  world = world_run (new_world c) events;
  answers = run_answers (new_world c) events;
}

-- the step of a run records its answer
abbrev pub record_step : SimState → Event → SimState
record_step s event = record {
  world = (world_step s.world event).after;
  answers = s.answers ++ (world_step s.world event).answer ∷ [];
}

abbrev pub run_from : SimState → List Event → SimState
run_from s [] = s
run_from s (event ∷ more) = run_from (record_step s event) more

-- the field of the configuration for which a call was refused
abbrev pub field_of : SimFault → Option (List ℕ)
field_of (faults.Config field) = Some field.now
field_of _ = None

abbrev pub refused_field : {A : Type 0} → Result A SimFault → Option (List ℕ)
refused_field (Ok made) = None
refused_field (Err fault) = field_of fault
