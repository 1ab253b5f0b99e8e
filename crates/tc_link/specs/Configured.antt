-- Which managed parameters both nodes read, and which only one of them reads.
use Rattle.std.specs.Prelude.{◌≡◌}
use Rattle.nodes.specs.declared.config.Config.{Config}
use Rattle.nodes.specs.Ground.{GroundState, GroundOutcome, GroundEvent, new_ground, ground_step}
use Rattle.nodes.specs.Parameters.{IsConfig}
use Rattle.nodes.specs.Spacecraft.{SpacecraftState, SpacecraftOutcome, SpacecraftEvent}
use Rattle.nodes.specs.Spacecraft.{new_spacecraft, spacecraft_step}

-- one configuration made of both: the slots on board are the spacecraft's, and everything else is
-- the ground's
abbrev pub made_of : Config → Config → Config
made_of at_ground on_board = record at_ground {
  ready_slots = on_board.ready_slots;
  bypass_slots = on_board.bypass_slots;
}

-- the spacecraft's configuration, with the ground's values of the fields that only the ground reads
abbrev pub seen_on_board : Config → Config → Config
seen_on_board at_ground on_board = record on_board {
  window = at_ground.window;
  limit = at_ground.limit;
  timer = at_ground.timer;
  part = at_ground.part;
  queue_slots = at_ground.queue_slots;
}

-- the configurations agree in the fields that both nodes read, which are all other fields
abbrev pub AreAlike : Config → Config → Type 0
AreAlike at_ground on_board = seen_on_board at_ground on_board ≡ made_of at_ground on_board

-- a node with another configuration, and its answers then
abbrev pub ground_with : Config → GroundState → GroundState
ground_with c s = record s { config = c }

abbrev pub ground_outcome_with : {A : Type 0} → Config → GroundOutcome A → GroundOutcome A
ground_outcome_with c o = record { answer = o.answer; after = ground_with c o.after }

abbrev pub spacecraft_with : Config → SpacecraftState → SpacecraftState
spacecraft_with c s = record s { config = c }

abbrev pub spacecraft_outcome_with : {A : Type 0} → Config → SpacecraftOutcome A
    → SpacecraftOutcome A
spacecraft_outcome_with c o = record { answer = o.answer; after = spacecraft_with c o.after }

-- a node answers each call as with another configuration, and its state afterwards is the same
-- except for its configuration
pub record IsGroundAs (own other : Config) : Type 0 where
  pub new : new_ground own ≡ ground_with own (new_ground other)
  pub steps : (s : GroundState) (event : GroundEvent)
      → ground_step (ground_with own s) event
      ≡ ground_outcome_with own (ground_step (ground_with other s) event)

pub record IsSpacecraftAs (own other : Config) : Type 0 where
  pub new : new_spacecraft own ≡ spacecraft_with own (new_spacecraft other)
  pub steps : (s : SpacecraftState) (event : SpacecraftEvent)
      → spacecraft_step (spacecraft_with own s) event
      ≡ spacecraft_outcome_with own (spacecraft_step (spacecraft_with other s) event)

-- two nodes that are configured alike behave as two with one configuration
pub record IsAsOne (at_ground on_board : Config) : Type 0 where
  pub ranges : IsConfig at_ground → IsConfig on_board → IsConfig (made_of at_ground on_board)
  pub as_ground : IsGroundAs at_ground (made_of at_ground on_board)
  pub as_spacecraft : IsSpacecraftAs on_board (made_of at_ground on_board)

abbrev pub AlikeIsAsOne : Type 0
AlikeIsAsOne =
    (at_ground on_board : Config) → AreAlike at_ground on_board → IsAsOne at_ground on_board
