-- The worlds that a run leads to.
use Rattle.std.specs.Prelude.{◌≡◌, ◌<◌, List, IfSome}
use Rattle.std.specs.List.{AllByRecursion}
use Rattle.cop1.specs.declared.vocabulary.Directive.{Directive}
use Rattle.cop1.specs.FopDirective.{vs_carried}
use Rattle.nodes.specs.declared.config.Config.{Config}
use Rattle.nodes.specs.declared.event.Event.{Event}
use Rattle.nodes.specs.declared.event.Event.TheVariants as events
use Rattle.nodes.specs.Parameters.{IsConfig}
use Rattle.simulated_link.specs.World.{World, new_world, world_run}

-- the number that a directive carries for V(S) is an octet, and so is that of a resumption
abbrev pub IsDirective : Directive → Type 0
IsDirective directive = IfSome (vs_carried directive) (λ vs. vs < 256)

abbrev pub IsEvent : Event → Type 0
IsEvent (events.Directive directive) = IsDirective directive
IsEvent (events.Resume value) = value < 256
IsEvent _ = Unit {0}

-- a run of events leads from a new world to this one
pub record IsReached (w : World) : Type 0 where
  pub config : Config
  pub ranges : IsConfig config
  pub events : List Event
  pub octets : AllByRecursion IsEvent events
  pub led : world_run (new_world config) events ≡ w
