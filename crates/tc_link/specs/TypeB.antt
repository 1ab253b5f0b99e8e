-- What FARM-B counts: the Type-B frames that arrive on board (CCSDS 232.1-B-2, 6.1.8). So a program
-- sees in a CLCW that a bypass packet or a control command arrived.
use Rattle.std.specs.Prelude.{◌≡◌, ℕ, ◌+◌, ◌%◌, List, [], ◌∷◌, Result, Ok}
use Rattle.std.specs.List.{AllByRecursion}
use Rattle.nodes.specs.Spacecraft.{spacecraft_receive}
use Rattle.nodes.specs.declared.event.Event.{Event}
use Rattle.nodes.specs.declared.event.Event.TheVariants as events
use Rattle.nodes.specs.declared.received.Received.{Received}
use Rattle.nodes.specs.declared.received.Received.TheVariants.{Bypass, Control}
use Rattle.simulated_link.specs.declared.fault.SimFault.{SimFault}
use Rattle.simulated_link.specs.Replies.{ReplyView, Up}
use Rattle.simulated_link.specs.World.{World, world_step}
use Rattle.tc_link.specs.AnyPast.{LinkStep, Happens, Receives, NewSpacecraft, HasAnyPast}
use Rattle.tc_link.specs.AnyPast.{link_step, link_run}

-- whether a Type-B frame arrived, according to the spacecraft's answer: 1 or 0
abbrev pub type_b_in : Received → ℕ
type_b_in (Bypass kept) = 1
type_b_in (Control command) = 1
type_b_in _ = 0

abbrev pub type_b_by : Event → Result ReplyView SimFault → ℕ
type_b_by events.UpDeliver (Ok (Up received)) = type_b_in received
type_b_by _ _ = 0

-- how many arrive by a step of a run, from the link or from outside
abbrev pub type_b_at : World → LinkStep → ℕ
type_b_at w (Happens event) = type_b_by event (world_step w event).answer
type_b_at w (Receives octets) = type_b_in (spacecraft_receive w.spacecraft octets).answer
type_b_at w _ = 0

-- how many arrive by these steps
abbrev pub type_b : World → List LinkStep → ℕ
type_b w [] = 0
type_b w (step ∷ more) = type_b_at w step + type_b (link_step w step) more

-- no new spacecraft replaces this one
abbrev pub KeepsSpacecraft : LinkStep → Type 0
KeepsSpacecraft (NewSpacecraft kept) = ⊥
KeepsSpacecraft _ = Unit {0}

-- Since any moment, after any past: FARM-B is what it was then plus the number of Type-B frames
-- that have arrived since, modulo 4.
abbrev pub CountsTypeB : Type 0
CountsTypeB =
    (w : World) (since : List LinkStep) → HasAnyPast w → AllByRecursion KeepsSpacecraft since
    → (link_run w since).spacecraft.farm.farm_b ≡ (w.spacecraft.farm.farm_b + type_b w since) % 4
