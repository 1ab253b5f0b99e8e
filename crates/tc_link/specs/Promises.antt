-- What is promised at every moment of a run.
use Rattle.std.specs.Prelude.{◌≡◌, List, ◌∷◌, ◌++◌}
use Rattle.std.specs.List.{AllByRecursion}
use Rattle.nodes.specs.declared.config.Config.{Config}
use Rattle.nodes.specs.Parameters.{IsConfig}
use Rattle.nodes.specs.declared.event.Event.{Event}
use Rattle.tc_link.specs.Accepted.{SaysWhatWasAccepted}
use Rattle.tc_link.specs.Confirmation.{IsChecking, ConfirmsExactly, IsConfirmedExactly}
use Rattle.tc_link.specs.FalseAlarms.{HasNoFalseAlarm}
use Rattle.tc_link.specs.History.{HasPlainHistory, GoesOnByAStep}
use Rattle.tc_link.specs.InOrder.{IsInOrder}
use Rattle.tc_link.specs.InTransit.{KeepsToWindow}
use Rattle.tc_link.specs.Known.{SetsNoNumber, MovesWithRecords}
use Rattle.tc_link.specs.Reached.{IsEvent}
use Rattle.tc_link.specs.Readable.{AllReadable}
use Rattle.tc_link.specs.Whole.{DeliversWhole}
use Rattle.simulated_link.specs.World.{World, new_world, world_step, world_run, IsClean, IsIdle}
use Rattle.simulated_link.specs.World.{IsSettled, BeginsNoSession, directive_of}

-- of a world, in a session that had an idle start
pub record IsPromised (w : World) : Type 0 where
  pub in_order : IsInOrder w
  pub whole : DeliversWhole w
  pub history : HasPlainHistory w
  pub window : KeepsToWindow w
  pub confirmed : IsConfirmedExactly w
  pub says : SaysWhatWasAccepted w

-- of an event in such a session
pub record IsPromisedOf (w : World) (event : Event) : Type 0 where
  -- once the session is settled, and while it lasts
  pub history : IsSettled w → BeginsNoSession w event → GoesOnByAStep w (world_step w event).after
  -- V(S) and NN(R) change only with the records, at an alert too
  pub numbers : BeginsNoSession w event → SetsNoNumber w event
      → MovesWithRecords w (world_step w event).after
  -- in a session begun by CLCW check, Unlock or Set V(R)
  pub confirms : IsChecking (directive_of w) → ConfirmsExactly w (world_step w event).after
  pub no_false_alarm : IsChecking (directive_of w) → HasNoFalseAlarm w event

-- of a world, and of the next event
pub record HoldsAt (w : World) (event : Event) : Type 0 where
  -- in a session that began clean
  pub clean : IsClean w → IsPromised w × IsPromisedOf w event
  -- in any other session that had an idle start, as one that began clean had
  pub from_idle : IsIdle w → IsPromised w × IsPromisedOf w event
  pub clean_is_idle : IsClean w → IsIdle w
  -- in any session, each frame in transit can be read
  pub readable : AllReadable w

-- this holds in the world that each prefix of a list of events leads to, and of the next event
abbrev pub HoldsThroughout : Config → List Event → Type 0
HoldsThroughout c events =
    (before after : List Event) (event : Event) → events ≡ before ++ event ∷ after
    → HoldsAt (world_run (new_world c) before) event

-- for every configuration in its ranges and every list of events
abbrev pub HoldsOfAllRuns : Type 0
HoldsOfAllRuns =
    (c : Config) (events : List Event) → IsConfig c → AllByRecursion IsEvent events
    → HoldsThroughout c events
