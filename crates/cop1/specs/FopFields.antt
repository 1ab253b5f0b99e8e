-- How a sender's fields represent its state: its numbers and its queues.
use Rattle.std.specs.Prelude.{◌≤◌}
use Rattle.cop1.specs.declared.fop.Fop.TheInside.{Inside}
use Rattle.cop1.specs.Units.{FopState}
use Rattle.cop1.specs.Queues.{Queues, Fits, with_queues}
use Rattle.cop1.specs.Numbers.{IsSender}

module _ {U : Type 0} where
  abbrev pub queues_of : Inside U → Queues U
  queues_of f = record { waiting = f.waiting; units = f.sent.items; bypass = f.bypass.items }

  abbrev pub fop_state_of : Inside U → FopState U
  fop_state_of f = with_queues f.sender (queues_of f)

-- what holds of the fields
pub record IsSound {U : Type 0} (f : Inside U) : Type 0 where
  pub sender : IsSender f.sender
  pub fits : Fits f.sender (queues_of f)
  pub room : f.sender.room ≤ f.sent.capacity
