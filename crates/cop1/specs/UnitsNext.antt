-- What is pulled, as the code returns it.
use Rattle.std.specs.Prelude.{ℕ, ◌<◌, List, length, map, slice_get, Option, Some, None}
use denote.Bor.{Bor}
use Rattle.cop1.specs.Units.{SentUnit}
use Rattle.cop1.specs.FopPull.{PulledUnit, NothingPulled, ControlPulled, BypassPulled}
use Rattle.cop1.specs.FopPull.{SequencePulled}
use Rattle.cop1.specs.declared.fop.pull.Next.{Next}
use Rattle.cop1.specs.declared.fop.pull.Next.TheVariants as next
use Rattle.cop1.specs.declared.fop.pull.Pulled.{Pulled}
use Rattle.cop1.specs.declared.fop.pull.Pulled.TheVariants as pulled

module _ {U : Type 0} where
  -- the units of a sent queue
  abbrev pub units_of : List (SentUnit U) → List U
  units_of sent = map (λ u. u.unit) sent

  abbrev pub sequence_at : ℕ → Option U → PulledUnit U
  sequence_at number None = NothingPulled
  sequence_at number (Some u) = SequencePulled number u

  -- what is pulled, if these are the units of the sent queue
  abbrev pub seen_at : List U → Next U → PulledUnit U
  seen_at units next.Nothing = NothingPulled
  seen_at units (next.Control command) = ControlPulled command
  seen_at units (next.Bypass unit) = BypassPulled unit
  seen_at units (next.Sequence number place) = sequence_at number (slice_get units place)

  -- a unit that is given by its place is in the sent queue
  abbrev pub IsPlaced : List U → Next U → Type 0
  IsPlaced units next.Nothing = Unit {0}
  IsPlaced units (next.Control command) = Unit {0}
  IsPlaced units (next.Bypass unit) = Unit {0}
  IsPlaced units (next.Sequence number place) = place < length units

  -- what is pulled, with each unit itself instead of what represents it
  abbrev pub seen_by : {B : Type 0} → (B → U) → Pulled U B → PulledUnit U
  seen_by unit_of pulled.Nothing = NothingPulled
  seen_by unit_of (pulled.Control command) = ControlPulled command
  seen_by unit_of (pulled.Bypass unit) = BypassPulled (unit_of unit)
  seen_by unit_of (pulled.Sequence number unit) = SequencePulled number unit.now

  abbrev pub pulled_view : Pulled U U → PulledUnit U
  pulled_view = seen_by (λ unit. unit)

  abbrev pub peeked_view : Pulled U (Bor U) → PulledUnit U
  peeked_view = seen_by (λ unit. unit.now)
