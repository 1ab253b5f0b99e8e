-- The effect on the devices of a call that goes through a stream, by what contracts see of a
-- device.
use Rattle.std.specs.Prelude.{◌≡◌, ℕ, ◌+◌, ◌<◌, List, length, Option, Result, Err}
use Rattle.std.specs.Io.KnownBytes.{Consumes}
use Rattle.octets.specs.Beginning.{IsBeginning}
use Rattle.streams.specs.declared.fault.StreamFault.{StreamFault}
use Rattle.streams.specs.declared.fault.StreamFault.TheVariants.{TooLong}
use Rattle.streams.specs.declared.pieces.TheConstants.{MOST_OCTETS}
use Rattle.streams.specs.Devices.{reads_failed_in, writes_failed_in}
use Rattle.streams.specs.Devices.{gained}
use Rattle.streams.specs.Devices.{Writes, BeginsToWrite}

-- The effect on a source: what it has given, what remains if that is known, and how many reads
-- failed.
pub record Reads {R T : Type 0} (given : R → List ℕ) (remaining : R → Option (List ℕ))
    (failures : R → ℕ)
    (result : Result T StreamFault) (old new : R) : Type 0 where
  -- what it had given is a beginning of what it has given now
  pub goes_on : IsBeginning (given old) (given new)
  -- what it has given since no longer remains
  pub consumes : Consumes (remaining old) (remaining new) (gained (given old) (given new))
  -- a read that fails is the last
  pub failed : failures new ≡ failures old + reads_failed_in result
  pub too_long : result ≡ Err TooLong → MOST_OCTETS < length (gained (given old) (given new))

-- The effect on a sink: what it has taken, and how many writes failed.
pub record WritesText {W T : Type 0} (taken : W → List ℕ) (failures : W → ℕ)
    (result : Result T StreamFault)
    (old new : W) (text : List ℕ) : Type 0 where
  -- if the call succeeds, the sink has taken this text
  pub whole : Writes result (taken old) (taken new) text
  -- otherwise it has taken a beginning of the text
  pub beginning : BeginsToWrite result (taken old) (taken new) text
  -- a write that fails is the last
  pub failed : failures new ≡ failures old + writes_failed_in result
