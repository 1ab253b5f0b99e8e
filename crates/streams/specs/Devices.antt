-- The effects of calls on a device: of one call, and of a function that makes several.
use Rattle.std.specs.Prelude.{◌≡◌, ℕ, Bool, true, ◌==◌, ◌&&◌, not, if◌then◌else◌, Option, List, []}
use Rattle.std.specs.Prelude.{length, take, Result, Ok, Err, ◌+◌, ◌++◌, drop, OnOk, OnErr}
use Rattle.std.specs.Io.KnownBytes.{IsAtEnd}
use Rattle.std.specs.declared.io.Error.{Error}
use Rattle.streams.specs.declared.device_log.DeviceLog.{DeviceLog}
use Rattle.streams.specs.declared.device_log.Call.{Call}
use Rattle.streams.specs.declared.device_log.Call.TheVariants.{Moved, Failed}
use Rattle.streams.specs.declared.output.WriteFailed.{WriteFailed}
use Rattle.streams.specs.declared.fault.StreamFault.{StreamFault}
use Rattle.streams.specs.declared.fault.StreamFault.TheVariants.{Read, Write}
use Rattle.octets.specs.Beginning.{IsBeginning}

-- What one call of a device did.

-- the octets of a buffer that a call moved
abbrev pub taken : Result ℕ Error → List ℕ → List ℕ
taken (Ok count) octets = take count octets
taken (Err e) octets = []

-- a read that moved no octet has found the end
abbrev pub EndsOrNot : Result ℕ Error → Bool → Type 0
EndsOrNot (Ok count) ended = ended ≡ (count == 0)
EndsOrNot (Err e) ended = Unit {0}

-- the last read that did not fail found the end, and nothing remains if what remains is known
abbrev pub HasEnded : Bool → Option (List ℕ) → Type 0
HasEnded ended remaining = (ended ≡ true) × IsAtEnd remaining

-- 1 if a read failed, and otherwise 0
abbrev pub read_failed : Result ℕ Error → ℕ
read_failed (Ok count) = 0
read_failed (Err e) = 1

-- 1 if a write failed, and otherwise 0; a write fails if it returns an error, or takes nothing of a
-- text that is not empty
abbrev pub write_failed : Result ℕ Error → List ℕ → ℕ
write_failed (Ok count) text = if (count == 0) && not (length text == 0) then 1 else 0
write_failed (Err e) text = 1

-- What the log of a device records.

-- these octets went through, the device is at its end or not, and this many calls failed
pub record IsLogOf (log : DeviceLog) (octets : List ℕ) (ended : Bool) (failures : ℕ) : Type 0 where
  pub went_through : log.octets ≡ octets
  pub at_end : log.has_ended ≡ ended
  pub failed : log.failures ≡ failures

-- What the calls of a device did: reads, which take octets from it, or writes, which pass octets to
-- it.

-- the octets that went through, after one more call
abbrev pub octets_with : List ℕ → Call → List ℕ
octets_with before (Moved octets) = before ++ octets.now
octets_with before Failed = before

-- whether the last call that did not fail moved no octet
abbrev pub ended_with : Bool → Call → Bool
ended_with before (Moved octets) = length octets.now == 0
ended_with before Failed = before

-- how many calls failed, after one more call
abbrev pub failures_with : ℕ → Call → ℕ
failures_with before (Moved octets) = before
failures_with before Failed = before + 1

-- How many calls of a device failed in a function with this result: one if the result is the
-- device's fault, and otherwise none.

abbrev pub failed_in : Result (Unit {0}) WriteFailed → ℕ
failed_in (Ok _) = 0
failed_in (Err _) = 1

abbrev pub writes_failed : StreamFault → ℕ
writes_failed Write = 1
writes_failed fault = 0

abbrev pub reads_failed_in : {A : Type 0} → Result A StreamFault → ℕ
reads_failed_in (Err Read) = 1
reads_failed_in result = 0

abbrev pub writes_failed_in : {A : Type 0} → Result A StreamFault → ℕ
writes_failed_in (Ok _) = 0
writes_failed_in (Err fault) = writes_failed fault

-- What a device has given after what it had given before.

abbrev pub gained : List ℕ → List ℕ → List ℕ
gained before now = drop (length before) now

-- What a call writes to a device.

-- if the call succeeds, the device has taken these octets after those that it had
abbrev pub Writes : {T E : Type 0} → Result T E → List ℕ → List ℕ → List ℕ → Type 0
Writes result before now octets = OnOk result (now ≡ before ++ octets)

-- if it fails, the device has taken a beginning of them
abbrev pub BeginsToWrite : {T E : Type 0} → Result T E → List ℕ → List ℕ → List ℕ → Type 0
BeginsToWrite result before now octets = OnErr result (IsBeginning now (before ++ octets))
