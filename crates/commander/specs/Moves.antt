-- The effect of each call of a commander on its ledger and its ground. Only the ledger's own calls
-- change the ledger, and each packet that is submitted is in the ledger's store.
use Rattle.std.specs.Prelude.{◌≡◌, ◌⊎◌, ℕ, List, [], ◌∷◌, ⊤, Bool, Some, Result, Ok, Err, Option}
use Rattle.std.specs.List.{AllByRecursion}
use Rattle.command_log.specs.Status.{status_spelled}
use Rattle.command_ledger.specs.declared.fault.LedgerFault.{LedgerFault}
use Rattle.command_ledger.specs.declared.state.Tell.{Tell}
use Rattle.command_ledger.specs.State.{Entry}
use Rattle.command_ledger.specs.Waiting.{Waiting, sent_as}
use Rattle.command_ledger.specs.Ledger.{LedgerState, given, appended, appended_if, all_stored}
use Rattle.command_ledger.specs.Ledger.{packet_of, rebuild_of}
use Rattle.nodes.specs.Ground.{GroundState, GroundEvent, ground_step, Submit, Bypass, Direct}
use Rattle.nodes.specs.Ground.{Resume, Pull, Tick, Telemetry, ControlWord, TakeTelemetry}
use Rattle.nodes.specs.Ground.{ForgetTelemetry}
use Rattle.commander.specs.declared.commander.Commander.{Commander}
use Rattle.commander.specs.Commander.{after_tick, after_hearing, after_word, status_taken}
use Rattle.commander.specs.Commander.{first_heard, packet_taken, told}
use Rattle.commander.specs.Opened.{paused, restarting, stored, renewed}
use Rattle.commander.specs.Next.{owed, after_next}

-- ---- all calls that change a commander

pub data Call : Type 0 where
  Gives : (tag on_map apid count : ℕ) → (content : List ℕ) → Call
  Hears : (frame : List ℕ) → Call
  HearsWord : (octets : List ℕ) → Call
  HearsStatus : (octets : List ℕ) → Call
  Ticks : Call
  Next : Call
  Takes : Call
  Stored : (count : ℕ) → Call
  Renewed : (count : ℕ) → Call
  Told : (tell : Tell) → Call
  Pauses : (hold : Bool) → Call
  Restarts : Call
  Rebuilds : Call

abbrev pub rebuilt : Commander → Result (Option Entry) LedgerFault → Commander
rebuilt s (Ok e) = record s { ledger = appended_if s.ledger e }
rebuilt s (Err fault) = s

-- the commander after a call that is not refused
abbrev pub after_call : Commander → Call → Commander
after_call s (Gives tag on_map apid count content) =
    record s { ledger = given s.ledger tag on_map apid count content }
after_call s (Hears frame) = after_hearing s frame (ground_step s.ground_node (Telemetry frame))
after_call s (HearsWord octets) =
    after_word s octets (ground_step s.ground_node (ControlWord octets))
after_call s (HearsStatus octets) = status_taken s (status_spelled octets)
after_call s Ticks = after_tick s (ground_step s.ground_node Tick)
after_call s Next = after_next s (owed s)
after_call s Takes = packet_taken (first_heard s)
after_call s (Stored count) = stored s count
after_call s (Renewed count) = renewed s count
after_call s (Told tell) = told s tell
after_call s (Pauses hold) = paused s hold
after_call s Restarts = restarting s
after_call s Rebuilds = rebuilt s (rebuild_of s.ledger)

-- ---- the ledger

-- the ledger is unchanged, has one more entry, has all entries in the store, or has a fresh store
abbrev pub IsLedgerMove : LedgerState → LedgerState → Type 0
IsLedgerMove l m =
    (m ≡ l) ⊎ (((e : Entry) × (m ≡ appended l e))
    ⊎ ((m ≡ all_stored l) ⊎ ((count : ℕ) × (m ≡ record l { stored = count }))))

-- ---- the ground

abbrev pub ground_after : GroundState → List GroundEvent → GroundState
ground_after g [] = g
ground_after g (e ∷ es) = ground_after (ground_step g e).after es

-- the packet of a number is submitted on its MAP: the packet is in the store and has no fate
abbrev pub IsStored : LedgerState → GroundEvent → Type 0
IsStored l (Submit m octets) =
    (number : ℕ) × ((c : Waiting) × ((packet_of l number ≡ Some c) × (sent_as c ≡ (m, octets))))
IsStored l (Bypass m octets) = ⊤
IsStored l (Direct directive) = ⊤
IsStored l (Resume value) = ⊤
IsStored l Pull = ⊤
IsStored l Tick = ⊤
IsStored l (Telemetry octets) = ⊤
IsStored l (ControlWord octets) = ⊤
IsStored l TakeTelemetry = ⊤
IsStored l ForgetTelemetry = ⊤

-- ---- both

-- calls of the ledger and of the ground lead from one commander to the other, and each packet that
-- they submit is stored
pub record IsMove (s t : Commander) : Type 0 where
  pub ledger : IsLedgerMove s.ledger t.ledger
  pub events : List GroundEvent
  pub submits : AllByRecursion (IsStored s.ledger) events
  pub ground_node : t.ground_node ≡ ground_after s.ground_node events

abbrev pub EachCallIsAMove : Type 0
EachCallIsAMove = (s : Commander) (call : Call) → IsMove s (after_call s call)
