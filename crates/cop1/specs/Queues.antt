-- A sender of units consists of the sender's numbers and three queues. The rules over numbers
-- decide each input, and their answer determines how the queues change.
use Rattle.std.specs.Prelude.{◌≡◌, ℕ, Bool, true, false, nat_lt, List, [], ◌∷◌, ◌++◌, length, drop}
use Rattle.std.specs.Prelude.{is_some, slice_get, Option, Some, None, Result, Ok}
use Rattle.std.specs.Prelude.{Err}
use Rattle.circular_buffer.specs.Buffer.{keep_last}
use Rattle.cop1.specs.Modulo.{ahead_by}
use Rattle.cop1.specs.declared.fault.CopFault.{CopFault}
use Rattle.cop1.specs.declared.sender.pull.SenderNext.{SenderNext}
use Rattle.cop1.specs.declared.sender.pull.SenderNext.TheVariants as sends
use Rattle.cop1.specs.declared.fop.pull.Next.{Next}
use Rattle.cop1.specs.declared.fop.pull.Next.TheVariants as next
use Rattle.cop1.specs.FopVariables.{held_by}
use Rattle.cop1.specs.FopSubmit.{takes, comes_back, submit_step}
use Rattle.cop1.specs.FopDirective.{directive_step}
use Rattle.cop1.specs.FopPull.{PulledUnit, NothingPulled, ControlPulled, BypassPulled, pulls}
use Rattle.cop1.specs.FopReport.{clcw_step}
use Rattle.cop1.specs.FopTick.{tick_step}
use Rattle.cop1.specs.Units.{SentUnit, units, FopState, FopOutcome}
use Rattle.cop1.specs.UnitsNext.{seen_at, sequence_at}
use Rattle.cop1.specs.UnitsStep as fop
use Rattle.cop1.specs.UnitsStep.{FopInput, Answer, handing_back, bypass_step, fop_step}
use Rattle.cop1.specs.Numbers.{TheWaiting, SenderNumbers, SenderOutcome, IsSender}
use Rattle.cop1.specs.NumbersStep.{is_due, next_step}

-- the wait queue of one unit, the units that are sent and those of the bypass queue, the oldest
-- first
pub record Queues (U : Type 0) : Type 0 where
  pub waiting : Option U
  pub units : List U
  pub bypass : List U

module _ {U : Type 0} where
  -- the units, with the last `due` of them marked
  abbrev pub marked_last : ℕ → List U → List (SentUnit U)
  marked_last due [] = []
  marked_last due (u ∷ us) =
      record { unit = u; marked = nat_lt (length us) due } ∷ marked_last due us

  -- the sender of units that these numbers and queues represent
  abbrev pub with_queues : SenderNumbers → Queues U → FopState U
  with_queues s q = held_by (units U) s q.waiting (marked_last s.sent.due q.units) q.bypass

  -- the numbers show whether a unit waits, and how many units are sent
  pub record Fits (s : SenderNumbers) (q : Queues U) : Type 0 where
    pub waiting : is_some q.waiting ≡ s.waiting
    pub units : length q.units ≡ s.sent.count

  -- ---- after a CLCW, a tick or a directive

  -- the unit that waits, if it still does
  abbrev pub still_waiting : Bool → Option U → Option U
  still_waiting true waiting = waiting
  still_waiting false waiting = None

  -- the queues, after the units that the numbers no longer count are released
  abbrev pub trimmed : SenderNumbers → Queues U → Queues U
  trimmed s q =
      record q {
        waiting = still_waiting s.waiting q.waiting;
        units = keep_last s.sent.count q.units;
      }

  abbrev pub trims : {A : Type 0} → Queues U → SenderOutcome A → FopOutcome U A
  trims q o =
      record { after = with_queues o.after (trimmed o.after q); answer = o.answer; gone = o.gone }

  -- ---- after something is sent on the link

  -- the oldest bypass unit, unless a control command is due, which is sent first
  abbrev pub first_bypass : Bool → List U → Option U
  first_bypass true bypass = None
  first_bypass false [] = None
  first_bypass false (u ∷ us) = Some u

  -- the unit that waits moves to the end of the units sent
  abbrev pub with_first : Option U → List U → List U
  with_first None units = units
  with_first (Some u) units = units ++ u ∷ []

  -- the queues, after this is sent on the link
  abbrev pub waiting_after : SenderNext → Option U → Option U
  waiting_after (sends.First number) waiting = None
  waiting_after _ waiting = waiting

  abbrev pub units_after : SenderNext → Option U → List U → List U
  units_after (sends.First number) waiting units = with_first waiting units
  units_after _ waiting units = units

  abbrev pub taken_from : SenderNext → Queues U → Queues U
  taken_from sends q =
      record q {
        waiting = waiting_after sends q.waiting;
        units = units_after sends q.waiting q.units;
      }

  -- a unit is as far from the oldest as its number is from NN(R)
  abbrev pub next_at : ℕ → SenderNext → Next U
  next_at nn sends.Nothing = next.Nothing
  next_at nn (sends.Control command) = next.Control command
  next_at nn (sends.First number) = next.Sequence number (ahead_by number nn)
  next_at nn (sends.Again number) = next.Sequence number (ahead_by number nn)

  abbrev pub pulled : SenderOutcome SenderNext → Queues U → FopOutcome U (PulledUnit U)
  pulled o q =
      pulls (with_queues o.after (taken_from o.answer q))
      (seen_at (taken_from o.answer q).units (next_at o.after.nn o.answer))

  -- What would be pulled, if this unit waits and these were sent. A unit that was sent is as far
  -- from the oldest as its number is from NN(R).
  abbrev pub peeked_at : ℕ → SenderNext → Option U → List U → PulledUnit U
  peeked_at nn sends.Nothing waiting units = NothingPulled
  peeked_at nn (sends.Control command) waiting units = ControlPulled command
  peeked_at nn (sends.First number) waiting units = sequence_at number waiting
  peeked_at nn (sends.Again number) waiting units =
      sequence_at number (slice_get units (ahead_by number nn))

  -- ---- any input

  -- a submitted unit waits, unless the numbers refuse it
  abbrev pub submitted : Queues U → U → SenderNumbers → Result (Unit {0}) CopFault
      → FopOutcome U (Result (Unit {0}) (CopFault × U))
  submitted q u s (Ok x) = handing_back u (takes (with_queues s (record q { waiting = Some u })))
  submitted q u s (Err fault) = handing_back u (comes_back (with_queues s q) fault)

  abbrev pub pulled_by : SenderNumbers → Queues U → Option U → FopOutcome U (PulledUnit U)
  pulled_by s q None = pulled (next_step s) q
  pulled_by s q (Some u) =
      pulls (with_queues s (record q { bypass = drop 1 q.bypass })) (BypassPulled u)

  abbrev pub by_rules : SenderNumbers → Queues U → (input : FopInput U)
      → FopOutcome U (Answer input)
  by_rules s q (fop.Submit unit) =
      submitted q unit (submit_step s TheWaiting).after (submit_step s TheWaiting).answer
  by_rules s q (fop.Bypass unit) = bypass_step (with_queues s q) unit
  by_rules s q (fop.Direct directive) = trims q (directive_step s directive)
  by_rules s q fop.Pull = pulled_by s q (first_bypass (is_due s.control) q.bypass)
  by_rules s q (fop.Report report) = trims q (clcw_step s report)
  by_rules s q fop.Tick = trims q (tick_step s)

-- The numbers suffice: for any input, a sender of units follows the rules over numbers, and their
-- answer determines how its queues change.
abbrev pub FollowsTheRules : Type 0 → Type 0
FollowsTheRules U = (s : SenderNumbers) (q : Queues U) → IsSender s → Fits s q
    → (input : FopInput U) → fop_step (with_queues s q) input ≡ by_rules s q input
