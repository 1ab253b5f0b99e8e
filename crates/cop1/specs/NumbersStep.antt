-- The rules over numbers as one function: each sender and input has one outcome.
use Rattle.std.specs.Prelude.{Bool, true, false, Option, Result}
use Rattle.clcw.specs.declared.word.Clcw.{Clcw}
use Rattle.cop1.specs.declared.fault.CopFault.{CopFault}
use Rattle.cop1.specs.declared.vocabulary.Alert.{Alert}
use Rattle.cop1.specs.declared.vocabulary.Control.{Control}
use Rattle.cop1.specs.declared.vocabulary.Control.TheVariants.{Idle, Due, Sent}
use Rattle.cop1.specs.declared.vocabulary.Directive.{Directive}
use Rattle.cop1.specs.declared.sender.report.ReportAnswer.{ReportAnswer}
use Rattle.cop1.specs.declared.sender.pull.SenderNext.{SenderNext}
use Rattle.cop1.specs.declared.sender.pull.SenderNext.TheVariants as next
use Rattle.cop1.specs.FopSubmit.{submit_step}
use Rattle.cop1.specs.FopDirective.{directive_step}
use Rattle.cop1.specs.FopPull.{PulledUnit, NothingPulled, ControlPulled, BypassPulled}
use Rattle.cop1.specs.FopPull.{SequencePulled, pull_step}
use Rattle.cop1.specs.FopReport.{clcw_step}
use Rattle.cop1.specs.FopTick.{tick_step}
use Rattle.cop1.specs.Numbers.{Which, TheWaiting, OneSent, SenderNumbers, SenderOutcome}

-- ---- what is sent on the link next, with a unit given by its number

-- a control command is due; it is sent before any unit
abbrev pub is_due : Control → Bool
is_due Idle = false
is_due (Due command) = true
is_due (Sent command) = false

abbrev pub next_of : PulledUnit Which → SenderNext
next_of NothingPulled = next.Nothing
next_of (ControlPulled command) = next.Control command
next_of (BypassPulled unit) = next.Nothing
next_of (SequencePulled number TheWaiting) = next.First number
next_of (SequencePulled number OneSent) = next.Again number

abbrev pub next_outcome : SenderOutcome (PulledUnit Which) → SenderOutcome SenderNext
next_outcome o = record { after = o.after; answer = next_of o.answer; gone = o.gone }

abbrev pub next_step : SenderNumbers → SenderOutcome SenderNext
next_step s = next_outcome (pull_step s)

-- ---- the answer to a CLCW

abbrev pub report_answer : SenderOutcome (Option Alert) → ReportAnswer
report_answer o = record { released = o.gone; alert = o.answer }

-- ---- all inputs

pub data SenderInput : Type 0 where
  Submit : SenderInput
  Direct : (directive : Directive) → SenderInput
  Next : SenderInput
  Report : (report : Clcw) → SenderInput
  Tick : SenderInput

-- the type of the answer to an input
abbrev pub SenderAnswer : SenderInput → Type 0
SenderAnswer Submit = Result (Unit {0}) CopFault
SenderAnswer (Direct directive) = Result (Option Alert) CopFault
SenderAnswer Next = SenderNext
SenderAnswer (Report report) = Option Alert
SenderAnswer Tick = Option Alert

abbrev pub sender_step : (s : SenderNumbers) (input : SenderInput)
    → SenderOutcome (SenderAnswer input)
sender_step s Submit = submit_step s TheWaiting
sender_step s (Direct directive) = directive_step s directive
sender_step s Next = next_step s
sender_step s (Report report) = clcw_step s report
sender_step s Tick = tick_step s
