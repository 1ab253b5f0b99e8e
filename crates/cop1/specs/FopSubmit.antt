-- How the sender takes a unit (this project's profile of CCSDS 232.1-B-2, 5.2.2).
use Rattle.std.specs.Prelude.{Option, Some, None, Result, Ok, Err}
use Rattle.cop1.specs.declared.fault.CopFault.{CopFault}
use Rattle.cop1.specs.declared.fault.CopFault.TheVariants.{NotOpen, Busy}
use Rattle.cop1.specs.declared.vocabulary.FopMode.{FopMode}
use Rattle.cop1.specs.declared.vocabulary.FopMode.TheVariants.{S6}
use Rattle.cop1.specs.FopVariables.{Store, SenderOf, OutcomeOf}

module _ {H : Store} where
  abbrev pub takes : SenderOf H → OutcomeOf H (Result (Unit {0}) CopFault)
  takes s = record { after = s; answer = Ok tt; gone = 0 }

  abbrev pub comes_back : SenderOf H → CopFault → OutcomeOf H (Result (Unit {0}) CopFault)
  comes_back s fault = record { after = s; answer = Err fault; gone = 0 }

  -- rules 2 and 3 of a submission: the wait queue holds at most one unit
  abbrev pub waits_behind : SenderOf H → H.One → Option H.One
      → OutcomeOf H (Result (Unit {0}) CopFault)
  waits_behind s u None = takes (record s { waiting = H.one_waits u })
  waits_behind s u (Some before) = comes_back s Busy

  -- rule 1 of a submission: no unit is taken in S6
  abbrev pub submit_in : SenderOf H → H.One → FopMode → OutcomeOf H (Result (Unit {0}) CopFault)
  submit_in s u S6 = comes_back s NotOpen
  submit_in s u _ = waits_behind s u (H.waiting_one s.waiting)

  abbrev pub submit_step : SenderOf H → H.One → OutcomeOf H (Result (Unit {0}) CopFault)
  submit_step s u = submit_in s u s.state
