-- The rules over units as one function: each state and input has one outcome.
use Rattle.std.specs.Prelude.{[], ◌∷◌, ◌++◌, Option, Result, Ok, Err}
use Rattle.clcw.specs.declared.word.Clcw.{Clcw}
use Rattle.cop1.specs.declared.fault.CopFault.{CopFault}
use Rattle.cop1.specs.declared.vocabulary.Alert.{Alert}
use Rattle.cop1.specs.declared.vocabulary.Directive.{Directive}
use Rattle.cop1.specs.FopSubmit.{takes, submit_step}
use Rattle.cop1.specs.FopDirective.{directive_step}
use Rattle.cop1.specs.FopPull.{PulledUnit, pull_step}
use Rattle.cop1.specs.FopReport.{clcw_step}
use Rattle.cop1.specs.FopTick.{tick_step}
use Rattle.cop1.specs.Units.{FopState, FopOutcome}

pub data FopInput (U : Type 0) : Type 0 where
  Submit : (unit : U) → FopInput U
  Bypass : (unit : U) → FopInput U
  Direct : (directive : Directive) → FopInput U
  Pull : FopInput U
  Report : (report : Clcw) → FopInput U
  Tick : FopInput U

-- the type of the answer to an input
abbrev pub Answer : {U : Type 0} → FopInput U → Type 0
Answer {U = U} (Submit unit) = Result (Unit {0}) (CopFault × U)
Answer {U = U} (Bypass unit) = Result (Unit {0}) (CopFault × U)
Answer (Direct directive) = Result (Option Alert) CopFault
Answer {U = U} Pull = PulledUnit U
Answer (Report report) = Option Alert
Answer Tick = Option Alert

module _ {U : Type 0} where
  -- a unit that is not taken is returned with the fault
  abbrev pub with_unit : U → Result (Unit {0}) CopFault → Result (Unit {0}) (CopFault × U)
  with_unit u (Ok x) = Ok tt
  with_unit u (Err fault) = Err (fault, u)

  abbrev pub handing_back : U → FopOutcome U (Result (Unit {0}) CopFault)
      → FopOutcome U (Result (Unit {0}) (CopFault × U))
  handing_back u o = record { after = o.after; answer = with_unit u o.answer; gone = o.gone }

  -- the bypass queue takes units in any state (CCSDS 232.1-B-2, 5.2.3)
  abbrev pub bypass_step : FopState U → U → FopOutcome U (Result (Unit {0}) (CopFault × U))
  bypass_step s u = handing_back u (takes (record s { bypass = s.bypass ++ u ∷ [] }))

  abbrev pub fop_step : (s : FopState U) (input : FopInput U) → FopOutcome U (Answer input)
  fop_step s (Submit unit) = handing_back unit (submit_step s unit)
  fop_step s (Bypass unit) = bypass_step s unit
  fop_step s (Direct directive) = directive_step s directive
  fop_step s Pull = pull_step s
  fop_step s (Report report) = clcw_step s report
  fop_step s Tick = tick_step s
