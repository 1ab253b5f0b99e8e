-- The ground of a program in C: what a call returns, and what the program holds afterwards.
use Rattle.std.specs.Prelude.{◌≡◌, ◌≢◌, ℕ, ◌⊎◌, length, Option, Some, None, option_map, IfSome}
use Rattle.std.specs.Prelude.{Result, Ok, Err}
use Rattle.std.specs.Option.{unwrap_or}
use Rattle.cop1.specs.declared.vocabulary.Directive.{Directive}
use Rattle.cop1.specs.declared.vocabulary.FopMode.{FopMode}
use Rattle.cop1.specs.declared.vocabulary.FopMode.TheVariants.{S1, S2, S3, S4, S5, S6}
use Rattle.cop1.specs.declared.vocabulary.Alert.{Alert}
use Rattle.cop1.specs.declared.fault.CopFault.{CopFault}
use Rattle.cop1.specs.Faults.{fault_row as cop_row}
use Rattle.cop1.specs.Units.{due_units}
use Rattle.nodes.specs.Ground.{GroundState, GroundEvent, Direct, Resume, ground_step, outstanding}
use Rattle.nodes.specs.Ground.{sent_beyond, unsent_segments}
use Rattle.nodes.specs.Fates.{submitted, whole_with}
use Rattle.nodes.specs.declared.fault.LinkFault.{LinkFault}
use Rattle.nodes.specs.Faults.{fault_row}
use Rattle.sedgechisel_nodes.specs.declared.readings.GroundReading.{GroundReading}
use Rattle.sedgechisel_nodes.specs.Calls.{closed}

-- the ground after a call, if there is one
abbrev pub stepped : Option GroundState → GroundEvent → Option GroundState
stepped old event = option_map (λ s. (ground_step s event).after) old

abbrev pub number_of : Result (Unit {0}) LinkFault → ℕ
number_of (Ok x) = 0
number_of (Err fault) = (fault_row fault).0

-- the number of the refusal; without one 0, or 6 if memory ran out
abbrev pub IsAnswer : Option LinkFault → ℕ → Type 0
IsAnswer None answer = (answer ≡ 0) ⊎ (answer ≡ 6)
IsAnswer (Some fault) answer = answer ≡ (fault_row fault).0

-- what a call that submits returns, and the ground before and after it
pub record IsSubmission (fault : GroundState → Option LinkFault) (event : GroundEvent)
    (old new : Option GroundState) (answer : ℕ) : Type 0 where
  pub none : old ≡ None → answer ≡ closed
  pub answer_is : IfSome old (λ s. IsAnswer (fault s) answer)
  pub after : answer ≡ 0 → new ≡ stepped old event
  pub unchanged : answer ≢ 0 → new ≡ old

-- the answer to a directive: 0, or the number of the sender's refusal
abbrev pub directed_number : Result (Option Alert) CopFault → ℕ
directed_number (Ok alert) = 0
directed_number (Err fault) = (cop_row fault).0

abbrev pub directive_answer : Option GroundState → Directive → ℕ
directive_answer None directive = closed
directive_answer (Some s) directive = directed_number (ground_step s (Direct directive)).answer

-- what a call with a directive returns, and the ground before and after it; a call that names no
-- directive changes nothing
pub record IsDirected (named : Option Directive) (old new : Option GroundState) (answer : ℕ)
    : Type 0 where
  pub answer_is : answer ≡ unwrap_or (option_map (directive_answer old) named) closed
  pub after : new ≡ unwrap_or (option_map (λ d. stepped old (Direct d)) named) old

-- the return value and the output of a call that resumes
abbrev pub IsResumption : Result ℕ LinkFault → ℕ → ℕ → ℕ → Type 0
IsResumption (Ok whole) answer v v' = (answer ≡ 0) × (v' ≡ whole)
IsResumption (Err fault) answer v v' = (answer ≡ (fault_row fault).0) × (v' ≡ v)

pub record IsResumed (value : ℕ) (old new : Option GroundState) (answer v v' : ℕ) : Type 0 where
  pub none : old ≡ None → (answer ≡ closed) × (v' ≡ v)
  pub answer_is : IfSome old
      (λ s. IsResumption (ground_step s (Resume value)).answer answer v v')
  pub after : new ≡ stepped old (Resume value)

-- the sender's state (CCSDS 232.1-B-2, 5.1)
abbrev pub mode_number : FopMode → ℕ
mode_number mode = elim mode [ S1 ↦ 1 | S2 ↦ 2 | S3 ↦ 3 | S4 ↦ 4 | S5 ↦ 5 | S6 ↦ 6 ]

abbrev pub reading_of : GroundState → GroundReading
reading_of s = record {
  submitted = submitted s.fates;
  sent_whole = whole_with (sent_beyond s) s.fates;
  acknowledged_whole = whole_with 0 s.fates;
  outstanding = length (outstanding s);
  unsent = length (unsent_segments s);
  due = length (due_units s.fop.sent);
  bypassed = length s.fop.bypass;
  frame_length = s.config.frame_length;
  ticks = unwrap_or s.fop.ticks 0;
  state = mode_number s.fop.state;
  vs = s.fop.vs;
  nn = s.fop.nn;
  count = s.fop.count;
}
