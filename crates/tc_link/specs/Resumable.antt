-- Which resumptions are refused: exactly those that are not possible, in terms of what a program
-- sees of a ground.
use Rattle.std.specs.Prelude.{◌≡◌, ◌≤◌, ◌⊎◌, ◌↔◌, ◌&&◌, ℕ, List, [], ◌∷◌, Bool, true, false, not}
use Rattle.std.specs.Prelude.{if◌then◌else◌, IsSome, IsOk, IfErr, Ok}
use Rattle.cop1.specs.Modulo.{ahead_by}
use Rattle.cop1.specs.FopDirective.{is_initiation}
use Rattle.cop1.specs.declared.vocabulary.Directive.{Directive}
use Rattle.cop1.specs.declared.vocabulary.Directive.TheVariants.{SetVs}
use Rattle.nodes.specs.declared.config.Config.{Config}
use Rattle.nodes.specs.declared.fault.LinkFault.TheVariants.{NotKnown}
use Rattle.nodes.specs.Fates.{shows_one}
use Rattle.nodes.specs.Ground.{GroundState, GroundEvent, GroundAnswer, Direct, Resume, ground_step}
use Rattle.nodes.specs.Ground.{new_ground, is_closed, known_on_board}
use Rattle.nodes.specs.KeptGround.{opened_at}
use Rattle.nodes.specs.declared.ground_node.kept.KeptGround.{KeptGround}
use Rattle.tc_link.specs.Repeated.{ground_run}
use Rattle.tc_link.specs.Silent.{alert_of}

-- Whether a session is known once a directive was obeyed: an initiation begins one, and once V(S)
-- is set none is known.
abbrev pub known_past : Bool → Directive → Bool
known_past known (SetVs x) = false
known_past known directive = if is_initiation directive then true else known

-- Whether a session is known once a call was answered: a resumption that is accepted begins one,
-- and after an alert that shows a broken condition none is known.
abbrev pub known_after : Bool → (event : GroundEvent) → GroundAnswer event → Bool
known_after known (Direct directive) (Ok alert) = known_past known directive
known_after known (Resume value) (Ok whole) = true
known_after known event answer = not (shows_one (alert_of event answer)) && known

-- after all these calls
abbrev pub known_by : Bool → GroundState → List GroundEvent → Bool
known_by known s [] = known
known_by known s (event ∷ more) =
    known_by (known_after known event (ground_step s event).answer) (ground_step s event).after more

-- the value lies from NN(R) to V(S), or these are equal
abbrev pub MayBeReported : GroundState → ℕ → Type 0
MayBeReported s value =
    (s.fop.vs ≡ s.fop.nn) ⊎ (ahead_by value s.fop.nn ≤ ahead_by s.fop.vs s.fop.nn)

pub record KnowsExactly (s : GroundState) (known : Bool) (value : ℕ) : Type 0 where
  -- the ground returns how many submissions are on board exactly if a session is known and the
  -- value may be that of one of its CLCWs
  pub says : IsSome (known_on_board s value) ↔ (known ≡ true) × MayBeReported s value
  -- it resumes exactly if it returns such a number in S6
  pub resumes : IsOk (ground_step s (Resume value)).answer
      ↔ (is_closed s.fop.state ≡ true) × IsSome (known_on_board s value)
  -- otherwise it refuses, and is as it was
  pub refuses : IfErr (ground_step s (Resume value)).answer
      (λ fault. (fault ≡ NotKnown) × ((ground_step s (Resume value)).after ≡ s))

-- this holds after any calls, whether a session is known at first or not
abbrev pub KnowsAfterCalls : GroundState → Bool → Type 0
KnowsAfterCalls s known =
    (calls : List GroundEvent) (value : ℕ)
    → KnowsExactly (ground_run s calls) (known_by known s calls) value

-- This holds of each ground. In a new ground no session is known at first. In a ground that is
-- opened from a record, one is known at first exactly if the record has `known`.
pub record EachKnowsExactly : Type 0 where
  pub fresh : (c : Config) → KnowsAfterCalls (new_ground c) false
  pub opened : (c : Config) (kept : KeptGround) → KnowsAfterCalls (opened_at c kept) kept.known
