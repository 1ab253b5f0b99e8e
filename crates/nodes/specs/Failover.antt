-- The ground that is opened with another ground's record: what it knows, how it resumes, and the
-- ground that results.
use Rattle.std.specs.Prelude.{◌≡◌, ℕ, ◌/◌, [], true, Ok}
use Rattle.cop1.specs.declared.vocabulary.Directive.TheVariants.{Terminate, SetVs, InitUnlock}
use Rattle.cop1.specs.Units.{IsFop}
use Rattle.tm_link.specs.Extractor.{new_extractor}
use Rattle.nodes.specs.declared.config.Config.{Config}
use Rattle.nodes.specs.Fates.{whole_with}
use Rattle.nodes.specs.Ground.{GroundState, new_ground, is_closed, sent_beyond, known_on_board}
use Rattle.nodes.specs.Ground.{ground_step, Direct, Resume}
use Rattle.nodes.specs.KeptGround.{kept_of, opened_at, whole_sent}
use Rattle.std.specs.Prelude.{take}

-- the ground that is opened with this ground's record, under the same configuration
abbrev pub failed_over : GroundState → GroundState
failed_over s = opened_at s.config (kept_of s)

-- the ground after Terminate; in S6 Terminate is refused and changes nothing
abbrev pub terminated : GroundState → GroundState
terminated s = (ground_step s (Direct Terminate)).after

-- The ground without bypass packets and telemetry, with the configured window, limit and timer, and
-- with transmission count 1. Its bookkeeping covers only the submissions that were sent whole.
abbrev pub emptied : GroundState → GroundState
emptied s = record s {
  fop = record s.fop {
    bypass = [];
    window = s.config.window;
    limit = s.config.limit;
    timer = s.config.timer;
    count = 1;
  };
  extractor = new_extractor;
  telemetry = [];
  fates = record s.fates { left = take (whole_sent s) s.fates.left };
}

-- The invariant of a ground: its sender satisfies `IsFop` and has room for half of the
-- configured width, and in S6 nothing is pending.
pub record IsGround (s : GroundState) : Type 0 where
  pub fop : IsFop s.fop
  pub room : s.fop.room ≡ s.config.width / 2
  pub pending : is_closed s.fop.state ≡ true → s.pending ≡ []

-- a new ground after V(S) is set to this value and a session begins with Unlock
abbrev pub begun_at : Config → ℕ → GroundState
begun_at c value =
    let set : GroundState = (ground_step (new_ground c) (Direct (SetVs value))).after in
    (ground_step set (Direct InitUnlock)).after

-- the opened ground continues as the original ground would
pub record GoesOnAs (s : GroundState) : Type 0 where
  -- it equals the original ground after Terminate, emptied
  pub is : IsGround s → failed_over s ≡ emptied (terminated s)
  -- it returns the same counts of submissions as the original ground
  pub sent : whole_with (sent_beyond (failed_over s)) (failed_over s).fates
      ≡ whole_with (sent_beyond s) s.fates
  pub acknowledged : whole_with 0 (failed_over s).fates ≡ whole_with 0 s.fates
  pub known : (value : ℕ) → known_on_board (failed_over s) value ≡ known_on_board s value
  -- its answer to a resumption is that of the original ground after Terminate
  pub resumes : (value : ℕ) → (ground_step (failed_over s) (Resume value)).answer
      ≡ (ground_step (terminated s) (Resume value)).answer
  -- if it resumes, it is then a new ground with V(S) set to the value and a session by Unlock
  pub begins : (value whole : ℕ)
      → (ground_step (failed_over s) (Resume value)).answer ≡ Ok whole
      → (ground_step (failed_over s) (Resume value)).after ≡ begun_at s.config value

-- every ground's record has this property
abbrev pub EachGoesOn : Type 0
EachGoesOn = (s : GroundState) → GoesOnAs s
