-- A node that is run line by line: the answer to each line, and the node after it. The node is made
-- at the first line that asks something of it.
use Rattle.std.specs.Prelude.{ℕ, List, [], ◌∷◌, ◌++◌, codes, Bool, true, false, Option, Some, None}
use Rattle.std.specs.Prelude.{if◌then◌else◌}
use Rattle.nodes.specs.declared.config.Config.{Config}
use Rattle.nodes.specs.declared.parameter.Parameter.{Parameter}
use Rattle.nodes.specs.Parameters.{default_config, with_value, config_fault}
use Rattle.streams.specs.Player.{Playing}
use Rattle.node_lines.specs.declared.player.NodePlayer.{NodePlayer}
use Rattle.node_lines.specs.declared.player.NodePlayer.TheVariants.{Configured, Made}
use Rattle.node_lines.specs.Causes.{cause_in}
use Rattle.node_lines.specs.Lines.{AskView, LineView, Skipped, Setting, Asking, Helping, Unreadable}
use Rattle.node_lines.specs.Lines.{line_in}
use Rattle.node_lines.specs.Nodes.{NodeRules, Turn, is_of_a_link}

-- why an ask that a node does not take is unreadable; an event of the link belongs to no node
abbrev pub other_cause : AskView → List ℕ → List ℕ → List ℕ
other_cause ask line others = if is_of_a_link ask then cause_in line else others

-- the answer to a line, with its line feed, the player after it, and whether the line was good
pub record LineOutcome (S : Type 0) : Type 0 where
  pub answer : List ℕ
  pub after : NodePlayer S
  pub is_good : Bool

module _ {S : Type 0} where
  -- no answer
  abbrev pub silent : NodePlayer S → LineOutcome S
  silent p = record { answer = []; after = p; is_good = true }

  -- an unreadable line, for this cause
  abbrev pub unreadable : List ℕ → NodePlayer S → LineOutcome S
  unreadable cause p =
      record { answer = codes "unreadable: " ++ (cause ++ 10 ∷ []); after = p; is_good = false }

  -- this field is out of range, and no node is made
  abbrev pub out_of_range : Config → List ℕ → LineOutcome S
  out_of_range c field = record {
    answer = codes "config out of range: " ++ (field ++ 10 ∷ []);
    after = Configured c;
    is_good = false;
  }

  -- the node answers
  abbrev pub answered : Turn S → LineOutcome S
  answered turn =
      record { answer = turn.answer ++ 10 ∷ []; after = Made turn.after; is_good = true }

  -- settings come before the node is made
  abbrev pub set_step : NodePlayer S → Parameter → ℕ → LineOutcome S
  set_step (Configured c) parameter n = silent (Configured (with_value c parameter n))
  set_step (Made s) parameter n =
      unreadable (codes "it is config after other lines") (Made s)

  module _ (rules : NodeRules S) where
    -- the node is made from a configuration whose fields are in range, and is asked this
    abbrev pub made_step : Config → Option (List ℕ) → (S → Turn S) → LineOutcome S
    made_step c None turn = answered (turn (rules.new c))
    made_step c (Some field) turn = out_of_range c field

    -- an ask that such a node does not take is unreadable, for this cause
    abbrev pub asked_step : List ℕ → NodePlayer S → Option (S → Turn S) → LineOutcome S
    asked_step cause p None = unreadable cause p
    asked_step cause (Configured c) (Some turn) = made_step c (config_fault c) turn
    asked_step cause (Made s) (Some turn) = answered (turn s)

    -- the lines that the node reads, on one line
    abbrev pub helped : NodePlayer S → LineOutcome S
    helped p =
        record { answer = codes "lines: " ++ (rules.lines ++ 10 ∷ []); after = p; is_good = true }

    -- a line, by its meaning
    abbrev pub line_step : NodePlayer S → List ℕ → LineView → LineOutcome S
    line_step p line Skipped = silent p
    line_step p line (Setting parameter n) = set_step p parameter n
    line_step p line (Asking ask) =
        asked_step (other_cause ask line rules.others) p (rules.asked ask)
    line_step p line Helping = helped p
    line_step p line Unreadable = unreadable (cause_in line) p

    -- a line of text, without its line feed
    abbrev pub text_step : NodePlayer S → List ℕ → LineOutcome S
    text_step p line = line_step p line (line_in line)

    abbrev pub node_playing : Playing (NodePlayer S)
    node_playing = record {
      answer = λ p line. (text_step p line).answer;
      after = λ p line. (text_step p line).after;
      is_good = λ p line. (text_step p line).is_good;
    }

-- a player whose node is not made yet
abbrev pub fresh_player : {S : Type 0} → NodePlayer S
fresh_player = Configured default_config
