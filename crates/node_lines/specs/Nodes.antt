-- What any node does with what lines ask of it.
use Rattle.std.specs.Prelude.{ℕ, List, [], ◌≡◌, Option, Some, None, Result, String, OnOk, Bool}
use Rattle.std.specs.Prelude.{true, false}
use Rattle.octets.specs.Beginning.{Appends}
use Rattle.nodes.specs.declared.event.Event.TheVariants as events
use Rattle.nodes.specs.declared.config.Config.{Config}
use Rattle.nodes.specs.Steps.{Outcome}
use Rattle.node_lines.specs.Lines.{AskView, Happening}

-- the text of a node's answer, without the end of the line, and the node after it
abbrev pub Turn : Type 0 → Type 0
Turn S = Outcome S (List ℕ)

-- how a node is run: the node that a configuration makes, and the outcome of each ask, if such a
-- node takes it
pub record NodeRules (S : Type 0) : Type 0 where
  pub new : Config → S
  pub asked : AskView → Option (S → Turn S)
  -- why an ask that such a node does not take is unreadable
  pub others : List ℕ
  -- the lines that it reads
  pub lines : List ℕ

-- an event on the link between two nodes
abbrev pub is_of_a_link : AskView → Bool
is_of_a_link (Happening events.UpDeliver) = true
is_of_a_link (Happening events.UpLose) = true
is_of_a_link (Happening (events.UpDamage octets)) = true
is_of_a_link (Happening events.DownDeliver) = true
is_of_a_link (Happening events.DownLose) = true
is_of_a_link (Happening (events.DownDamage octets)) = true
is_of_a_link (Happening events.DownClcw) = true
is_of_a_link ask = false

-- an answer that leaves the node as it was
abbrev pub told : {S : Type 0} → (S → List ℕ) → S → Turn S
told text_of s = record { answer = text_of s; after = s }

-- the outcome of an ask; nothing if it is for another node
abbrev pub turned : {S : Type 0} → Option (S → Turn S) → S → Turn S
turned (Some turn) s = turn s
turned None s = record { answer = []; after = s }

-- a call appends the answer to a text and leaves the node after it, unless memory runs out
pub record Takes {S T E Z : Type 0} (turn : Turn S) (result : Result T E)
    (before now : String Z) (after : S) : Type 0 where
  pub text : Appends result before now turn.answer
  pub node : OnOk result (after ≡ turn.after)
