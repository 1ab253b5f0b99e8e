-- A script that is run: the responses to its lines, and the text that is written for them.
use Rattle.std.specs.Prelude.{ℕ, zero, suc, ◌+◌, if◌then◌else◌, List, [], ◌∷◌, ◌++◌, length, codes}
use Rattle.std.specs.Prelude.{decimal, Option, Some, None, Result}
use Rattle.std.specs.List.{flat_map}
use Rattle.cop1.specs.Names.{fop_mode_name}
use Rattle.simulated_link.specs.declared.fault.SimFault.{SimFault}
use Rattle.simulated_link.specs.declared.session_start.Opening.{Opening}
use Rattle.nodes.specs.Ground.{outstanding}
use Rattle.simulated_link.specs.Replies.{ReplyView}
use Rattle.simulated_link.specs.World.{World, world_step, accepted, submitted, delivered}
use Rattle.node_lines.specs.Lines.{LineView, Asking, Happening, Show}
use Rattle.script.specs.Answers.{answer_text}

-- a response: the answer to an event, or the world at a show
pub data Response : Type 0 where
  ToEvent : Result ReplyView SimFault → Response
  ToShow : World → Response

-- the responses to a line of a script, from the world before it
abbrev pub line_responses : World → LineView → List Response
line_responses w (Asking (Happening event)) = ToEvent (world_step w event).answer ∷ []
line_responses w (Asking Show) = ToShow w ∷ []
line_responses w line = []

-- the world after a line; each event is a step of it
abbrev pub after_line : World → LineView → World
after_line w (Asking (Happening event)) = (world_step w event).after
after_line w line = w

-- the responses to the lines of a script, in their order
abbrev pub script_responses : World → List LineView → List Response
script_responses w [] = []
script_responses w (line ∷ more) =
    line_responses w line ++ script_responses (after_line w line) more

-- ---- one line of text for each

-- how the session began
abbrev pub clean_word : Option Opening → List ℕ
clean_word None = codes "none"
clean_word (Some opening) = if opening.clean then codes "yes" else codes "no"

-- how many packets there are on the MAPs below this one
abbrev pub count_below_map : (ℕ → List (List ℕ)) → ℕ → ℕ
count_below_map packets_on zero = 0
count_below_map packets_on (suc m) = count_below_map packets_on m + length (packets_on m)

-- how many packets there are on all 64 MAPs
unfoldable pub count_over_maps : (ℕ → List (List ℕ)) → ℕ
count_over_maps packets_on = count_below_map packets_on 64

-- the start and the state of the session, and its packets
abbrev pub packets_text : World → List ℕ
packets_text w =
    codes "clean=" ++ (clean_word w.session.opening
    ++ (codes " state=" ++ (fop_mode_name w.ground_node.fop.state
    ++ (codes " submitted=" ++ (decimal (count_over_maps (submitted w))
    ++ (codes " delivered=" ++ decimal (count_over_maps (delivered w))))))))

-- the frames
abbrev pub frames_text : World → List ℕ
frames_text w = codes " sent=" ++ (decimal (length w.session.sent)
    ++ (codes " accepted=" ++ decimal (length (accepted w))))

-- what is acknowledged
abbrev pub acknowledged_text : World → List ℕ
acknowledged_text w = codes " acknowledged=" ++ (decimal w.session.acknowledged
    ++ (codes " outstanding=" ++ decimal (length (outstanding w.ground_node))))

abbrev pub show_text : World → List ℕ
show_text w = packets_text w ++ (frames_text w ++ acknowledged_text w)

abbrev pub response_line : Response → List ℕ
response_line (ToEvent answer) = answer_text answer ++ 10 ∷ []
response_line (ToShow w) = show_text w ++ 10 ∷ []

-- the text that is written for a script that is run from this world on
abbrev pub answers_from : World → List LineView → List ℕ
answers_from w script = flat_map response_line (script_responses w script)
