-- The simulated link as a node that is run line by line.
use Rattle.std.specs.Prelude.{codes, Option, Some, None}
use Rattle.simulated_link.specs.World.{new_world, world_step}
use Rattle.node_lines.specs.Lines.{AskView, Happening, Show}
use Rattle.node_lines.specs.Nodes.{NodeRules, Turn, told}
use Rattle.script.specs.declared.link_node.LinkNode.{LinkNode}
use Rattle.script.specs.Answers.{answer_text}
use Rattle.script.specs.Player.{show_text}

-- events are steps of the world, and its records are shown
abbrev pub link_asked : AskView → Option (LinkNode → Turn LinkNode)
link_asked (Happening event) = Some (λ link. record {
  answer = answer_text (world_step link.world event).answer;
  after = record { world = (world_step link.world event).after };
})
link_asked Show = Some (told (λ link. show_text link.world))
link_asked ask = None

abbrev pub link_rules : NodeRules LinkNode
link_rules = record {
  new = λ config. record { world = new_world config };
  asked = link_asked;
  others = codes "it is for one node alone";
  lines = codes "those of a script";
}
