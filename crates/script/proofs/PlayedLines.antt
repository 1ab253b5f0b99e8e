-- The simulated link, run as a node line by line, gives the answers of a script to its lines.
use Rattle.std.proofs.Common.{◌≡◌, ◌∙◌, ◌+◌, ◌++◌, ◌∷◌, [], ℕ, List, Option, Some, None, true, false, map}
use Rattle.std.proofs.Common.{refl, ap, sym}
use Rattle.nodes.specs.declared.config.Config.{Config}
use Rattle.nodes.specs.Parameters.{config_fault, with_value, default_config}
use Rattle.simulated_link.specs.World.{new_world, world_step}
use Rattle.streams.specs.Lines.{parts_of}
use Rattle.streams.specs.Player.{answers}
use Rattle.node_lines.specs.declared.player.NodePlayer.TheVariants.{Configured, Made}
use Rattle.node_lines.specs.Lines.{LineView, Skipped, Setting, Asking, Helping, Unreadable, Happening, Frame}
use Rattle.node_lines.specs.Lines.{ControlWord, Show, line_in}
use Rattle.node_lines.specs.Nodes.{Turn}
use Rattle.node_lines.specs.Player.{line_step, made_step, node_playing, fresh_player}
use Rattle.script.specs.declared.link_node.LinkNode.{LinkNode}
use Rattle.script.specs.LinkNode.{link_rules}
use Rattle.script.specs.Answers.{answer_text}
use Rattle.script.specs.Player.{answers_from, response_line, show_text, ToEvent, ToShow}
use Rattle.script.specs.Scripts.{first_refused, unreadable_line, config_in, with_lines}
use Rattle.script.specs.Ending as endings
use Rattle.script.specs.Ending.{Ending, script_ending, ending_by_faults, script_text, text_if_good, Explains}

-- the answers of a node to lines from here on
abbrev told : LinkNode → List (List ℕ) → Type 0
told link lines =
    answers (node_playing link_rules) (Made link) lines ≡ answers_from link.world (map line_in lines)

-- ---- once the link is made

made_line : (n : ℕ) (link : LinkNode) (line : List ℕ) (more : List (List ℕ)) (what : LineView)
    → ((next : LinkNode) → first_refused (n + 1) true (map line_in more) ≡ None → told next more)
    → first_refused n true (what ∷ map line_in more) ≡ None
    → (line_step link_rules (Made link) line what).answer
    ++ answers (node_playing link_rules) (line_step link_rules (Made link) line what).after more
    ≡ answers_from link.world (what ∷ map line_in more)
made_line n link line more Skipped on h = on link h
made_line n link line more (Setting parameter value) on h = cc h
made_line n link line more (Asking (Happening event)) on h =
    let step = world_step link.world event in
    ap (λ (t : List ℕ). response_line (ToEvent step.answer) ++ t) (on (record { world = step.after }) h)
made_line n link line more (Asking Show) on h =
    ap (λ (t : List ℕ). response_line (ToShow link.world) ++ t) (on link h)
made_line n link line more (Asking (Frame octets)) on h = cc h
made_line n link line more (Asking (ControlWord octets)) on h = cc h
made_line n link line more Helping on h = cc h
made_line n link line more Unreadable on h = cc h

made : (n : ℕ) (link : LinkNode) (lines : List (List ℕ)) → first_refused n true (map line_in lines) ≡ None
    → told link lines
made n link [] h = refl
made n link (line ∷ more) h = made_line n link line more (line_in line) (λ next. made (n + 1) next more) h

-- no setting follows an action
settled : (n : ℕ) (c : Config) (lines : List LineView) → first_refused n true lines ≡ None → with_lines c lines ≡ c
settled n c [] h = refl
settled n c (Skipped ∷ more) h = settled (n + 1) c more h
settled n c (Setting parameter value ∷ more) h = cc h
settled n c (Asking (Happening event) ∷ more) h = settled (n + 1) c more h
settled n c (Asking Show ∷ more) h = settled (n + 1) c more h
settled n c (Asking (Frame octets) ∷ more) h = cc h
settled n c (Asking (ControlWord octets) ∷ more) h = cc h
settled n c (Helping ∷ more) h = cc h
settled n c (Unreadable ∷ more) h = cc h

-- ---- before the link is made

-- the answers to lines of a player with this configuration
abbrev asked : Config → List (List ℕ) → List LineView → Type 0
asked c lines said =
    answers (node_playing link_rules) (Configured c) lines ≡ answers_from (new_world (with_lines c said)) said

-- the first action makes the link
acts : (n : ℕ) (c : Config) (more : List (List ℕ)) (turn : LinkNode → Turn LinkNode) (next : LinkNode)
    → first_refused (n + 1) true (map line_in more) ≡ None
    → config_fault (with_lines c (map line_in more)) ≡ None
    → (turn (link_rules.new c)).after ≡ next
    → (made_step link_rules c (config_fault c) turn).answer
    ++ answers (node_playing link_rules) (made_step link_rules c (config_fault c) turn).after more
    ≡ ((turn (link_rules.new c)).answer ++ 10 ∷ []) ++ answers_from next.world (map line_in more)
acts n c more turn next h good is =
    let same = settled (n + 1) c (map line_in more) h in
    let fits : config_fault c ≡ None = sym (ap config_fault same) ∙ good in
    rw (fits, is) (ap (λ (t : List ℕ). ((turn (link_rules.new c)).answer ++ 10 ∷ []) ++ t) (made (n + 1) next more h))

asked_line : (n : ℕ) (c : Config) (line : List ℕ) (more : List (List ℕ)) (what : LineView)
    → ((next : Config) → first_refused (n + 1) false (map line_in more) ≡ None
    → config_fault (with_lines next (map line_in more)) ≡ None → asked next more (map line_in more))
    → first_refused n false (what ∷ map line_in more) ≡ None
    → config_fault (with_lines c (what ∷ map line_in more)) ≡ None
    → (line_step link_rules (Configured c) line what).answer
    ++ answers (node_playing link_rules) (line_step link_rules (Configured c) line what).after more
    ≡ answers_from (new_world (with_lines c (what ∷ map line_in more))) (what ∷ map line_in more)
asked_line n c line more Skipped on h good = on c h good
asked_line n c line more (Setting parameter value) on h good = on (with_value c parameter value) h good
asked_line n c line more (Asking (Happening event)) on h good =
    let turn : LinkNode → Turn LinkNode = λ link. record {
      answer = answer_text (world_step link.world event).answer;
      after = record { world = (world_step link.world event).after };
    } in
    let same = settled (n + 1) c (map line_in more) h in
    acts n c more turn (record { world = (world_step (new_world c) event).after }) h good refl
    ∙ ap (λ (d : Config). answers_from (new_world d) (Asking (Happening event) ∷ map line_in more)) (sym same)
asked_line n c line more (Asking Show) on h good =
    let same = settled (n + 1) c (map line_in more) h in
    let turn : LinkNode → Turn LinkNode = λ link. record { answer = show_text link.world; after = link } in
    acts n c more turn (record { world = new_world c }) h good refl
    ∙ ap (λ (d : Config). answers_from (new_world d) (Asking Show ∷ map line_in more)) (sym same)
asked_line n c line more (Asking (Frame octets)) on h good = cc h
asked_line n c line more (Asking (ControlWord octets)) on h good = cc h
asked_line n c line more Helping on h good = cc h
asked_line n c line more Unreadable on h good = cc h

configured : (n : ℕ) (c : Config) (lines : List (List ℕ)) → first_refused n false (map line_in lines) ≡ None
    → config_fault (with_lines c (map line_in lines)) ≡ None → asked c lines (map line_in lines)
configured n c [] h good = refl
configured n c (line ∷ more) h good =
    asked_line n c line more (line_in line) (λ next. configured (n + 1) next more) h good

-- ---- a script that is run

no_faults : (line : Option ℕ) (field : Option (List ℕ)) → ending_by_faults line field ≡ endings.Good
    → (line ≡ None) × (field ≡ None)
no_faults None None e = (refl, refl)
no_faults (Some line) field e = cc e
no_faults None (Some field) e = cc e

pub plays : (script : List ℕ) → script_ending script ≡ endings.Good
    → answers (node_playing link_rules) fresh_player (parts_of script) ≡ script_text script
plays script good =
    let none = no_faults (unreadable_line script) (config_fault (config_in script)) good in
    configured 1 default_config (parts_of script) none.0 none.1
    ∙ ap (λ (e : Ending). text_if_good e script) (sym good)
