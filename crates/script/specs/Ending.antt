-- How a script ends, and all answers to it.
use Rattle.std.specs.Prelude.{◌≡◌, ℕ, List, [], Option, Some, None}
use Rattle.nodes.specs.Parameters.{config_fault}
use Rattle.simulated_link.specs.World.{new_world}
use Rattle.script.specs.declared.check.ScriptFault.{ScriptFault}
use Rattle.script.specs.declared.check.ScriptFault.TheVariants as faults
use Rattle.script.specs.Scripts.{script_in, unreadable_line, config_in, cause_at}
use Rattle.script.specs.Player.{answers_from}

pub data Ending : Type 0 where
  -- it is run to its end
  Good : Ending
  -- this line is the first unreadable one
  Unreadable : ℕ → Ending
  -- this field of the configuration is the first one out of range
  OutOfRange : List ℕ → Ending

-- an unreadable line takes precedence over a field that is out of range
abbrev pub ending_by_faults : Option ℕ → Option (List ℕ) → Ending
ending_by_faults (Some line) field = Unreadable line
ending_by_faults None (Some field) = OutOfRange field
ending_by_faults None None = Good

abbrev pub script_ending : List ℕ → Ending
script_ending script = ending_by_faults (unreadable_line script) (config_fault (config_in script))

-- a fault states how a script ends, and why
abbrev pub Explains : ScriptFault → List ℕ → Type 0
Explains (faults.Unreadable line cause) script =
    (script_ending script ≡ Unreadable line) × (cause.now ≡ cause_at script line)
Explains (faults.OutOfRange field) script = script_ending script ≡ OutOfRange field.now

-- a script is run if there is no fault
abbrev pub Ends : Option ScriptFault → List ℕ → Type 0
Ends None script = script_ending script ≡ Good
Ends (Some fault) script = Explains fault script

-- a script is run if all its lines are readable and its configuration is in range
abbrev pub text_if_good : Ending → List ℕ → List ℕ
text_if_good Good script = answers_from (new_world (config_in script)) (script_in script)
text_if_good ending script = []

-- all lines that are written for a script
abbrev pub script_text : List ℕ → List ℕ
script_text script = text_if_good (script_ending script) script
