-- How a script that arrives in pieces is taken: nothing is written before it has ended.
use Rattle.std.specs.Prelude.{◌≡◌, ◌++◌, length, Option}
use Rattle.streams.specs.Pieces.{Taking}
use Rattle.script.specs.declared.check.ScriptFault.{ScriptFault}
use Rattle.script.specs.declared.run.Script.{Script}
use Rattle.script.specs.Ending.{Ends, script_text}

abbrev pub script_taking : Taking Script (Unit {0}) (Option ScriptFault)
script_taking = record {
  text = λ s k octets. script_text (s.octets.items ++ octets);
  ends = λ s k n octets fault last. Ends fault (s.octets.items ++ octets);
  so_far = λ s k octets before now. now ≡ before;
  stops = λ s k octets. ⊥;
  is_open = λ s k n. length s.octets.items ≡ n;
}
