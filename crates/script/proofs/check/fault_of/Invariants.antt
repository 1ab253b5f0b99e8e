use Rattle.std.proofs.Common.{◌≡◌, ◌+◌, ◌-◌, ◌≤◌, length, drop}
use Rattle.streams.specs.Lines.{parts_of}
use Rattle.script.specs.Scripts.{first_refused, script_in, unreadable_line, with_lines, config_in}
use Rattle.script.proofs.check.fault_of.Given as goal

-- the lines from here on lead to where all lines lead
abbrev pub invariant-lines : goal.invariant-lines
invariant-lines l = record {
  found : first_refused l.number l.seen.begun (script_in l.rest) ≡ unreadable_line l.fn.script;
  asked : with_lines l.seen.config (script_in l.rest) ≡ config_in l.fn.script;
  left : drop (l.number - 1) (parts_of l.fn.script) ≡ parts_of l.rest;
  some : 1 ≤ l.number;
  room : l.number + length l.rest ≤ length l.fn.script + 1;
}

abbrev pub decreases-lines : goal.decreases-lines
decreases-lines l = length l.rest
