use Rattle.std.proofs.Common.{◌≡◌, ◌+◌, ◌-◌, ◌≤◌, ◌++◌, length, take, drop}
use Rattle.std.specs.VecDeque.{deque_len, deque_capacity}
use Rattle.command_ledger.specs.State.{fates, less}
use Rattle.command_ledger.proofs.state.pass.Given as goal

abbrev pub invariant-loop-passed : goal.invariant-loop-passed
invariant-loop-passed l =
    record {
      number : l.number ≡ l.below + l._passed;
      room : deque_len l.tells + (l.count - l._passed) ≤ deque_capacity l.tells;
      there : length l.commands.items + l._passed ≡ length l.fn.commands.items;
      commands : drop (l.count - l._passed) l.commands.items ≡ drop l.count l.fn.commands.items;
      tells :
          l.tells.items ++ fates l.kept l.doubt (l.number + 1) (take (l.count - l._passed) l.commands.items)
          ≡ l.fn.tells.items ++ fates l.kept l.doubt (l.below + 1) (take l.count l.fn.commands.items);
      live :
          less l.left (take (l.count - l._passed) l.commands.items)
          ≡ less l.live (take l.count l.fn.commands.items);
    }
