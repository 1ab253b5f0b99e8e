use Rattle.tc_link.proofs.Common.{◌≡◌, drop, take, AllByRecursion, IsEvent, new_sim, run_from}
use Rattle.tc_link.proofs.sim.runs.run.Given as goal

abbrev pub invariant-events : goal.invariant-events
invariant-events l =
    record {
      ran : run_from l.sim (drop l.event-index l.events)
          ≡ run_from (new_sim l.fn.config) l.fn.events;
      octets : AllByRecursion IsEvent (take l.event-index l.events);
    }
