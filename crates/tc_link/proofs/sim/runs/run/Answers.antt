use Rattle.tc_link.proofs.Common.{◌≡◌, ◌≤◌, ℕ, List, [], ◌∷◌, ◌++◌, length, drop, ap, sym, ◌∙◌, append-nil}
use Rattle.tc_link.proofs.Common.{append_assoc, Config, Event, world_step, world_run, run_answers, SimState, run_from}
use Rattle.tc_link.proofs.Common.{new_sim, sim_run, subst, arith, AllByRecursion, take_all, IsEvent, IsReached}
use Rattle.std.proofs.Common.{Result, Ok, Err, None}
use Rattle.std.specs.Result.{IsErrAnd}
use Rattle.std.proofs.lemmas.List.{at_drop_all}
use Rattle.simulated_link.specs.declared.fault.SimFault.{SimFault}
use Rattle.simulated_link.specs.declared.fault.SimFault.TheVariants.{Memory}
use Rattle.tc_link.specs.Simulation.{record_step, refused_field, field_of}
use Rattle.std.proofs.lemmas.Grind.{common_steps}
use Rattle.nodes.proofs.InRange.{config_is}
use Rattle.tc_link.proofs.Promised.{readable_of, idle_of, promised, holds_throughout, one_more, reached_by}
use Rattle.tc_link.specs.Seen.{seen, IsPromisedOfSeen}
use Rattle.tc_link.proofs.Seen.{each_is_seen}
use Rattle.tc_link.proofs.sim.runs.run.Goals as goal

-- A run with its answers, from steps that record their answers.

from_is : (s : SimState) (events : List Event)
    → run_from s events ≡ record { world = world_run s.world events; answers = s.answers ++ run_answers s.world events }
from_is s [] = ap (λ answers. record s { answers = answers }) (sym (append-nil s.answers))
from_is s (event ∷ more) =
    from_is (record_step s event) more
    ∙ ap (λ answers. record { world = world_run (world_step s.world event).after more; answers = answers })
    (append_assoc s.answers ((world_step s.world event).answer ∷ [])
    (run_answers (world_step s.world event).after more))

run_is : (c : Config) (events : List Event) → run_from (new_sim c) events ≡ sim_run c events
run_is c events = from_is (new_sim c) events

-- after the last event
run_ends : (c : Config) (events : List Event) (s : SimState) (i : ℕ) → length events ≤ i
    → run_from s (drop i events) ≡ run_from (new_sim c) events → s ≡ sim_run c events
run_ends c events s i end led =
    sym (at_drop_all (λ (es : List Event). run_from s es) events i end) ∙ led ∙ run_is c events

pub returns-clause-ran : goal.returns-clause-ran
returns-clause-ran c =
    run_ends c.args.config c.args.events.now c.events.sim c.events.event-index (omega (arith, c.events-test.false))
    c.events.invariant.ran

pub events-preserved : goal.events-preserved
events-preserved c = record {
  ran = grind (arith, common_steps);
  octets = one_more c.args.events.now c.events.event-index _ c.events-test.true c.events.invariant.octets
      c.in_ok-record_step.ensures.octets;
}

fits : (c : goal.After-events) → AllByRecursion IsEvent c.args.events.now
fits c =
    subst (AllByRecursion IsEvent) (take_all c.events.event-index c.args.events.now
    (omega (arith, c.events-test.false))) c.events.invariant.octets

reached : (c : goal.After-events) → IsReached c.events.sim.world
reached c =
    reached_by c.args.config c.args.events.now c.events.sim (returns-clause-ran c)
    (config_is c.args.config (sym c.in_ok-sim.ensures.range)) (fits c)

pub returns-clause-promised : goal.returns-clause-promised
returns-clause-promised c is = promised c.events.sim.world (reached c) (idle_of c.events.sim.world (reached c) is)

pub returns-clause-from_idle : goal.returns-clause-from_idle
returns-clause-from_idle c = promised c.events.sim.world (reached c)

pub returns-clause-clean : goal.returns-clause-clean
returns-clause-clean c = idle_of c.events.sim.world (reached c)

pub returns-clause-readable : goal.returns-clause-readable
returns-clause-readable c = readable_of c.events.sim.world (reached c)

pub returns-clause-throughout : goal.returns-clause-throughout
returns-clause-throughout c =
    holds_throughout c.args.config c.args.events.now (config_is c.args.config (sym c.in_ok-sim.ensures.range)) (fits c)

pub returns-clause-seen : goal.returns-clause-seen
returns-clause-seen c =
    let config : Config = c.args.config in
    let events : List Event = c.args.events.now in
    subst (λ (s : SimState). IsPromisedOfSeen config.blocking (seen events s.answers)) (sym (returns-clause-ran c))
    (each_is_seen config events (config_is config (sym c.in_ok-sim.ensures.range)) (fits c))

-- the refusal of a step is passed on
refused_alike : {A : Type 0} (r : Result A SimFault) (e : SimFault) → IsErrAnd r (λ it. it ≡ e) → e ≡ Memory
    → refused_field r ≡ None
refused_alike (Ok x) e is memory = absurd is
refused_alike (Err x) e is memory = ap field_of (is ∙ memory)

pub returns-in_err-record_step-clause-range : goal.returns-in_err-record_step-clause-range
returns-in_err-record_step-clause-range c =
    refused_alike c.from_residual-in_err-record_step.result c.in_err-record_step.field-0.0
    c.from_residual-in_err-record_step.ensures.1 c.in_err-record_step.ensures.fault ∙ c.in_ok-sim.ensures.range
