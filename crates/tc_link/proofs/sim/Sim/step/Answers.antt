use Rattle.tc_link.proofs.Common.{subst, IsPromised, IsPromisedOf, IsReached, SimState, World, IsClean, IsIdle}
use Rattle.std.proofs.Common.{rules}
use Rattle.tc_link.proofs.Promised.{readable_of, idle_of, promised, promised_of, reached_after, promised_after}
use Rattle.tc_link.proofs.Promised.{IsPromisedCall}
use Rattle.tc_link.proofs.sim.Sim.step.Goals as goal

abbrev old : goal.After-step → World
old c = c.self.inside.world

reached : (c : goal.After-step) → IsReached c.step.new.self
reached c = reached_after (old c) c.step.new.self c.args.event c.step.result c.self.invariant
    c.keeps_octets.ensures c.step.ensures.after c.step.ensures.err

kept : (c : goal.After-step) → IsIdle c.step.new.self → IsPromised c.step.new.self
kept c is = promised c.step.new.self (reached c) is

kept_of : (c : goal.After-step) → IsIdle (old c) → IsPromisedOf (old c) c.args.event
kept_of c is = promised_of (old c) c.args.event c.self.invariant c.keeps_octets.ensures is

-- a session that began clean had an idle start
clean : (c : goal.After-step) → IsClean c.step.new.self → IsPromised c.step.new.self
clean c is = kept c (idle_of c.step.new.self (reached c) is)

was_idle : (c : goal.After-step) → IsClean (old c) → IsIdle (old c)
was_idle c is = idle_of (old c) c.self.invariant is

pub invariant_of-self : goal.invariant_of-self
invariant_of-self c = reached c

-- what is promised of the call, if the session began clean
called : (c : goal.After-step) → IsClean c.args.self.now.world
    → IsPromisedCall c.args.self.now.world c.step.new.self c.args.event
called c =
    subst (λ (s : SimState). IsClean s.world → IsPromisedCall s.world c.step.new.self c.args.event) c.self.view_is
    (λ is. promised_after (old c) c.step.new.self c.args.event c.step.result c.step.ensures.after c.step.ensures.err
    (promised (old c) c.self.invariant (was_idle c is)).history (kept_of c (was_idle c is)))

pub returns : goal.returns
returns c = record {
  reply = search rules;
  after = search rules;
  err = search rules;
  refused = search rules;
  memory = search rules;
  none = search rules;
  in_order = λ is. (clean c is).in_order;
  history = λ is. (clean c is).history;
  one_step = λ is. (called c is).history;
  window = λ is. (clean c is).window;
  confirmed = λ is. (clean c is).confirmed;
  confirms = λ is. (called c is).confirms;
  no_false_alarm = λ is. (called c is).no_false_alarm;
  from_idle = (
    kept c,
    subst (λ (s : SimState). IsIdle s.world → IsPromisedOf s.world c.args.event) c.self.view_is (kept_of c),
  );
  clean = idle_of c.step.new.self (reached c);
  readable = readable_of c.step.new.self (reached c);
}
