use Rattle.tc_frame.specs.Layout.{SegmentView}
use Rattle.cop1.specs.Units.{FopState, FopOutcome}
use Rattle.nodes.specs.GroundFields.{state_of}
use Rattle.std.proofs.Common.{◌≡◌, Result, Ok, Err, IsErrAnd, OnErr, ap, Option, IfErr, refl, sym, ◌∙◌, arith, length}
use Rattle.cop1.specs.declared.fault.CopFault.{CopFault}
use Rattle.cop1.specs.declared.vocabulary.Alert.{Alert}
use Rattle.cop1.specs.declared.vocabulary.Directive.{Directive}
use Rattle.cop1.specs.FopDirective.{directive_step}
use Rattle.cop1.proofs.Cases.{obeyed}
use Rattle.std.proofs.lemmas.Result.{IfErr-at_err}
use Rattle.nodes.specs.Fates.{Fates}
use Rattle.nodes.specs.Ground.{GroundState, ground_step, Direct, after_directive, with_fop}
use Rattle.nodes.proofs.GroundBounds.{KeepsBounds, directed_bounded, fewer_obeying}
use Rattle.nodes.proofs.Owed.{still_owed_then}
use Rattle.nodes.proofs.ground_node.Ground.directive.Goals as goal

-- How `?` passes on a fault.

module _ {A E : Type 0} where
  returned : (r : Result A E) (fault : E) → IsErrAnd r (λ e. e ≡ fault) → r ≡ Err fault
  returned (Ok x) fault is = absurd is
  returned (Err e) fault is = ap Err is

  on_err : {P : Type 0} (r : Result A E) → P → OnErr r P
  on_err (Ok x) p = tt
  on_err (Err e) p = p

-- A directive that the sender refuses leaves it as it was.

module _ {U : Type 0} (s : FopState U) where
  abbrev Keeps : FopOutcome U (Result (Option Alert) CopFault) → Type 0
  Keeps o = IfErr o.answer (λ fault. o.after ≡ s)

  refused_keeps : (d : Directive) → Keeps (directive_step s d)
  refused_keeps = obeyed s (λ d. Keeps) (record {
    refused = λ d fault off. refl;
    begins = λ d begins is. tt;
    terminated = tt;
    numbers = λ x is. tt;
    sets = λ d k n ticks plain most. tt;
  })

pub returns-clause-answer : goal.returns-clause-answer
returns-clause-answer c =
    sym c.in_ok-alert.was ∙ c.directive.ensures.answer
    ∙ ap (λ (s : GroundState). (ground_step s (Direct c.args.directive)).answer) c.self.view_is

pub returns-clause-after : goal.returns-clause-after
returns-clause-after c =
    let t : GroundState = state_of c.self.inside in
    let d : Directive = c.args.directive in
    let step = directive_step t.fop d in
    c.refill.ensures
    ∙ ap (λ (fates : Fates). with_fop (record t { fates = fates }) c.directive.new.self) c.count_anew.ensures.counted
    ∙ ap (λ r. after_directive t d r c.directive.new.self) (sym c.in_ok-alert.was ∙ c.directive.ensures.answer)
    ∙ ap (after_directive t d step.answer) c.directive.ensures.after
    ∙ ap (λ (s : GroundState). (ground_step s (Direct d)).after) c.self.view_is

pub invariant_of-self-2 : goal.invariant_of-self-2
invariant_of-self-2 c =
    let t : GroundState = state_of c.self.inside in
    let d : Directive = c.args.directive in
    let after : FopState SegmentView = c.directive.new.self in
    let owed = still_owed_then t.fop d t.pending t.fates c.self.invariant.owed in
    let left = ap (λ (fates : Fates). fates.left) c.count_anew.ensures.counted in
    let keeps : KeepsBounds t.config t.fop after = rw c.directive.ensures.after (directed_bounded t.config t.fop d) in
    record {
      config = c.self.invariant.config;
      room = c.self.invariant.room;
      packets = c.self.invariant.packets;
      owed = rw (c.directive.ensures.after, left) owed;
      places = omega (arith, c.self.invariant.places, c.count_anew.ensures.capacity);
      sender = keeps.sender c.self.invariant.sender;
      unsent = omega (arith, keeps.fewer, c.self.invariant.unsent);
      parts = c.self.invariant.parts;
      begun = c.self.invariant.begun;
      submissions = omega (arith, ap length left, fewer_obeying t.fates d, c.self.invariant.submissions);
    }

-- the case in which the sender refuses
module _ (c : goal.After-from_residual) where
  abbrev s : GroundState
  s = state_of c.self.inside

  abbrev refusal : Result (Option Alert) CopFault
  refusal = Err c.in_err-alert.field-0.0

  answered : refusal ≡ (directive_step s.fop c.args.directive).answer
  answered = sym c.in_err-alert.was ∙ c.directive.ensures.answer

  same_fop : c.directive.new.self ≡ s.fop
  same_fop =
      c.directive.ensures.after
      ∙ IfErr-at_err (λ fault. (directive_step s.fop c.args.directive).after ≡ s.fop) (sym answered)
      (refused_keeps s.fop c.args.directive)

  unchanged : record s { fop = c.directive.new.self } ≡ s
  unchanged = ap (λ (fop : FopState SegmentView). record s { fop = fop }) same_fop

pub invariant_of-self : goal.invariant_of-self
invariant_of-self c = record {
  config = c.self.invariant.config;
  room = c.self.invariant.room;
  packets = c.self.invariant.packets;
  owed = rw (same_fop c) c.self.invariant.owed;
  places = c.self.invariant.places;
  sender = rw (same_fop c) c.self.invariant.sender;
  unsent = rw (same_fop c) c.self.invariant.unsent;
  parts = c.self.invariant.parts;
  begun = c.self.invariant.begun;
  submissions = c.self.invariant.submissions;
}

pub returns-in_err-alert-clause-answer : goal.returns-in_err-alert-clause-answer
returns-in_err-alert-clause-answer c =
    returned c.from_residual.result c.in_err-alert.field-0.0 c.from_residual.ensures.1 ∙ answered c
    ∙ ap (λ (s : GroundState). (ground_step s (Direct c.args.directive)).answer) c.self.view_is

pub returns-in_err-alert-clause-after : goal.returns-in_err-alert-clause-after
returns-in_err-alert-clause-after c =
    unchanged c
    ∙ ap (λ r. after_directive (s c) c.args.directive r (directive_step (s c).fop c.args.directive).after) (answered c)
    ∙ ap (λ (s : GroundState). (ground_step s (Direct c.args.directive)).after) c.self.view_is

pub returns-in_err-alert-clause-err : goal.returns-in_err-alert-clause-err
returns-in_err-alert-clause-err c = on_err c.from_residual.result (unchanged c ∙ c.self.view_is)
