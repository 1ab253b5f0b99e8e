use Rattle.std.proofs.Common.{◌≡◌, ◌≤◌, ◌-◌, ℕ, [], ◌∷◌, ◌++◌, length, take, drop, length-take, rules, sym, subst}
use Rattle.std.proofs.Common.{arith, ◌∙◌, List}
use Rattle.std.proofs.lemmas.List.{take_at}
use Rattle.std.proofs.lemmas.Grind.{common_steps}
use Rattle.tm_link.specs.Builder.{BuilderState, frame_built, state_with}
use Rattle.tm_link.specs.Layout.{IsTmFrame}
use Rattle.tm_link.specs.Builder.{IsLaidOutBy}
use Rattle.tm_link.proofs.BuiltFrames.{build_laid}
use Rattle.tm_link.proofs.builder.TmBuilder.build_in.Goals as goal

pub returns-clause-spells : goal.returns-clause-spells
returns-clause-spells c =
    let s : BuilderState = c.args.self.now in
    let total : c.self-2.inside.total ≡ c.self.inside.total = search rules in
    let room : c.self.inside.total ≤ length c.args.out.now =
    subst (λ (b : BuilderState). b.total ≤ length c.args.out.now) (sym c.self.view_is) c.requires.room in
    let all : length (take c.self.inside.total c.args.out.now) ≡ c.self.inside.total =
    omega (arith, length-take c.self.inside.total c.args.out.now, room) in
    let state : state_with c.turn.result (length (take c.self.inside.total c.args.out.now)) s.pending
    ≡ record s { sizes = [] } = grind (arith, common_steps) in
    let pending : take (length c.deref.result.now - c.self.inside.start) (drop c.self.inside.start c.deref.result.now)
    ≡ s.pending = grind (arith, common_steps) in
    let n : ℕ = length (take c.self.inside.total c.args.out.now) in
    let one : IsTmFrame n (frame_built (state_with c.turn.result n s.pending) c.args.ocf) c.put_next.new.out =
    subst (λ (p : List ℕ). IsTmFrame n (frame_built (state_with c.turn.result n p) c.args.ocf) c.put_next.new.out)
    pending c.put_next.ensures.spells in
    let two : IsTmFrame n (frame_built s c.args.ocf) c.put_next.new.out =
    subst (λ (b : BuilderState). IsTmFrame n (frame_built b c.args.ocf) c.put_next.new.out) state one in
    let front = take_at c.put_next.new.out _ c.self-2.inside.total (two.count ∙ all ∙ sym total) in
    subst (IsTmFrame c.self-2.inside.total (frame_built s c.args.ocf)) (sym front)
    (subst (λ (k : ℕ). IsTmFrame k (frame_built s c.args.ocf) c.put_next.new.out) (all ∙ sym total) two)

pub returns-clause-after : goal.returns-clause-after
returns-clause-after c = search rules

pub returns-clause-laid : goal.returns-clause-laid
returns-clause-laid c = λ packets frames h.
    let s : BuilderState = c.args.self.now in
    let idle_left : s.idle_left ≤ 6 =
    subst (λ (b : BuilderState). b.idle_left ≤ 6) c.self.view_is c.self.invariant.idle_left in
    let most : s.total ≤ 2048 = subst (λ (b : BuilderState). b.total ≤ 2048) c.self.view_is c.self.invariant.most in
    subst (λ (b : BuilderState). IsLaidOutBy b packets (frames ++ frame_built s c.args.ocf ∷ []))
    (sym (returns-clause-after c)) (build_laid s c.args.ocf packets frames idle_left most h)
