use Rattle.std.proofs.Common.{◌≡◌, ◌≤◌, ℕ, List, length, take, drop, ◌++◌, sym, ap, ◌∙◌, true, arith}
use Rattle.std.proofs.Common.{length-take}
use Rattle.std.specs.Prelude.{◌==◌, is_some}
use Rattle.std.proofs.lemmas.List.{take_at}
use Rattle.tm_link.specs.declared.turn.Turn.{Turn}
use Rattle.tm_link.specs.Builder.{frame_built, state_with}
use Rattle.tm_link.specs.Layout.{IsTmFrame}
use Rattle.sedgechisel.specs.declared.telemetry_builder.KeptBuilder.{KeptBuilder}
use Rattle.sedgechisel.specs.Builders.{can_send, state_of, turn_of, pending_of}
use Rattle.sedgechisel.proofs.Builders.{build_taken}
use Rattle.sedgechisel.proofs.telemetry_builder.sedge_tm_builder_build.Goals as goal

pub returns-clause-spells : goal.returns-clause-spells
returns-clause-spells c =
    let b : KeptBuilder = c.args.builder.now in
    let memory : List ℕ = c.args.memory.now in
    let out : List ℕ = c.put_next.new.out in
    let is : can_send b memory ≡ true = sym c.can_send.ensures ∙ c.if-not-can_send.false in
    let four : (length c.args.ocf.now == 4) ≡ true = sym c.four_of.ensures.some ∙ ap (λ o. is_some o) c.in-Some.is in
    let long : b.length ≤ length c.args.out.now = omega (arith, c.if-out-len.false) in
    let n : ℕ = length (take b.length c.args.out.now) in
    let all : n ≡ b.length = omega (arith, length-take b.length c.args.out.now, long) in
    let frame : frame_built (state_with c.turn_for.result n c.pending.result.now) c.in-Some.four
    ≡ frame_built (state_of b memory) c.args.ocf.now =
    ap (λ (t : Turn). frame_built (state_with t n c.pending.result.now) c.in-Some.four) c.turn_for.ensures
    ∙ ap (λ (k : ℕ). frame_built (state_with (turn_of b) k c.pending.result.now) c.in-Some.four) all
    ∙ ap (λ (p : List ℕ). frame_built (state_with (turn_of b) b.length p) c.in-Some.four) c.pending.ensures
    ∙ ap (λ (o : List ℕ). frame_built (state_with (turn_of b) b.length (pending_of b memory)) o)
    c.in-Some.ensures.four in
    let one : IsTmFrame b.length (frame_built (state_of b memory) c.args.ocf.now) out =
    rw (frame, all) at c.put_next.ensures.spells in
    let front : take b.length (out ++ drop b.length c.args.out.now) ≡ out =
    take_at out (drop b.length c.args.out.now) b.length one.count in
    rw (build_taken b c.args.ocf.now memory (length c.args.out.now) is four long, front) one
