use Rattle.std.proofs.Common.{◌≡◌, ◌≤◌, ◌<◌, ◌+◌, ◌-◌, ℕ, length, take, length-take, sym, ap, subst, arith, ◌∙◌}
use Rattle.std.proofs.lemmas.Grind.{common_steps}
use Rattle.tm_link.specs.Builder.{BuilderState, data_built, data_size, field_with, frame_built, state_with}
use Rattle.tm_link.specs.Layout.{IsTmFrame}
use Rattle.tm_link.proofs.Spelled.{built_is}
use Rattle.tm_link.proofs.turn.put_next.Goals as goal

pub returns-clause-frame : goal.returns-clause-frame
returns-clause-frame c = grind (arith, common_steps)

pub returns-clause-spells : goal.returns-clause-spells
returns-clause-spells c =
    let total : ℕ = length c.args.out.now in
    let s : BuilderState = state_with c.args.turn.now total c.args.pending.now in
    let scid : s.scid < 1024 = grind (arith, common_steps) in
    let vcid : s.vcid < 8 = grind (arith, common_steps) in
    let least : 16 ≤ total = grind (arith, common_steps) in
    let most : total ≤ 2048 = grind (arith, common_steps) in
    let same : length (take (total - 2) c.args.out.now) + 2 - 12 ≡ total - 12 =
    omega (arith, length-take (total - 2) c.args.out.now) in
    let size : length (data_built s) ≡ data_size s =
    ap (λ (n : ℕ). length (field_with s.idle_left s.pending n)) (sym same) ∙ c.put_front.ensures.size ∙ omega arith in
    subst (IsTmFrame total (frame_built s c.args.ocf)) (sym (returns-clause-frame c))
    (built_is s c.args.ocf scid vcid least most (omega arith) size)
