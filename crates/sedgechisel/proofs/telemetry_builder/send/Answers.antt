use Rattle.std.proofs.Common.{◌≡◌, ℕ, ◌-◌, List, length, map, take, drop, ap, ◌∙◌, arith}
use Rattle.std.proofs.lemmas.List.{take_rest}
use Rattle.space_packet.specs.Packets.{packets_in}
use Rattle.tm_link.specs.Builder.{left_after}
use Rattle.sedgechisel.specs.declared.telemetry_builder.KeptBuilder.{KeptBuilder}
use Rattle.sedgechisel.specs.Builders.{pending_of, whole_of, are_whole}
use Rattle.sedgechisel.proofs.Builders.{send_described, send_state, sends}
use Rattle.sedgechisel.proofs.telemetry_builder.send.Goals as goal

pub returns-clause-described : goal.returns-clause-described
returns-clause-described c = λ is.
    let size : ℕ = c.args.builder.now.length - 12 in
    let room : ℕ = size - c.min.result in
    let begun : ℕ = c.args.builder.now.begun in
    let behind : take (length c.pending.result.now - begun) (drop begun c.pending.result.now)
    ≡ drop begun (pending_of c.args.builder.now c.args.memory.now) =
    take_rest c.pending.result.now begun ∙ ap (drop begun) c.pending.ensures in
    send_described c.args.builder.now c.args.memory.now room c.begun_after-builder.result c.min-passed.result
    c.idle_left_after-left.result size is (omega (arith, c.min.ensures)) c.min-passed.ensures
    (c.begun_after-builder.ensures
    ∙ ap (λ (xs : List ℕ). (left_after room begun (map length (packets_in xs))).0) behind)
    c.idle_left_after-left.ensures.value c.idle_left_after-left.ensures.most

pub returns-clause-state : goal.returns-clause-state
returns-clause-state c =
    let b : KeptBuilder = c.args.builder.now in
    let memory : List ℕ = c.args.memory.now in
    let size : ℕ = b.length - 12 in
    let room : ℕ = size - c.min.result in
    let behind : take (length c.pending.result.now - b.begun) (drop b.begun c.pending.result.now)
    ≡ drop b.begun (pending_of b memory) =
    take_rest c.pending.result.now b.begun ∙ ap (drop b.begun) c.pending.ensures in
    let can = sends b memory c.requires in
    let same : room ≡ size - b.idle_left = omega (arith, c.min.ensures) in
    send_state b memory room c.begun_after-builder.result c.min-passed.result c.idle_left_after-left.result size can.0
    (ap (are_whole (whole_of b memory) b.begun) same ∙ can.1) same c.min-passed.ensures
    (c.begun_after-builder.ensures
    ∙ ap (λ (xs : List ℕ). (left_after room b.begun (map length (packets_in xs))).0) behind)
    c.idle_left_after-left.ensures.value
