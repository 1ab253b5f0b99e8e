use Rattle.std.proofs.Common.{◌≡◌, ◌≤◌, ◌+◌, length, sym, ◌∙◌, true, arith}
use Rattle.tm_link.specs.Builder.{is_to_send}
use Rattle.sedgechisel.specs.Builders.{has_numbers}
use Rattle.sedgechisel.proofs.Builders.{IsBuilder, builder_is, queue_described, queue_taken}
use Rattle.sedgechisel.proofs.telemetry_builder.sedge_tm_builder_queue.Goals as goal

pub returns-clause-after : goal.returns-clause-after
returns-clause-after c = λ is.
    let numbers : has_numbers c.args.builder.now (length c.args.memory.now) ≡ true =
    sym c.has_numbers.ensures ∙ c.if-not-has_numbers.false in
    let send : is_to_send c.args.packet.now ≡ true = sym c.can_queue.ensures.value ∙ c.if-not-can_queue.false in
    let whole : IsBuilder c.args.builder.now c.args.memory.now = builder_is c.args.builder.now c.args.memory.now is in
    let room : c.args.builder.now.count + length c.args.packet.now ≤ length c.args.memory.now =
    omega (arith, whole.numbers.within, c.if-memory-builder.false) in
    queue_taken c.args.builder.now c.args.packet.now c.args.memory.now c.queue.new.builder c.queue.new.memory numbers
    send room
    (queue_described c.args.builder.now c.queue.new.builder c.args.packet.now c.args.memory.now c.queue.new.memory is
    send c.queue.ensures.builder c.queue.ensures.pending (omega (arith, c.queue.ensures.from)))
