use Rattle.std.proofs.Common.{◌≡◌, ℕ, List, ap, ◌∙◌, get_or}
use Rattle.command_log.specs.History.{history_after}
use Rattle.command_ledger.proofs.Passing.{heard_one}
use Rattle.command_ledger.proofs.state.history_over.Goals as goal

pub loop-i-preserved : goal.loop-i-preserved
loop-i-preserved c =
    let l = c.loop-i in
    let x = c.unwrap.result.now in
    let cs = c.args.commands.now.items in
    let found : x ≡ get_or cs l.i x = rw c.unwrap.ensures at c.get.ensures.lookup in
    let next : c.history_after-over.result ≡ history_after l.over x.packet = c.history_after-over.ensures
    ∙ ap (λ (packet : List ℕ). history_after l.over packet) c.packet.ensures.packet in
    heard_one l.over c.history_after-over.result l.i c.args.end x cs c.loop-i-test.true c.requires found next
    ∙ l.invariant
