use Rattle.std.proofs.Common.{◌≡◌, subst}
use Rattle.std.specs.Prelude.{IfOk}
use Rattle.command_ledger.specs.Entries.{spelling}
use Rattle.command_ledger.specs.State.{Entry, Gives}
use Rattle.command_ledger.proofs.ledger.given_octets.Goals as goal

pub returns : goal.returns
returns c =
    let command = c.args.command.now in
    let same : Gives c.tag.result c.map.result c.packet.result.now
    ≡ Gives command.tag command.on_map command.packet = cc (c.tag.ensures, c.map.ensures, c.packet.ensures.packet) in
    subst (λ (e : Entry). IfOk c.spelling.result (λ v. v.items ≡ spelling e)) same c.spelling.ensures
