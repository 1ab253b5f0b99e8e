use Rattle.std.proofs.Common.{◌≡◌, List, ℕ, ◌++◌, ap, ◌∙◌, get_or, arith}
use Rattle.command_ledger.specs.declared.known.Standing.{Standing}
use Rattle.command_ledger.specs.State.{Stands}
use Rattle.command_ledger.specs.Entries.{spelling}
use Rattle.command_ledger.specs.Ledger.{commands_octets}
use Rattle.command_ledger.proofs.Passing.{fresh_one}
use Rattle.command_ledger.proofs.ledger.fresh_octets.Goals as goal

pub loop-i-init : goal.loop-i-init
loop-i-init c =
    let first : c.in_ok-octets.octets.items ≡ spelling (Stands c.args.state.now.standing) = c.in_ok-octets.ensures
    ∙ ap (λ (s : Standing). spelling (Stands s)) c.standing.ensures in
    ap (λ (xs : List ℕ). xs ++ commands_octets c.args.state.now.commands) first

pub loop-i-preserved : goal.loop-i-preserved
loop-i-preserved c =
    let l = c.loop-i in
    let cs = c.args.state.now.commands in
    let x = c.unwrap.result.now in
    let found : x ≡ get_or cs l.i x = rw c.unwrap.ensures at c.get.ensures.lookup in
    fresh_one l.octets.items c.deref.result.now c.extend_from_slice.new.self.items l.i x cs (omega arith) found
    c.in_ok-extend_from_slice.ensures.items (c.deref.ensures.value ∙ c.in_ok-more.ensures)
    ∙ l.invariant
