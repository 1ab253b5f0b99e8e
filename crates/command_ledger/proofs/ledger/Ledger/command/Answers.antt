use Rattle.std.proofs.Common.{◌≡◌, ℕ, ◌+◌, ◌≤◌, List, length, None, refl, ap, sym, ◌∙◌, arith}
use Rattle.command_log.specs.Packets.{command_octets}
use Rattle.command_ledger.specs.State.{Gives, highest}
use Rattle.command_ledger.specs.Ledger.{LedgerState, next_command, give_fault, appended}
use Rattle.command_ledger.proofs.Commands.{fits_of, follows_next}
use Rattle.command_ledger.proofs.ledger.Ledger.command.Goals as goal

-- a packet with the next number is that of the next command
with_number : (l : LedgerState) (apid count n last : ℕ) (content packet : List ℕ)
    → packet ≡ command_octets (record { apid = apid; count = count; number = n + 1; content = content })
    → n ≡ last → last ≡ highest l.state → packet ≡ command_octets (next_command l apid count content)
with_number l apid count n last content packet is e f = is ∙ ap (λ (m : ℕ). command_octets (record {
  apid = apid;
  count = count;
  number = m + 1;
  content = content;
})) (e ∙ f)

pub append-requires-clause-follows : goal.append-requires-clause-follows
append-requires-clause-follows c =
    let l = c.args.self.now in
    let none : give_fault l c.args.map c.args.apid c.args.count (length c.args.content.now) ≡ None =
    sym c.give_fault.ensures ∙ c.in_default.is in
    let fits = fits_of l c.args.map c.args.apid c.args.count c.args.content.now none in
    let octets = with_number l c.args.apid c.args.count c.highest-number.result _ c.args.content.now
    c.deref.result.now (c.deref.ensures.value ∙ c.in_ok-packet.ensures.octets) c.highest-number.ensures
    (ap (λ (s : LedgerState). highest s.state) c.self.view_is) in
    let short : length c.deref.result.now ≤ 65542 = omega (arith, c.in_ok-packet.ensures.short, c.deref.ensures.len) in
    follows_next l.state c.args.tag c.args.map (next_command l c.args.apid c.args.count c.args.content.now)
    c.deref.result.now fits.0 refl octets short fits.1

pub returns-clause-ok : goal.returns-clause-ok
returns-clause-ok c =
    c.in_ok-append.ensures.ok
    ∙ ap (λ (xs : List ℕ). appended c.args.self.now (Gives c.args.tag c.args.map xs))
    (with_number c.args.self.now c.args.apid c.args.count c.highest-number.result _ c.args.content.now
    c.deref.result.now (c.deref.ensures.value ∙ c.in_ok-packet.ensures.octets) c.highest-number.ensures
    (ap (λ (s : LedgerState). highest s.state) c.self.view_is))
