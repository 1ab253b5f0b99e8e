use Rattle.std.proofs.Common.{◌≡◌, ℕ, List, Some, None, take, ap, sym, ◌∙◌}
use Rattle.std.specs.Prelude.{option_map}
use Rattle.command_ledger.specs.Entries.{entry_view, entry_in}
use Rattle.command_ledger.proofs.Reading.{none_len, some_len}
use Rattle.command_ledger.proofs.store.read_next.Goals as goal

pub returns-in_default-clause-len : goal.returns-in_default-clause-len
returns-in_default-clause-len c =
    let none : entry_in (take c.entry_len-len.result c.args.octets.now) ≡ None =
    ap (λ (xs : List ℕ). entry_in xs) (sym c.split_at.ensures.front) ∙ sym c.entry_in.ensures
    ∙ ap (option_map entry_view) c.in_default.is in
    none_len c.args.state.now c.args.octets.now c.entry_len-len.result c.entry_len-len.ensures none

pub returns-clause-len : goal.returns-clause-len
returns-clause-len c =
    let x = entry_view c.in-Some.entry in
    let found : entry_in (take c.entry_len-len.result c.args.octets.now) ≡ Some x =
    ap (λ (xs : List ℕ). entry_in xs) (sym c.split_at.ensures.front) ∙ sym c.entry_in.ensures
    ∙ ap (option_map entry_view) c.in-Some.is in
    some_len c.args.state.now c.args.octets.now c.entry_len-len.result x c.entry_len-len.ensures c.if-len-eq0.false
    found (sym c.follows.ensures ∙ c.if-not-follows.false)
