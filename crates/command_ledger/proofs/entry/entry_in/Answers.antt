use Rattle.std.proofs.Common.{◌≡◌, ℕ, ◌-◌, length, take, drop, ap, ◌∙◌, arith}
use Rattle.std.specs.Prelude.{slice_index}
use Rattle.command_ledger.specs.Entries.{entry_with}
use Rattle.command_ledger.proofs.entry.entry_in.Goals as goal

pub returns : goal.returns
returns c =
    let octets = c.args.octets.now in
    let same : length octets - 4 - 5 ≡ length octets - 9 = omega arith in
    c.entry_with.ensures ∙ ap (λ (n : ℕ). entry_with (slice_index octets 4) (take n (drop 5 octets))) same
