use Rattle.std.proofs.Common.{length, ℕ, ◌-◌, List, [], ◌∷◌, ◌++◌, take, ap, ◌∙◌}
use Rattle.command_log.specs.Check.{sealed}
use Rattle.command_log.proofs.record.spelled.Goals as goal

-- four more octets, replaced by the check of the octets before them
with_check : List ℕ → List ℕ
with_check front = let octets = front ++ 0 ∷ 0 ∷ 0 ∷ 0 ∷ [] in sealed (take (length octets - 4) octets)

pub returns : goal.returns
unfolding with_check
returns c = c.append_check.ensures ∙ ap with_check (c.copy_from_slice.ensures.after ∙ c.encode_fields.ensures)
