use Rattle.std.proofs.Common.{◌≡◌, ℕ, List, [], ◌∷◌, ◌++◌, subst, sym, get_or}
use Rattle.std.specs.Prelude.{IfOk}
use Rattle.byteorder.specs.Endian.{big_bytes}
use Rattle.command_ledger.specs.declared.entry.Written.{Written}
use Rattle.command_ledger.specs.Entries.{entry_view, entry_octets, spelling}
use Rattle.command_ledger.proofs.entry.spelling.Goals as goal

-- the octets one by one
one_by_one : (t : List ℕ) (tag on_map : ℕ) → t ≡ big_bytes 8 tag
    → get_or t 0 0 ∷ get_or t 1 0 ∷ get_or t 2 0 ∷ get_or t 3 0 ∷ get_or t 4 0 ∷ get_or t 5 0 ∷ get_or t 6 0
    ∷ get_or t 7 0 ∷ on_map ∷ [] ≡ big_bytes 8 tag ++ on_map ∷ []
one_by_one t tag on_map e = rw e

pub returns-in-Gives : goal.returns-in-Gives
returns-in-Gives c =
    let front = one_by_one c.to_be_bytes-t.result c.in-Gives.tag c.in-Gives.map c.to_be_bytes-t.ensures in
    subst (λ (w : Written). IfOk c.spelled.result (λ v. v.items ≡ spelling (entry_view w))) (sym c.in-Gives.is)
    (subst (λ (xs : List ℕ). IfOk c.spelled.result (λ v. v.items ≡ entry_octets 1 (xs ++ c.in-Gives.packet.now)))
    front c.spelled.ensures)

pub returns-in-Stands : goal.returns-in-Stands
returns-in-Stands c =
    let r = c.spelled_alone-in-Stands.result in
    subst (λ (w : Written). IfOk r (λ v. v.items ≡ spelling (entry_view w))) (sym c.in-Stands.is)
    (subst (λ (xs : List ℕ). IfOk r (λ v. v.items ≡ entry_octets 6 xs)) c.standing_octets.ensures
    c.spelled_alone-in-Stands.ensures)
