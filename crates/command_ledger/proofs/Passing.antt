-- One more command is passed.
use Rattle.std.proofs.Common.{◌≡◌, ℕ, suc, ◌+◌, ◌-◌, ◌<◌, ◌≤◌, List, [], ◌∷◌, ◌++◌}
use Rattle.std.proofs.Common.{take, drop, length, get_or, sym, ◌∙◌, ap, append_assoc, arith, drop-cons, get_or-take}
use Rattle.std.proofs.lemmas.List.{length-take-le}
use Rattle.command_log.specs.History.{history_after}
use Rattle.command_log.specs.declared.record.Record.{Record}
use Rattle.command_ledger.specs.declared.state.Tell.{Tell}
use Rattle.command_ledger.specs.Waiting.{Waiting}
use Rattle.command_ledger.specs.State.{fate, fates, less, size_of, history_over, Gives}
use Rattle.command_ledger.specs.Entries.{spelling}
use Rattle.command_ledger.specs.Ledger.{commands_octets}

pub dropped_one : (n m : ℕ) (x : Waiting) (old new : List Waiting) → n ≡ suc m → old ≡ x ∷ new
    → drop m new ≡ drop n old
dropped_one n m x old new e f = sym (ap (λ (k : ℕ). drop k old) e ∙ ap (λ (xs : List Waiting). drop (suc m) xs) f)

pub told_one : (kept : Record) (doubt number n m : ℕ) (x : Waiting) (old new : List Waiting)
    (told : Tell) (tells after : List Tell) → n ≡ suc m → old ≡ x ∷ new → told ≡ fate kept doubt (number + 1) x.tag
    → after ≡ tells ++ told ∷ []
    → after ++ fates kept doubt (number + 1 + 1) (take m new) ≡ tells ++ fates kept doubt (number + 1) (take n old)
told_one kept doubt number n m x old new told tells after e f g h =
    let rest = fates kept doubt (number + 1 + 1) (take m new) in
    ap (λ (ts : List Tell). ts ++ rest) h ∙ append_assoc tells (told ∷ []) rest
    ∙ ap (λ (t : Tell). tells ++ t ∷ rest) g
    ∙ sym (ap (λ (k : ℕ). tells ++ fates kept doubt (number + 1) (take k old)) e
    ∙ ap (λ (xs : List Waiting). tells ++ fates kept doubt (number + 1) (take (suc m) xs)) f)

pub less_one : (live left n m : ℕ) (x : Waiting) (old new : List Waiting) → n ≡ suc m → old ≡ x ∷ new
    → left ≡ live - size_of x → less left (take m new) ≡ less live (take n old)
less_one live left n m x old new e f g =
    ap (λ (l : ℕ). less l (take m new)) g
    ∙ sym (ap (λ (k : ℕ). less live (take k old)) e ∙ ap (λ (xs : List Waiting). less live (take (suc m) xs)) f)

-- one more command in the history
pub heard_one : (over next i end : ℕ) (c : Waiting) (cs : List Waiting) → i < end → end ≤ length cs
    → c ≡ get_or cs i c → next ≡ history_after over c.packet
    → history_over next (drop (i + 1) (take end cs)) ≡ history_over over (drop i (take end cs))
heard_one over next i end c cs low few found e =
    let l : List Waiting = take end cs in
    let long : length l ≡ end = length-take-le end cs few in
    let within : i < length l = omega arith in
    let same : get_or l i c ≡ c = get_or-take end cs i c low ∙ sym found in
    let up : i + 1 ≡ suc i = omega arith in
    let all : drop i l ≡ c ∷ drop (suc i) l = drop-cons l i c within
    ∙ ap (λ (x : Waiting). x ∷ drop (suc i) l) same in
    ap (λ (k : ℕ). history_over next (drop k l)) up ∙ ap (λ (h : ℕ). history_over h (drop (suc i) l)) e
    ∙ sym (ap (λ (xs : List Waiting). history_over over xs) all)

-- one more command in a fresh store
pub fresh_one : (old more new : List ℕ) (i : ℕ) (c : Waiting) (cs : List Waiting) → i < length cs → c ≡ get_or cs i c
    → new ≡ old ++ more → more ≡ spelling (Gives c.tag c.on_map c.packet)
    → new ++ commands_octets (drop (i + 1) cs) ≡ old ++ commands_octets (drop i cs)
fresh_one old more new i c cs low found e f =
    let up : i + 1 ≡ suc i = omega arith in
    let all : drop i cs ≡ c ∷ drop (suc i) cs = drop-cons cs i c low
    ∙ ap (λ (x : Waiting). x ∷ drop (suc i) cs) (sym found) in
    ap (λ (xs : List ℕ). xs ++ commands_octets (drop (i + 1) cs)) e
    ∙ append_assoc old more (commands_octets (drop (i + 1) cs))
    ∙ ap (λ (xs : List ℕ). old ++ (xs ++ commands_octets (drop (i + 1) cs))) f
    ∙ ap (λ (k : ℕ). old ++ (spelling (Gives c.tag c.on_map c.packet) ++ commands_octets (drop k cs))) up
    ∙ sym (ap (λ (xs : List Waiting). old ++ commands_octets xs) all)
