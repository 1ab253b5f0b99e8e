-- A store is read entry by entry.
use Rattle.std.proofs.Common.{◌≡◌, ℕ, zero, suc, ◌+◌, List, take, drop, refl, sym, ◌∙◌, ap, subst, Bool, true, false}
use Rattle.std.proofs.Common.{Option, Some, None}
use Rattle.std.proofs.lemmas.Bool.{ne_eqb}
use Rattle.std.specs.Prelude.{◌==◌, if◌then◌else◌, is_some}
use Rattle.command_ledger.specs.State.{State, Entry, follows}
use Rattle.command_ledger.specs.Entries.{entry_in, entry_len}
use Rattle.command_ledger.specs.Store.{following, next_entry, next_len, after_some, reading, read_on}

none_by : (none : Bool) (s : State) (found : Option Entry) (len : ℕ) → found ≡ None
    → 0 ≡ (if is_some (if none then None else following s found) then len else 0)
none_by true s found len e = refl
none_by false s None len e = refl
none_by false s (Some x) len e = absurd cc

pub none_len : (s : State) (octets : List ℕ) (len : ℕ) → len ≡ entry_len octets → entry_in (take len octets) ≡ None
    → 0 ≡ next_len s octets
none_len s octets len e f =
    none_by (entry_len octets == 0) s (entry_in (take (entry_len octets) octets)) (entry_len octets)
    (ap (λ (n : ℕ). entry_in (take n octets)) (sym e) ∙ f)

taken : (s : State) (x y : Entry) (len : ℕ) → y ≡ x → follows s x ≡ true
    → len ≡ (if is_some (following s (Some y)) then len else 0)
taken s x y len e f = let t : follows s y ≡ true = subst (λ (z : Entry). follows s z ≡ true) (sym e) f in rw t

some_by : (none : Bool) (s : State) (found : Option Entry) (x : Entry) (len : ℕ) → none ≡ false → found ≡ Some x
    → follows s x ≡ true → len ≡ (if is_some (if none then None else following s found) then len else 0)
some_by true s found x len e f g = absurd cc
some_by false s None x len e f g = absurd cc
some_by false s (Some y) x len e f g = let same : y ≡ x = cc in taken s x y len same g

pub some_len : (s : State) (octets : List ℕ) (len : ℕ) (x : Entry) → len ≡ entry_len octets → (len ≡ 0 → ⊥)
    → entry_in (take len octets) ≡ Some x → follows s x ≡ true → len ≡ next_len s octets
some_len s octets len x e some f g =
    e
    ∙ some_by (entry_len octets == 0) s (entry_in (take (entry_len octets) octets)) x (entry_len octets)
    (ne_eqb (entry_len octets) 0 (λ z. some (e ∙ z))) (ap (λ (n : ℕ). entry_in (take n octets)) (sym e) ∙ f) g

positive : (n : ℕ) (o : Option Entry) → is_some (if n == 0 then None else o) ≡ true → n ≡ 0 → ⊥
positive zero o e f = absurd cc
positive (suc n) o e f = absurd cc

stays_by : (s : State) (len : ℕ) (o : Option Entry) → (is_some o ≡ true → len ≡ 0 → ⊥)
    → (if is_some o then len else 0) ≡ 0 → after_some s o ≡ s
stays_by s len None some e = refl
stays_by s len (Some x) some e = absurd (some refl e)

pub stays : (s : State) (octets : List ℕ) → next_len s octets ≡ 0 → after_some s (next_entry s octets) ≡ s
stays s octets e =
    stays_by s (entry_len octets) (next_entry s octets)
    (positive (entry_len octets) (following s (entry_in (take (entry_len octets) octets)))) e

pub stop_read : (n m good : ℕ) (s after : State) (octets : List ℕ) (len : ℕ) → n ≡ suc m
    → len ≡ next_len s (drop good octets) → len ≡ 0 → after ≡ after_some s (next_entry s (drop good octets))
    → reading after good ≡ read_on n (reading s good) octets
stop_read n m good s after octets len e f g h =
    let none : next_len s (drop good octets) ≡ 0 = sym f ∙ g in
    let same : after ≡ s = h ∙ stays s (drop good octets) none in
    let t : (next_len s (drop good octets) == 0) ≡ true = ap (λ (k : ℕ). k == 0) none in
    let first : read_on (suc m) (reading s good) octets ≡ reading s good = rw t in
    ap (λ (x : State). reading x good) same
    ∙ sym (ap (λ (k : ℕ). read_on k (reading s good) octets) e ∙ first)

pub one_read : (n m good : ℕ) (s after : State) (octets : List ℕ) (len : ℕ) → n ≡ suc m
    → len ≡ next_len s (drop good octets) → (len ≡ 0 → ⊥) → after ≡ after_some s (next_entry s (drop good octets))
    → read_on m (reading after (good + len)) octets ≡ read_on n (reading s good) octets
one_read n m good s after octets len e f g h =
    let rest : List ℕ = drop good octets in
    let some : (next_len s rest == 0) ≡ false = ne_eqb (next_len s rest) 0 (λ z. g (f ∙ z)) in
    let first : read_on (suc m) (reading s good) octets
    ≡ read_on m (reading (after_some s (next_entry s rest)) (good + next_len s rest)) octets = rw some in
    ap (λ (x : State). read_on m (reading x (good + len)) octets) h
    ∙ ap (λ (k : ℕ). read_on m (reading (after_some s (next_entry s rest)) (good + k)) octets) f
    ∙ sym (ap (λ (k : ℕ). read_on k (reading s good) octets) e ∙ first)
