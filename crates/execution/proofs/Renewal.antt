-- A fresh store is read as the state that it is made of.
use Rattle.std.proofs.Common.{◌≡◌, ℕ, ◌+◌, ◌-◌, List, [], ◌∷◌, ◌++◌, length}
use Rattle.std.proofs.Common.{refl, sym, ◌∙◌, ap, subst, arith, drop, length-drop, append-nil}
use Rattle.std.proofs.Common.{true, eqb-true}
use Rattle.std.specs.Prelude.{◌&&◌, ◌==◌, not, is_none, slice_get}
use Rattle.std.proofs.Common.{Bool}
use Rattle.command_log.proofs.Steps.{both}
use Rattle.command_ledger.specs.declared.known.Standing.{Standing}
use Rattle.command_ledger.specs.declared.state.Tell.{Tell}
use Rattle.command_ledger.specs.Waiting.{Waiting}
use Rattle.command_ledger.specs.State.{State, Entry, Gives, Hears, Loses, Rebuilds, Tells, Stands, new_state, highest}
use Rattle.command_ledger.specs.State.{after_entry}
use Rattle.command_ledger.specs.Entries.{spelling}
use Rattle.command_ledger.specs.Ledger.{LedgerState, is_at_rest, fresh_octets}
use Rattle.command_ledger.specs.Kept.{IsStanding, after_entries, store_octets}
use Rattle.execution.proofs.Lists.{ArePackets, packets_drop}
use Rattle.execution.proofs.Tells.{Past}
use Rattle.execution.proofs.Good.{Good}
use Rattle.execution.proofs.Chain.{all_in, IsSame, good_same, given_entries, given_octets, given_again}
use Rattle.execution.proofs.Chain.{given_after}
use Rattle.execution.proofs.Keeping.{OnGround, ledger_good, back}

no_entries : (es : List Entry) → length (store_octets es) ≡ 0 → es ≡ []
no_entries [] e = refl
no_entries (Gives tag on_map packet ∷ es) e = absurd (omega (arith, e))
no_entries (Hears kept ∷ es) e = absurd (omega (arith, e))
no_entries (Loses mark ∷ es) e = absurd (omega (arith, e))
no_entries (Rebuilds order ∷ es) e = absurd (omega (arith, e))
no_entries (Tells ∷ es) e = absurd (omega (arith, e))
no_entries (Stands standing ∷ es) e = absurd (omega (arith, e))

no_tells : (ts : List Tell) → is_none (slice_get ts 0) ≡ true → ts ≡ []
no_tells [] e = refl
no_tells (t ∷ ts) e = absurd cc

trans : (s t u : State) → IsSame s t → IsSame t u → IsSame s u
trans s t u one two =
    record { live = one.live; is = one.is ∙ ap (λ (x : State). record x { live = one.live }) two.is }

pub on_renewed : (stored : List Waiting) (g : Past) (ws : List ℕ) (up : List Bool) (l : LedgerState) (store : List ℕ)
    (given : List Waiting) (count : ℕ) → is_at_rest l ≡ true → OnGround stored g ws up l store given
    → OnGround stored g ws up (record l { stored = count }) (fresh_octets l.state) given
on_renewed stored g ws up l store given count rests h =
    let first = both (length l.unstored == 0) (not l.due && is_none (slice_get l.state.tells 0)) rests in
    let second = both (not l.due) (is_none (slice_get l.state.tells 0)) first.1 in
    let short : length l.unstored ≡ 0 = eqb-true (length l.unstored) 0 first.0 in
    let none : h.new ≡ [] = no_entries h.new (ap length (sym h.unstored) ∙ short) in
    let quiet : l.state.tells ≡ [] = no_tells l.state.tells second.1 in
    let k : Good stored g ws up given l.state = ledger_good stored g ws up l store given h in
    let st : Standing = l.state.standing in
    let cs : List Waiting = l.state.commands in
    let below : ℕ = st.below in
    let base : State = after_entry new_state (Stands st) in
    let old : List Entry = Stands st ∷ given_entries cs in
    let t : State = after_entries new_state old in
    let plain : State = record base { commands = cs } in
    let one : IsSame l.state plain =
    record { live = l.state.live; is = ap (λ (ts : List Tell). record l.state { tells = ts }) quiet } in
    let two : IsSame t plain = given_after base cs in
    let same : IsSame l.state t = trans l.state plain t one (back t plain two) in
    let few = k.few in
    let low = k.low in
    let long : length cs ≡ length given - below = ap length k.commands ∙ length-drop below given in
    let zero_more : 0 + below ≡ below = omega arith in
    let dropped : ArePackets (0 + below) (drop below given) = packets_drop below 0 given k.packets low in
    let packets : ArePackets below cs =
    subst (λ (n : ℕ). ArePackets n cs) zero_more
    (subst (ArePackets (0 + below)) (sym k.commands) dropped) in
    let standing : IsStanding st =
    record {
      below = omega (arith, few, low);
      board = k.board.range;
      doubt = k.remembers.doubt;
      mark = k.remembers.mark;
      order = k.remembers.order;
    } in
    let high : highest base ≡ below = omega arith in
    let all : given ≡ stored = h.given_is ∙ ap (λ (es : List Entry). stored ++ all_in es) none ∙ append-nil stored in
    record {
      old = old;
      new = [];
      read = (refl, standing, given_again base below cs high packets (omega (arith, long, few, low)));
      store_is = ap (λ (xs : List ℕ). spelling (Stands st) ++ xs) (given_octets cs);
      follow = tt;
      unstored = h.unstored ∙ ap store_octets none;
      good =
          subst (λ (xs : List Waiting). Good stored g ws up xs t) all
          (good_same stored g ws up given l.state t same k);
      same = same;
      safe = h.safe;
      given_is = all ∙ sym (append-nil stored);
      notes = λ f. tt;
    }
