-- The reports that are due, and what was reported.
use Rattle.std.proofs.Common.{◌≡◌, ℕ, suc, ◌+◌, ◌-◌, ◌<◌, ◌≤◌, max, List, [], ◌∷◌, ◌++◌, length}
use Rattle.std.proofs.Common.{refl, sym, subst, arith, drop, length-append}
use Rattle.std.proofs.Common.{Some, None, Bool, true, false, eqb-true, eq-eqb}
use Rattle.std.proofs.lemmas.Bool.{leb-true, cases_lt}
use Rattle.std.specs.Prelude.{◌&&◌, ◌==◌, nat_lt, nat_le, if◌then◌else◌, slice_get, option_to_list}
use Rattle.std.proofs.Common.{inl, inr}
use Rattle.std.specs.Int.{bit_at}
use Rattle.command_log.specs.declared.record.Record.{Record}
use Rattle.command_log.specs.declared.packets.Order.{Order}
use Rattle.command_log.specs.Board.{IsAmong, IsKnown}
use Rattle.command_log.proofs.Steps.{both}
use Rattle.command_ledger.specs.declared.state.Tell.{Tell}
use Rattle.command_ledger.specs.declared.state.Tell.TheVariants.{Executed, Unknown, Restarted, RecordLost, Foreign}
use Rattle.command_ledger.specs.Waiting.{Waiting}
use Rattle.command_ledger.specs.Known.{is_marked}
use Rattle.command_ledger.specs.State.{fates}
use Rattle.execution.proofs.Lists.{get_append}

-- what was sent and said
pub record Past : Type 0 where
  pub directed : List Order
  pub said : List Record
  pub lost : List ℕ
  -- whether no order that brings a record was made
  pub quiet : Bool

-- ---- reports

-- the command at this index has this tag
pub record HasTag (stored : List Waiting) (place tag : ℕ) : Type 0 where
  pub command : Waiting
  pub there : slice_get stored place ≡ Some command
  pub tagged : command.tag ≡ tag

-- the board has passed this number
pub record IsPassed (said : List Record) (n : ℕ) : Type 0 where
  pub kept : Record
  pub among : IsAmong kept said
  pub passed : n ≤ kept.last

-- the command at this index is reported in this way, if it was reported before
abbrev pub IsFate : List Bool → ℕ → Bool → Type 0
IsFate up n executed = n < length up → slice_get up n ≡ Some executed

-- the reports are those of the commands from the index n up to the index m
abbrev pub AreTells : List Waiting → Past → List ℕ → List Bool → (n m : ℕ) → List Tell → Type 0
AreTells stored g ws up n m [] = n ≡ m
AreTells stored g ws up n m (Executed tag ∷ ts) =
    HasTag stored n tag × IsAmong (n + 1) ws × IsFate up n true × AreTells stored g ws up (n + 1) m ts
AreTells stored g ws up n m (Unknown tag ∷ ts) =
    HasTag stored n tag × IsPassed g.said (n + 1) × IsFate up n false × AreTells stored g ws up (n + 1) m ts
AreTells stored g ws up n m (Restarted boot ∷ ts) = AreTells stored g ws up n m ts
AreTells stored g ws up n m (RecordLost mark ∷ ts) = AreTells stored g ws up n m ts
AreTells stored g ws up n m (Foreign first last ∷ ts) = AreTells stored g ws up n m ts

pub tells_both : (stored : List Waiting) (g : Past) (ws : List ℕ) (up : List Bool) (n m k : ℕ) (ts us : List Tell)
    → AreTells stored g ws up n m ts → AreTells stored g ws up m k us → AreTells stored g ws up n k (ts ++ us)
tells_both stored g ws up n m k [] us are more = subst (λ (i : ℕ). AreTells stored g ws up i k us) (sym are) more
tells_both stored g ws up n m k (Executed tag ∷ ts) us are more =
    (are.0, are.1, are.2, tells_both stored g ws up (n + 1) m k ts us are.3 more)
tells_both stored g ws up n m k (Unknown tag ∷ ts) us are more =
    (are.0, are.1, are.2, tells_both stored g ws up (n + 1) m k ts us are.3 more)
tells_both stored g ws up n m k (Restarted boot ∷ ts) us are more = tells_both stored g ws up n m k ts us are more
tells_both stored g ws up n m k (RecordLost mark ∷ ts) us are more = tells_both stored g ws up n m k ts us are more
tells_both stored g ws up n m k (Foreign first last ∷ ts) us are more = tells_both stored g ws up n m k ts us are more

pub no_restart : (stored : List Waiting) (g : Past) (ws : List ℕ) (up : List Bool) (n : ℕ) (flag : Bool) (boot : ℕ)
    → AreTells stored g ws up n n (option_to_list (if flag then None else Some (Restarted boot)))
no_restart stored g ws up n true boot = refl
no_restart stored g ws up n false boot = refl

pub no_foreign : (stored : List Waiting) (g : Past) (ws : List ℕ) (up : List Bool) (n : ℕ) (flag : Bool)
    (first last : ℕ)
    → AreTells stored g ws up n n (option_to_list (if flag then None else Some (Foreign first last)))
no_foreign stored g ws up n true first last = refl
no_foreign stored g ws up n false first last = refl

known_of : (kept : Record) (n : ℕ) → 0 < n → is_marked kept n ≡ true → IsKnown kept n
known_of kept n some e =
    let b = both (nat_le n kept.last) (nat_lt (kept.last - n) 64 && (bit_at kept.known (kept.last - n) == 1)) e in
    let d = both (nat_lt (kept.last - n) 64) (bit_at kept.known (kept.last - n) == 1) b.1 in
    (some, leb-true n kept.last b.0, eqb-true (bit_at kept.known (kept.last - n)) 1 d.1)

fate_is : (stored : List Waiting) (g : Past) (ws : List ℕ) (up : List Bool) (n m tag : ℕ) (ts : List Tell) (flag : Bool)
    → length up ≤ n → HasTag stored n tag → (flag ≡ true → IsAmong (n + 1) ws) → IsPassed g.said (n + 1)
    → AreTells stored g ws up (n + 1) m ts
    → AreTells stored g ws up n m ((if flag then Executed tag else Unknown tag) ∷ ts)
fate_is stored g ws up n m tag ts true new has known is more =
    (has, known refl, λ low. absurd (omega (arith, low, new)), more)
fate_is stored g ws up n m tag ts false new has known is more =
    (has, is, λ low. absurd (omega (arith, low, new)), more)

pub fates_are : (stored : List Waiting) (g : Past) (ws : List ℕ) (up : List Bool) (kept : Record) (doubt : ℕ)
    (cs : List Waiting) (n m : ℕ)
    → IsAmong kept g.said → ((i : ℕ) → IsKnown kept i → IsAmong i ws)
    → ((i : ℕ) (c : Waiting) → slice_get cs i ≡ Some c → slice_get stored (n + i) ≡ Some c)
    → m ≡ n + length cs → (n < m → m ≤ kept.last) → length up ≤ n
    → AreTells stored g ws up n m (fates kept doubt (n + 1) cs)
fates_are stored g ws up kept doubt [] n m among known at e low new = omega (arith, e)
fates_are stored g ws up kept doubt (c ∷ cs) n m among known at e low new =
    let less : n < m = omega (arith, e) in
    let last = low less in
    let here : n + 0 ≡ n = omega arith in
    let has : HasTag stored n c.tag =
    record { command = c; there = subst (λ (k : ℕ). slice_get stored k ≡ Some c) here (at 0 c refl); tagged = refl } in
    let some : 0 < n + 1 = omega arith in
    fate_is stored g ws up n m c.tag (fates kept doubt (n + 1 + 1) cs) (nat_lt doubt (n + 1) && is_marked kept
    (n + 1)) new
    has
    (λ t. known (n + 1) (known_of kept (n + 1) some (both (nat_lt doubt (n + 1)) (is_marked kept (n + 1)) t).1))
    (record { kept = kept; among = among; passed = omega (arith, less, last) })
    (fates_are stored g ws up kept doubt cs (n + 1) m among known
    (λ i d f. let up_one : n + suc i ≡ n + 1 + i = omega arith in
    subst (λ (k : ℕ). slice_get stored k ≡ Some d) up_one (at (suc i) d f))
    (omega (arith, e)) (λ _. last) (omega (arith, new)))

-- ---- the first report

-- how many commands the first report is of
abbrev pub first_count : List Tell → ℕ
first_count [] = 0
first_count (Executed tag ∷ ts) = 1
first_count (Unknown tag ∷ ts) = 1
first_count (Restarted boot ∷ ts) = 0
first_count (RecordLost mark ∷ ts) = 0
first_count (Foreign first last ∷ ts) = 0

pub next_tells : (stored : List Waiting) (g : Past) (ws : List ℕ) (up : List Bool) (n m : ℕ) (ts : List Tell)
    → AreTells stored g ws up n m ts → AreTells stored g ws up (n + first_count ts) m (drop 1 ts)
next_tells stored g ws up n m [] are = let same : n ≡ n + 0 = omega arith in
    subst (λ (k : ℕ). AreTells stored g ws up k m []) same are
next_tells stored g ws up n m (Executed tag ∷ ts) are = are.3
next_tells stored g ws up n m (Unknown tag ∷ ts) are = are.3
next_tells stored g ws up n m (Restarted boot ∷ ts) are = let same : n ≡ n + 0 = omega arith in
    subst (λ (k : ℕ). AreTells stored g ws up k m ts) same are
next_tells stored g ws up n m (RecordLost mark ∷ ts) are = let same : n ≡ n + 0 = omega arith in
    subst (λ (k : ℕ). AreTells stored g ws up k m ts) same are
next_tells stored g ws up n m (Foreign first last ∷ ts) are = let same : n ≡ n + 0 = omega arith in
    subst (λ (k : ℕ). AreTells stored g ws up k m ts) same are

-- ---- a report is made

abbrev pub pushed : List Bool → ℕ → Bool → List Bool
pushed up n executed = if n == length up then up ++ executed ∷ [] else up

-- what was reported, after the first of these reports, which is of the command at the index n
abbrev pub up_after : List Bool → (n : ℕ) → List Tell → List Bool
up_after up n [] = up
up_after up n (Executed tag ∷ ts) = pushed up n true
up_after up n (Unknown tag ∷ ts) = pushed up n false
up_after up n (Restarted boot ∷ ts) = up
up_after up n (RecordLost mark ∷ ts) = up
up_after up n (Foreign first last ∷ ts) = up

get_end : (up : List Bool) (b : Bool) → slice_get (up ++ b ∷ []) (length up) ≡ Some b
get_end [] b = refl
get_end (x ∷ up) b = get_end up b

ne_less : (a b : ℕ) → a ≤ b → (a == b) ≡ false → a < b
ne_less a b low e =
    elim (cases_lt a b) as (λ _. a < b) [
      | inl less ↦ less
      | inr high ↦
          let same : a ≡ b = omega (arith, low, high) in
          let t : (a == b) ≡ true = eq-eqb a b same in
          absurd (cc (t, e))
    ]

-- one more report: earlier ones stay, the one at n is this one, and no later one is
pub record IsPushed (up later : List Bool) (n : ℕ) (executed : Bool) : Type 0 where
  pub stays : (i : ℕ) (b : Bool) → slice_get up i ≡ Some b → slice_get later i ≡ Some b
  pub now : IsFate up n executed → slice_get later n ≡ Some executed
  pub long : length later ≡ max (length up) (n + 1)

push_is : (up : List Bool) (n : ℕ) (executed flag : Bool) → (n == length up) ≡ flag → n ≤ length up
    → IsPushed up (if flag then up ++ executed ∷ [] else up) n executed
push_is up n executed true e low =
    let same : n ≡ length up = eqb-true n (length up) e in
    let long = length-append up (executed ∷ []) in
    record {
      stays = λ i b f. get_append up (executed ∷ []) i b f;
      now = λ f. subst (λ (k : ℕ). slice_get (up ++ executed ∷ []) k ≡ Some executed) (sym same) (get_end up executed);
      long = omega (arith, same, long);
    }
push_is up n executed false e low =
    let less : n < length up = ne_less n (length up) low e in
    record { stays = λ i b f. f; now = λ f. f less; long = omega (arith, less) }

pub pushed_is : (up : List Bool) (n : ℕ) (executed : Bool) → n ≤ length up
    → IsPushed up (pushed up n executed) n executed
pushed_is up n executed low = push_is up n executed (n == length up) refl low

-- a report before the index stays as it was
fate_stays : (up later : List Bool) (n k : ℕ) (b executed : Bool) → IsPushed up later k executed → n < k
    → k ≤ length up → IsFate up n b → IsFate later n b
fate_stays up later n k b executed is low high fate = λ _. is.stays n b (fate (omega (arith, low, high)))

-- reports beyond those that were made
tells_beyond : (stored : List Waiting) (g : Past) (ws : List ℕ) (up later : List Bool) (n m : ℕ) (ts : List Tell)
    → length later ≤ n → AreTells stored g ws up n m ts → AreTells stored g ws later n m ts
tells_beyond stored g ws up later n m [] new are = are
tells_beyond stored g ws up later n m (Executed tag ∷ ts) new are = (
  are.0,
  are.1,
  λ low. absurd (omega (arith, low, new)),
  tells_beyond stored g ws up later (n + 1) m ts (omega (arith, new)) are.3,
)
tells_beyond stored g ws up later n m (Unknown tag ∷ ts) new are = (
  are.0,
  are.1,
  λ low. absurd (omega (arith, low, new)),
  tells_beyond stored g ws up later (n + 1) m ts (omega (arith, new)) are.3,
)
tells_beyond stored g ws up later n m (Restarted boot ∷ ts) new are =
    tells_beyond stored g ws up later n m ts new are
tells_beyond stored g ws up later n m (RecordLost mark ∷ ts) new are =
    tells_beyond stored g ws up later n m ts new are
tells_beyond stored g ws up later n m (Foreign first last ∷ ts) new are =
    tells_beyond stored g ws up later n m ts new are

pub tells_low : (stored : List Waiting) (g : Past) (ws : List ℕ) (up : List Bool) (n m : ℕ) (ts : List Tell)
    → AreTells stored g ws up n m ts → n + first_count ts ≤ m
tells_low stored g ws up n m [] are = omega (arith, are)
tells_low stored g ws up n m (Executed tag ∷ ts) are =
    let low = tells_low stored g ws up (n + 1) m ts are.3 in omega (arith, low)
tells_low stored g ws up n m (Unknown tag ∷ ts) are =
    let low = tells_low stored g ws up (n + 1) m ts are.3 in omega (arith, low)
tells_low stored g ws up n m (Restarted boot ∷ ts) are =
    let low = tells_low stored g ws up n m ts are in omega (arith, low)
tells_low stored g ws up n m (RecordLost mark ∷ ts) are =
    let low = tells_low stored g ws up n m ts are in omega (arith, low)
tells_low stored g ws up n m (Foreign first last ∷ ts) are =
    let low = tells_low stored g ws up n m ts are in omega (arith, low)

-- the same reports have the same indices
pub same_start : (stored : List Waiting) (g : Past) (ws : List ℕ) (up : List Bool) (n k m : ℕ) (ts : List Tell)
    → AreTells stored g ws up n m ts → AreTells stored g ws up k m ts → n ≡ k
same_start stored g ws up n k m [] one two = omega (arith, one, two)
same_start stored g ws up n k m (Executed tag ∷ ts) one two =
    let same = same_start stored g ws up (n + 1) (k + 1) m ts one.3 two.3 in omega (arith, same)
same_start stored g ws up n k m (Unknown tag ∷ ts) one two =
    let same = same_start stored g ws up (n + 1) (k + 1) m ts one.3 two.3 in omega (arith, same)
same_start stored g ws up n k m (Restarted boot ∷ ts) one two = same_start stored g ws up n k m ts one two
same_start stored g ws up n k m (RecordLost mark ∷ ts) one two = same_start stored g ws up n k m ts one two
same_start stored g ws up n k m (Foreign first last ∷ ts) one two = same_start stored g ws up n k m ts one two

start_low : (stored : List Waiting) (g : Past) (ws : List ℕ) (up : List Bool) (n k m : ℕ) (front tail : List Tell)
    → AreTells stored g ws up n m (front ++ tail) → AreTells stored g ws up k m tail → n ≤ k
start_low stored g ws up n k m [] tail one two =
    let same = same_start stored g ws up n k m tail one two in omega (arith, same)
start_low stored g ws up n k m (Executed tag ∷ ts) tail one two =
    let low = start_low stored g ws up (n + 1) k m ts tail one.3 two in omega (arith, low)
start_low stored g ws up n k m (Unknown tag ∷ ts) tail one two =
    let low = start_low stored g ws up (n + 1) k m ts tail one.3 two in omega (arith, low)
start_low stored g ws up n k m (Restarted boot ∷ ts) tail one two = start_low stored g ws up n k m ts tail one two
start_low stored g ws up n k m (RecordLost mark ∷ ts) tail one two = start_low stored g ws up n k m ts tail one two
start_low stored g ws up n k m (Foreign first last ∷ ts) tail one two =
    start_low stored g ws up n k m ts tail one two

-- the reports after one of them is made
rest_pushed : (stored : List Waiting) (g : Past) (ws : List ℕ) (up : List Bool) (n m : ℕ) (executed flag : Bool)
    (ts : List Tell) → (n == length up) ≡ flag → n ≤ length up → AreTells stored g ws up (n + 1) m ts
    → AreTells stored g ws (if flag then up ++ executed ∷ [] else up) (n + 1) m ts
rest_pushed stored g ws up n m executed false ts e low are = are
rest_pushed stored g ws up n m executed true ts e low are =
    let same : n ≡ length up = eqb-true n (length up) e in
    let long = length-append up (executed ∷ []) in
    tells_beyond stored g ws up (up ++ executed ∷ []) (n + 1) m ts (omega (arith, same, long)) are

pub tail_pushed : (stored : List Waiting) (g : Past) (ws : List ℕ) (up : List Bool) (n m : ℕ) (tail : List Tell)
    → n ≤ length up → AreTells stored g ws up n m tail → AreTells stored g ws (up_after up n tail) n m tail
tail_pushed stored g ws up n m [] low are = are
tail_pushed stored g ws up n m (Executed tag ∷ ts) low are =
    let is = pushed_is up n true low in
    (are.0, are.1, λ _. is.now are.2, rest_pushed stored g ws up n m true (n == length up) ts refl low are.3)
tail_pushed stored g ws up n m (Unknown tag ∷ ts) low are =
    let is = pushed_is up n false low in
    (are.0, are.1, λ _. is.now are.2, rest_pushed stored g ws up n m false (n == length up) ts refl low are.3)
tail_pushed stored g ws up n m (Restarted boot ∷ ts) low are = are
tail_pushed stored g ws up n m (RecordLost mark ∷ ts) low are = are
tail_pushed stored g ws up n m (Foreign first last ∷ ts) low are = are

-- what a report changes
pub record Stays (up later : List Bool) (k : ℕ) : Type 0 where
  pub fates : (n : ℕ) (b : Bool) → n < k → IsFate up n b → IsFate later n b
  pub stays : (i : ℕ) (b : Bool) → slice_get up i ≡ Some b → slice_get later i ≡ Some b
  pub long : length up ≤ length later

stays_pushed : (up : List Bool) (k : ℕ) (executed : Bool) → k ≤ length up → Stays up (pushed up k executed) k
stays_pushed up k executed low =
    let is = pushed_is up k executed low in
    let long = is.long in
    record {
      fates = λ n b less fate. fate_stays up (pushed up k executed) n k b executed is less low fate;
      stays = is.stays;
      long = omega (arith, long);
    }

stays_same : (up : List Bool) (k : ℕ) → Stays up up k
stays_same up k = record { fates = λ n b less fate. fate; stays = λ i b f. f; long = omega arith }

pub up_stays : (up : List Bool) (k : ℕ) (ts : List Tell) → k ≤ length up → Stays up (up_after up k ts) k
up_stays up k [] low = stays_same up k
up_stays up k (Executed tag ∷ ts) low = stays_pushed up k true low
up_stays up k (Unknown tag ∷ ts) low = stays_pushed up k false low
up_stays up k (Restarted boot ∷ ts) low = stays_same up k
up_stays up k (RecordLost mark ∷ ts) low = stays_same up k
up_stays up k (Foreign first last ∷ ts) low = stays_same up k

pub up_long : (up : List Bool) (k : ℕ) (ts : List Tell) → k ≤ length up
    → length (up_after up k ts) ≡ max (length up) (k + first_count ts)
up_long up k [] low = omega (arith, low)
up_long up k (Executed tag ∷ ts) low = (pushed_is up k true low).long
up_long up k (Unknown tag ∷ ts) low = (pushed_is up k false low).long
up_long up k (Restarted boot ∷ ts) low = omega (arith, low)
up_long up k (RecordLost mark ∷ ts) low = omega (arith, low)
up_long up k (Foreign first last ∷ ts) low = omega (arith, low)

pub tells_pushed : (stored : List Waiting) (g : Past) (ws : List ℕ) (up : List Bool) (n k m : ℕ)
    (front tail : List Tell) → k ≤ length up → AreTells stored g ws up n m (front ++ tail)
    → AreTells stored g ws up k m tail → AreTells stored g ws (up_after up k tail) n m (front ++ tail)
tells_pushed stored g ws up n k m [] tail low are two =
    let same : k ≡ n = same_start stored g ws up k n m tail two are in
    subst (λ (i : ℕ). AreTells stored g ws (up_after up k tail) i m tail) same
    (tail_pushed stored g ws up k m tail low two)
tells_pushed stored g ws up n k m (Executed tag ∷ ts) tail low are two =
    let less = start_low stored g ws up (n + 1) k m ts tail are.3 two in (
      are.0,
      are.1,
      (up_stays up k tail low).fates n true (omega (arith, less)) are.2,
      tells_pushed stored g ws up (n + 1) k m ts tail low are.3 two,
    )
tells_pushed stored g ws up n k m (Unknown tag ∷ ts) tail low are two =
    let less = start_low stored g ws up (n + 1) k m ts tail are.3 two in (
      are.0,
      are.1,
      (up_stays up k tail low).fates n false (omega (arith, less)) are.2,
      tells_pushed stored g ws up (n + 1) k m ts tail low are.3 two,
    )
tells_pushed stored g ws up n k m (Restarted boot ∷ ts) tail low are two =
    tells_pushed stored g ws up n k m ts tail low are two
tells_pushed stored g ws up n k m (RecordLost mark ∷ ts) tail low are two =
    tells_pushed stored g ws up n k m ts tail low are two
tells_pushed stored g ws up n k m (Foreign first last ∷ ts) tail low are two =
    tells_pushed stored g ws up n k m ts tail low are two

-- ---- more commands are stored

pub tag_more : (stored rest : List Waiting) (n tag : ℕ) → HasTag stored n tag → HasTag (stored ++ rest) n tag
tag_more stored rest n tag is =
    record {
      command = is.command;
      there = get_append stored rest n is.command is.there;
      tagged = is.tagged;
    }

pub tells_stored : (stored rest : List Waiting) (g : Past) (ws : List ℕ) (up : List Bool) (n m : ℕ) (ts : List Tell)
    → AreTells stored g ws up n m ts → AreTells (stored ++ rest) g ws up n m ts
tells_stored stored rest g ws up n m [] are = are
tells_stored stored rest g ws up n m (Executed tag ∷ ts) are =
    (tag_more stored rest n tag are.0, are.1, are.2, tells_stored stored rest g ws up (n + 1) m ts are.3)
tells_stored stored rest g ws up n m (Unknown tag ∷ ts) are =
    (tag_more stored rest n tag are.0, are.1, are.2, tells_stored stored rest g ws up (n + 1) m ts are.3)
tells_stored stored rest g ws up n m (Restarted boot ∷ ts) are = tells_stored stored rest g ws up n m ts are
tells_stored stored rest g ws up n m (RecordLost mark ∷ ts) are = tells_stored stored rest g ws up n m ts are
tells_stored stored rest g ws up n m (Foreign first last ∷ ts) are = tells_stored stored rest g ws up n m ts are
