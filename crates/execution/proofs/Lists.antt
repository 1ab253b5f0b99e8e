-- Lists of commands and of entries.
use Rattle.std.proofs.Common.{◌≡◌, ℕ, zero, suc, ◌+◌, ◌<◌, ◌≤◌, inl, inr, List, [], ◌∷◌, ◌++◌, Some, length}
use Rattle.std.proofs.Common.{refl, sym, ap, subst, arith, drop}
use Rattle.std.specs.Prelude.{slice_get, take, ⊤, true, ◌^◌}
use Rattle.std.specs.List.{AllByRecursion}
use Rattle.command_log.specs.Packets.{is_command, number_in, content_in}
use Rattle.command_log.specs.Board.{IsAmong}
use Rattle.command_ledger.specs.Waiting.{Waiting}

pub get_append : {X : Type 0} (xs ys : List X) (n : ℕ) (x : X) → slice_get xs n ≡ Some x
    → slice_get (xs ++ ys) n ≡ Some x
get_append [] ys n x e = absurd cc
get_append (z ∷ xs) ys zero x e = e
get_append (z ∷ xs) ys (suc n) x e = get_append xs ys n x e

pub get_front : {X : Type 0} (xs ys : List X) (n : ℕ) (x : X) → slice_get (xs ++ ys) n ≡ Some x → n < length xs
    → slice_get xs n ≡ Some x
get_front [] ys n x e low = absurd (omega (arith, low))
get_front (z ∷ xs) ys zero x e low = e
get_front (z ∷ xs) ys (suc n) x e low = get_front xs ys n x e (omega (arith, low))

pub get_drop : {X : Type 0} (below n : ℕ) (xs : List X) (x : X) → slice_get (drop below xs) n ≡ Some x
    → slice_get xs (below + n) ≡ Some x
get_drop zero n xs x e = let same : 0 + n ≡ n = omega arith in rw same e
get_drop (suc below) n [] x e = absurd cc
get_drop (suc below) n (z ∷ xs) x e =
    let same : suc below + n ≡ suc (below + n) = omega arith in rw same (get_drop below n xs x e)

pub get_low : {X : Type 0} (xs : List X) (n : ℕ) (x : X) → slice_get xs n ≡ Some x → n < length xs
get_low [] n x e = absurd cc
get_low (z ∷ xs) zero x e = omega arith
get_low (z ∷ xs) (suc n) x e = let low = get_low xs n x e in omega (arith, low)

-- an index of the first ones
pub get_take : {X : Type 0} (n : ℕ) (xs : List X) (i : ℕ) (x : X) → slice_get (take n xs) i ≡ Some x
    → slice_get xs i ≡ Some x
get_take zero [] i x e = absurd cc
get_take zero (z ∷ xs) i x e = absurd cc
get_take (suc n) [] i x e = absurd cc
get_take (suc n) (z ∷ xs) zero x e = e
get_take (suc n) (z ∷ xs) (suc i) x e = get_take n xs i x e

pub all_more : {X : Type 0} (P Q : X → Type 0) → ((x : X) → P x → Q x) → (xs : List X) → AllByRecursion P xs
    → AllByRecursion Q xs
all_more P Q f [] is = tt
all_more P Q f (x ∷ xs) is = (f x is.0, all_more P Q f xs is.1)

pub all_at : {X : Type 0} (P : X → Type 0) (x : X) (xs : List X) → IsAmong x xs → AllByRecursion P xs → P x
all_at P x [] among is = absurd among
all_at P x (y ∷ ys) (inl e) is = subst P (sym e) is.0
all_at P x (y ∷ ys) (inr h) is = all_at P x ys h is.1

-- ---- the contents of commands, and their numbers

abbrev pub contents : List Waiting → List (List ℕ)
contents [] = []
contents (c ∷ cs) = content_in c.packet ∷ contents cs

pub contents_at : (cs : List Waiting) (n : ℕ) (c : Waiting) → slice_get cs n ≡ Some c
    → slice_get (contents cs) n ≡ Some (content_in c.packet)
contents_at [] n c e = absurd cc
contents_at (x ∷ cs) zero c e = cc
contents_at (x ∷ cs) (suc n) c e = contents_at cs n c e

pub contents_both : (xs ys : List Waiting) → contents (xs ++ ys) ≡ contents xs ++ contents ys
contents_both [] ys = refl
contents_both (x ∷ xs) ys = ap (λ (cs : List (List ℕ)). content_in x.packet ∷ cs) (contents_both xs ys)

-- a command packet with its number, as it is stored
pub record IsPacket (n : ℕ) (c : Waiting) : Type 0 where
  pub command : is_command c.packet ≡ true
  pub number : number_in c.packet ≡ n
  pub short : length c.packet ≤ 65542
  pub tag : c.tag < 2 ^ 64

-- the numbers begin after n
abbrev pub ArePackets : ℕ → List Waiting → Type 0
ArePackets n [] = ⊤
ArePackets n (c ∷ cs) = IsPacket (n + 1) c × ArePackets (n + 1) cs

pub packets_push : (n m : ℕ) (cs : List Waiting) (c : Waiting) → ArePackets n cs → m ≡ n + length cs + 1 → IsPacket m c
    → ArePackets n (cs ++ c ∷ [])
packets_push n m [] c are e is =
    let same : m ≡ n + 1 = omega (arith, e) in (subst (λ (k : ℕ). IsPacket k c) same is, tt)
packets_push n m (x ∷ cs) c are e is = (are.0, packets_push (n + 1) m cs c are.1 (omega (arith, e)) is)

pub packet_at : (n i : ℕ) (cs : List Waiting) (c : Waiting) → ArePackets n cs → slice_get cs i ≡ Some c
    → IsPacket (n + i + 1) c
packet_at n i [] c are e = absurd cc
packet_at n zero (x ∷ cs) c are e =
    let same : n + 1 ≡ n + 0 + 1 = omega arith in
    let one : x ≡ c = cc in
    subst (λ (k : ℕ). IsPacket k c) same (subst (IsPacket (n + 1)) one are.0)
packet_at n (suc i) (x ∷ cs) c are e =
    let same : n + 1 + i + 1 ≡ n + suc i + 1 = omega arith in
    subst (λ (k : ℕ). IsPacket k c) same (packet_at (n + 1) i cs c are.1 e)

pub packets_drop : (below n : ℕ) (cs : List Waiting) → ArePackets n cs → below ≤ length cs
    → ArePackets (n + below) (drop below cs)
packets_drop zero n cs are low =
    let same : n ≡ n + 0 = omega arith in subst (λ (k : ℕ). ArePackets k cs) same are
packets_drop (suc below) n [] are low = absurd (omega (arith, low))
packets_drop (suc below) n (c ∷ cs) are low =
    let same : n + 1 + below ≡ n + suc below = omega arith in
    subst (λ (k : ℕ). ArePackets k (drop below cs)) same (packets_drop below (n + 1) cs are.1 (omega (arith, low)))
