-- Places in the stream of packets: where packets start, also after more packets are added.
use Rattle.std.proofs.Common.{◌≡◌, ◌≤◌, ◌<◌, ◌⊎◌, ℕ, ◌+◌, List, [], ◌∷◌, ◌++◌, length, refl, sym}
use Rattle.std.proofs.Common.{ap, ◌∙◌, arith, inl, inr, length-append, append_assoc, ◌-◌, ltb, map}
use Rattle.std.proofs.Common.{subst}
use Rattle.std.specs.List.{concat}
use Rattle.std.proofs.lemmas.List.{append-nil, map-append}
use Rattle.std.proofs.lemmas.List.Folds.{concat-append}
use Rattle.tm_link.specs.declared.frame.Pointer.{Pointer}
use Rattle.tm_link.specs.declared.frame.Pointer.TheVariants.{At, NoStart, OnlyIdle}
use Rattle.tm_link.specs.Layout.{FrameView}
use Rattle.tm_link.specs.Stream.{IsStart, IsEnd, HasNoStart, IsPointed, carried_by, slice_of}
use Rattle.tm_link.specs.Stream.{carried_octets}
use Rattle.std.proofs.lemmas.Bool.{cond_both, cases_lt, ltb-true, ltb-false}
use Rattle.tm_link.specs.Builder.{first_start, left_after, IsCutAt}
use Rattle.tm_link.proofs.Spelled.{passed_within, passed_beyond}

-- an element of two lists joined is one of the first, or one of the second
pub element_of : {X : Type 0} (xs ys before after : List X) (p : X) → xs ++ ys ≡ before ++ p ∷ after
    → ((more : List X) × (xs ≡ before ++ p ∷ more) × (after ≡ more ++ ys))
    ⊎ ((more : List X) × (before ≡ xs ++ more) × (ys ≡ more ++ p ∷ after))
element_of [] ys before after p e = inr (before, refl, e)
element_of {X = X} (x ∷ xs) ys [] after p e =
    let first : x ≡ p = cc in
    let rest : after ≡ xs ++ ys = cc in
    inl (xs, ap (λ (z : X). z ∷ xs) first, rest)
element_of {X = X} (x ∷ xs) ys (b ∷ bs) after p e =
    let first : x ≡ b = cc in
    let rest : xs ++ ys ≡ bs ++ p ∷ after = cc in
    elim (element_of xs ys bs after p rest) [
      | inl w ↦ inl (w.0, ap (λ (z : X). z ∷ xs) first ∙ ap (λ (zs : List X). b ∷ zs) w.1, w.2)
      | inr w ↦ inr (w.0, ap (λ (zs : List X). b ∷ zs) w.1 ∙ ap (λ (z : X). z ∷ (xs ++ w.0)) (sym first), w.2)
    ]

last_of : {X : Type 0} (xs before after more : List X) (y p : X) → before ≡ xs ++ more → y ∷ [] ≡ more ++ p ∷ after
    → (before ≡ xs) × (p ≡ y) × (after ≡ [])
last_of xs before after [] y p b e = (b ∙ append-nil xs, cc, cc)
last_of xs before after (m ∷ []) y p b e = absurd cc
last_of xs before after (m ∷ n ∷ ms) y p b e = absurd cc

-- an element of a list and one more
pub last_or_before : {X : Type 0} (xs before after : List X) (y p : X) → xs ++ y ∷ [] ≡ before ++ p ∷ after
    → ((more : List X) × (xs ≡ before ++ p ∷ more) × (after ≡ more ++ y ∷ []))
    ⊎ ((before ≡ xs) × (p ≡ y) × (after ≡ []))
last_or_before {X = X} xs before after y p e =
    elim (element_of xs (y ∷ []) before after p e) [
      | inl w ↦ inl (w.0, w.1, w.2)
      | inr w ↦ inr (last_of xs before after w.0 y p w.1 w.2)
    ]

-- ---- more packets after

pub start_more : (all more : List (List ℕ)) (place : ℕ) → IsStart all place → IsStart (all ++ more) place
start_more all more place h =
    (h.0, h.1 ++ more, h.2, ap (λ (ps : List (List ℕ)). ps ++ more) h.3 ∙ append_assoc h.0 (h.2 ∷ h.1) more, h.4)

pub end_more : (all more : List (List ℕ)) (place : ℕ) → IsEnd all place → IsEnd (all ++ more) place
end_more all more place h =
    (h.0, h.1 ++ more, ap (λ (ps : List (List ℕ)). ps ++ more) h.2 ∙ append_assoc h.0 h.1 more, h.3)

-- a start before their end
pub start_within : (all more : List (List ℕ)) (place : ℕ) → place < length (concat all) → IsStart (all ++ more) place
    → IsStart all place
start_within all more place lt h =
    elim (element_of all more h.0 h.1 h.2 h.3) [
      | inl w ↦ (h.0, w.0, h.2, w.1, h.4)
      | inr w ↦
          let size : length (concat h.0) ≡ length (concat all) + length (concat w.0) =
          ap (λ (ps : List (List ℕ)). length (concat ps)) w.1 ∙ ap length (concat-append all w.0)
          ∙ length-append (concat all) (concat w.0) in
          let at : length (concat h.0) ≡ place = h.4 in
          absurd (omega arith)
    ]

pub none_more : (all more : List (List ℕ)) (place n : ℕ) → place + n ≤ length (concat all) → HasNoStart all place n
    → HasNoStart (all ++ more) place n
none_more all more place n le h = λ q lt s. h q lt (start_within all more (place + q) (omega arith) s)

pub pointed_more : (all more : List (List ℕ)) (place : ℕ) (pointer : Pointer) (payload : List ℕ)
    → place + length (carried_by pointer payload) ≤ length (concat all)
    → IsPointed all place pointer (length payload) → IsPointed (all ++ more) place pointer (length payload)
pointed_more all more place OnlyIdle payload le h = end_more all more place h
pointed_more all more place NoStart payload le h = none_more all more place (length payload) le h
pointed_more all more place (At p) payload le h =
    let within : p < length payload = h.0 in
    (within, start_more all more (place + p) h.1, none_more all more place p (omega arith) h.2)

-- ---- within a packet

-- no packet starts strictly within the n octets from this place on
abbrev pub NoneInside : List (List ℕ) → ℕ → ℕ → Type 0
NoneInside all place n = (q : ℕ) → 0 < q → q < n → IsStart all (place + q) → ⊥

inside_after : (before after b a ps : List (List ℕ)) (p x : List ℕ) (q : ℕ) → 0 < q → q < length p
    → length (concat b) ≡ length (concat before) + q → b ≡ before ++ ps → p ∷ after ≡ ps ++ x ∷ a → ⊥
inside_after before after b a [] p x q some lt at e rest =
    let size : length (concat b) ≡ length (concat before) =
    ap (λ (ps : List (List ℕ)). length (concat ps)) (e ∙ append-nil before) in
    omega arith
inside_after before after b a (y ∷ ys) p x q some lt at e rest =
    let first : p ≡ y = cc in
    let same : length p ≡ length y = ap length first in
    let size : length (concat b) ≡ length (concat before) + length (concat (y ∷ ys)) =
    ap (λ (ps : List (List ℕ)). length (concat ps)) e ∙ ap length (concat-append before (y ∷ ys))
    ∙ length-append (concat before) (concat (y ∷ ys)) in
    omega (arith, length-append y (concat ys))

pub none_inside : (all before after : List (List ℕ)) (p : List ℕ) (place : ℕ) → all ≡ before ++ p ∷ after
    → length (concat before) ≡ place → NoneInside all place (length p)
none_inside all before after p place e at = λ q some lt s.
    let here : length (concat s.0) ≡ place + q = s.4 in
    elim (element_of before (p ∷ after) s.0 s.1 s.2 (sym e ∙ s.3)) [
      | inl w ↦
          let size : length (concat before) ≡ length (concat s.0) + length (concat (s.2 ∷ w.0)) =
          ap (λ (ps : List (List ℕ)). length (concat ps)) w.1 ∙ ap length (concat-append s.0 (s.2 ∷ w.0))
          ∙ length-append (concat s.0) (concat (s.2 ∷ w.0)) in
          absurd (omega arith)
      | inr w ↦ absurd (inside_after before after s.0 s.1 w.0 p s.2 q some lt (omega arith) w.1 w.2)
    ]

-- ---- what frames carry

pub carried_octets-append : (xs ys : List FrameView)
    → carried_octets (xs ++ ys) ≡ carried_octets xs ++ carried_octets ys
carried_octets-append [] ys = refl
carried_octets-append (x ∷ xs) ys =
    ap (λ (zs : List ℕ). slice_of x ++ zs) (carried_octets-append xs ys)
    ∙ sym (append_assoc (slice_of x) (carried_octets xs) (carried_octets ys))

pub length-carried : (before after : List FrameView) (f : FrameView)
    → length (carried_octets (before ++ f ∷ after)) ≡ length (carried_octets before)
    + (length (slice_of f) + length (carried_octets after))
length-carried before after f =
    ap length (carried_octets-append before (f ∷ after))
    ∙ length-append (carried_octets before) (carried_octets (f ∷ after))
    ∙ ap (λ (n : ℕ). length (carried_octets before) + n) (length-append (slice_of f) (carried_octets after))

-- Where packets start in what is held, and after some of it is passed.

-- one more packet
pub length-more : (packets : List (List ℕ)) (p : List ℕ)
    → length (concat (packets ++ p ∷ [])) ≡ length (concat packets) + length p
length-more packets p =
    ap length (concat-append packets (p ∷ []) ∙ ap (λ (xs : List ℕ). concat packets ++ xs) (append-nil p))
    ∙ length-append (concat packets) p

-- ---- from a place on

-- all octets of the packets
pub cut_most : (all : List (List ℕ)) (place left : ℕ) (sizes : List ℕ) (h : IsCutAt all place left sizes)
    → length (concat all) ≡ place + left + length (concat h.whole)
cut_most all place left sizes h =
    ap (λ (ps : List (List ℕ)). length (concat ps)) h.parts ∙ ap length (concat-append h.before h.whole)
    ∙ length-append (concat h.before) (concat h.whole) ∙ ap (λ (n : ℕ). n + length (concat h.whole)) h.ends

-- one more packet
pub cut_more : (all : List (List ℕ)) (place left : ℕ) (sizes : List ℕ) (p : List ℕ) → IsCutAt all place left sizes
    → IsCutAt (all ++ p ∷ []) place left (sizes ++ length p ∷ [])
cut_more all place left sizes p h = record {
  before = h.before;
  whole = h.whole ++ p ∷ [];
  parts = ap (λ (ps : List (List ℕ)). ps ++ p ∷ []) h.parts ∙ append_assoc h.before h.whole (p ∷ []);
  ends = h.ends;
  none = none_more all (p ∷ []) place left (omega (arith, cut_most all place left sizes h)) h.none;
  lengths = map-append length h.whole (p ∷ []) ∙ ap (λ (ns : List ℕ). ns ++ length p ∷ []) h.lengths;
}

-- the first whole packet starts after the octets in which none does
start_at : (all before whole : List (List ℕ)) (place : ℕ) → all ≡ before ++ whole → length (concat before) ≡ place
    → 0 < length (concat whole) → IsStart all place
start_at all before [] place e at some = absurd (omega arith)
start_at all before (p ∷ ps) place e at some = (before, ps, p, e, at)

-- so the pointer is the first place where a packet starts
pub pointed_first : (all : List (List ℕ)) (place left size : ℕ) (sizes : List ℕ) (h : IsCutAt all place left sizes)
    → (left < size → 0 < length (concat h.whole)) → IsPointed all place (first_start left size) size
pointed_first all place left size sizes h some =
    cond_both (ltb left size) (At left) NoStart (λ (p : Pointer). IsPointed all place p size)
    (λ t. (
      ltb-true left size t,
      start_at all h.before h.whole (place + left) h.parts h.ends
          (some (ltb-true left size t)),
      h.none,
    ))
    (λ f q lt s. let le : size ≤ left = ltb-false left size f in h.none q (omega arith) s)

-- a frame with such a pointer carries its data
pub slice_is : (left size : ℕ) (payload : List ℕ) → carried_by (first_start left size) payload ≡ payload
slice_is left size payload =
    cond_both (ltb left size) (At left) NoStart (λ (p : Pointer). carried_by p payload ≡ payload) (λ t. refl)
    (λ f. refl)

-- ---- octets passed

pub cut_again : (all : List (List ℕ)) (place left other less : ℕ) (sizes : List ℕ) → place ≡ other → left ≡ less
    → IsCutAt all place left sizes → IsCutAt all other less sizes
cut_again all place left other less sizes e d h =
    subst (λ (n : ℕ). IsCutAt all n less sizes) e (subst (λ (n : ℕ). IsCutAt all place n sizes) d h)

-- no more than those in which no packet starts
cut_within : (all before whole : List (List ℕ)) (place begun room : ℕ) → all ≡ before ++ whole
    → length (concat before) ≡ place + begun → NoneInside all place begun → 0 < room → room ≤ begun
    → IsCutAt all (place + room) (begun - room) (map length whole)
cut_within all before whole place begun room e at none some le = record {
  before = before;
  whole = whole;
  parts = e;
  ends = omega arith;
  none = λ q lt s. none (room + q) (omega arith) (omega arith)
      (let same : place + room + q ≡ place + (room + q) = omega arith in subst (IsStart all) same s);
  lengths = refl;
}

-- no more than there are
pass_on : (all before whole : List (List ℕ)) (place begun room : ℕ) → all ≡ before ++ whole
    → length (concat before) ≡ place + begun → NoneInside all place begun → 0 < room
    → room ≤ begun + length (concat whole)
    → IsCutAt all (place + room) (left_after room begun (map length whole)).0
    (left_after room begun (map length whole)).1
pass_on all before [] place begun room e at none some le =
    cut_within all before [] place begun room e at none some (omega arith)
pass_on all before (p ∷ ps) place begun room e at none some le =
    elim (cases_lt begun room) [
      | inl lt ↦
          let size : length (concat (before ++ p ∷ [])) ≡ length (concat before) + length p = length-more before p in
          let both : length (concat (p ∷ ps)) ≡ length p + length (concat ps) = length-append p (concat ps) in
          let behind = pass_on all (before ++ p ∷ []) ps (place + begun) (length p) (room - begun)
          (e ∙ sym (append_assoc before (p ∷ []) ps)) (omega arith)
          (none_inside all before ps p (place + begun) e at) (omega arith) (omega arith) in
          rw (passed_beyond room begun (length p) (map length ps) lt)
          (cut_again all (place + begun + (room - begun)) _ (place + room) _ _ (omega arith) refl behind)
      | inr ge ↦ rw (passed_within room begun (map length (p ∷ ps)) ge)
          (cut_within all before (p ∷ ps) place begun room e at none some ge)
    ]

-- all of them, and more
pass_all : (whole : List (List ℕ)) (room begun : ℕ) → begun + length (concat whole) < room
    → left_after room begun (map length whole) ≡ (0, [])
pass_all [] room begun lt = let left : begun - room ≡ 0 = omega arith in rw left refl
pass_all (p ∷ ps) room begun lt =
    let both : length (concat (p ∷ ps)) ≡ length p + length (concat ps) = length-append p (concat ps) in
    passed_beyond room begun (length p) (map length ps) (omega arith)
    ∙ pass_all ps (room - begun) (length p) (omega arith)

-- after this many of the octets held
pub cut_after : (all : List (List ℕ)) (place idle begun size : ℕ) (sizes : List ℕ)
    (h : IsCutAt all place (idle + begun) sizes) → size ≤ idle + begun + length (concat h.whole)
    → IsCutAt all (place + size) (idle - size + (left_after (size - idle) begun sizes).0)
    (left_after (size - idle) begun sizes).1
cut_after all place idle begun size sizes h le =
    let ends : length (concat h.before) ≡ place + (idle + begun) = h.ends in
    elim (cases_lt idle size) [
      | inl lt ↦
          let none : NoneInside all (place + idle) begun =
          λ q some below t. let same : place + idle + q ≡ place + (idle + q) =
          omega arith in h.none (idle + q) (omega arith) (subst (IsStart all) same t) in
          let on = pass_on all h.before h.whole (place + idle) begun (size - idle) h.parts (omega arith) none
          (omega arith) (omega arith) in
          let known : IsCutAt all (place + idle + (size - idle)) (left_after (size - idle) begun sizes).0
          (left_after (size - idle) begun sizes).1 =
          subst (λ (ns : List ℕ). IsCutAt all (place + idle + (size - idle)) (left_after (size - idle) begun ns).0
          (left_after (size - idle) begun ns).1) h.lengths on in
          cut_again all _ _ (place + size) _ _ (omega arith) (omega arith) known
      | inr ge ↦
          let kept : left_after (size - idle) begun sizes ≡ (begun - (size - idle), sizes) =
          passed_within (size - idle) begun sizes (omega arith) in
          rw kept (record {
            before = h.before;
            whole = h.whole;
            parts = h.parts;
            ends = omega arith;
            none = λ q lt t. let same : place + size + q ≡ place + (size + q) =
                omega arith in h.none (size + q) (omega arith) (subst (IsStart all) same t);
            lengths = h.lengths;
          })
    ]

-- after all of them, if a packet that ends this many octets later is at this place
pub cut_last : (packets : List (List ℕ)) (p : List ℕ) (place left : ℕ)
    → place + left ≡ length (concat packets) + length p → length (concat packets) < place
    → IsCutAt (packets ++ p ∷ []) place left []
cut_last packets p place left e lt =
    let all : List (List ℕ) = packets ++ p ∷ [] in
    let count : length (concat all) ≡ length (concat packets) + length p = length-more packets p in
    let ahead : ℕ = place - length (concat packets) in
    record {
      before = all;
      whole = [];
      parts = sym (append-nil all);
      ends = omega arith;
      none = λ q below t.
          let same : place + q ≡ length (concat packets) + (ahead + q) = omega arith in
          none_inside all packets [] p (length (concat packets)) refl refl (ahead + q) (omega arith) (omega arith)
          (subst (IsStart all) same t);
      lengths = refl;
    }

-- all of them are passed
pub passed_held : (all : List (List ℕ)) (place left room begun : ℕ) (sizes : List ℕ) (h : IsCutAt all place left sizes)
    → begun + length (concat h.whole) < room → left_after room begun sizes ≡ (0, [])
passed_held all place left room begun sizes h lt =
    ap (λ (ns : List ℕ). left_after room begun ns) (sym h.lengths) ∙ pass_all h.whole room begun lt
