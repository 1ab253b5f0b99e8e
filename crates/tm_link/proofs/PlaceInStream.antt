-- Which packets have arrived, by the marks of their octets.
use Rattle.std.proofs.Common.{◌≡◌, ◌<◌, ℕ, zero, suc, Bool, true, false, cond, eqb, List, [], ◌∷◌}
use Rattle.std.proofs.Common.{◌++◌, length, take, drop, replicate, refl, sym, ap, ◌∙◌, arith}
use Rattle.std.proofs.Common.{append_assoc, length-append, ◌≤◌, ◌⊎◌, ◌+◌, subst, inl, inr}
use Rattle.std.specs.List.{AllByRecursion, concat, list_all}
use Rattle.std.proofs.lemmas.Bool.{eq-eqb, ne_eqb, cases_lt}
use Rattle.std.proofs.lemmas.List.{take_at, drop_at, take_all, drop_all, length-replicate}
use Rattle.std.proofs.lemmas.List.{replicate-append-replicate, append-nil, append_cancel_left}
use Rattle.std.proofs.lemmas.List.{nil_from_length, take-append-le, take-append-drop}
use Rattle.octets.specs.Records.{IsRecord}
use Rattle.space_packet.specs.Decoding.{extent_at}
use Rattle.tm_link.specs.Stream.{are_received, complete_packets}
use Rattle.std.specs.Prelude.{◌&&◌}
use Rattle.std.proofs.lemmas.List.Folds.{concat-append, list_all-append}

-- all of the marks are set
abbrev pub are_set : List Bool → Bool
are_set marks = list_all (λ m. m) marks

pub all_set : (n : ℕ) → are_set (replicate n true) ≡ true
all_set zero = refl
all_set (suc n) = all_set n

-- some marks of one kind
pub set_alike : (n : ℕ) (c : Bool) → 0 < n → are_set (replicate n c) ≡ c
set_alike zero c some = absurd (omega arith)
set_alike (suc n) true some = all_set n
set_alike (suc n) false some = refl

are_received-front : (n : ℕ) (front more : List Bool) → length front ≡ n
    → are_received n (front ++ more) ≡ are_set front
are_received-front n front more h =
    let t : take n (front ++ more) ≡ front = take_at front more n h in
    let e : eqb (length front) n ≡ true = eq-eqb _ _ h in
    rw (t, e) refl

come_by : (p : List ℕ) (rest : List (List ℕ)) (b : Bool) → cond b (p ∷ rest) rest ≡ cond b (p ∷ []) [] ++ rest
come_by p rest true = refl
come_by p rest false = refl

-- a packet whose octets have these marks
pub complete_packets-front : (p : List ℕ) (ps : List (List ℕ)) (front more : List Bool) → length front ≡ length p
    → complete_packets (p ∷ ps) (front ++ more) ≡ cond (are_set front) (p ∷ []) [] ++ complete_packets ps more
complete_packets-front p ps front more h =
    let t : are_received (length p) (front ++ more) ≡ are_set front = are_received-front (length p) front more h in
    let d : drop (length p) (front ++ more) ≡ more = drop_at front more (length p) h in
    rw (t, d) (come_by p (complete_packets ps more) (are_set front))

-- whole packets, all of whose octets are marked alike
come_alike : (c : Bool) (p : List ℕ) (ws rest : List (List ℕ))
    → cond c (p ∷ []) [] ++ (cond c ws [] ++ rest) ≡ cond c (p ∷ ws) [] ++ rest
come_alike true p ws rest = refl
come_alike false p ws rest = refl

pub complete_packets-alike : (c : Bool) (ws ps : List (List ℕ)) (more : List Bool)
    → AllByRecursion (IsRecord 6 extent_at) ws
    → complete_packets (ws ++ ps) (replicate (length (concat ws)) c ++ more) ≡ cond c ws [] ++ complete_packets ps more
complete_packets-alike true [] ps more each = refl
complete_packets-alike false [] ps more each = refl
complete_packets-alike c (w ∷ ws) ps more each =
    let front : List Bool = replicate (length w) c in
    let behind : List Bool = replicate (length (concat ws)) c in
    let parts : replicate (length (w ++ concat ws)) c ≡ front ++ behind =
    ap (λ n. replicate n c) (length-append w (concat ws))
    ∙ sym (replicate-append-replicate (length w) (length (concat ws)) c) in
    let is : are_set front ≡ c = set_alike (length w) c (omega (arith, each.0.has_head)) in
    ap (λ (ms : List Bool). complete_packets (w ∷ (ws ++ ps)) (ms ++ more)) parts
    ∙ ap (complete_packets (w ∷ (ws ++ ps))) (append_assoc front behind more)
    ∙ complete_packets-front w (ws ++ ps) front (behind ++ more) (length-replicate (length w) c)
    ∙ ap (λ (b : Bool). cond b (w ∷ []) [] ++ complete_packets (ws ++ ps) (behind ++ more)) is
    ∙ ap (λ (xs : List (List ℕ)). cond c (w ∷ []) [] ++ xs) (complete_packets-alike c ws ps more each.1)
    ∙ come_alike c w ws (complete_packets ps more)

-- a packet with a missing octet has not arrived
too_few : (n : ℕ) (marks : List Bool) → length marks < n → are_received n marks ≡ false
too_few n marks h =
    let t : take n marks ≡ marks = take_all n marks (omega arith) in
    let e : eqb (length marks) n ≡ false = ne_eqb _ _ (λ (is : length marks ≡ n). omega arith) in
    rw (t, e) refl

abbrev no_marks : List Bool
no_marks = []

none_come : (ps : List (List ℕ)) → AllByRecursion (IsRecord 6 extent_at) ps → complete_packets ps no_marks ≡ []
none_come [] each = refl
none_come (p ∷ ps) each =
    let t : are_received (length p) no_marks ≡ false = too_few (length p) no_marks (omega (arith, each.0.has_head)) in
    let d : drop (length p) no_marks ≡ no_marks = drop_all (length p) no_marks (omega arith) in
    rw (t, d) (none_come ps each.1)

pub complete_packets-short : (p : List ℕ) (ps : List (List ℕ)) (marks : List Bool)
    → AllByRecursion (IsRecord 6 extent_at) ps → length marks < length p → complete_packets (p ∷ ps) marks ≡ []
complete_packets-short p ps marks each h =
    let t : are_received (length p) marks ≡ false = too_few (length p) marks h in
    let d : drop (length p) marks ≡ no_marks = drop_all (length p) marks (omega arith) in
    rw (t, d) (none_come ps each)

-- A place in a stream of packets, and how the octets after it move it on.

abbrev pub Packets : Type 0
Packets = List (List ℕ)

abbrev pub AreRecords : Packets → Type 0
AreRecords ps = AllByRecursion (IsRecord 6 extent_at) ps

pub records-behind : (xs ys : Packets) → AreRecords (xs ++ ys) → AreRecords ys
records-behind [] ys h = h
records-behind (x ∷ xs) ys h = records-behind xs ys h.1

pub records-before : (xs ys : Packets) → AreRecords (xs ++ ys) → AreRecords xs
records-before [] ys h = tt
records-before (x ∷ xs) ys h = (h.0, records-before xs ys h.1)

-- these octets are the beginning of the first packet, not all of it
abbrev pub Opens : List ℕ → Packets → Type 0
Opens tail [] = tail ≡ []
Opens tail (p ∷ ps) = length tail < length p

pub none_opens : (ps : Packets) → AreRecords ps → Opens [] ps
none_opens [] each = refl
none_opens (p ∷ ps) each = omega (arith, each.0.has_head)

-- At this place there are these octets of the packet that arrives first, followed by these others.
pub record Stood (all : Packets) (place : ℕ) (tail : List ℕ) (ps : Packets) (others : List ℕ) : Type 0 where
  pub passed : Packets
  pub parts : all ≡ passed ++ ps
  pub each : AreRecords ps
  pub place_is : length (concat passed) + length tail ≡ place
  pub opens : Opens tail ps
  pub ahead : tail ++ others ≡ concat ps

-- Some octets, marked alike, after a place.
pub record Moved (c : Bool) (ps : Packets) (tail : List ℕ) (marks : List Bool) (octets : List ℕ) : Type 0 where
  -- the packets that have arrived with them
  pub added : Packets
  -- the packets that are passed, and those ahead
  pub through : Packets
  pub left : Packets
  pub begun : List ℕ
  pub flags : List Bool
  pub parts : ps ≡ through ++ left
  pub cut : tail ++ octets ≡ concat through ++ begun
  pub opens : Opens begun left
  pub sized : length flags ≡ length begun
  pub comes : (more : List Bool)
      → complete_packets ps (marks ++ (replicate (length octets) c ++ more)) ≡ added
      ++ complete_packets left (flags ++ more)

pub moved_on : (all : Packets) (place : ℕ) (tail : List ℕ) (ps : Packets) (octets others : List ℕ) (c : Bool)
    (marks : List Bool)
    → Stood all place tail ps (octets ++ others) → (m : Moved c ps tail marks octets)
    → Stood all (place + length octets) m.begun m.left others
moved_on all place tail ps octets others c marks s m =
    let stream : concat m.through ++ (m.begun ++ others) ≡ concat m.through ++ concat m.left =
    sym (append_assoc (concat m.through) m.begun others) ∙ ap (λ (xs : List ℕ). xs ++ others) (sym m.cut)
    ∙ append_assoc tail octets others
    ∙ s.ahead ∙ ap concat m.parts ∙ concat-append m.through m.left in
    let sizes : length tail + length octets ≡ length (concat m.through) + length m.begun =
    sym (length-append tail octets) ∙ ap length m.cut ∙ length-append (concat m.through) m.begun in
    let whole : length (concat (s.passed ++ m.through)) ≡ length (concat s.passed) + length (concat m.through) =
    ap length (concat-append s.passed m.through) ∙ length-append (concat s.passed) (concat m.through) in
    record {
      passed = s.passed ++ m.through;
      parts = s.parts ∙ ap (λ (xs : Packets). s.passed ++ xs) m.parts ∙ sym (append_assoc s.passed m.through m.left);
      each = records-behind m.through m.left (subst AreRecords m.parts s.each);
      place_is = omega (arith, s.place_is);
      opens = m.opens;
      ahead = append_cancel_left (concat m.through) _ _ stream;
    }

-- ---- the three ways of moving on

unfoldable pub moved_within : (c : Bool) (ps : Packets) (tail octets : List ℕ) (marks : List Bool)
    → Opens (tail ++ octets) ps → length marks ≡ length tail → Moved c ps tail marks octets
moved_within c ps tail octets marks opens sized = record {
  added = [];
  through = [];
  left = ps;
  begun = tail ++ octets;
  flags = marks ++ replicate (length octets) c;
  parts = refl;
  cut = refl;
  opens = opens;
  sized = omega (
    arith,
    length-append marks (replicate (length octets) c),
    length-replicate (length octets) c,
    length-append tail octets,
  );
  comes = λ more. ap (complete_packets ps) (sym (append_assoc marks (replicate (length octets) c) more));
}

and_swap : (a b : Bool) → (a && b) ≡ (b && a)
and_swap true true = refl
and_swap true false = refl
and_swap false true = refl
and_swap false false = refl

pub both_set : (c : Bool) (marks : List Bool) (n : ℕ) → 0 < n → are_set (marks ++ replicate n c) ≡ (c && are_set marks)
both_set c marks n some =
    list_all-append (λ m. m) marks (replicate n c) ∙ ap (λ (b : Bool). are_set marks && b) (set_alike n c some)
    ∙ and_swap (are_set marks) c

unfoldable pub moved_to_end : (c : Bool) (p : List ℕ) (ps : Packets) (tail octets : List ℕ) (marks : List Bool)
    → AreRecords ps → tail ++ octets ≡ p → length tail < length p
    → length marks ≡ length tail → Moved c (p ∷ ps) tail marks octets
moved_to_end c p ps tail octets marks each whole short sized =
    let count : length tail + length octets ≡ length p = sym (length-append tail octets) ∙ ap length whole in
    let front : List Bool = marks ++ replicate (length octets) c in
    let size : length front ≡ length p =
    omega (arith, length-append marks (replicate (length octets) c), length-replicate (length octets) c) in
    record {
      added = cond (c && are_set marks) (p ∷ []) [];
      through = p ∷ [];
      left = ps;
      begun = [];
      flags = [];
      parts = refl;
      cut = whole ∙ sym (append-nil p) ∙ sym (append-nil (p ++ []));
      opens = none_opens ps each;
      sized = refl;
      comes = λ more. ap (complete_packets (p ∷ ps)) (sym (append_assoc marks (replicate (length octets) c) more))
          ∙ complete_packets-front p ps front more size
          ∙ ap (λ (b : Bool). cond b (p ∷ []) [] ++ complete_packets ps more)
          (both_set c marks (length octets) (omega arith));
    }

unfoldable pub moved_from_end : (c : Bool) (ps ws left : Packets) (octets begun : List ℕ) → AreRecords ws
    → ps ≡ ws ++ left → octets ≡ concat ws ++ begun → Opens begun left → Moved c ps [] [] octets
moved_from_end c ps ws left octets begun each parts cut opens =
    let size : length octets ≡ length (concat ws) + length begun = ap length cut ∙ length-append (concat ws) begun in
    let front : List Bool = replicate (length (concat ws)) c in
    let behind : List Bool = replicate (length begun) c in
    let marks : replicate (length octets) c ≡ front ++ behind =
    ap (λ n. replicate n c) size ∙ sym (replicate-append-replicate (length (concat ws)) (length begun) c) in
    record {
      added = cond c ws [];
      through = ws;
      left = left;
      begun = begun;
      flags = behind;
      parts = parts;
      cut = cut;
      opens = opens;
      sized = length-replicate (length begun) c;
      comes = λ more. ap (λ (xs : Packets). complete_packets xs (replicate (length octets) c ++ more)) parts
          ∙ ap (λ (ms : List Bool). complete_packets (ws ++ left) (ms ++ more)) marks
          ∙ ap (complete_packets (ws ++ left)) (append_assoc front behind more)
          ∙ complete_packets-alike c ws left (behind ++ more) each;
    }

-- one move and then another
unfoldable pub moved_both : (c : Bool) (ps : Packets) (tail octets xs ys : List ℕ) (marks : List Bool)
    → octets ≡ xs ++ ys → (m : Moved c ps tail marks xs) → Moved c m.left m.begun m.flags ys
    → Moved c ps tail marks octets
moved_both c ps tail octets xs ys marks both m n =
    let size : length octets ≡ length xs + length ys = ap length both ∙ length-append xs ys in
    let front : List Bool = replicate (length xs) c in
    let behind : List Bool = replicate (length ys) c in
    let split : replicate (length octets) c ≡ front ++ behind =
    ap (λ n. replicate n c) size ∙ sym (replicate-append-replicate (length xs) (length ys) c) in
    record {
      added = m.added ++ n.added;
      through = m.through ++ n.through;
      left = n.left;
      begun = n.begun;
      flags = n.flags;
      parts = m.parts ∙ ap (λ (zs : Packets). m.through ++ zs) n.parts ∙ sym (append_assoc m.through n.through n.left);
      cut = ap (λ (zs : List ℕ). tail ++ zs) both ∙ sym (append_assoc tail xs ys) ∙ ap (λ (zs : List ℕ). zs ++ ys) m.cut
          ∙ append_assoc (concat m.through) m.begun ys
          ∙ ap (λ (zs : List ℕ). concat m.through ++ zs) n.cut
          ∙ sym (append_assoc (concat m.through) (concat n.through) n.begun)
          ∙ ap (λ (zs : List ℕ). zs ++ n.begun) (sym (concat-append m.through n.through));
      opens = n.opens;
      sized = n.sized;
      comes = λ more. ap (λ (ms : List Bool). complete_packets ps (marks ++ (ms ++ more))) split
          ∙ ap (λ (ms : List Bool). complete_packets ps (marks ++ ms)) (append_assoc front behind more)
          ∙ m.comes (behind ++ more) ∙ ap (λ (zs : Packets). m.added ++ zs) (n.comes more)
          ∙ sym (append_assoc m.added n.added (complete_packets n.left (n.flags ++ more)));
    }

-- ---- whole packets after a packet's end

-- The whole packets that octets begin with, and the beginning of the next.
pub record Cut (ps : Packets) (octets : List ℕ) : Type 0 where
  pub whole : Packets
  pub left : Packets
  pub begun : List ℕ
  pub parts : ps ≡ whole ++ left
  pub cut : octets ≡ concat whole ++ begun
  pub opens : Opens begun left

-- a packet in front
cut_after : (p : List ℕ) (ps : Packets) (octets behind : List ℕ) → octets ≡ p ++ behind → Cut ps behind
    → Cut (p ∷ ps) octets
cut_after p ps octets behind is more = record {
  whole = p ∷ more.whole;
  left = more.left;
  begun = more.begun;
  parts = ap (λ (xs : Packets). p ∷ xs) more.parts;
  cut = is ∙ ap (λ (xs : List ℕ). p ++ xs) more.cut ∙ sym (append_assoc p (concat more.whole) more.begun);
  opens = more.opens;
}

first_of : (p octets others rest : List ℕ) → octets ++ others ≡ p ++ rest → length p ≤ length octets
    → octets ≡ p ++ drop (length p) octets
first_of p octets others rest h le =
    let front : take (length p) octets ≡ p =
    sym (take-append-le (length p) octets others le) ∙ ap (take (length p)) h ∙ take_at p rest (length p) refl in
    sym (take-append-drop (length p) octets) ∙ ap (λ (xs : List ℕ). xs ++ drop (length p) octets) front

rest_of_first : (p octets others rest behind : List ℕ) → octets ++ others ≡ p ++ rest → octets ≡ p ++ behind
    → behind ++ others ≡ rest
rest_of_first p octets others rest behind h is =
    append_cancel_left p _ _ (sym (append_assoc p behind others) ∙ ap (λ (xs : List ℕ). xs ++ others) (sym is) ∙ h)

cut_by : (p : List ℕ) (ps : Packets) (octets others : List ℕ) → octets ++ others ≡ p ++ concat ps
    → ((xs : List ℕ) → xs ++ others ≡ concat ps → Cut ps xs)
    → (length octets < length p) ⊎ (length p ≤ length octets) → Cut (p ∷ ps) octets
cut_by p ps octets others h go (inl lt) =
    record { whole = []; left = p ∷ ps; begun = octets; parts = refl; cut = refl; opens = lt }
cut_by p ps octets others h go (inr le) =
    let is : octets ≡ p ++ drop (length p) octets = first_of p octets others (concat ps) h le in
    cut_after p ps octets (drop (length p) octets) is
    (go (drop (length p) octets) (rest_of_first p octets others (concat ps) (drop (length p) octets) h is))

pub cut_of : (ps : Packets) (octets others : List ℕ) → AreRecords ps → octets ++ others ≡ concat ps → Cut ps octets
cut_of [] octets others each h =
    let none : octets ≡ [] = nil_from_length octets (omega (arith, ap length h, length-append octets others)) in
    record { whole = []; left = []; begun = octets; parts = refl; cut = refl; opens = none }
cut_of (p ∷ ps) octets others each h =
    cut_by p ps octets others h (λ xs e. cut_of ps xs others each.1 e) (cases_lt (length octets) (length p))

-- ---- where packets start and end

-- no packet ends within another
pub within : (before after passed ps : Packets) (p : List ℕ) → before ++ after ≡ passed ++ p ∷ ps
    → (length (concat before) ≤ length (concat passed)) ⊎ (length (concat passed) + length p ≤ length (concat before))
within [] after passed ps p h = inl (omega arith)
within (x ∷ before) after [] ps p h =
    let first : x ≡ p = cc in
    inr (omega (arith, length-append x (concat before), ap length first))
within (x ∷ before) after (y ∷ passed) ps p h =
    let first : x ≡ y = cc in
    let behind : before ++ after ≡ passed ++ p ∷ ps = cc in
    elim (within before after passed ps p behind) [
      | inl le ↦ inl (omega (arith, length-append x (concat before), length-append y (concat passed), ap length first))
      | inr le ↦ inr (omega (arith, length-append x (concat before), length-append y (concat passed), ap length first))
    ]
