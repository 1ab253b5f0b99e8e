-- Frames: what is read has that spelling, and what has that spelling is read.
use Rattle.std.proofs.Common.{◌≡◌, ◌<◌, ◌≤◌, ℕ, ◌+◌, ◌-◌, ◌/◌, ◌%◌, true, false, not, cond, eqb}
use Rattle.std.proofs.Common.{ltb, leb, List, [], ◌∷◌, ◌++◌, length, get_or, take, drop, Result, Ok}
use Rattle.std.proofs.Common.{Err, refl, sym, ap, subst, ◌∙◌, arith, length-append, zero, suc, min}
use Rattle.std.proofs.Common.{max, append_assoc, inl, inr}
use Rattle.std.specs.Prelude.{◌==◌, IfOk, IsTrue}
use Rattle.std.proofs.lemmas.Bool.{cond_both, eqb-false, eqb-true, eq-eqb, ne_eqb, ltb-false}
use Rattle.std.proofs.lemmas.Bool.{ltb-true, le-ltb, lt-ltb, lt-leb, or_parts, and_parts, le-leb}
use Rattle.std.proofs.lemmas.Bool.{cases_lt}
use Rattle.std.proofs.lemmas.Bool.Decides.{nat_tests}
use Rattle.std.proofs.lemmas.List.{length-take, length-drop, take-append-drop, take-take}
use Rattle.std.proofs.lemmas.List.{drop-append-le, drop_all, take_at, drop_at, drop-take, drop-drop}
use Rattle.std.proofs.lemmas.List.{take_all}
use Rattle.octets.specs.Number.{number_of, IsOctets}
use Rattle.octets.specs.Outcome.{map_ok}
use Rattle.octets.proofs.Streams.{passed, equal_from, ok_is, le_true}
use Rattle.octets.proofs.Checked.{two_below, number_of_two}
use Rattle.octets.proofs.Checked.{cut_next}
use Rattle.tm_link.specs.declared.frame.Pointer.{Pointer}
use Rattle.tm_link.specs.declared.frame.Pointer.TheVariants.{At, NoStart, OnlyIdle}
use Rattle.tm_link.specs.declared.frame.TmFrame.{TmFrame}
use Rattle.tm_link.specs.declared.fault.TmFault.{TmFault}
use Rattle.tm_link.specs.declared.fault.TmFault.TheVariants as faults
use Rattle.tm_link.specs.Layout.{FrameView, frame_view, pointer_number, pointer_fits, IsTmFrame}
use Rattle.tm_link.specs.Layout.{IsSpelling}
use Rattle.tm_link.specs.Decoding.{is_length_wrong, is_check_wrong, is_pointer_outside, pointer_at}
use Rattle.tm_link.specs.Decoding.{four_at, frame_with, frame_at}
use Rattle.byteorder.specs.Endian.{big_bytes}
use Rattle.octets.specs.Check.{check_of}
use Rattle.octets.proofs.Checked.{holds_check, checked_are}
use Rattle.space_packet.specs.Laws.{two_at}
use Rattle.tm_link.specs.Encoding.{total_of, first_number, status_number, header_octets}
use Rattle.tm_link.specs.Encoding.{front_octets, spelling, frame_fits}
use Rattle.tm_link.specs.Builder.{BuilderState, idle_packet, idle_tail, data_size, is_at_rest}
use Rattle.tm_link.specs.Builder.{data_from, room_left, data_built, first_start, pointer_built}
use Rattle.tm_link.specs.Builder.{frame_built, left_after}

-- ---- parts of octets

-- a part, cut in two
parts_joined : (b : List ℕ) (i j k : ℕ) → i ≤ j → j ≤ k → k ≤ length b
    → drop i (take k b) ≡ drop i (take j b) ++ drop j (take k b)
parts_joined b i j k le1 le2 le3 =
    let whole : take k b ≡ take j b ++ drop j (take k b) =
    sym (take-append-drop j (take k b)) ∙ ap (λ (xs : List ℕ). xs ++ drop j (take k b)) (take-take j k b le2) in
    ap (drop i) whole ∙ drop-append-le i (take j b) (drop j (take k b)) (omega (arith, length-take j b))

-- four octets, one by one
four_are : (b : List ℕ) (j : ℕ) → j + 4 ≤ length b → drop j (take (j + 4) b) ≡ four_at b j
four_are b j long =
    let last : drop (j + 3 + 1) (take (j + 4) b) ≡ [] =
    drop_all (j + 3 + 1) (take (j + 4) b) (omega (arith, length-take (j + 4) b)) in
    cut_next b (j + 4) j (omega arith) long
    ∙ ap (λ (xs : List ℕ). get_or b j 0 ∷ xs) (cut_next b (j + 4) (j + 1) (omega arith) long
    ∙ ap (λ (xs : List ℕ). get_or b (j + 1) 0 ∷ xs)
    (ap (λ (i : ℕ). drop i (take (j + 4) b)) (omega arith) ∙ cut_next b (j + 4) (j + 2) (omega arith) long
    ∙ ap (λ (xs : List ℕ). get_or b (j + 2) 0 ∷ xs)
    (ap (λ (i : ℕ). drop i (take (j + 4) b)) (omega arith) ∙ cut_next b (j + 4) (j + 3) (omega arith) long
    ∙ ap (λ (xs : List ℕ). get_or b (j + 3) 0 ∷ xs) last)))

-- what lies between the header and the check: the data and the operational control field
rest_is : (total : ℕ) (b : List ℕ) → length b ≡ total → 16 ≤ total
    → drop 6 (take (total - 2) b) ≡ drop 6 (take (total - 6) b) ++ four_at b (total - 6)
rest_is total b count least =
    let place : total - 2 ≡ total - 6 + 4 = omega arith in
    parts_joined b 6 (total - 6) (total - 2) (omega arith) (omega arith) (omega arith)
    ∙ ap (λ (xs : List ℕ). drop 6 (take (total - 6) b) ++ xs)
    (ap (λ (k : ℕ). drop (total - 6) (take k b)) place ∙ four_are b (total - 6) (omega arith))

-- ---- the pointer

-- a number of 11 bits that is not outside is that of its pointer, which lies in the data
below_from : (number size : ℕ) → number < 2048 → is_pointer_outside number size ≡ false → eqb number 2046 ≡ false
    → eqb number 2047 ≡ false → number < size
below_from number size low inside idle none = grind (arith, nat_tests)

pointer_is : (number size : ℕ) → number < 2048 → is_pointer_outside number size ≡ false
    → (pointer_number (pointer_at number) ≡ number) × IsTrue (pointer_fits (pointer_at number) size)
pointer_is number size low inside =
    cond_both (eqb number 2046) OnlyIdle (cond (eqb number 2047) NoStart (At number))
    (λ (p : Pointer). (pointer_number p ≡ number) × IsTrue (pointer_fits p size))
    (λ idle. (sym (eqb-true _ _ idle), refl))
    (λ other. cond_both (eqb number 2047) NoStart (At number)
    (λ (p : Pointer). (pointer_number p ≡ number) × IsTrue (pointer_fits p size))
    (λ none. (sym (eqb-true _ _ none), refl))
    (λ place. (refl, lt-ltb number size (below_from number size low inside other place))))

-- what the number of a pointer in the data is read as
pub record IsReadAgain (pointer : Pointer) (size : ℕ) : Type 0 where
  pub again : pointer_at (pointer_number pointer) ≡ pointer
  pub inside : is_pointer_outside (pointer_number pointer) size ≡ false
  pub low : pointer_number pointer < 2048

pub pointer_again : (pointer : Pointer) (size : ℕ) → size ≤ 2036 → IsTrue (pointer_fits pointer size)
    → IsReadAgain pointer size
pointer_again (At place) size most fits =
    let low : place < size = ltb-true _ _ fits in
    let idle : eqb place 2046 ≡ false = ne_eqb _ _ (λ e. omega arith) in
    let none : eqb place 2047 ≡ false = ne_eqb _ _ (λ e. omega arith) in
    let inside : leb size place ≡ false = lt-leb size place low in
    let below : ltb place 2046 ≡ true = lt-ltb place 2046 (omega arith) in
    record { again = rw (idle, none) refl; inside = rw (below, inside) refl; low = omega arith }
pointer_again NoStart size most fits = record { again = refl; inside = refl; low = omega arith }
pointer_again OnlyIdle size most fits = record { again = refl; inside = refl; low = omega arith }

-- a number that is not even
odd_from : (n : ℕ) → (n % 2 ≡ 0 → ⊥) → n % 2 ≡ 1
odd_from n h = omega arith

-- ---- the frame

pub frame_is : (total : ℕ) (b : List ℕ) (f : FrameView) → IsOctets b → frame_at total b ≡ Ok f → IsTmFrame total f b
unfolding frame_at
frame_is total b f octets h =
    let first : ℕ = number_of (take 2 b) in
    let status : ℕ = number_of (take 2 (drop 4 b)) in
    let made : FrameView = frame_with total first status b in
    let after_pointer : Result FrameView TmFault = cond (first % 2 == 0) (Err faults.NoOcf) (Ok made) in
    let after_status : Result FrameView TmFault =
    cond (is_pointer_outside (status % 2048) (total - 12)) (Err faults.Pointer) after_pointer in
    let after_check : Result FrameView TmFault = cond (not (status / 2048 == 3)) (Err faults.Status) after_status in
    let after_version : Result FrameView TmFault = cond (is_check_wrong b) (Err faults.Check) after_check in
    let after_length : Result FrameView TmFault = cond (not (first / 16384 == 0)) (Err faults.Version) after_version in
    let sizes = passed (is_length_wrong total (length b)) faults.Length after_length f h in
    let version = passed (not (first / 16384 == 0)) faults.Version after_version f sizes.1 in
    let checked = passed (is_check_wrong b) faults.Check after_check f version.1 in
    let fields = passed (not (status / 2048 == 3)) faults.Status after_status f checked.1 in
    let inside = passed (is_pointer_outside (status % 2048) (total - 12)) faults.Pointer after_pointer f fields.1 in
    let declared = passed (first % 2 == 0) faults.NoOcf (Ok made) f inside.1 in
    let most = or_parts _ _ sizes.0 in
    let count = or_parts _ _ most.0 in
    let total-is : length b ≡ total = equal_from _ _ count.0 in
    let least : 16 ≤ total = ltb-false _ _ count.1 in
    let most-is : total ≤ 2048 = ltb-false _ _ most.1 in
    let zeros : first / 16384 ≡ 0 = equal_from _ _ version.0 in
    let three : status / 2048 ≡ 3 = equal_from _ _ fields.0 in
    let odd : first % 2 ≡ 1 = odd_from first (eqb-false _ _ declared.0) in
    let pointer = pointer_is (status % 2048) (total - 12) (omega arith) inside.0 in
    subst (λ (g : FrameView). IsTmFrame total g b) {x = made} (ok_is {F = TmFault} made f declared.1) (record {
      count = total-is;
      least = least;
      most = most-is;
      first = omega arith;
      scid = omega (arith, two_below b octets);
      vcid = omega arith;
      mc_count = refl;
      vc_count = refl;
      status = omega (arith, pointer.0);
      pointer = pointer.1;
      rest = rest_is total b total-is least;
      payload = omega (arith, length-drop 6 (take (total - 6) b), length-take (total - 6) b);
      ocf = refl;
      checked = record { long = omega arith; same = equal_from _ _ checked.0 };
    })

pub frame_again : (total : ℕ) (b : List ℕ) (f : FrameView) → IsTmFrame total f b → frame_at total b ≡ Ok f
unfolding frame_at
frame_again total b f h =
    let first : ℕ = number_of (take 2 b) in
    let status : ℕ = number_of (take 2 (drop 4 b)) in
    let least : 16 ≤ total = h.least in
    let pointer = pointer_again f.pointer (total - 12) (omega (arith, h.most)) h.pointer in
    let joined : drop 6 (take (total - 6) b) ++ four_at b (total - 6) ≡ f.payload ++ f.ocf =
    sym (rest_is total b h.count h.least) ∙ h.rest in
    let size : length (drop 6 (take (total - 6) b)) ≡ total - 12 =
    omega (arith, length-drop 6 (take (total - 6) b), length-take (total - 6) b, h.count) in
    let payload : drop 6 (take (total - 6) b) ≡ f.payload =
    sym (take_at (drop 6 (take (total - 6) b)) (four_at b (total - 6)) (total - 12) size)
    ∙ ap (take (total - 12)) joined ∙ take_at f.payload f.ocf (total - 12) h.payload in
    let ocf : four_at b (total - 6) ≡ f.ocf =
    sym (drop_at (drop 6 (take (total - 6) b)) (four_at b (total - 6)) (total - 12) size)
    ∙ ap (drop (total - 12)) joined ∙ drop_at f.payload f.ocf (total - 12) h.payload in
    let count : eqb (length b) total ≡ true = eq-eqb _ _ h.count in
    let enough : ltb total 16 ≡ false = le-ltb _ _ h.least in
    let few : ltb 2048 total ≡ false = le-ltb _ _ h.most in
    let version : eqb (first / 16384) 0 ≡ true = eq-eqb _ _ (omega arith) in
    let checked : is_check_wrong b ≡ false = ap not (eq-eqb _ _ h.checked.same) in
    let fields : eqb (status / 2048) 3 ≡ true = eq-eqb _ _ (omega (arith, pointer.low)) in
    let number : status % 2048 ≡ pointer_number f.pointer = omega (arith, pointer.low) in
    let declared : eqb (first % 2) 0 ≡ false = ne_eqb _ _ (λ e. omega arith) in
    let scid : first / 16 ≡ f.scid = omega arith in
    let vcid : first / 2 % 8 ≡ f.vcid = omega arith in
    rw (
      count,
      enough,
      few,
      version,
      checked,
      fields,
      number,
      pointer.inside,
      declared,
      pointer.again,
      scid,
      vcid,
      h.mc_count,
      h.vc_count,
      payload,
      ocf,
    ) refl

-- what a decoder answered
pub is_found : (total : ℕ) (b : List ℕ) (r : Result TmFrame TmFault) → IsOctets b
    → map_ok frame_view r ≡ frame_at total b → IfOk r (λ f. IsTmFrame total (frame_view f) b)
is_found total b (Ok f) octets h = frame_is total b (frame_view f) octets (sym h)
is_found total b (Err e) octets h = tt

-- The spelling of a frame spells it, and nothing else does.

length-front : (f : FrameView) → length f.ocf ≡ 4 → length (front_octets f) ≡ length f.payload + 10
length-front f ocf = omega (arith, length-append f.payload f.ocf)

length-spelling : (f : FrameView) → length f.ocf ≡ 4 → length (spelling f) ≡ total_of f
length-spelling f ocf =
    omega (arith, length-front f ocf, length-append (front_octets f) (big_bytes 2 (check_of (front_octets f))))

pub spelling_is : (f : FrameView) → length f.ocf ≡ 4 → frame_fits f ≡ true → IsTmFrame (total_of f) f (spelling f)
spelling_is f ocf fits =
    let pointer = and_parts _ _ fits in
    let most = and_parts _ _ pointer.0 in
    let least = and_parts _ _ most.0 in
    let header = and_parts _ _ least.0 in
    let scid : f.scid < 1024 = ltb-true _ _ header.0 in
    let vcid : f.vcid < 8 = ltb-true _ _ header.1 in
    let some : 4 ≤ length f.payload = le_true _ _ least.1 in
    let few : length f.payload ≤ 2036 = le_true _ _ most.1 in
    let read = pointer_again f.pointer (length f.payload) few pointer.1 in
    let size : length (spelling f) ≡ total_of f = length-spelling f ocf in
    let front : List ℕ = front_octets f in
    let count : total_of f - 12 ≡ length f.payload = omega arith in
    record {
      count = size;
      least = omega arith;
      most = omega arith;
      first = number_of_two (first_number f) [] (omega arith);
      scid = scid;
      vcid = vcid;
      mc_count = refl;
      vc_count = refl;
      status = number_of_two (status_number f) [] (omega (arith, read.low));
      pointer = subst (λ (k : ℕ). IsTrue (pointer_fits f.pointer k)) (sym count) pointer.1;
      rest = ap (drop 6) (take_at front (big_bytes 2 (check_of front)) (total_of f - 2)
          (omega (arith, length-front f ocf)));
      payload = sym count;
      ocf = ocf;
      checked = holds_check front;
    }

-- what was written before other octets
pub written_is : (n : ℕ) (f : FrameView) (out rest : List ℕ) → out ≡ spelling f → IsTmFrame n f (spelling f)
    → IsTmFrame n f (take n (out ++ rest))
written_is n f out rest is h =
    let front : take n (out ++ rest) ≡ out = take_at out rest n (ap length is ∙ h.count) in
    subst (IsTmFrame n f) (sym (front ∙ is)) h

-- two octets from place 2 on, one by one
counts_at : (b : List ℕ) (x y : ℕ) → 4 ≤ length b → get_or b 2 0 ≡ x → get_or b 3 0 ≡ y → take 2 (drop 2 b) ≡ x ∷ y ∷ []
counts_at [] x y long p q = absurd (omega arith)
counts_at (a ∷ []) x y long p q = absurd (omega arith)
counts_at (a ∷ b ∷ []) x y long p q = absurd (omega arith)
counts_at (a ∷ b ∷ c ∷ []) x y long p q = absurd (omega arith)
counts_at (a ∷ b ∷ c ∷ d ∷ rest) x y long p q = rw (p, q) refl

-- the header's octets, from their numbers
header_is : (total : ℕ) (f : FrameView) (b : List ℕ) → IsSpelling total f b → take 6 b ≡ header_octets f
header_is total f b h =
    let least : 16 ≤ length b = omega (arith, h.spells.least, h.spells.count) in
    let one : take 2 b ≡ big_bytes 2 (first_number f) =
    two_at b 0 (omega arith) h.octets ∙ ap (big_bytes 2) h.spells.first in
    let three : take 2 (drop 4 b) ≡ big_bytes 2 (status_number f) =
    two_at b 4 (omega arith) h.octets ∙ ap (big_bytes 2) h.spells.status in
    let counts : take 2 (drop 2 b) ≡ f.mc_count ∷ f.vc_count ∷ [] =
    counts_at b (f.mc_count) (f.vc_count) (omega arith) h.spells.mc_count h.spells.vc_count in
    let last : take 4 (drop 2 b) ≡ take 2 (drop 2 b) ++ take 2 (drop 4 b) =
    sym (take-append-drop 2 (take 4 (drop 2 b)))
    ∙ rw (take-take 2 4 (drop 2 b) (omega arith), drop-take 2 2 (drop 2 b), drop-drop 2 2 b) refl in
    let parts : take 6 b ≡ take 2 b ++ take 4 (drop 2 b) =
    sym (take-append-drop 2 (take 6 b)) ∙ rw (take-take 2 6 b (omega arith), drop-take 2 4 b) refl in
    parts ∙ rw (last, one, counts, three) refl

-- octets that spell a frame are its spelling
pub spelling_from : (total : ℕ) (f : FrameView) (b : List ℕ) → IsSpelling total f b → b ≡ spelling f
spelling_from total f b h =
    let count : length b ≡ total = h.spells.count in
    let least : 16 ≤ total = h.spells.least in
    let front : List ℕ = take (length b - 2) b in
    let header : take 6 front ≡ header_octets f = take-take 6 (length b - 2) b (omega arith) ∙ header_is total f b h in
    let rest : drop 6 front ≡ f.payload ++ f.ocf = ap (λ (k : ℕ). drop 6 (take (k - 2) b)) count ∙ h.spells.rest in
    let whole : front ≡ front_octets f = sym (take-append-drop 6 front) ∙ rw (header, rest) refl in
    checked_are b h.octets h.spells.checked ∙ ap (λ (xs : List ℕ). xs ++ big_bytes 2 (check_of xs)) whole

-- A data field, part by part, and packets passed one by one.

-- ---- parts of two lists joined

pub take_both : (n : ℕ) (xs ys : List ℕ) → take n (xs ++ ys) ≡ take n xs ++ take (n - length xs) ys
take_both zero [] ys = refl
take_both zero (x ∷ xs) ys = let none : 0 ≡ 0 - length (x ∷ xs) = omega arith in ap (λ (k : ℕ). take k ys) none
take_both (suc n) [] ys = let all : suc n ≡ suc n - 0 = omega arith in ap (λ (k : ℕ). take k ys) all
take_both (suc n) (x ∷ xs) ys =
    let rest : n - length xs ≡ suc n - length (x ∷ xs) = omega arith in
    ap (λ (zs : List ℕ). x ∷ zs) (take_both n xs ys) ∙ ap (λ (k : ℕ). x ∷ (take n xs ++ take k ys)) rest

-- as much as there is
pub take_min : (n : ℕ) (xs : List ℕ) → take (min (length xs) n) xs ≡ take n xs
take_min n xs =
    elim (cases_lt n (length xs)) [
      | inl lt ↦ let is : min (length xs) n ≡ n = omega arith in ap (λ (k : ℕ). take k xs) is
      | inr le ↦ let is : min (length xs) n ≡ length xs =
          omega arith in ap (λ (k : ℕ). take k xs) is ∙ take_all (length xs) xs (omega arith) ∙ sym (take_all n xs le)
    ]

-- ---- a data field

-- what is left of an idle packet, the packets as far as they go, and the beginning of an idle packet
pub data_parts : (left : ℕ) (pending : List ℕ) (size tail count fresh : ℕ) → left ≤ 6 → tail ≡ min left size
    → count ≡ min (length pending) (size - tail) → fresh ≡ size - tail - count
    → take tail (idle_tail left) ++ (take count pending ++ take fresh (idle_packet (max fresh 7)))
    ≡ data_from left pending size
data_parts left pending size tail count fresh small t c f =
    let old : List ℕ = idle_tail left in
    let new : List ℕ = idle_packet (max (room_left size left (length pending)) 7) in
    let long : length old ≡ left = omega (arith, length-drop (7 - left) (idle_packet 7)) in
    let room : fresh ≡ room_left size left (length pending) = omega arith in
    let old-count : tail ≡ min (length old) size = omega arith in
    let count-is : count ≡ min (length pending) (size - length old) = omega arith in
    let new-count : fresh ≡ size - length (old ++ pending) = omega (arith, length-append old pending) in
    let one : take tail old ≡ take size old = ap (λ (k : ℕ). take k old) old-count ∙ take_min size old in
    let two : take count pending ≡ take (size - length old) pending =
    ap (λ (k : ℕ). take k pending) count-is ∙ take_min (size - length old) pending in
    let three : take fresh (idle_packet (max fresh 7)) ≡ take (size - length (old ++ pending)) new =
    ap (λ (k : ℕ). take k (idle_packet (max fresh 7))) new-count
    ∙ ap (λ (k : ℕ). take (size - length (old ++ pending)) (idle_packet (max k 7))) room in
    let parts : take size (old ++ pending ++ new) ≡ take size old ++ take (size - length old) pending
    ++ take (size - length (old ++ pending)) new =
    take_both size (old ++ pending) new
    ∙ ap (λ (xs : List ℕ). xs ++ take (size - length (old ++ pending)) new) (take_both size old pending) in
    rw (one, two, three) (sym (parts
    ∙ append_assoc (take size old) (take (size - length old) pending) (take (size - length (old ++ pending)) new)))

-- ---- packets passed

-- no more than the packet that was begun
pub passed_within : (room begun : ℕ) (sizes : List ℕ) → room ≤ begun
    → left_after room begun sizes ≡ (begun - room, sizes)
passed_within room begun [] le = refl
passed_within room begun (size ∷ sizes) le = rw (le-leb room begun le) refl

-- more than it
pub passed_beyond : (room begun size : ℕ) (sizes : List ℕ) → begun < room
    → left_after room begun (size ∷ sizes) ≡ left_after (room - begun) size sizes
passed_beyond room begun size sizes lt = rw (lt-leb room begun lt) refl

-- ---- the frame that is built

start_fits : (left size : ℕ) → IsTrue (pointer_fits (first_start left size) size)
start_fits left size =
    cond_both (ltb left size) (At left) NoStart (λ (p : Pointer). IsTrue (pointer_fits p size)) (λ within. within)
    (λ beyond. refl)

pointer_built-fits : (s : BuilderState) → IsTrue (pointer_fits (pointer_built s) (data_size s))
pointer_built-fits s =
    cond_both (is_at_rest s) OnlyIdle (first_start (s.idle_left + s.begun) (data_size s))
    (λ (p : Pointer). IsTrue (pointer_fits p (data_size s)))
    (λ rest. refl) (λ some. start_fits (s.idle_left + s.begun) (data_size s))

pub built_is : (s : BuilderState) (ocf : List ℕ) → s.scid < 1024 → s.vcid < 8 → 16 ≤ s.total → s.total ≤ 2048
    → length ocf ≡ 4 → length (data_built s) ≡ data_size s
    → IsTmFrame s.total (frame_built s ocf) (spelling (frame_built s ocf))
built_is s ocf scid vcid least most four size =
    let f : FrameView = frame_built s ocf in
    let pointer : pointer_fits (pointer_built s) (length (data_built s)) ≡ true =
    subst (λ (n : ℕ). IsTrue (pointer_fits (pointer_built s) n)) (sym size) (pointer_built-fits s) in
    let one : ltb s.scid 1024 ≡ true = lt-ltb _ _ scid in
    let two : ltb s.vcid 8 ≡ true = lt-ltb _ _ vcid in
    let three : leb 4 (length (data_built s)) ≡ true = le-leb _ _ (omega arith) in
    let four-is : leb (length (data_built s)) 2036 ≡ true = le-leb _ _ (omega arith) in
    let fits : frame_fits f ≡ true = rw (one, two, three, four-is, pointer) refl in
    let total : total_of f ≡ s.total = omega arith in
    subst (λ (n : ℕ). IsTmFrame n f (spelling f)) total (spelling_is f four fits)
