-- Frames on a stream: the laws of their layouts.
use Rattle.std.proofs.Common.{◌≡◌, ◌≤◌, ℕ, ◌+◌, ◌-◌, ◌%◌, List, ◌++◌, length, take, drop, Ok, false}
use Rattle.std.proofs.Common.{ltb, refl, sym, ap, ◌∙◌, arith}
use Rattle.std.specs.Prelude.{IsTrue}
use Rattle.std.proofs.lemmas.Bool.{ltb-false, le-ltb}
use Rattle.std.proofs.lemmas.List.{take-append-drop, take_all, take-take, drop-take, length-take}
use Rattle.std.proofs.lemmas.List.{length-drop, append_assoc}
use Rattle.byteorder.specs.Endian.{big_bytes}
use Rattle.octets.specs.Number.{number_of}
use Rattle.octets.proofs.Checked.{checked_are}
use Rattle.octets.proofs.Checked.{drop_fits, take_fits}
use Rattle.octets.proofs.Checked.{two_octets}
use Rattle.octets.proofs.Streams.{passed, ok_is}
use Rattle.tc_frame.specs.declared.frame.Check.{Check}
use Rattle.tc_frame.specs.declared.frame.Check.TheVariants.{On, Off}
use Rattle.tc_frame.specs.declared.frame.Command.TheVariants.{Unlock, SetVr}
use Rattle.tc_frame.specs.declared.fault.TcFault.{TcFault}
use Rattle.tc_frame.specs.declared.fault.TcFault.TheVariants as faults
use Rattle.tc_frame.specs.Layout.{BodyView, Ad, Bd, Bc, FrameView, body_octets, check_length}
use Rattle.tc_frame.specs.Layout.{before_check, body_fits, IsTcFrame}
use Rattle.tc_frame.specs.Decoding.{least_total}
use Rattle.tc_frame.specs.Splitter.{total_at, IsSpelling}
use Rattle.tc_frame.specs.Encoding.{total_of, first_number, second_number, front_octets, with_check}
use Rattle.tc_frame.specs.Encoding.{spelling}

-- a declared total that is accepted includes the header
pub total_has_head : (check : Check) (head : List ℕ) (n : ℕ) → total_at check head ≡ Ok n → 5 ≤ n
total_has_head check head n h =
    let total : ℕ = number_of (take 2 (drop 2 head)) % 1024 + 1 in
    let enough = passed (ltb total (least_total check)) faults.Length (Ok total) n h in
    let is : total ≡ n = ok_is {F = TcFault} total n enough.1 in
    let least : least_total check ≤ total = ltb-false _ _ enough.0 in
    omega arith

-- a body has its number and at least one more octet
pub body_long : (body : BodyView) → IsTrue (body_fits body) → 2 ≤ length (body_octets body)
body_long (Ad n s) fits = omega arith
body_long (Bd s) fits = omega arith
body_long (Bc Unlock) fits = omega arith
body_long (Bc (SetVr x)) fits = omega arith

-- how many octets a frame has
total_is : (check : Check) (f : FrameView) (b : List ℕ) → IsTcFrame check f b
    → (length b ≡ total_of check f) × (6 + check_length check ≤ length b)
total_is check f b h =
    let front : ℕ = length b - check_length check in
    let rest : length (drop 4 (take front b)) ≡ length (body_octets f.body) = ap length h.rest in
    let long : 2 ≤ length (body_octets f.body) = body_long f.body h.fits in (
      omega (arith, length-drop 4 (take front b), length-take front b),
      omega
          (arith, length-drop 4 (take front b), length-take front b),
    )

-- the octets of a frame begin with its head, which declares their number
pub own_total : (check : Check) (f : FrameView) (b : List ℕ) → IsTcFrame check f b
    → (5 ≤ length b) × (total_at check (take 5 b) ≡ Ok (length b))
own_total check f b h =
    let long = total_is check f b h in
    let head : take 2 (drop 2 (take 5 b)) ≡ take 2 (drop 2 b) =
    ap (take 2) (drop-take 2 3 b) ∙ take-take 2 3 (drop 2 b) (omega arith) in
    let total : number_of (take 2 (drop 2 (take 5 b))) % 1024 + 1 ≡ length b =
    ap (λ (xs : List ℕ). number_of xs % 1024 + 1) head ∙ omega arith in
    let least : ltb (length b) (least_total check) ≡ false = le-ltb _ _ (omega arith) in
    (omega arith, rw (total, least) refl)

-- the header's octets, from their numbers
header_is : (check : Check) (f : FrameView) (b : List ℕ) → IsSpelling check f b
    → take 4 b ≡ big_bytes 2 (first_number f) ++ big_bytes 2 (second_number check f)
header_is check f b h =
    let long = total_is check f b h.spells in
    let one : take 2 b ≡ big_bytes 2 (first_number f) =
    two_octets (take 2 b) (omega (arith, length-take 2 b)) (take_fits b 2 h.octets)
    ∙ ap (big_bytes 2) h.spells.first in
    let number : number_of (take 2 (drop 2 b)) ≡ second_number check f =
    omega (arith, h.spells.second) in
    let two : take 2 (drop 2 b) ≡ big_bytes 2 (second_number check f) =
    two_octets (take 2 (drop 2 b)) (omega (arith, length-take 2 (drop 2 b), length-drop 2 b))
    (take_fits (drop 2 b) 2 (drop_fits b 2 h.octets)) ∙ ap (big_bytes 2) number in
    let parts : take 4 b ≡ take 2 b ++ take 2 (drop 2 b) =
    sym (take-append-drop 2 (take 4 b))
    ∙ rw (take-take 2 4 b (omega arith), drop-take 2 2 b) refl in
    parts ∙ rw (one, two) refl

front_is : (check : Check) (f : FrameView) (b : List ℕ) → IsSpelling check f b
    → before_check check b ≡ front_octets check f
front_is check f b h =
    let long = total_is check f b h.spells in
    let front : ℕ = length b - check_length check in
    let header : take 4 (take front b) ≡ big_bytes 2 (first_number f)
    ++ big_bytes 2 (second_number check f) =
    take-take 4 front b (omega arith) ∙ header_is check f b h in
    sym (take-append-drop 4 (take front b))
    ∙ rw (header, h.spells.rest) (append_assoc (big_bytes 2 (first_number f))
    (big_bytes 2 (second_number check f)) (body_octets f.body))

with_check_is : (check : Check) (f : FrameView) (b : List ℕ) → IsSpelling check f b
    → b ≡ with_check check (before_check check b)
with_check_is On f b h = checked_are b h.octets h.spells.checked
with_check_is Off f b h = sym (take_all (length b - 0) b (omega arith))

-- octets that spell a frame are its spelling
pub spelling_from : (check : Check) (f : FrameView) (b : List ℕ) → IsSpelling check f b
    → b ≡ spelling check f
spelling_from check f b h = with_check_is check f b h ∙ ap (with_check check) (front_is check f b h)

pub one_spelling_of : (check : Check) (f : FrameView) (xs ys : List ℕ) → IsSpelling check f xs
    → IsSpelling check f ys → xs ≡ ys
one_spelling_of check f xs ys p q = spelling_from check f xs p ∙ sym (spelling_from check f ys q)
