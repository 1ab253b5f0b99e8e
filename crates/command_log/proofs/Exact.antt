-- Packets are read as they were written, and no others are read.
use Rattle.std.proofs.Common.{◌≡◌, ℕ, suc, ◌+◌, ◌-◌, ◌*◌, ◌/◌, ◌%◌, ◌^◌, ◌<◌, ◌≤◌, List, [], ◌∷◌, ◌++◌, length, take}
use Rattle.std.proofs.Common.{drop}
use Rattle.std.proofs.Common.{Bool, true, false, Result, Ok, Err, refl, sym, ap, ◌∙◌, arith, length-append, length-drop}
use Rattle.std.proofs.Common.{eq-eqb, eqb-true, lt-ltb, ltb-true}
use Rattle.std.proofs.lemmas.Bool.{leb-true, le-leb}
use Rattle.std.specs.Prelude.{◌&&◌, not, nat_lt, nat_le, nat_eq, slice_index, if◌then◌else◌}
use Rattle.std.proofs.lemmas.List.{take_at, drop_at, take-append-drop, drop-drop, length-take, get_or-drop}
use Rattle.byteorder.specs.Endian.{big_bytes, big_number}
use Rattle.octets.specs.Number.{IsOctets}
use Rattle.octets.proofs.Checked.{drop_fits, take_fits}
use Rattle.command_log.specs.Check.{check_of, sealed, holds_check}
use Rattle.command_log.specs.Packets.{header_octets, packet_octets, is_framed, is_sound, CommandView, command_octets}
use Rattle.command_log.specs.Packets.{command_fits, command_in, number_in, content_in}
use Rattle.command_log.specs.declared.fault.LogFault.{LogFault}
use Rattle.command_log.specs.declared.fault.LogFault.TheVariants as faults
use Rattle.command_log.specs.declared.packets.Order.{Order}
use Rattle.command_log.specs.declared.packets.Order.TheVariants.{Rebuild}
use Rattle.command_log.specs.declared.packets.Order.TheVariants as orders
use Rattle.command_log.specs.Packets.{order_front, order_octets, order_with}
use Rattle.command_log.specs.Exact.{EachCommandIsRead, EachReadIsACommand}
use Rattle.command_log.specs.Exact.{IsOrderInRange, EachOrderIsRead, EachReadIsAnOrder}
use Rattle.command_log.proofs.Steps.{both}

-- ---- numbers in octets

four_same : (a b c d e f g h : ℕ) → a ≡ e → b ≡ f → c ≡ g → d ≡ h
    → ◌≡◌ {A = List ℕ} (a ∷ b ∷ c ∷ d ∷ []) (e ∷ f ∷ g ∷ h ∷ [])
four_same a b c d e f g h i j k l = cc

pub four_octets : (xs : List ℕ) → length xs ≡ 4 → IsOctets xs → xs ≡ big_bytes 4 (big_number 4 xs)
four_octets [] e fits = absurd (omega arith)
four_octets (a ∷ []) e fits = absurd (omega arith)
four_octets (a ∷ b ∷ []) e fits = absurd (omega arith)
four_octets (a ∷ b ∷ c ∷ []) e fits = absurd (omega arith)
four_octets (a ∷ b ∷ c ∷ d ∷ []) e fits =
    let first : a < 256 = fits 0 in
    let second : b < 256 = fits 1 in
    let third : c < 256 = fits 2 in
    let fourth : d < 256 = fits 3 in
    let n : ℕ = big_number 4 (a ∷ b ∷ c ∷ d ∷ []) in
    four_same a b c d (n / 16777216 % 256) (n / 65536 % 256) (n / 256 % 256) (n % 256) (omega arith) (omega arith)
    (omega arith) (omega arith)
four_octets (a ∷ b ∷ c ∷ d ∷ f ∷ rest) e fits = absurd (omega arith)

number_back : (n : ℕ) (rest : List ℕ) → n < 2 ^ 32 → big_number 4 (big_bytes 4 n ++ rest) ≡ n
number_back n rest low = omega arith

check_below : (octets : List ℕ) → check_of octets < 2 ^ 32
unfolding check_of
check_below octets = omega arith

-- ---- a packet that is read

record IsFramed (least : ℕ) (octets : List ℕ) : Type 0 where
  long : least ≤ length octets
  first : slice_index octets 0 / 8 ≡ 2
  third : slice_index octets 2 / 64 ≡ 3
  count : big_number 2 (drop 4 octets) + 7 ≡ length octets

framed_is : (least : ℕ) (octets : List ℕ) → is_framed least octets ≡ true → IsFramed least octets
framed_is least octets e =
    let one : Bool = nat_le least (length octets) in
    let two : Bool = nat_eq (slice_index octets 0 / 8) 2 in
    let three : Bool = nat_eq (slice_index octets 2 / 64) 3 in
    let four : Bool = nat_eq (big_number 2 (drop 4 octets) + 7) (length octets) in
    let all = both (one && two && three) four e in
    let some = both (one && two) three all.0 in
    let few = both one two some.0 in
    record {
      long = leb-true least (length octets) few.0;
      first = eqb-true (slice_index octets 0 / 8) 2 few.1;
      third = eqb-true (slice_index octets 2 / 64) 3 some.1;
      count = eqb-true (big_number 2 (drop 4 octets) + 7) (length octets) all.1;
    }

six_same : (a b c d e f g h i j k l : ℕ) → a ≡ g → b ≡ h → c ≡ i → d ≡ j → e ≡ k → f ≡ l
    → ◌≡◌ {A = List ℕ} (a ∷ b ∷ c ∷ d ∷ e ∷ f ∷ []) (g ∷ h ∷ i ∷ j ∷ k ∷ l ∷ [])
six_same a b c d e f g h i j k l o p q r s t = cc

abbrev apid_in : List ℕ → ℕ
apid_in octets = slice_index octets 0 % 8 * 256 + slice_index octets 1

abbrev count_in : List ℕ → ℕ
count_in octets = slice_index octets 2 % 64 * 256 + slice_index octets 3

abbrev body_in : List ℕ → List ℕ
body_in octets = take (length octets - 10) (drop 6 octets)

header_again : (a b c d e f n : ℕ) → a < 256 → b < 256 → c < 256 → d < 256 → e < 256 → f < 256
    → a / 8 ≡ 2 → c / 64 ≡ 3 → e * 256 + f + 7 ≡ n
    → (a ∷ b ∷ c ∷ d ∷ e ∷ f ∷ []) ≡ header_octets (a % 8 * 256 + b) (c % 64 * 256 + d) (n - 6)
header_again a b c d e f n la lb lc ld le lf first third count =
    six_same a b c d e f ((4096 + (a % 8 * 256 + b)) / 256 % 256) ((4096 + (a % 8 * 256 + b)) % 256)
    ((49152 + (c % 64 * 256 + d)) / 256 % 256) ((49152 + (c % 64 * 256 + d)) % 256) ((n - 6 - 1) / 256 % 256)
    ((n - 6 - 1) % 256) (omega arith) (omega arith) (omega arith) (omega arith) (omega arith) (omega arith)

-- octets that end with their check
sealed_again : (octets : List ℕ) → IsOctets octets → 4 ≤ length octets → holds_check octets ≡ true
    → octets ≡ sealed (take (length octets - 4) octets)
sealed_again octets fits long e =
    let n : ℕ = length octets - 4 in
    let same : big_number 4 (drop n octets) ≡ check_of (take n octets) =
    eqb-true (big_number 4 (drop n octets)) (check_of (take n octets))
    (both (nat_le 4 (length octets)) (nat_eq (big_number 4 (drop n octets)) (check_of (take n octets))) e).1 in
    let tail : drop n octets ≡ big_bytes 4 (check_of (take n octets)) =
    four_octets (drop n octets) (omega (arith, length-drop n octets)) (drop_fits octets n fits)
    ∙ ap (big_bytes 4) same in
    sym (take-append-drop n octets) ∙ ap (λ (t : List ℕ). take n octets ++ t) tail

-- the front of a packet
front_again : (octets : List ℕ) → IsOctets octets → (least : ℕ) → 10 ≤ least → IsFramed least octets
    → take (length octets - 4) octets
    ≡ header_octets (apid_in octets) (count_in octets) (length (body_in octets) + 4) ++ body_in octets
front_again [] fits least ten is = absurd (omega (arith, is.long))
front_again (a ∷ []) fits least ten is = absurd (omega (arith, is.long))
front_again (a ∷ b ∷ []) fits least ten is = absurd (omega (arith, is.long))
front_again (a ∷ b ∷ c ∷ []) fits least ten is = absurd (omega (arith, is.long))
front_again (a ∷ b ∷ c ∷ d ∷ []) fits least ten is = absurd (omega (arith, is.long))
front_again (a ∷ b ∷ c ∷ d ∷ e ∷ []) fits least ten is = absurd (omega (arith, is.long))
front_again (a ∷ b ∷ c ∷ d ∷ e ∷ f ∷ rest) fits least ten is =
    let octets : List ℕ = a ∷ b ∷ c ∷ d ∷ e ∷ f ∷ rest in
    let k : ℕ = length (a ∷ b ∷ c ∷ d ∷ e ∷ f ∷ rest) - 10 in
    let long : least ≤ length (a ∷ b ∷ c ∷ d ∷ e ∷ f ∷ rest) = is.long in
    let cut : length (a ∷ b ∷ c ∷ d ∷ e ∷ f ∷ rest) - 4
    ≡ suc (suc (suc (suc (suc (suc (length (a ∷ b ∷ c ∷ d ∷ e ∷ f ∷ rest) - 10)))))) = omega arith in
    let body : length (take (length (a ∷ b ∷ c ∷ d ∷ e ∷ f ∷ rest) - 10) rest) + 4
    ≡ length (a ∷ b ∷ c ∷ d ∷ e ∷ f ∷ rest) - 6 = omega (
      arith,
      length-take (length
          (a ∷ b ∷ c ∷ d ∷ e ∷ f ∷ rest) - 10) rest,
    ) in
    let count : e * 256 + f + 7 ≡ length (a ∷ b ∷ c ∷ d ∷ e ∷ f ∷ rest) = omega (arith, is.count) in
    let header : (a ∷ b ∷ c ∷ d ∷ e ∷ f ∷ [])
    ≡ header_octets (a % 8 * 256 + b) (c % 64 * 256 + d) (length (a ∷ b ∷ c ∷ d ∷ e ∷ f ∷ rest) - 6) =
    header_again a b c d e f (length (a ∷ b ∷ c ∷ d ∷ e ∷ f ∷ rest)) (fits 0) (fits 1) (fits 2) (fits 3) (fits 4)
    (fits 5)
    is.first is.third count in
    ap (λ (i : ℕ). take i (a ∷ b ∷ c ∷ d ∷ e ∷ f ∷ rest)) cut
    ∙ ap (λ (h : List ℕ). h ++ take (length (a ∷ b ∷ c ∷ d ∷ e ∷ f ∷ rest) - 10) rest) header
    ∙ ap (λ (n : ℕ). header_octets (a % 8 * 256 + b) (c % 64 * 256 + d) n
    ++ take (length (a ∷ b ∷ c ∷ d ∷ e ∷ f ∷ rest) - 10) rest) (sym body)

pub packet_again : (octets : List ℕ) → IsOctets octets → (least : ℕ) → 10 ≤ least → is_framed least octets ≡ true
    → holds_check octets ≡ true
    → octets ≡ packet_octets (apid_in octets) (count_in octets) (body_in octets)
packet_again octets fits least ten framed holds =
    let is : IsFramed least octets = framed_is least octets framed in
    let long : least ≤ length octets = is.long in
    sealed_again octets fits (omega arith) holds ∙ ap sealed (front_again octets fits least ten is)

-- ---- a packet that was written

written_length : (apid count : ℕ) (body : List ℕ) → length (packet_octets apid count body) ≡ length body + 10
written_length apid count body =
    let front : List ℕ = header_octets apid count (length body + 4) ++ body in
    omega (arith, length-append body (big_bytes 4 (check_of (header_octets apid count (length body + 4) ++ body))))

pub are_both : (a b : Bool) → a ≡ true → b ≡ true → (a && b) ≡ true
are_both true b e f = f
are_both false b e f = absurd cc

-- octets that end with their check hold it
pub holds_sealed : (front : List ℕ) → holds_check (sealed front) ≡ true
holds_sealed front =
    let tail : List ℕ = big_bytes 4 (check_of front) in
    let n : ℕ = length (sealed front) - 4 in
    let all : length (sealed front) ≡ length front + 4 = length-append front (big_bytes 4 (check_of front)) in
    let cut : length front ≡ length (sealed front) - 4 = omega arith in
    let last : big_number 4 (drop (length (sealed front) - 4) (sealed front)) ≡ check_of front =
    ap (big_number 4) (drop_at front (big_bytes 4 (check_of front)) (length (sealed front) - 4) cut)
    ∙ number_back (check_of front) [] (check_below front) in
    let same : check_of front ≡ check_of (take (length (sealed front) - 4) (sealed front)) =
    ap check_of (sym (take_at front (big_bytes 4 (check_of front)) (length (sealed front) - 4) cut)) in
    are_both (nat_le 4 (length (sealed front)))
    (nat_eq (big_number 4 (drop (length (sealed front) - 4) (sealed front)))
    (check_of (take (length (sealed front) - 4) (sealed front))))
    (le-leb 4 (length (sealed front)) (omega arith))
    (eq-eqb (big_number 4 (drop (length (sealed front) - 4) (sealed front)))
    (check_of (take (length (sealed front) - 4) (sealed front))) (last ∙ same))

written_holds : (apid count : ℕ) (body : List ℕ) → holds_check (packet_octets apid count body) ≡ true
written_holds apid count body =
    let front : List ℕ = header_octets apid count (length body + 4) ++ body in
    holds_sealed front

written_framed : (apid count : ℕ) (body : List ℕ) (least : ℕ) → apid < 2048 → count < 16384 → length body ≤ 65532
    → least ≤ length body + 10 → is_framed least (packet_octets apid count body) ≡ true
written_framed apid count body least low small most long =
    let all : length (packet_octets apid count body) ≡ length body + 10 = written_length apid count body in
    let octets : List ℕ = packet_octets apid count body in
    are_both (nat_le least (length octets) && nat_eq (slice_index octets 0 / 8) 2 && nat_eq
    (slice_index octets 2 / 64) 3)
    (nat_eq (big_number 2 (drop 4 octets) + 7) (length octets))
    (are_both (nat_le least (length octets) && nat_eq (slice_index octets 0 / 8) 2)
    (nat_eq (slice_index octets 2 / 64) 3)
    (are_both (nat_le least (length octets)) (nat_eq (slice_index octets 0 / 8) 2)
    (le-leb least (length octets) (omega arith)) (eq-eqb (slice_index octets 0 / 8) 2 (omega arith)))
    (eq-eqb (slice_index octets 2 / 64) 3 (omega arith)))
    (eq-eqb (big_number 2 (drop 4 octets) + 7) (length octets) (omega arith))

apid_back : (apid : ℕ) → apid < 2048 → (4096 + apid) / 256 % 256 % 8 * 256 + (4096 + apid) % 256 ≡ apid
apid_back apid low = omega arith

count_back : (count : ℕ) → count < 16384 → (49152 + count) / 256 % 256 % 64 * 256 + (49152 + count) % 256 ≡ count
count_back count low = omega arith

-- ---- commands

read_of : (framed sound : Bool) (d c : CommandView)
    → ◌≡◌ {A = Result CommandView LogFault}
    (if not framed then Err faults.Layout else if not sound then Err faults.Check else Ok d) (Ok c)
    → (framed ≡ true) × (sound ≡ true) × (d ≡ c)
read_of false sound d c e = absurd cc
read_of true false d c e = absurd cc
read_of true true d c e = (refl, refl, cc)

reads : (framed sound : Bool) (d c : CommandView) → framed ≡ true → sound ≡ true → d ≡ c
    → ◌≡◌ {A = Result CommandView LogFault}
    (if not framed then Err faults.Layout else if not sound then Err faults.Check else Ok d) (Ok c)
reads true true d c e f same = ap (λ (x : CommandView). Ok x) same
reads true false d c e f same = absurd cc
reads false sound d c e f same = absurd cc

-- a number in octets, and what follows it
number_first : (xs : List ℕ) (m : ℕ) → IsOctets xs → 4 ≤ length xs → 4 ≤ m
    → take m xs ≡ big_bytes 4 (big_number 4 xs) ++ take (m - 4) (drop 4 xs)
number_first [] m fits long most = absurd (omega arith)
number_first (a ∷ []) m fits long most = absurd (omega arith)
number_first (a ∷ b ∷ []) m fits long most = absurd (omega arith)
number_first (a ∷ b ∷ c ∷ []) m fits long most = absurd (omega arith)
number_first (a ∷ b ∷ c ∷ d ∷ rest) m fits long most =
    let count : m ≡ suc (suc (suc (suc (m - 4)))) = omega arith in
    let four : (a ∷ b ∷ c ∷ d ∷ []) ≡ big_bytes 4 (big_number 4 (a ∷ b ∷ c ∷ d ∷ [])) =
    four_octets (a ∷ b ∷ c ∷ d ∷ []) refl (take_fits (a ∷ b ∷ c ∷ d ∷ rest) 4 fits) in
    ap (λ (i : ℕ). take i (a ∷ b ∷ c ∷ d ∷ rest)) count ∙ ap (λ (h : List ℕ). h ++ take (m - 4) rest) four

body_again : (octets : List ℕ) → IsOctets octets → 14 ≤ length octets
    → body_in octets ≡ big_bytes 4 (number_in octets) ++ content_in octets
body_again octets fits long =
    let count : length octets - 10 - 4 ≡ length octets - 14 = omega arith in
    number_first (drop 6 octets) (length octets - 10) (drop_fits octets 6 fits) (omega (arith, length-drop 6 octets))
    (omega arith)
    ∙ ap (λ (i : ℕ). big_bytes 4 (number_in octets) ++ take i (drop 4 (drop 6 octets))) count
    ∙ ap (λ (xs : List ℕ). big_bytes 4 (number_in octets) ++ take (length octets - 14) xs) (drop-drop 4 6 octets)

five : (a b c d e : Bool) → a ≡ true → b ≡ true → c ≡ true → d ≡ true → e ≡ true
    → (a && b && c && d && e) ≡ true
five a b c d e p q r s t =
    are_both (a && b && c && d) e (are_both (a && b && c) d (are_both (a && b) c (are_both a b p q) r) s) t

fits_again : (octets : List ℕ) → IsOctets octets → IsFramed 14 octets → nat_lt 0 (number_in octets) ≡ true
    → command_fits (command_in octets) ≡ true
fits_again octets fits is some =
    let second : slice_index octets 1 < 256 = fits 1 in
    let fourth : slice_index octets 3 < 256 = fits 3 in
    let high : slice_index (drop 4 octets) 0 < 256 = drop_fits octets 4 fits 0 in
    let low : slice_index (drop 4 octets) 1 < 256 = drop_fits octets 4 fits 1 in
    let one : slice_index (drop 6 octets) 0 < 256 = drop_fits octets 6 fits 0 in
    let two : slice_index (drop 6 octets) 1 < 256 = drop_fits octets 6 fits 1 in
    let three : slice_index (drop 6 octets) 2 < 256 = drop_fits octets 6 fits 2 in
    let four : slice_index (drop 6 octets) 3 < 256 = drop_fits octets 6 fits 3 in
    let count : big_number 2 (drop 4 octets) + 7 ≡ length octets = is.count in
    five (nat_lt (apid_in octets) 2048) (nat_lt (count_in octets) 16384) (nat_lt 0 (number_in octets))
    (nat_lt (number_in octets) (2 ^ 32)) (nat_le (length (content_in octets)) 65528)
    (lt-ltb (apid_in octets) 2048 (omega arith)) (lt-ltb (count_in octets) 16384 (omega arith)) some
    (lt-ltb (number_in octets) (2 ^ 32) (omega arith))
    (le-leb (length (content_in octets)) 65528 (omega (arith, length-take (length octets - 14) (drop 10 octets))))

pub each_read_is_a_command : EachReadIsACommand
each_read_is_a_command octets c fits e =
    let parts = read_of (is_framed 14 octets) (is_sound octets) (command_in octets) c e in
    let is : IsFramed 14 octets = framed_is 14 octets parts.0 in
    let long : 14 ≤ length octets = is.long in
    let sound = both (holds_check octets) (nat_lt 0 (number_in octets)) parts.1 in (
      ap command_fits (sym parts.2) ∙ fits_again octets fits is sound.1,
      packet_again octets fits 14 (omega arith) parts.0 sound.0
          ∙ ap (packet_octets (apid_in octets) (count_in octets)) (body_again octets fits long)
          ∙ ap command_octets parts.2,
    )

same_command : (apid apid_too count count_too number number_too : ℕ) (content content_too : List ℕ) → apid ≡ apid_too
    → count ≡ count_too → number ≡ number_too → content ≡ content_too
    → ◌≡◌ {A = CommandView}
    (record { apid = apid; count = count; number = number; content = content })
    (record { apid = apid_too; count = count_too; number = number_too; content = content_too })
same_command apid apid_too count count_too number number_too content content_too e f g h = cc

pub each_command_is_read : EachCommandIsRead
each_command_is_read c fits =
    let some = both (nat_lt c.apid 2048 && nat_lt c.count 16384 && nat_lt 0 c.number && nat_lt c.number (2 ^ 32))
    (nat_le (length c.content) 65528) fits in
    let few = both (nat_lt c.apid 2048 && nat_lt c.count 16384 && nat_lt 0 c.number) (nat_lt c.number
    (2 ^ 32)) some.0 in
    let three = both (nat_lt c.apid 2048 && nat_lt c.count 16384) (nat_lt 0 c.number) few.0 in
    let two = both (nat_lt c.apid 2048) (nat_lt c.count 16384) three.0 in
    let low : c.apid < 2048 = ltb-true c.apid 2048 two.0 in
    let small : c.count < 16384 = ltb-true c.count 16384 two.1 in
    let below : c.number < 2 ^ 32 = ltb-true c.number (2 ^ 32) few.1 in
    let most : length c.content ≤ 65528 = leb-true (length c.content) 65528 some.1 in
    let body : List ℕ = big_bytes 4 c.number ++ c.content in
    let octets : List ℕ = command_octets c in
    let tail : List ℕ = big_bytes 4 (check_of (header_octets c.apid c.count (length
    (big_bytes 4 c.number ++ c.content) + 4)
    ++ (big_bytes 4 c.number ++ c.content))) in
    let all : length (command_octets c) ≡ length (big_bytes 4 c.number ++ c.content) + 10 =
    written_length c.apid c.count (big_bytes 4 c.number ++ c.content) in
    let number : number_in (command_octets c) ≡ c.number = omega arith in
    let cut : length c.content ≡ length (command_octets c) - 14 = omega arith in
    let content : content_in (command_octets c) ≡ c.content =
    take_at c.content (big_bytes 4 (check_of (header_octets c.apid c.count (length
    (big_bytes 4 c.number ++ c.content) + 4)
    ++ (big_bytes 4 c.number ++ c.content)))) (length (command_octets c) - 14) cut in
    let more : nat_lt 0 (number_in (command_octets c)) ≡ true =
    ap (λ (n : ℕ). nat_lt 0 n) number ∙ three.1 in
    reads (is_framed 14 (command_octets c)) (is_sound (command_octets c)) (command_in (command_octets c)) c
    (written_framed c.apid c.count (big_bytes 4 c.number ++ c.content) 14 low small (omega arith) (omega arith))
    (are_both (holds_check (command_octets c)) (nat_lt 0 (number_in (command_octets c)))
    (written_holds c.apid c.count (big_bytes 4 c.number ++ c.content)) more)
    (same_command (apid_in (command_octets c)) c.apid (count_in (command_octets c)) c.count
    (number_in (command_octets c)) c.number (content_in (command_octets c)) c.content (apid_back c.apid low)
    (count_back c.count small) number content)

-- ---- orders

order_read_of : (framed holds : Bool) (read : Result Order LogFault) (order : Order)
    → ◌≡◌ {A = Result Order LogFault}
    (if not framed then Err faults.Layout else if not holds then Err faults.Check else read) (Ok order)
    → (framed ≡ true) × (holds ≡ true) × (read ≡ Ok order)
order_read_of false holds read order e = absurd cc
order_read_of true false read order e = absurd cc
order_read_of true true read order e = (refl, refl, e)

order_reads : (framed holds : Bool) (read : Result Order LogFault) (order : Order) → framed ≡ true → holds ≡ true
    → read ≡ Ok order
    → ◌≡◌ {A = Result Order LogFault}
    (if not framed then Err faults.Layout else if not holds then Err faults.Check else read) (Ok order)
order_reads true true read order e f same = same
order_reads true false read order e f same = absurd cc
order_reads false holds read order e f same = absurd cc

abbrev front_with : (kind boot last mark : ℕ) → List ℕ
front_with kind boot last mark = kind ∷ (big_bytes 4 boot ++ (big_bytes 4 last ++ big_bytes 4 mark))

twelve : (xs : List ℕ) → IsOctets xs → 12 ≤ length xs
    → take 12 xs
    ≡ big_bytes 4 (big_number 4 xs) ++ (big_bytes 4 (big_number 4 (drop 4 xs)) ++ big_bytes 4 (big_number 4
    (drop 8 xs)))
twelve xs fits long =
    let second : take 8 (drop 4 xs) ≡ big_bytes 4 (big_number 4 (drop 4 xs)) ++ take 4 (drop 4 (drop 4 xs)) =
    number_first (drop 4 xs) 8 (drop_fits xs 4 fits) (omega (arith, length-drop 4 xs)) (omega arith) in
    let third : take 4 (drop 8 xs) ≡ big_bytes 4 (big_number 4 (drop 8 xs)) ++ take 0 (drop 4 (drop 8 xs)) =
    number_first (drop 8 xs) 4 (drop_fits xs 8 fits) (omega (arith, length-drop 8 xs)) (omega arith) in
    number_first xs 12 fits (omega arith) (omega arith)
    ∙ ap (λ (t : List ℕ). big_bytes 4 (big_number 4 xs) ++ t) (second
    ∙ ap (λ (t : List ℕ). big_bytes 4 (big_number 4 (drop 4 xs)) ++ t) (ap (take 4) (drop-drop 4 4 xs) ∙ third))

thirteen : (xs : List ℕ) → IsOctets xs → 13 ≤ length xs
    → take 13 xs
    ≡ front_with (slice_index xs 0) (big_number 4 (drop 1 xs)) (big_number 4 (drop 5 xs)) (big_number 4 (drop 9 xs))
thirteen [] fits long = absurd (omega arith)
thirteen (x ∷ xs) fits long =
    ap (λ (t : List ℕ). x ∷ t) (twelve xs (drop_fits (x ∷ xs) 1 fits) (omega arith))

with_flags : (kind boot last mark : ℕ) (two one : Bool) (order : Order) → nat_eq kind 2 ≡ two
    → (nat_eq kind 1 && nat_eq last 0 && nat_eq mark 0) ≡ one
    → ◌≡◌ {A = Result Order LogFault}
    (if two then Ok (Rebuild mark boot last) else if one then Ok (orders.Restart boot) else Err faults.Check) (Ok order)
    → front_with kind boot last mark ≡ order_front order
with_flags kind boot last mark true one order e f is =
    let same : ◌≡◌ {A = Order} (Rebuild mark boot last) order = cc in
    ap (λ (k : ℕ). front_with k boot last mark) (eqb-true kind 2 e) ∙ ap order_front same
with_flags kind boot last mark false true order e f is =
    let same : ◌≡◌ {A = Order} (orders.Restart boot) order = cc in
    let parts = both (nat_eq kind 1 && nat_eq last 0) (nat_eq mark 0) f in
    let more = both (nat_eq kind 1) (nat_eq last 0) parts.0 in
    ap (λ (k : ℕ). front_with k boot last mark) (eqb-true kind 1 more.0)
    ∙ ap (λ (l : ℕ). front_with 1 boot l mark) (eqb-true last 0 more.1)
    ∙ ap (λ (m : ℕ). front_with 1 boot 0 m) (eqb-true mark 0 parts.1) ∙ ap order_front same
with_flags kind boot last mark false false order e f is = absurd cc

-- the front of an order, from its fields
body_of_order : (octets : List ℕ) → IsOctets octets → length octets ≡ 23
    → body_in octets
    ≡ front_with (slice_index octets 6) (big_number 4 (drop 7 octets)) (big_number 4 (drop 11 octets))
    (big_number 4 (drop 15 octets))
body_of_order octets fits long =
    let count : length octets - 10 ≡ 13 = omega arith in
    let kind : slice_index (drop 6 octets) 0 ≡ slice_index octets 6 = get_or-drop 6 octets 0 0 in
    ap (λ (i : ℕ). take i (drop 6 octets)) count
    ∙ thirteen (drop 6 octets) (drop_fits octets 6 fits) (omega (arith, length-drop 6 octets))
    ∙ ap (λ (k : ℕ). front_with k (big_number 4 (drop 1 (drop 6 octets))) (big_number 4 (drop 5 (drop 6 octets)))
    (big_number 4 (drop 9 (drop 6 octets)))) kind
    ∙ ap (λ (xs : List ℕ). front_with (slice_index octets 6) (big_number 4 xs) (big_number 4 (drop 5 (drop 6 octets)))
    (big_number 4 (drop 9 (drop 6 octets)))) (drop-drop 1 6 octets)
    ∙ ap (λ (xs : List ℕ). front_with (slice_index octets 6) (big_number 4 (drop 7 octets)) (big_number 4 xs)
    (big_number 4 (drop 9 (drop 6 octets)))) (drop-drop 5 6 octets)
    ∙ ap (λ (xs : List ℕ). front_with (slice_index octets 6) (big_number 4 (drop 7 octets))
    (big_number 4 (drop 11 octets)) (big_number 4 xs)) (drop-drop 9 6 octets)

pub each_read_is_an_order : EachReadIsAnOrder
each_read_is_an_order octets order fits e =
    let read = order_with (slice_index octets 6) (big_number 4 (drop 7 octets)) (big_number 4 (drop 11 octets))
    (big_number 4 (drop 15 octets)) in
    let parts = order_read_of (is_framed 23 octets && nat_eq (length octets) 23) (holds_check octets)
    (order_with (slice_index octets 6) (big_number 4 (drop 7 octets)) (big_number 4 (drop 11 octets))
    (big_number 4 (drop 15 octets))) order e in
    let framed = both (is_framed 23 octets) (nat_eq (length octets) 23) parts.0 in
    let long : length octets ≡ 23 = eqb-true (length octets) 23 framed.1 in
    let second : slice_index octets 1 < 256 = fits 1 in
    let fourth : slice_index octets 3 < 256 = fits 3 in
    let front : body_in octets ≡ order_front order =
    body_of_order octets fits long
    ∙ with_flags (slice_index octets 6) (big_number 4 (drop 7 octets)) (big_number 4 (drop 11 octets))
    (big_number 4 (drop 15 octets)) (nat_eq (slice_index octets 6) 2)
    (nat_eq (slice_index octets 6) 1 && nat_eq (big_number 4 (drop 11 octets)) 0
    && nat_eq (big_number 4 (drop 15 octets)) 0) order refl refl parts.2 in (
      apid_in octets,
      count_in octets,
      are_both (nat_lt (apid_in octets) 2048) (nat_lt (count_in octets) 16384)
          (lt-ltb (apid_in octets) 2048 (omega arith)) (lt-ltb (count_in octets) 16384 (omega arith)),
      packet_again octets fits 23 (omega arith) framed.0 parts.1
          ∙ ap (packet_octets (apid_in octets) (count_in octets)) front,
    )

order_again : (apid count : ℕ) (order : Order) → IsOrderInRange order
    → order_with (slice_index (order_octets apid count order) 6) (big_number 4 (drop 7 (order_octets apid count order)))
    (big_number 4 (drop 11 (order_octets apid count order))) (big_number 4 (drop 15 (order_octets apid count order)))
    ≡ Ok order
order_again apid count (orders.Restart boot) is =
    let octets = order_octets apid count (orders.Restart boot) in
    let same : big_number 4 (drop 7 (order_octets apid count (orders.Restart boot))) ≡ boot = omega (arith, is) in
    ap (λ (b : ℕ). Ok (orders.Restart b)) same
order_again apid count (Rebuild mark boot last) is =
    let low : mark < 2 ^ 32 = is.0 in
    let small : boot < 2 ^ 32 = is.1 in
    let below : last < 2 ^ 32 = is.2 in
    let one : big_number 4 (drop 7 (order_octets apid count (Rebuild mark boot last))) ≡ boot = omega arith in
    let two : big_number 4 (drop 11 (order_octets apid count (Rebuild mark boot last))) ≡ last = omega arith in
    let three : big_number 4 (drop 15 (order_octets apid count (Rebuild mark boot last))) ≡ mark = omega arith in
    cc

pub each_order_is_read : EachOrderIsRead
each_order_is_read apid count order fits is =
    let two = both (nat_lt apid 2048) (nat_lt count 16384) fits in
    let octets = order_octets apid count order in
    order_reads (is_framed 23 octets && nat_eq (length octets) 23) (holds_check octets)
    (order_with (slice_index octets 6) (big_number 4 (drop 7 octets)) (big_number 4 (drop 11 octets))
    (big_number 4 (drop 15 octets))) order
    (are_both (is_framed 23 octets) (nat_eq (length octets) 23)
    (written_framed apid count (order_front order) 23 (ltb-true apid 2048 two.0) (ltb-true count 16384 two.1)
    (omega arith) (omega arith)) refl)
    (written_holds apid count (order_front order)) (order_again apid count order is)
