-- The history of packets is the check of their checks.
use Rattle.std.proofs.Common.{◌≡◌, ℕ, zero, suc, ◌-◌, ◌^◌, ◌<◌, List, [], ◌∷◌, ◌++◌, refl, sym, ap, ◌∙◌, arith}
use Rattle.std.proofs.Common.{append_assoc, append-nil, length, Bool}
use Rattle.std.specs.Prelude.{bit_xor}
use Rattle.std.specs.List.{AllByRecursion}
use Rattle.std.proofs.lemmas.Nat.{xor_lt}
use Rattle.octets.specs.Number.{IsOctets}
use Rattle.octets.proofs.Checked.{drop_fits}
use Rattle.command_log.specs.Check.{number_of_low_bits, check_of, register_after}
use Rattle.command_log.specs.History.{check_octets, checks_of, history_of, EachHistoryIsACheck}
use Rattle.command_log.proofs.Division.{divided, divided_all, divided_first, divided_after, register_fits, takes_bits}
use Rattle.command_log.proofs.Division.{takes_octet}

steps_fit : (n r : ℕ) → r < 2 ^ 32 → register_after n r < 2 ^ 32
steps_fit zero r small = small
steps_fit (suc n) r small = steps_fit n (register_after 1 r) (register_fits r small)

-- the register after octets
abbrev over : ℕ → List ℕ → ℕ
over r [] = r
over r (x ∷ xs) = over (register_after 8 (bit_xor r x)) xs

over_fits : (r : ℕ) (xs : List ℕ) → r < 2 ^ 32 → IsOctets xs → over r xs < 2 ^ 32
over_fits r [] small fits = small
over_fits r (x ∷ xs) small fits =
    over_fits (register_after 8 (bit_xor r x)) xs
    (steps_fit 8 (bit_xor r x) (xor_lt 32 r x small (omega (arith, fits 0)))) (λ i. fits (suc i))

divided_over : (r : ℕ) (xs rest : List ℕ) → r < 2 ^ 32 → IsOctets xs
    → divided r 0 (xs ++ rest) ≡ divided (over r xs) 0 rest
divided_over r [] rest small fits = refl
divided_over r (x ∷ xs) rest small fits =
    let within : bit_xor r x < 2 ^ 32 = xor_lt 32 r x small (omega (arith, fits 0)) in
    sym (takes_octet r x (xs ++ rest) (fits 0))
    ∙ sym (takes_bits 8 (bit_xor r x) (xs ++ rest) within)
    ∙ divided_over (register_after 8 (bit_xor r x)) xs rest (steps_fit 8 (bit_xor r x) within) (λ i. fits (suc i))

-- what octets leave in the register
divided_octets : (r : ℕ) (xs : List ℕ) → r < 2 ^ 32 → IsOctets xs → number_of_low_bits (divided r 0 xs) ≡ over r xs
divided_octets r xs small fits =
    ap (λ (ys : List ℕ). number_of_low_bits (divided r 0 ys)) (sym (append-nil xs))
    ∙ ap number_of_low_bits (divided_over r xs [] small fits)
    ∙ divided_all (over r xs) (over_fits r xs small fits)

-- the register after the checks of packets
abbrev register_of : List (List ℕ) → ℕ
register_of [] = 4294967295
register_of (packet ∷ packets) = over (register_of packets) (check_octets packet)

check_fits : (packet : List ℕ) → IsOctets packet → IsOctets (check_octets packet)
check_fits packet fits = drop_fits packet (length packet - 4) fits

register_of_fits : (packets : List (List ℕ)) → AllByRecursion IsOctets packets → register_of packets < 2 ^ 32
register_of_fits [] all = omega arith
register_of_fits (packet ∷ packets) all =
    over_fits (register_of packets) (check_octets packet) (register_of_fits packets all.1) (check_fits packet all.0)

divided_checks : (packets : List (List ℕ)) (rest : List ℕ) → AllByRecursion IsOctets packets
    → divided 4294967295 0 (checks_of packets ++ rest) ≡ divided (register_of packets) 0 rest
divided_checks [] rest all = refl
divided_checks (packet ∷ packets) rest all =
    ap (divided 4294967295 0) (append_assoc (checks_of packets) (check_octets packet) rest)
    ∙ divided_checks packets (check_octets packet ++ rest) all.1
    ∙ divided_over (register_of packets) (check_octets packet) rest (register_of_fits packets all.1)
    (check_fits packet all.0)

check_is : (packets : List (List ℕ)) → AllByRecursion IsOctets packets
    → check_of (checks_of packets) ≡ 4294967295 - register_of packets
check_is packets all =
    sym (divided_first (checks_of packets))
    ∙ ap (λ (ys : List ℕ). 4294967295 - number_of_low_bits (divided 4294967295 0 ys))
    (sym (append-nil (checks_of packets)))
    ∙ ap (λ (bits : List Bool). 4294967295 - number_of_low_bits bits) (divided_checks packets [] all)
    ∙ ap (λ (n : ℕ). 4294967295 - n) (divided_all (register_of packets) (register_of_fits packets all))

history_is : (packets : List (List ℕ)) → AllByRecursion IsOctets packets
    → history_of packets ≡ 4294967295 - register_of packets
history_is [] all = refl
history_is (packet ∷ packets) all =
    let small : register_of packets < 2 ^ 32 = register_of_fits packets all.1 in
    let before : history_of packets ≡ 4294967295 - register_of packets = history_is packets all.1 in
    let back : 4294967295 - history_of packets ≡ register_of packets = omega arith in
    sym (divided_after (history_of packets) (check_octets packet))
    ∙ ap (λ (r : ℕ). 4294967295 - number_of_low_bits (divided r 0 (check_octets packet))) back
    ∙ ap (λ (n : ℕ). 4294967295 - n)
    (divided_octets (register_of packets) (check_octets packet) small (check_fits packet all.0))

pub each_history : EachHistoryIsACheck
each_history packets all = history_is packets all ∙ sym (check_is packets all)
