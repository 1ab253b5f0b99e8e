-- The packet of a new command.
use Rattle.std.proofs.Common.{◌≡◌, ℕ, ◌+◌, ◌≤◌, List, length, refl, ◌∙◌}
use Rattle.std.proofs.Common.{ap, arith, eq-eqb, lt-ltb, ltb-true, Option, Some, None}
use Rattle.std.proofs.Common.{Bool, true, false, Result, Ok, Err}
use Rattle.std.proofs.lemmas.Bool.{le-leb, leb-false, ltb-false}
use Rattle.std.specs.Prelude.{not, nat_le, ◌&&◌, ◌||◌, ◌==◌, ◌<◌, ◌^◌, if◌then◌else◌, nat_lt}
use Rattle.command_log.specs.declared.fault.LogFault.{LogFault}
use Rattle.command_log.specs.declared.fault.LogFault.TheVariants as log_faults
use Rattle.command_log.specs.Packets.{CommandView, command_octets, command_fits, command_in, command_at}
use Rattle.command_log.specs.Packets.{is_framed, is_sound, is_command, number_in}
use Rattle.command_log.proofs.Exact.{each_command_is_read, are_both}
use Rattle.command_ledger.specs.declared.fault.LedgerFault.{LedgerFault}
use Rattle.command_ledger.specs.declared.fault.LedgerFault.TheVariants as faults
use Rattle.command_ledger.specs.Ledger.{LedgerState, give_fault, next_command}
use Rattle.command_ledger.specs.State.{State, Gives, highest, follows}

read_of : (a b : Bool) (view c : CommandView)
    → ◌≡◌ {A = Result CommandView LogFault}
    (if not a then Err log_faults.Layout else if not b then Err log_faults.Check else Ok view) (Ok c)
    → ((a && b) ≡ true) × (view ≡ c)
read_of true true view c e = (refl, cc)
read_of true false view c e = absurd cc
read_of false b view c e = absurd cc

-- a new command may follow
pub follows_next : (s : State) (tag on_map : ℕ) (c : CommandView) (packet : List ℕ) → command_fits c ≡ true
    → c.number ≡ highest s + 1 → packet ≡ command_octets c → length packet ≤ 65542 → highest s < 4294967295
    → follows s (Gives tag on_map packet) ≡ true
follows_next s tag on_map c packet fits number is short low =
    let read = ap command_at is ∙ each_command_is_read c fits in
    let both = read_of (is_framed 14 packet) (is_sound packet) (command_in packet) c read in
    let same : number_in packet ≡ highest s + 1 = ap (λ (v : CommandView). v.number) both.1 ∙ number in
    are_both (nat_lt (highest s) 4294967295)
    (nat_le (length packet) 65542 && (is_command packet && (number_in packet == highest s + 1)))
    (lt-ltb (highest s) 4294967295 low)
    (are_both (nat_le (length packet) 65542) (is_command packet && (number_in packet == highest s + 1))
    (le-leb (length packet) 65542 short)
    (are_both (is_command packet) (number_in packet == highest s + 1) both.0
    (eq-eqb (number_in packet) (highest s + 1) same)))

first_of : (a b : Bool) → (a && b) ≡ true → a ≡ true
first_of true b e = refl
first_of false b e = absurd cc

pub low_number : (s : State) (tag on_map : ℕ) (packet : List ℕ) → follows s (Gives tag on_map packet) ≡ true
    → highest s + 1 < 4294967296
low_number s tag on_map packet e =
    let low : highest s < 4294967295 = ltb-true (highest s) 4294967295 (first_of (nat_lt (highest s) 4294967295)
    (nat_le (length packet) 65542 && (is_command packet && (number_in packet == highest s + 1))) e) in
    omega arith

none_of : (a b c : Bool) (e f g : LedgerFault)
    → ◌≡◌ {A = Option LedgerFault} (if a then Some e else if b then Some f else if c then Some g else None) None
    → (a ≡ false) × (b ≡ false) × (c ≡ false)
none_of true b c e f g h = absurd cc
none_of false true c e f g h = absurd cc
none_of false false true e f g h = absurd cc
none_of false false false e f g h = (refl, refl, refl)

neither : (a b : Bool) → (a || b) ≡ false → (a ≡ false) × (b ≡ false)
neither true b e = absurd cc
neither false b e = (refl, e)

-- a command that nothing refuses fits
pub fits_of : (l : LedgerState) (on_map apid count : ℕ) (content : List ℕ)
    → give_fault l on_map apid count (length content) ≡ None
    → (command_fits (next_command l apid count content) ≡ true) × (highest l.state < 4294967295)
fits_of l on_map apid count content e =
    let n : ℕ = highest l.state in
    let none = none_of (nat_le 64 on_map || (nat_le 2048 apid || (nat_le 16384 count || nat_lt 65528 (length content))))
    (nat_lt l.max_packet (length content + 14)) (nat_le 4294967295 n) faults.FieldRange faults.TooLong faults.NoNumber
    e in
    let one = neither (nat_le 64 on_map) (nat_le 2048 apid || (nat_le 16384 count || nat_lt 65528 (length content)))
    none.0 in
    let two = neither (nat_le 2048 apid) (nat_le 16384 count || nat_lt 65528 (length content)) one.1 in
    let three = neither (nat_le 16384 count) (nat_lt 65528 (length content)) two.1 in
    let a : apid < 2048 = leb-false 2048 apid two.0 in
    let b : count < 16384 = leb-false 16384 count three.0 in
    let c : length content ≤ 65528 = ltb-false 65528 (length content) three.1 in
    let d : n < 4294967295 = leb-false 4294967295 n none.2 in (
      are_both (nat_lt apid 2048 && nat_lt count 16384 && nat_lt 0 (n + 1) && nat_lt (n + 1) (2 ^ 32))
          (nat_le (length content) 65528)
          (are_both (nat_lt apid 2048 && nat_lt count 16384 && nat_lt 0 (n + 1)) (nat_lt (n + 1) (2 ^ 32))
          (are_both (nat_lt apid 2048 && nat_lt count 16384) (nat_lt 0 (n + 1))
          (are_both (nat_lt apid 2048) (nat_lt count 16384) (lt-ltb apid 2048 a) (lt-ltb count 16384 b))
          (lt-ltb 0 (n + 1) (omega arith)))
          (lt-ltb (n + 1) (2 ^ 32) (omega arith)))
          (le-leb (length content) 65528 c),
      d,
    )
