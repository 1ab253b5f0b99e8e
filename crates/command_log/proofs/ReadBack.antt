-- What was spelled is read back.
use Rattle.std.proofs.Common.{◌≡◌, ℕ, List, [], ◌∷◌, ◌++◌, Bool, true, false, refl, arith, ap, drop}
use Rattle.std.specs.Prelude.{if◌then◌else◌, ◌==◌, slice_index, not}
use Rattle.std.proofs.Common.{eq-eqb, eqb-true, ◌∙◌, ◌⊎◌, inl, inr, length, sym, Result, Ok, Err}
use Rattle.std.specs.Str.{bytes_eq}
use lib.Pointwise.{pointwise}
use lib.Dec.{eqb}
use Rattle.command_log.specs.declared.record.Record.{Record}
use Rattle.command_log.specs.declared.status.Status.{Status}
use Rattle.command_log.specs.declared.status.Status.TheVariants.{Says, Changes, Starts, Lost}
use Rattle.command_log.specs.declared.fault.LogFault.{LogFault}
use Rattle.command_log.specs.declared.fault.LogFault.TheVariants as faults
use Rattle.command_log.specs.Layout.{front_octets, fields_of, place_octets, record_spelled, IsInRange}
use Rattle.command_log.specs.Status.{status_octets, status_with, status_in, status_spelled, IsStatusInRange}

pub flag_back : (flag : Bool) → ((if flag then 1 else 0) == 1) ≡ flag
flag_back true = refl
flag_back false = refl

same_fields : (kept : Record) (boot last known history : ℕ) (begun : Bool) → boot ≡ kept.boot → last ≡ kept.last
    → known ≡ kept.known → history ≡ kept.history → begun ≡ kept.begun
    → ◌≡◌ {A = Record}
    (record { boot = boot; last = last; begun = begun; known = known; history = history }) kept
same_fields kept boot last known history begun e f g h i = rw (e, f, g, h, i) refl

pub fields_back : (kept : Record) (more : List ℕ) → IsInRange kept → fields_of (front_octets kept ++ more) ≡ kept
fields_back kept more is =
    let read = fields_of (front_octets kept ++ more) in
    same_fields kept read.boot read.last read.known read.history read.begun (omega (arith, is.boot))
    (omega (arith, is.last)) (omega (arith, is.known)) (omega (arith, is.history)) (flag_back kept.begun)

pub read_back : (kept : Record) → IsInRange kept → fields_of (place_octets kept) ≡ kept
read_back kept is = fields_back kept (drop 21 (place_octets kept)) is

pub status_back : (status : Status) (waiting : ℕ) → IsStatusInRange status
    → status_with (slice_index (status_octets status waiting) 0) (fields_of (drop 1 (status_octets status waiting)))
    ≡ status
status_back (Says kept) waiting is =
    ap (λ (r : Record). Says r) (fields_back kept (drop 22 (status_octets (Says kept) waiting)) is)
status_back Changes waiting is = refl
status_back Starts waiting is = refl
status_back (Lost mark) waiting is =
    let read = fields_of (drop 1 (status_octets (Lost mark) waiting)) in
    let same : read.boot ≡ mark = omega (arith, is) in
    ap (λ (m : ℕ). Lost m) same

pub read_status : (octets : List ℕ) (status : Status) (waiting : ℕ) → IsStatusInRange status
    → octets ≡ status_octets status waiting
    → (status_with (slice_index octets 0) (fields_of (drop 1 octets)) ≡ status) × (slice_index octets 22 ≡ waiting)
read_status octets status waiting is e = (
  ap (λ (xs : List ℕ). status_with (slice_index xs 0) (fields_of (drop 1 xs))) e ∙ status_back status waiting is,
  ap (λ (xs : List ℕ). slice_index xs 22) e,
)

-- a list is equal to itself, element by element
pub alike : (xs : List ℕ) → pointwise eqb xs xs ≡ true
alike [] = refl
alike (x ∷ xs) = let first : eqb x x ≡ true = eq-eqb x x refl in rw first (alike xs)

cases_bool : (b : Bool) → (b ≡ true) ⊎ (b ≡ false)
cases_bool true = inl refl
cases_bool false = inr refl

-- lists that do not differ are equal
pub same_lists : (xs ys : List ℕ) → false ≡ not (pointwise eqb xs ys) → xs ≡ ys
same_lists [] [] e = refl
same_lists [] (y ∷ ys) e = absurd cc
same_lists (x ∷ xs) [] e = absurd cc
same_lists (x ∷ xs) (y ∷ ys) e =
    elim (cases_bool (eqb x y)) as (λ _. (x ∷ xs) ≡ (y ∷ ys)) [
      | inl t ↦
          let rest : xs ≡ ys = same_lists xs ys (rw t at e) in
          ap (λ (z : ℕ). z ∷ xs) (eqb-true x y t) ∙ ap (λ (zs : List ℕ). y ∷ zs) rest
      | inr f ↦ let none : false ≡ true = rw f at e in absurd cc
    ]

-- ---- what octets spell

turned : (a b : Bool) → b ≡ not a → a ≡ not b
turned true true e = absurd cc
turned true false e = refl
turned false true e = refl
turned false false e = absurd cc

record_by : (octets : List ℕ) (same : Bool) → (length octets == 50) ≡ true
    → bytes_eq (place_octets (fields_of octets)) octets ≡ same
    → ◌≡◌ {A = Result Record LogFault} (if same then Ok (fields_of octets) else Err faults.Check)
    (record_spelled octets)
record_by octets true long e = rw (long, e) refl
record_by octets false long e = rw (long, e) refl

-- the record that was found is the one that the octets spell, if they do not differ from its
-- spelling
pub found_record : (octets written : List ℕ) (found : Record) (differs : Bool) → length octets ≡ 50
    → found ≡ fields_of octets → written ≡ place_octets found → differs ≡ not (pointwise eqb written octets)
    → ◌≡◌ {A = Result Record LogFault} (if not differs then Ok found else Err faults.Check) (record_spelled octets)
found_record octets written found differs long e f is =
    let same : bytes_eq (place_octets (fields_of octets)) octets ≡ not differs =
    ap (λ (xs : List ℕ). bytes_eq xs octets) (sym (f ∙ ap place_octets e)) ∙ turned (bytes_eq written octets) differs is
    in
    ap (λ (r : Record). if not differs then Ok r else Err faults.Check) e
    ∙ record_by octets (not differs) (eq-eqb (length octets) 50 long) same

status_by : (octets : List ℕ) (same : Bool) → (length octets == 27) ≡ true
    → bytes_eq (status_octets (status_in octets) (slice_index octets 22)) octets ≡ same
    → ◌≡◌ {A = Result (Status × ℕ) LogFault}
    (if same then Ok (status_in octets, slice_index octets 22) else Err faults.Check) (status_spelled octets)
status_by octets true long e = rw (long, e) refl
status_by octets false long e = rw (long, e) refl

pub found_status : (octets written : List ℕ) (found : Status) (differs : Bool) → length octets ≡ 27
    → found ≡ status_in octets → written ≡ status_octets found (slice_index octets 22)
    → differs ≡ not (pointwise eqb written octets)
    → ◌≡◌ {A = Result (Status × ℕ) LogFault}
    (if not differs then Ok (found, slice_index octets 22) else Err faults.Check) (status_spelled octets)
found_status octets written found differs long e f is =
    let same : bytes_eq (status_octets (status_in octets) (slice_index octets 22)) octets ≡ not differs =
    ap (λ (xs : List ℕ). bytes_eq xs octets)
    (sym (f ∙ ap (λ (s : Status). status_octets s (slice_index octets 22)) e))
    ∙ turned (bytes_eq written octets) differs is in
    ap (λ (s : Status). if not differs then Ok (s, slice_index octets 22) else Err faults.Check) e
    ∙ status_by octets (not differs) (eq-eqb (length octets) 27 long) same
