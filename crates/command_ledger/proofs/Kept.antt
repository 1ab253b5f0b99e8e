-- A store is read as it was written.
use Rattle.std.proofs.Common.{◌≡◌, ℕ, zero, suc, ◌+◌, ◌-◌, ◌/◌, ◌%◌, ◌<◌, ◌≤◌}
use Rattle.std.proofs.Common.{List, [], ◌∷◌, ◌++◌, length, take, drop}
use Rattle.std.proofs.Common.{refl, sym, ap, subst, ◌∙◌, arith, Bool, true, false, Option, Some, None}
use Rattle.std.proofs.Common.{eq-eqb, le-leb, length-append}
use Rattle.std.proofs.lemmas.Bool.{leb-true, lt-leb, ne_eqb}
use Rattle.std.proofs.lemmas.List.{take_at, drop_at, length-take-le, drop-drop, append_assoc}
use Rattle.std.specs.Prelude.{◌&&◌, ◌==◌, nat_le, slice_index, if◌then◌else◌, is_some}
use Rattle.byteorder.specs.Endian.{big_bytes, big_number}
use Rattle.command_log.specs.Check.{check_of, holds_check}
use Rattle.command_log.specs.Layout.{front_octets, fields_of}
use Rattle.command_log.specs.declared.record.Record.{Record}
use Rattle.command_log.proofs.Exact.{holds_sealed, are_both}
use Rattle.command_log.proofs.ReadBack.{fields_back, flag_back}
use Rattle.command_ledger.specs.declared.known.Standing.{Standing}
use Rattle.command_ledger.specs.declared.known.Rebuild.{Rebuild}
use Rattle.command_ledger.specs.State.{State, Entry, Gives, Hears, Loses, Rebuilds, Tells, Stands}
use Rattle.command_ledger.specs.State.{new_state, after_entry, follows}
use Rattle.command_ledger.specs.Entries.{spelling, entry_octets, rebuild_octets, standing_octets}
use Rattle.command_ledger.specs.Entries.{gives_in, rebuild_in, standing_in, mark_in, order_in}
use Rattle.command_ledger.specs.Entries.{mark_octets, order_octets, flag}
use Rattle.command_ledger.specs.Entries.{entry_with, entry_in, entry_len}
use Rattle.command_ledger.specs.Store.{following, next_entry, next_len, after_some, reading, read_on}
use Rattle.command_ledger.specs.Kept.{IsRebuild, IsMark, IsOrder, IsStanding, IsFitting, AreEntries, after_entries}
use Rattle.command_ledger.specs.Kept.{store_octets, IsCutOff, EachStoreIsRead}

-- ---- the content of an entry is read back

abbrev kind_of : Entry → ℕ
kind_of (Gives tag on_map packet) = 1
kind_of (Hears kept) = 2
kind_of (Loses mark) = 3
kind_of (Rebuilds order) = 4
kind_of Tells = 5
kind_of (Stands standing) = 6

abbrev content_of : Entry → List ℕ
content_of (Gives tag on_map packet) = (big_bytes 8 tag ++ on_map ∷ []) ++ packet
content_of (Hears kept) = front_octets kept
content_of (Loses mark) = big_bytes 4 mark
content_of (Rebuilds order) = rebuild_octets order
content_of Tells = []
content_of (Stands standing) = standing_octets standing

spelled : (e : Entry) → spelling e ≡ entry_octets (kind_of e) (content_of e)
spelled (Gives tag on_map packet) = refl
spelled (Hears kept) = refl
spelled (Loses mark) = refl
spelled (Rebuilds order) = refl
spelled Tells = refl
spelled (Stands standing) = refl

mark_long : (m : Option ℕ) → length (mark_octets m) ≡ 5
mark_long None = refl
mark_long (Some mark) = refl

order_long : (o : Option Rebuild) → length (order_octets o) ≡ 13
order_long None = refl
order_long (Some order) = refl

short : (e : Entry) → IsFitting e → length (content_of e) ≤ 65551
short (Gives tag on_map packet) is = let low = is.1 in omega arith
short (Hears kept) is = omega arith
short (Loses mark) is = omega arith
short (Rebuilds order) is = omega arith
short Tells is = omega arith
short (Stands standing) is =
    let some = length-append (mark_octets standing.mark) (flag standing.is_lost ∷ order_octets standing.order) in
    omega (arith, some, mark_long standing.mark, order_long standing.order)

same_rebuild : (o : Rebuild) (mark boot last : ℕ) → mark ≡ o.mark → boot ≡ o.boot → last ≡ o.last
    → ◌≡◌ {A = Rebuild} (record { mark = mark; boot = boot; last = last }) o
same_rebuild o mark boot last e f g = rw (e, f, g) refl

rebuild_back : (o : Rebuild) (more : List ℕ) → IsRebuild o → rebuild_in (rebuild_octets o ++ more) ≡ o
rebuild_back o more is =
    let read = rebuild_in (rebuild_octets o ++ more) in
    same_rebuild o read.mark read.boot read.last (omega (arith, is.mark)) (omega (arith, is.boot))
    (omega (arith, is.last))

mark_back : (m : Option ℕ) (more : List ℕ) → IsMark m → mark_in (mark_octets m ++ more) ≡ m
mark_back None more is = refl
mark_back (Some mark) more is =
    let same : big_number 4 (big_bytes 4 mark ++ more) ≡ mark = omega arith in
    ap (λ (n : ℕ). Some n) same

order_back : (o : Option Rebuild) → IsOrder o → order_in (order_octets o) ≡ o
order_back None is = refl
order_back (Some o) is = ap (λ (r : Rebuild). Some r) (rebuild_back o [] is)

same_standing : (s : Standing) (below : ℕ) (board : Record) (doubt : ℕ) (mark : Option ℕ) (is_lost : Bool)
    (order : Option Rebuild) → below ≡ s.below → board ≡ s.board → doubt ≡ s.doubt → mark ≡ s.mark
    → is_lost ≡ s.is_lost → order ≡ s.order
    → ◌≡◌ {A = Standing}
    (record { below = below; board = board; doubt = doubt; mark = mark; is_lost = is_lost; order = order }) s
same_standing s below board doubt mark is_lost order e f g h i j = rw (e, f, g, h, i, j) refl

-- what follows the mark in a standing
after_mark : (m : Option ℕ) (f : ℕ) (rest : List ℕ)
    → (slice_index (mark_octets m ++ f ∷ rest) 5 ≡ f) × (drop 6 (mark_octets m ++ f ∷ rest) ≡ rest)
after_mark None f rest = (refl, refl)
after_mark (Some mark) f rest = (refl, refl)

standing_back : (s : Standing) → IsStanding s → standing_in (standing_octets s) ≡ s
standing_back s is =
    let octets : List ℕ = standing_octets s in
    let rest : List ℕ = flag s.is_lost ∷ order_octets s.order in
    let tail = after_mark s.mark (flag s.is_lost) (order_octets s.order) in
    same_standing s (big_number 4 octets) (fields_of (drop 4 octets)) (big_number 4 (drop 25 octets))
    (mark_in (drop 29 octets)) (slice_index octets 34 == 1) (order_in (drop 35 octets))
    (omega (arith, is.below)) (fields_back s.board (drop 25 octets) is.board) (omega (arith, is.doubt))
    (mark_back s.mark rest is.mark)
    (ap (λ (n : ℕ). n == 1) tail.0 ∙ flag_back s.is_lost)
    (ap order_in tail.1 ∙ order_back s.order is.order)

chosen : {X : Type 0} (b : Bool) (x y : X) → b ≡ true → (if b then x else y) ≡ x
chosen true x y e = refl
chosen false x y e = absurd cc

content_back : (e : Entry) → IsFitting e → entry_with (kind_of e) (content_of e) ≡ Some e
content_back (Gives tag on_map packet) is =
    let same : big_number 8 (big_bytes 8 tag ++ on_map ∷ packet) ≡ tag = omega (arith, is.0) in
    let content : List ℕ = content_of (Gives tag on_map packet) in
    chosen (nat_le 9 (length content)) (Some (gives_in content)) None (le-leb 9 (length content) (omega arith))
    ∙ ap (λ (n : ℕ). Some (Gives n on_map packet)) same
content_back (Hears kept) is = ap (λ (k : Record). Some (Hears k)) (fields_back kept [] is)
content_back (Loses mark) is =
    let same : big_number 4 (big_bytes 4 mark) ≡ mark = omega (arith, is) in ap (λ (n : ℕ). Some (Loses n)) same
content_back (Rebuilds order) is = ap (λ (o : Rebuild). Some (Rebuilds o)) (rebuild_back order [] is)
content_back Tells is = refl
content_back (Stands standing) is =
    let content : List ℕ = standing_octets standing in
    let some = length-append (mark_octets standing.mark) (flag standing.is_lost ∷ order_octets standing.order) in
    let long : length content ≡ 48 = omega (arith, some, mark_long standing.mark, order_long standing.order) in
    chosen (length content == 48) (Some (Stands (standing_in content))) None (eq-eqb (length content) 48 long)
    ∙ ap (λ (s : Standing). Some (Stands s)) (standing_back standing is)

-- ---- an entry is read back

other : {X : Type 0} (b : Bool) (x y : X) → b ≡ false → (if b then x else y) ≡ y
other true x y e = absurd cc
other false x y e = refl

whole_long : (kind : ℕ) (content : List ℕ) → length (entry_octets kind content) ≡ length content + 9
whole_long kind content =
    let front : List ℕ = big_bytes 4 (length content + 9) ++ kind ∷ content in
    omega (arith, length-append content (big_bytes 4 (check_of front)))

len_is : (kind : ℕ) (content rest : List ℕ) → length content ≤ 65551
    → entry_len (entry_octets kind content ++ rest) ≡ length content + 9
len_is kind content rest low =
    let front : List ℕ = big_bytes 4 (length content + 9) ++ kind ∷ content in
    let whole : List ℕ = entry_octets kind content in
    let octets : List ℕ = whole ++ rest in
    let n : ℕ = big_number 4 octets in
    let is : n ≡ length content + 9 = omega (arith, low) in
    let all : length whole ≡ length content + 9 = whole_long kind content in
    let more : length octets ≡ length whole + length rest = length-append whole rest in
    let first : take n octets ≡ whole = take_at whole rest n (all ∙ sym is) in
    let holds : holds_check (take n octets) ≡ true = ap holds_check first ∙ holds_sealed front in
    let three = are_both (nat_le n (length octets)) (holds_check (take n octets))
    (le-leb n (length octets) (omega (arith, is, all, more))) holds in
    let two = are_both (nat_le 9 n) (nat_le n (length octets) && holds_check (take n octets))
    (le-leb 9 n (omega (arith, is))) three in
    let one = are_both (nat_le 9 (length octets))
    (nat_le 9 n && (nat_le n (length octets) && holds_check (take n octets)))
    (le-leb 9 (length octets) (omega (arith, all, more))) two in
    chosen (nat_le 9 (length octets)
    && (nat_le 9 n && (nat_le n (length octets) && holds_check (take n octets)))) n 0 one ∙ is

in_is : (kind : ℕ) (content : List ℕ) → entry_in (entry_octets kind content) ≡ entry_with kind content
in_is kind content =
    let front : List ℕ = big_bytes 4 (length content + 9) ++ kind ∷ content in
    let whole : List ℕ = entry_octets kind content in
    let all : length whole ≡ length content + 9 = whole_long kind content in
    ap (λ (xs : List ℕ). entry_with kind xs)
    (take_at content (big_bytes 4 (check_of front)) (length whole - 9) (omega (arith, all)))

record IsNext (s : State) (e : Entry) (octets : List ℕ) : Type 0 where
  entry : next_entry s octets ≡ Some e
  len : next_len s octets ≡ length (spelling e)

next_is : (s : State) (e : Entry) (rest : List ℕ) → follows s e ≡ true → IsFitting e
    → IsNext s e (spelling e ++ rest)
next_is s e rest may is =
    let w : List ℕ = spelling e in
    let octets : List ℕ = w ++ rest in
    let all : length w ≡ length (content_of e) + 9 = ap length (spelled e) ∙ whole_long (kind_of e) (content_of e) in
    let len : entry_len octets ≡ length w =
    ap (λ (xs : List ℕ). entry_len (xs ++ rest)) (spelled e)
    ∙ len_is (kind_of e) (content_of e) rest (short e is) ∙ sym all in
    let some : (entry_len octets == 0) ≡ false = ne_eqb (entry_len octets) 0 (λ z. omega (arith, z, len, all)) in
    let found : entry_in (take (entry_len octets) octets) ≡ Some e =
    ap entry_in (take_at w rest (entry_len octets) (sym len)) ∙ ap entry_in (spelled e)
    ∙ in_is (kind_of e) (content_of e) ∙ content_back e is in
    let next : next_entry s octets ≡ Some e =
    other (entry_len octets == 0) None (following s (entry_in (take (entry_len octets) octets))) some
    ∙ ap (following s) found ∙ chosen (follows s e) (Some e) None may in
    record {
      entry = next;
      len = chosen (is_some (next_entry s octets)) (entry_len octets) 0 (ap is_some next) ∙ len;
    }

-- ---- an entry that was cut off

none_by : (a b c d : Bool) (n : ℕ) → (a ≡ true → c ≡ false) → (if a && (b && (c && d)) then n else 0) ≡ 0
none_by false b c d n f = refl
none_by true false c d n f = refl
none_by true true false d n f = refl
none_by true true true d n f = let e : true ≡ false = f refl in absurd cc

no_entry : (octets : List ℕ) → (9 ≤ length octets → length octets < big_number 4 octets) → entry_len octets ≡ 0
no_entry octets long =
    let n : ℕ = big_number 4 octets in
    none_by (nat_le 9 (length octets)) (nat_le 9 n) (nat_le n (length octets)) (holds_check (take n octets)) n
    (λ e. lt-leb n (length octets) (long (leb-true 9 (length octets) e)))

-- the first four octets are a number, whatever follows
four_first : (n a b c d : ℕ) (xs : List ℕ) → 4 ≤ n
    → big_number 4 (take n (a ∷ b ∷ c ∷ d ∷ xs)) ≡ big_number 4 (a ∷ b ∷ c ∷ d ∷ [])
four_first zero a b c d xs e = absurd (omega arith)
four_first (suc zero) a b c d xs e = absurd (omega arith)
four_first (suc (suc zero)) a b c d xs e = absurd (omega arith)
four_first (suc (suc (suc zero))) a b c d xs e = absurd (omega arith)
four_first (suc (suc (suc (suc n)))) a b c d xs e = refl

cut_whole : (kind n : ℕ) (content : List ℕ) → length content ≤ 65551 → n < length (entry_octets kind content)
    → entry_len (take n (entry_octets kind content)) ≡ 0
cut_whole kind n content low few =
    let whole : List ℕ = entry_octets kind content in
    let long : ℕ = length content + 9 in
    let all : length whole ≡ long = whole_long kind content in
    let cut : length (take n whole) ≡ n = length-take-le n whole (omega (arith, few)) in
    no_entry (take n whole) (λ nine.
    let first : big_number 4 (take n whole) ≡ big_number 4 (big_bytes 4 long) =
    four_first n (long / 16777216 % 256) (long / 65536 % 256) (long / 256 % 256) (long % 256)
    (drop 4 whole) (omega (arith, nine, cut)) in
    omega (arith, low, few, all, cut, first))

cut_none : (octets : List ℕ) → IsCutOff octets → entry_len octets ≡ 0
cut_none octets is =
    let whole : List ℕ = entry_octets (kind_of is.entry) (content_of is.entry) in
    let few : is.n < length whole = subst (λ (xs : List ℕ). is.n < length xs) (spelled is.entry) is.few in
    ap entry_len (is.same ∙ ap (take is.n) (spelled is.entry))
    ∙ cut_whole (kind_of is.entry) is.n (content_of is.entry) (short is.entry is.fits) few

ends : (s : State) (octets : List ℕ) → entry_len octets ≡ 0 → next_len s octets ≡ 0
ends s octets e =
    let none : next_entry s octets ≡ None =
    chosen (entry_len octets == 0) None (following s (entry_in (take (entry_len octets) octets)))
    (ap (λ (n : ℕ). n == 0) e) in
    other (is_some (next_entry s octets)) (entry_len octets) 0 (ap is_some none)

-- ---- all entries are read back

spelling_long : (e : Entry) → 9 ≤ length (spelling e)
spelling_long e = let all = whole_long (kind_of e) (content_of e) in
    let same = ap length (spelled e) in omega (arith, all, same)

few_entries : (es : List Entry) → length es ≤ length (store_octets es)
few_entries [] = omega arith
few_entries (e ∷ es) =
    let some = length-append (spelling e) (store_octets es) in
    omega (arith, few_entries es, spelling_long e, some)

read_all : (n good : ℕ) (s : State) (es : List Entry) (octets rest : List ℕ) → AreEntries s es → entry_len rest ≡ 0
    → drop good octets ≡ store_octets es ++ rest → length es ≤ n
    → read_on n (reading s good) octets ≡ reading (after_entries s es) (good + length (store_octets es))
read_all zero good s [] octets rest are none at few =
    let same : good ≡ good + 0 = omega arith in ap (reading s) same
read_all zero good s (e ∷ es) octets rest are none at few = absurd (omega (arith, few))
read_all (suc n) good s [] octets rest are none at few =
    let len : entry_len (drop good octets) ≡ 0 = ap entry_len at ∙ none in
    let stop : next_len s (drop good octets) ≡ 0 = ends s (drop good octets) len in
    let same : good ≡ good + 0 = omega arith in
    chosen (next_len s (drop good octets) == 0) (reading s good) _ (ap (λ (k : ℕ). k == 0) stop) ∙ ap (reading s) same
read_all (suc n) good s (e ∷ es) octets rest are none at few =
    let w : List ℕ = spelling e in
    let xs : List ℕ = drop good octets in
    let here : xs ≡ w ++ (store_octets es ++ rest) = at ∙ append_assoc w (store_octets es) rest in
    let next = next_is s e (store_octets es ++ rest) are.0 are.1 in
    let entry : next_entry s xs ≡ Some e = ap (next_entry s) here ∙ next.entry in
    let len : next_len s xs ≡ length w = ap (next_len s) here ∙ next.len in
    let some : (next_len s xs == 0) ≡ false =
    ne_eqb (next_len s xs) 0 (λ z. omega (arith, z, len, spelling_long e)) in
    let there : drop (good + length w) octets ≡ store_octets es ++ rest =
    sym (drop-drop (length w) good octets) ∙ ap (drop (length w)) here
    ∙ drop_at w (store_octets es ++ rest) (length w) refl in
    let more = read_all n (good + length w) (after_entry s e) es octets rest are.2 none there (omega (arith, few)) in
    let all = length-append w (store_octets es) in
    other (next_len s xs == 0) (reading s good)
    (read_on n (reading (after_some s (next_entry s xs)) (good + next_len s xs)) octets) some
    ∙ ap (λ (o : Option Entry). read_on n (reading (after_some s o) (good + next_len s xs)) octets) entry
    ∙ ap (λ (k : ℕ). read_on n (reading (after_entry s e) (good + k)) octets) len
    ∙ more
    ∙ ap (λ (k : ℕ). reading (after_entries (after_entry s e) es) k) (omega (arith, all))

pub each_store : EachStoreIsRead
each_store es rest are cut =
    let octets : List ℕ = store_octets es ++ rest in
    let all = length-append (store_octets es) rest in
    let same : 0 + length (store_octets es) ≡ length (store_octets es) = omega arith in
    read_all (length octets) 0 new_state es octets rest are (cut_none rest cut) refl
    (omega (arith, all, few_entries es))
    ∙ ap (reading (after_entries new_state es)) same
