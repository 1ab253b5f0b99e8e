-- An entry of the store in octets: its length (4 octets), its kind (1), its content, and the check
-- of all these (4).
use Rattle.std.specs.Prelude.{ℕ, ◌+◌, ◌-◌, List, [], ◌∷◌, ◌++◌, length, take, drop}
use Rattle.std.specs.Prelude.{slice_index, replicate}
use Rattle.std.specs.Prelude.{◌≤◌, ⊤, Bool, ◌&&◌, ◌==◌, nat_le, if◌then◌else◌, Option, Some, None}
use Rattle.byteorder.specs.Endian.{big_number, big_bytes}
use Rattle.command_log.specs.Check.{sealed, holds_check}
use Rattle.command_log.specs.Layout.{front_octets, fields_of}
use Rattle.command_ledger.specs.declared.known.Standing.{Standing}
use Rattle.command_ledger.specs.declared.known.Rebuild.{Rebuild}
use Rattle.command_ledger.specs.declared.entry.Written.{Written}
use Rattle.command_ledger.specs.declared.entry.Written.TheVariants as written
use Rattle.command_ledger.specs.State.{Entry, Gives, Hears, Loses, Rebuilds, Tells, Stands}

-- an entry, without the address of its octets
abbrev pub entry_view : Written → Entry
entry_view (written.Gives tag on_map packet) = Gives tag on_map packet.now
entry_view (written.Hears kept) = Hears kept
entry_view (written.Loses mark) = Loses mark
entry_view (written.Rebuilds order) = Rebuilds order
entry_view written.Tells = Tells
entry_view (written.Stands standing) = Stands standing

-- ---- written

abbrev pub entry_octets : (kind : ℕ) → List ℕ → List ℕ
entry_octets kind content = sealed (big_bytes 4 (length content + 9) ++ kind ∷ content)

abbrev pub flag : Bool → ℕ
flag b = if b then 1 else 0

abbrev pub rebuild_octets : Rebuild → List ℕ
rebuild_octets o = big_bytes 4 o.mark ++ (big_bytes 4 o.boot ++ big_bytes 4 o.last)

abbrev pub mark_octets : Option ℕ → List ℕ
mark_octets None = replicate 5 0
mark_octets (Some mark) = 1 ∷ big_bytes 4 mark

abbrev pub order_octets : Option Rebuild → List ℕ
order_octets None = replicate 13 0
order_octets (Some order) = 1 ∷ rebuild_octets order

abbrev pub standing_octets : Standing → List ℕ
standing_octets s =
    big_bytes 4 s.below
    ++ (front_octets s.board
    ++ (big_bytes 4 s.doubt ++ (mark_octets s.mark ++ flag s.is_lost ∷ order_octets s.order)))

abbrev pub spelling : Entry → List ℕ
spelling (Gives tag on_map packet) = entry_octets 1 ((big_bytes 8 tag ++ on_map ∷ []) ++ packet)
spelling (Hears kept) = entry_octets 2 (front_octets kept)
spelling (Loses mark) = entry_octets 3 (big_bytes 4 mark)
spelling (Rebuilds order) = entry_octets 4 (rebuild_octets order)
spelling Tells = entry_octets 5 []
spelling (Stands standing) = entry_octets 6 (standing_octets standing)

-- its packet is not longer than a packet can be
abbrev pub IsShort : Entry → Type 0
IsShort (Gives tag on_map packet) = length packet ≤ 65542
IsShort (Hears kept) = ⊤
IsShort (Loses mark) = ⊤
IsShort (Rebuilds order) = ⊤
IsShort Tells = ⊤
IsShort (Stands standing) = ⊤

-- ---- read

abbrev pub rebuild_in : List ℕ → Rebuild
rebuild_in octets =
    record {
      mark = big_number 4 octets;
      boot = big_number 4 (drop 4 octets);
      last = big_number 4 (drop 8 octets);
    }

abbrev pub mark_in : List ℕ → Option ℕ
mark_in octets = if slice_index octets 0 == 1 then Some (big_number 4 (drop 1 octets)) else None

abbrev pub order_in : List ℕ → Option Rebuild
order_in octets = if slice_index octets 0 == 1 then Some (rebuild_in (drop 1 octets)) else None

abbrev pub standing_in : List ℕ → Standing
standing_in octets =
    record {
      below = big_number 4 octets;
      board = fields_of (drop 4 octets);
      doubt = big_number 4 (drop 25 octets);
      mark = mark_in (drop 29 octets);
      is_lost = slice_index octets 34 == 1;
      order = order_in (drop 35 octets);
    }

abbrev pub gives_in : List ℕ → Entry
gives_in content = Gives (big_number 8 content) (slice_index content 8) (drop 9 content)

-- the entry of this kind with this content, if such an entry has this length
abbrev pub entry_with : (kind : ℕ) → List ℕ → Option Entry
entry_with kind content =
    if (kind == 1) && nat_le 9 (length content) then Some (gives_in content)
    else if (kind == 2) && (length content == 21) then Some (Hears (fields_of content))
    else if (kind == 3) && (length content == 4) then Some (Loses (big_number 4 content))
    else if (kind == 4) && (length content == 12) then Some (Rebuilds (rebuild_in content))
    else if (kind == 5) && (length content == 0) then Some Tells
    else if (kind == 6) && (length content == 48) then Some (Stands (standing_in content)) else None

-- the entry that these octets form, if their check holds
abbrev pub entry_in : List ℕ → Option Entry
entry_in octets = entry_with (slice_index octets 4) (take (length octets - 9) (drop 5 octets))

-- the length of the entry with which these octets begin, if it is whole and its check holds; else 0
abbrev pub entry_len : List ℕ → ℕ
entry_len octets =
    let long = big_number 4 octets in
    if nat_le 9 (length octets)
    && (nat_le 9 long && (nat_le long (length octets) && holds_check (take long octets)))
    then long else 0
