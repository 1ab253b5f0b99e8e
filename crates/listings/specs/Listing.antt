-- What a command writes for a stream of records: the lines of each record in turn, and a line for a
-- rest.
use Rattle.std.specs.Prelude.{◌≡◌, None, ℕ, ◌+◌, ◌≤◌, Bool, true, false, ◌&&◌, List, [], ◌∷◌, ◌++◌}
use Rattle.std.specs.Prelude.{length, Option, Some, Result, Err}
use Rattle.std.specs.List.{list_all}
use Rattle.listings.specs.Layouts.{Layout, first_by, records_by, rest_by, rest_fault, IsRefused}
use Rattle.streams.specs.Pieces.{Taking}
use Rattle.listings.specs.declared.stream.Summary.{Summary}
use Rattle.listings.specs.declared.stream.Progress.{Progress}

-- What a command writes. S is what it keeps between two records, and F is the fault of octets that
-- do not form a record.
pub record Lines (S F : Type 0) : Type 0 where
  -- the lines of a record with this number
  pub line_of : S → ℕ → List ℕ → List ℕ
  -- what is kept after a record
  pub after : S → List ℕ → S
  -- whether a record is good
  pub is_good : List ℕ → Bool
  -- the line with this number for octets that do not form a record
  pub fault_line : ℕ → F → List ℕ

-- The state of a listing: the text so far, what is kept, how many records there were, whether all
-- were good, and the octets that are not listed yet.
pub record Standing (S : Type 0) : Type 0 where
  pub text : List ℕ
  pub kept : S
  pub count : ℕ
  pub all_good : Bool
  pub octets : List ℕ

-- a listing of octets that has not begun
abbrev pub fresh : {S : Type 0} → S → List ℕ → Standing S
fresh s octets = record { text = []; kept = s; count = 0; all_good = true; octets = octets }

-- a listing with octets that come later
abbrev pub fed : {S : Type 0} → Standing S → List ℕ → Standing S
fed st more = record st { octets = st.octets ++ more }

abbrev pub is_empty : List ℕ → Bool
is_empty [] = true
is_empty (octet ∷ octets) = false

module _ {S F : Type 0} (lines : Lines S F) where
  -- the lines of records, counted from this number
  abbrev pub record_lines : S → ℕ → List (List ℕ) → List ℕ
  record_lines s i [] = []
  record_lines s i (r ∷ rs) = lines.line_of s i r ++ record_lines (lines.after s r) (i + 1) rs

  -- what is kept after records
  abbrev pub kept_behind : S → List (List ℕ) → S
  kept_behind s [] = s
  kept_behind s (r ∷ rs) = kept_behind (lines.after s r) rs

  -- a listing after these records, with these octets left
  abbrev pub behind : Standing S → List (List ℕ) → List ℕ → Standing S
  behind st records rest = record {
    text = st.text ++ record_lines st.kept (st.count + 1) records;
    kept = kept_behind st.kept records;
    count = st.count + length records;
    all_good = st.all_good && list_all lines.is_good records;
    octets = rest;
  }

  module _ (layout : Layout F) where
    -- a listing once all whole records are listed
    abbrev pub listed : Standing S → Standing S
    listed st = behind st (records_by layout st.octets) (rest_by layout st.octets)

    -- the line of a rest, if there is one
    abbrev pub rest_line : ℕ → List ℕ → List ℕ
    rest_line i [] = []
    rest_line i (octet ∷ octets) = lines.fault_line i (rest_fault layout (octet ∷ octets))

    -- all that is written if the octets end here
    abbrev pub text_of : Standing S → List ℕ
    text_of st = (listed st).text ++ rest_line ((listed st).count + 1) (listed st).octets

    -- whether all records are good and nothing is left after them
    abbrev pub is_all_good : Standing S → Bool
    is_all_good st = (listed st).all_good && is_empty (listed st).octets

    -- how many records and octets there are, and whether all is good
    abbrev pub summary_of : Standing S → Summary
    summary_of st = record {
      records = (listed st).count;
      octets = length st.octets;
      all_good = is_all_good st;
    }

    -- Octets were listed: the text is written, and more octets may come after those that are left.
    pub record HasListed (st next : Standing S) (before now : List ℕ) : Type 0 where
      pub written : now ≡ before ++ (listed st).text
      pub next_is : next ≡ record (listed st) { text = [] }
      pub is_open : first_by layout (listed st).octets ≡ None

    -- How a listing takes a stream that arrives in pieces. L keeps its state, and why octets were
    -- refused.
    abbrev pub listing_of : {L : Type 0} → (L → Option F) → (L → S → Standing S)
        → Taking L S Summary
    listing_of failure stands = record {
      text = λ l s octets. text_of (fed (stands l s) octets);
      ends = λ l s n octets answer last.
          answer ≡ record (summary_of (fed (stands l s) octets)) { octets = n + length octets };
      so_far = λ l s octets before now. Unit {0};
      stops = λ l s octets. IsRefused layout (rest_by layout ((stands l s).octets ++ octets));
      is_open = λ l s n. (first_by layout (stands l s).octets ≡ None) × (failure l ≡ None)
          × ((stands l s).count + length (stands l s).octets ≤ n);
    }

-- How a listing continues, as the code sees it.

abbrev pub standing : {S : Type 0} → List ℕ → S → Progress → List ℕ → Standing S
standing text kept progress octets =
    record {
      text =
          text;
      kept = kept;
      count = progress.count;
      all_good = progress.all_good;
      octets = octets;
    }

-- a refusal with its fault, or that octets are missing
abbrev pub where_refused : {F : Type 0} → Option F → Option (Result (List ℕ) F)
where_refused None = None
where_refused (Some fault) = Some (Err fault)
