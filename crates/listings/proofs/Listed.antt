-- How a listing continues with a record and with a piece of a stream, and how it ends.
use Rattle.std.proofs.Common.{◌≡◌, ℕ, ◌+◌, ◌≤◌, Bool, true, false, List, [], ◌∷◌, ◌++◌, length, drop, Result, Ok, Err}
use Rattle.std.proofs.Common.{refl, sym, ap, ◌∙◌, append_assoc, arith, cond, ltb, take, subst}
use Rattle.std.specs.Prelude.{◌&&◌, Option, Some, None}
use Rattle.std.specs.List.{list_all}
use Rattle.std.proofs.Math.Bool.{and_assoc, and-true}
use Rattle.std.proofs.lemmas.List.{append-nil, length-drop, length-append}
use Rattle.std.proofs.lemmas.Bool.{lt-ltb}
use Rattle.octets.specs.Records.{record_of}
use Rattle.octets.proofs.Streams.{IsNoRecord, record_is, records_of-record, records_of-none, records_of-append}
use Rattle.octets.proofs.Streams.{rest_of-append}
use Rattle.listings.specs.Layouts.{Layout, HasHeads, first_by, records_by, rest_by, extent_fault, IsRefused}
use Rattle.listings.specs.Listing.{Lines, Standing, fed, record_lines, kept_behind, behind, listed, rest_line}
use Rattle.listings.specs.Listing.{is_empty, listing_of, HasListed}
use Rattle.streams.specs.Pieces.{GoesOn}
use Rattle.listings.specs.declared.stream.Summary.{Summary}

-- How a listing continues with a record, and how it ends.

-- two summaries are the same if each field is
pub same_summary : (a b : Summary) → a.records ≡ b.records → a.octets ≡ b.octets → a.all_good ≡ b.all_good → a ≡ b
same_summary a b records octets good =
    ap (λ (n : ℕ). record a { records = n }) records
    ∙ ap (λ (n : ℕ). record a { records = b.records; octets = n }) octets
    ∙ ap (λ (x : Bool). record b { all_good = x }) good

module _ {S F : Type 0} (lines : Lines S F) (layout : Layout F) (heads : HasHeads layout) where
  -- a listing with one record more
  abbrev pub one_more : Standing S → List ℕ → Standing S
  one_more st r = record {
    text = st.text ++ lines.line_of st.kept (st.count + 1) r;
    kept = lines.after st.kept r;
    count = st.count + 1;
    all_good = st.all_good && lines.is_good r;
    octets = drop (length r) st.octets;
  }

  -- the state of a listing, from its parts
  abbrev stands : List ℕ → S → ℕ → Bool → List ℕ → Standing S
  stands text kept count all_good octets =
      record { text = text; kept = kept; count = count; all_good = all_good; octets = octets }

  same_parts : (text text' : List ℕ) (kept : S) (count count' : ℕ) (good good' : Bool) (octets octets' : List ℕ)
      → text ≡ text' → count ≡ count' → good ≡ good' → octets ≡ octets'
      → stands text kept count good octets ≡ stands text' kept count' good' octets'
  same_parts text text' kept count count' good good' octets octets' t n g o =
      rw (t, n, g, o) refl

  behind-cons : (st : Standing S) (r : List ℕ) (rs : List (List ℕ)) (rest : List ℕ)
      → behind lines st (r ∷ rs) rest ≡ behind lines (one_more st r) rs rest
  behind-cons st r rs rest =
      same_parts _ _ (kept_behind lines (lines.after st.kept r) rs) _ _ _ _ rest rest
      (sym (append_assoc st.text (lines.line_of st.kept (st.count + 1) r)
      (record_lines lines (lines.after st.kept r) (st.count + 1 + 1) rs)))
      (omega arith)
      (sym (and_assoc st.all_good (lines.is_good r) (list_all lines.is_good rs)))
      refl

  -- if there is a record, the listing continues after it
  pub listed-record : (st : Standing S) (r : List ℕ) → first_by layout st.octets ≡ Some (Ok r)
      → listed lines layout (one_more st r) ≡ listed lines layout st
  listed-record st r first =
      let split = records_of-record layout.head layout.extent heads.some_head heads.has_head st.octets r first in
      sym (
      ap (λ (x : List (List ℕ)). behind lines st x (rest_by layout st.octets)) split.0
      ∙ ap (behind lines st (r ∷ records_by layout (drop (length r) st.octets))) split.1
      ∙ behind-cons st r (records_by layout (drop (length r) st.octets)) (rest_by layout (drop (length r) st.octets)))

  -- the state of a listing after the first record
  pub goes_on : (st next : Standing S) (r : List ℕ) → first_by layout st.octets ≡ Some (Ok r)
      → next.text ≡ st.text ++ lines.line_of st.kept (st.count + 1) r → next.kept ≡ lines.after st.kept r
      → next.count ≡ st.count + 1 → next.all_good ≡ st.all_good && lines.is_good r
      → next.octets ≡ drop (length r) st.octets
      → listed lines layout next ≡ listed lines layout st
  goes_on st next r first text kept count good octets =
      let parts = same_parts next.text _ next.kept next.count _ next.all_good _ next.octets _ text count good octets in
      let whole : next ≡ one_more st r =
      parts ∙ ap (λ (x : S). stands (st.text ++ lines.line_of st.kept (st.count + 1) r) x (st.count + 1)
      (st.all_good && lines.is_good r) (drop (length r) st.octets)) kept in
      ap (listed lines layout) whole ∙ listed-record st r first

  -- fewer octets are left after a record
  pub shorter : (octets r : List ℕ) → first_by layout octets ≡ Some (Ok r)
      → length (drop (length r) octets) + 1 ≤ length octets
  shorter octets r first =
      let is = record_is layout.head layout.extent heads.some_head heads.has_head octets r first in
      omega (arith, length-drop (length r) octets, is.0.has_head, ap length is.1, length-append {A = ℕ})

  -- if there is no record, the listing stays as it was
  pub listed-none : (st : Standing S) → IsNoRecord layout.head layout.extent (first_by layout st.octets)
      → listed lines layout st ≡ st
  listed-none st none =
      let split = records_of-none layout.head layout.extent heads.some_head heads.has_head st.octets none in
      ap (λ (x : List (List ℕ)). behind lines st x (rest_by layout st.octets)) split.0
      ∙ same_parts _ _ st.kept _ _ _ _ _ _ (append-nil st.text) (omega arith) (and-true st.all_good) split.1

  behind-append : (st : Standing S) (rs rs' : List (List ℕ)) (rest rest' : List ℕ)
      → behind lines st (rs ++ rs') rest' ≡ behind lines (behind lines st rs rest) rs' rest'
  behind-append st [] rs' rest rest' =
      same_parts _ _ (kept_behind lines st.kept rs') _ _ _ _ rest' rest'
      (ap (λ (t : List ℕ). t ++ record_lines lines st.kept (st.count + 1) rs') (sym (append-nil st.text))
      ∙ ap (λ (n : ℕ). (st.text ++ []) ++ record_lines lines st.kept (n + 1) rs') (zeroed st.count))
      (omega arith)
      (ap (λ (b : Bool). b && list_all lines.is_good rs') (sym (and-true st.all_good)))
      refl
    where
      zeroed : (n : ℕ) → n ≡ n + 0
      zeroed n = omega arith
  behind-append st (r ∷ rs) rs' rest rest' =
      behind-cons st r (rs ++ rs') rest' ∙ behind-append (one_more st r) rs rs' rest rest'
      ∙ ap (λ (x : Standing S). behind lines x rs' rest') (sym (behind-cons st r rs rest))

  -- however the octets arrive, listing all of them is listing the first ones, and then what is left with those that
  -- follow
  pub listed-fed : (st : Standing S) (more : List ℕ)
      → listed lines layout (fed (listed lines layout st) more) ≡ listed lines layout (fed st more)
  listed-fed st more =
      let records = records_of-append layout.head layout.extent heads.some_head heads.has_head st.octets more in
      let rest = rest_of-append layout.head layout.extent heads.some_head heads.has_head st.octets more in
      sym (
      ap (λ (x : List (List ℕ)). behind lines (fed st more) x (rest_by layout (st.octets ++ more))) records
      ∙ ap (behind lines (fed st more) (records_by layout st.octets
      ++ records_by layout (rest_by layout st.octets ++ more))) rest
      ∙ behind-append st (records_by layout st.octets) (records_by layout (rest_by layout st.octets ++ more))
      (rest_by layout st.octets) (rest_by layout (rest_by layout st.octets ++ more)))

  -- ---- the line of a rest

  -- why an extent was refused
  refused_fault : (octets : List ℕ) (x : Result ℕ F) (e : F)
      → record_of layout.head layout.extent octets x ≡ Some (Err e) → extent_fault layout x ≡ e
  refused_fault octets (Ok n) e h = absurd (not_cut (ltb (length octets) n) h)
    where
      not_cut : (b : Bool) → cond b None (Some (Ok (take n octets))) ≡ Some (Err e) → ⊥
      not_cut true k = cc
      not_cut false k = cc
  refused_fault octets (Err f) e h = cc

  fault_of : (octets : List ℕ) (e : F) (b : Bool)
      → cond b None (record_of layout.head layout.extent octets (layout.extent (take layout.head octets)))
      ≡ Some (Err e)
      → cond b layout.truncated (extent_fault layout (layout.extent (take layout.head octets))) ≡ e
  fault_of octets e true h = absurd cc
  fault_of octets e false h = refused_fault octets (layout.extent (take layout.head octets)) e h

  pub first_record-nothing : first_by layout [] ≡ None
  first_record-nothing =
      let short : ltb 0 layout.head ≡ true = lt-ltb 0 layout.head (omega (arith, heads.some_head)) in rw short refl

  -- octets that are refused have the line of their fault
  pub rest_line-refused : (i : ℕ) (octets : List ℕ) (e : F) → first_by layout octets ≡ Some (Err e)
      → rest_line lines layout i octets ≡ lines.fault_line i e
  rest_line-refused i [] e h = let none = first_record-nothing in absurd cc
  rest_line-refused i (x ∷ xs) e h = ap (lines.fault_line i) (fault_of (x ∷ xs) e (ltb (length (x ∷ xs)) layout.head) h)

  -- ---- a stream in pieces

  -- if no whole record is left, the end of the stream adds none
  pub listed_open : (st : Standing S) → first_by layout st.octets ≡ None → listed lines layout (fed st []) ≡ st
  listed_open st none =
      ap (λ (o : List ℕ). listed lines layout (record st { octets = o })) (append-nil st.octets)
      ∙ listed-none st (rw none tt)

  -- a listing with a text before its own
  abbrev behind_text : List ℕ → Standing S → Standing S
  behind_text before st = record st { text = before ++ st.text }

  -- a listing continues from its state after a piece
  listed-piece : (st next : Standing S) (piece more : List ℕ)
      → next ≡ record (listed lines layout (fed st piece)) { text = [] }
      → listed lines layout (fed st (piece ++ more))
      ≡ behind_text (listed lines layout (fed st piece)).text (listed lines layout (fed next more))
  listed-piece st next piece more is =
      let now : Standing S = listed lines layout (fed st piece) in
      ap (λ (o : List ℕ). listed lines layout (record st { octets = o })) (sym (append_assoc st.octets piece more))
      ∙ sym (listed-fed (fed st piece) more)
      ∙ ap (λ (x : Standing S). behind_text now.text (listed lines layout (fed x more))) (sym is)

  module _ {L : Type 0} (failure : L → Option F) (stands : L → S → Standing S) where
    pub listing_goes_on : (n : ℕ) (piece : List ℕ) (l next : L) (s later : S) (before now : List ℕ)
        → HasListed lines layout (fed (stands l s) piece) (stands next later) before now
        → failure next ≡ None
        → (stands next later).count + length (stands next later).octets ≤ n + length piece
        → GoesOn (listing_of lines layout failure stands) n piece l s before next later now
    listing_goes_on n piece l next s later before now has going bound =
        let on = λ (more : List ℕ). listed-piece (stands l s) (stands next later) piece more has.next_is in
        let so = (listed lines layout (fed (stands l s) piece)).text in
        record {
          is_open = (
            ap (λ (x : Standing S). first_by layout x.octets) has.next_is ∙ has.is_open,
            going,
            bound,
          );
          text = λ more.
              let after = listed lines layout (fed (stands next later) more) in
              let rest = rest_line lines layout (after.count + 1) after.octets in
              ap (λ (x : Standing S). before ++ (x.text ++ rest_line lines layout (x.count + 1) x.octets)) (on more)
              ∙ ap (λ (t : List ℕ). before ++ t) (append_assoc so after.text rest)
              ∙ sym (append_assoc before so (after.text ++ rest))
              ∙ ap (λ (t : List ℕ). t ++ (after.text ++ rest)) (sym has.written);
          ends = λ more answer last h. h ∙ same_summary _ _ (ap (λ (x : Standing S). x.count) (sym (on more)))
              (omega (arith, length-append piece more))
              (ap (λ (x : Standing S). x.all_good && is_empty x.octets) (sym (on more)));
          so_far = λ more text h. tt;
          stops = λ more h. subst (IsRefused layout) (ap (λ (x : Standing S). x.octets) (sym (on more))) h;
        }
