-- How a listing continues over the octets of a channel.
use Rattle.std.proofs.Common.{◌≡◌, ◌≤◌, ◌<◌, ℕ, suc, false, ◌+◌, List, [], ◌∷◌, ◌++◌, length, take, drop, Some, None}
use Rattle.std.proofs.Common.{refl, sym, ap, ◌∙◌, append_assoc, arith}
use Rattle.std.specs.Prelude.{zero, Result, OnOk}
use Rattle.std.proofs.lemmas.List.{append-nil, drop-append-le, drop-drop, drop_all, length-drop, length-take-le}
use Rattle.std.proofs.lemmas.Result.{on_ok_weaker}
use Rattle.std.proofs.lemmas.List.Sums.{fold-append}
use Rattle.octets.specs.Beginning.{IsBeginning}
use Rattle.frame_search.specs.Search.{good_frame}
use Rattle.frame_search.specs.Parts.{Part, Frame, Skipped, skipped, parts_after}
use Rattle.frame_search.proofs.Steps.{parts_frame, parts_none}
use Rattle.listings.specs.Listing.{Lines}
use Rattle.streams.proofs.Beginnings.{begins_more}
use Rattle.stream_commands.specs.Found.{Found, with_part, with_parts, from_here, skipped_line, standing}
use Rattle.stream_commands.specs.declared.found_progress.Progress.{Progress}

-- a listing with a text before its own
abbrev pub behind_text : {S : Type 0} → List ℕ → Found S → Found S
behind_text before st = record st { text = before ++ st.text }

module _ {S F : Type 0} (lines : Lines S F) where
  -- a text before that of a listing stays there
  part_behind : (before : List ℕ) (st : Found S) (part : Part)
      → with_part lines (behind_text before st) part ≡ behind_text before (with_part lines st part)
  part_behind before st (Frame frame) =
      ap (λ (t : List ℕ). record {
        text = t;
        kept = lines.after st.kept frame;
        count = st.count + 1;
        all_good = st.all_good;
      }) (append_assoc before st.text (lines.line_of st.kept (st.count + 1) frame))
  part_behind before st (Skipped n) =
      ap (λ (t : List ℕ). record { text = t; kept = st.kept; count = st.count + 1; all_good = false })
      (append_assoc before st.text (skipped_line (st.count + 1) n))

  pub parts_behind : (before : List ℕ) (st : Found S) (parts : List Part)
      → with_parts lines (behind_text before st) parts ≡ behind_text before (with_parts lines st parts)
  parts_behind before st [] = refl
  parts_behind before st (part ∷ parts) =
      ap (λ (x : Found S). with_parts lines x parts) (part_behind before st part)
      ∙ parts_behind before (with_part lines st part) parts

  module _ (scid vcid : ℕ) where
    -- a good frame is taken, after the line of what was skipped
    pub takes_frame : (st next : Found S) (n total : ℕ) (octets more : List ℕ) → total ≤ length octets
        → good_frame scid vcid (octets ++ more) ≡ Some (take total octets)
        → next ≡ with_parts lines st (skipped n ++ Frame (take total octets) ∷ [])
        → from_here lines scid vcid next 0 (drop total octets ++ more)
        ≡ from_here lines scid vcid st n (octets ++ more)
    takes_frame st next n total octets more enough good is =
        let frame : List ℕ = take total octets in
        let len : length frame ≡ total = length-take-le total octets enough in
        let rest : drop (length frame) (octets ++ more) ≡ drop total octets ++ more =
        ap (λ (k : ℕ). drop k (octets ++ more)) len ∙ drop-append-le total octets more enough in
        let after : List Part = parts_after scid vcid 0 0 (drop total octets ++ more) in
        let parts : parts_after scid vcid n 0 (octets ++ more) ≡ skipped n ++ Frame frame ∷ after =
        parts_frame scid vcid n (octets ++ more) frame good
        ∙ ap (λ (o : List ℕ). skipped n ++ Frame frame ∷ parts_after scid vcid 0 0 o) rest in
        ap (λ (x : Found S). with_parts lines x after) is
        ∙ sym (fold-append (with_part lines) st (skipped n ++ Frame frame ∷ []) after)
        ∙ ap (with_parts lines st) (append_assoc (skipped n) (Frame frame ∷ []) after)
        ∙ ap (with_parts lines st) (sym parts)

    -- one more octet is skipped
    pub skips : (st : Found S) (n : ℕ) (octets more : List ℕ) → 0 < length octets
        → good_frame scid vcid (octets ++ more) ≡ None
        → from_here lines scid vcid st (n + 1) (drop 1 octets ++ more)
        ≡ from_here lines scid vcid st n (octets ++ more)
    skips st n [] more some none = absurd (omega (arith, some))
    skips st n (octet ∷ octets) more some none =
        ap (λ (k : ℕ). with_parts lines st (parts_after scid vcid k 0 (drop 1 (octet ∷ octets) ++ more))) (one n)
        ∙ ap (with_parts lines st) (sym (parts_none scid vcid n octet (octets ++ more) none))
      where
        one : (k : ℕ) → k + 1 ≡ suc k
        one k = omega arith

    -- ---- a text that is written

    -- a listing continues after its text
    pub text_on : (text : List ℕ) (kept : S) (p : Progress) (n : ℕ) (octets : List ℕ)
        → from_here lines scid vcid (standing text kept p) n octets
        ≡ behind_text text (from_here lines scid vcid (standing [] kept p) n octets)
    text_on text kept p n octets =
        ap (λ (t : List ℕ). from_here lines scid vcid (standing t kept p) n octets) (sym (append-nil text))
        ∙ parts_behind text (standing [] kept p) (parts_after scid vcid n 0 octets)

    -- a beginning of its text is a beginning of the whole text
    pub begins_written : (before text now : List ℕ) (kept later : S) (p q : Progress) (n m : ℕ) (xs ys : List ℕ)
        → IsBeginning now (before ++ text)
        → from_here lines scid vcid (standing text later q) m xs
        ≡ from_here lines scid vcid (standing [] kept p) n ys
        → IsBeginning now (before ++ (from_here lines scid vcid (standing [] kept p) n ys).text)
    begins_written before text now kept later p q n m xs ys begins same =
        begins_more now before text (from_here lines scid vcid (standing [] later q) m xs).text _
        (ap (λ (x : Found S). x.text) (sym same ∙ text_on text later q m xs)) begins

    -- ---- the end of a stream

    -- what is left when a good frame might begin there if more octets came
    pub skips_left : (st next : Found S) (n m at count : ℕ) (octets fed : List ℕ) → fed ≡ drop at octets
        → at + count < length octets → good_frame scid vcid (drop count fed) ≡ None
        → ((more : List ℕ) → from_here lines scid vcid next m (drop count fed ++ more)
        ≡ from_here lines scid vcid st n (fed ++ more))
        → from_here lines scid vcid next (m + 1) (drop (at + count + 1) octets)
        ≡ from_here lines scid vcid st n (drop at octets)
    skips_left st next n m at count octets fed is some none same =
        let left : List ℕ = drop count fed in
        let place : left ≡ drop (at + count) octets = ap (drop count) is ∙ drop-drop count at octets in
        let long : 0 < length left = omega (arith, ap length place, length-drop (at + count) octets, some) in
        let after : drop (at + count + 1) octets ≡ drop 1 left ++ [] =
        sym (append-nil (drop 1 left) ∙ ap (drop 1) place ∙ drop-drop 1 (at + count) octets) in
        ap (from_here lines scid vcid next (m + 1)) after
        ∙ skips next m left [] long (ap (good_frame scid vcid) (append-nil left) ∙ none)
        ∙ same []
        ∙ ap (from_here lines scid vcid st n) (append-nil fed ∙ is)

    -- nothing is left
    pub all_left : (st next : Found S) (n m at count : ℕ) (octets fed : List ℕ) → fed ≡ drop at octets
        → at + count ≡ length octets
        → ((more : List ℕ) → from_here lines scid vcid next m (drop count fed ++ more)
        ≡ from_here lines scid vcid st n (fed ++ more))
        → with_parts lines next (skipped m) ≡ from_here lines scid vcid st n (drop at octets)
    all_left st next n m at count octets fed is all same =
        let none : drop count fed ≡ [] =
        ap (drop count) is ∙ drop-drop count at octets ∙ drop_all (at + count) octets (omega (arith, all)) in
        ap (from_here lines scid vcid next m) (sym (append-nil (drop count fed) ∙ none))
        ∙ same []
        ∙ ap (from_here lines scid vcid st n) (append-nil fed ∙ is)

  -- the line of what is skipped ends a listing
  ends_at : {E : Type 0} (r : Result (Unit {0}) E) (before now : List ℕ) (kept : S) (p q : Progress) (n : ℕ)
      → p.skipped ≡ n → (p.skipped ≡ 0 → (q ≡ p) × OnOk r (now ≡ before))
      → (0 < p.skipped → OnOk r ((q ≡ record { count = p.count + 1; skipped = 0; all_good = false })
      × (now ≡ before ++ skipped_line (p.count + 1) p.skipped)))
      → OnOk r (standing now kept q ≡ with_parts lines (standing before kept p) (skipped n))
  ends_at r before now kept p q zero e none some =
      let h = none e in
      on_ok_weaker r (λ w. ap (standing now kept) h.0 ∙ ap (λ (t : List ℕ). standing t kept p) w) h.1
  ends_at r before now kept p q (suc n) e none some =
      on_ok_weaker r (λ h. ap (standing now kept) h.0
      ∙ ap (λ (t : List ℕ). record { text = t; kept = kept; count = p.count + 1; all_good = false })
      (h.1 ∙ ap (λ (k : ℕ). before ++ skipped_line (p.count + 1) k) e)) (some (omega (arith, e)))

  pub ends : {E : Type 0} (r : Result (Unit {0}) E) (before now : List ℕ) (kept : S) (p q : Progress)
      → (p.skipped ≡ 0 → (q ≡ p) × OnOk r (now ≡ before))
      → (0 < p.skipped → OnOk r ((q ≡ record { count = p.count + 1; skipped = 0; all_good = false })
      × (now ≡ before ++ skipped_line (p.count + 1) p.skipped)))
      → OnOk r (standing now kept q ≡ with_parts lines (standing before kept p) (skipped p.skipped))
  ends r before now kept p q none some = ends_at r before now kept p q p.skipped refl none some
