-- What is listed for a MAP.
use Rattle.std.proofs.Common.{◌≡◌, ◌∙◌, ℕ, Bool, true, false, cond, eqb, List, [], ◌∷◌, ◌++◌, length, Option, Some}
use Rattle.std.proofs.Common.{None, Result, Ok, Err, refl, sym, ap, subst, append_assoc, inl, inr, ◌+◌, get_or, set}
use Rattle.std.proofs.Common.{arith}
use Rattle.std.proofs.lemmas.Bool.{ne_eqb, eq-eqb, cases_eq, cases_lt}
use Rattle.std.proofs.lemmas.List.{append-nil, length-replicate, length-set, get_or-set_same, get_or-set_other}
use Rattle.std.proofs.lemmas.List.{get_or_past}
use Rattle.tc_frame.specs.declared.frame.Check.{Check}
use Rattle.tc_frame.specs.declared.fault.TcFault.{TcFault}
use Rattle.tc_frame.specs.Layout.{SegmentView, FrameView, BodyView, Ad, Bd, Bc}
use Rattle.tc_frame.specs.Decoding.{frame_at}
use Rattle.map_service.specs.Assembly.{assembled, is_open}
use Rattle.map_service.specs.Exactness.{AssemblerState, step_at, after_step, HasPartsOf, IsTakenExactly, part_on_map}
use Rattle.map_service.specs.declared.limits.Limits.{Limits}
use Rattle.map_service.specs.AssemblerTable.{TakeOutcome, take_step}
use Rattle.map_service.proofs.AssemblerSteps.{no_parts, taken_exactly}
use Rattle.cop1.specs.Farm.{FarmState, new_farm, verdict_of}
use Rattle.cop1.specs.declared.farm.Verdict.{Verdict}
use Rattle.cop1.specs.declared.farm.Verdict.TheVariants.{Accepted}
use Rattle.listings.specs.FarmLines as farms
use Rattle.listings.specs.MapLines.{MapState, map_limits, map_opened, segment_of, assembler_after, after_frame}
use Rattle.listings.specs.MapLines.{none_open, if_accepted, after_body, outcome_text, segment_text, bypass_text}
use Rattle.listings.specs.MapLines.{body_text, record_text}
use Rattle.listings.specs.ListedPackets.{segment_in, as_list, accepted_in, listed_at, listed_on}
use Rattle.listings.specs.Filters.{is_asked}
use Rattle.listings.specs.Listing.{record_lines}
use Rattle.listings.specs.RefusalLines.{frame_fault_line}
use Rattle.listings.specs.OneMap as one
use Rattle.listings.specs.OneMap.{is_on, passed, one_map_lines, one_map_text, is_record_on, lines_on}

-- What is listed on a MAP is what the accepted segments give on it.

-- one more segment gives what is listed at it
listed_once : (m : ℕ) (a : AssemblerState) (segments : List SegmentView) (s : SegmentView)
    → IsTakenExactly (after_step a s) segments s (step_at a s).packets
    → assembled a.limits m (segments ++ s ∷ []) ≡ assembled a.limits m segments ++ listed_at m a (Some s)
listed_once m a segments s exact =
    let given : List (List ℕ) = (step_at a s).packets in
    let same : eqb s.header.map s.header.map ≡ true = eq-eqb s.header.map s.header.map refl in
    elim (cases_eq m s.header.map) [
      | inl e ↦ subst (λ (k : ℕ). assembled a.limits k (segments ++ s ∷ []) ≡ assembled a.limits k segments
          ++ cond (eqb s.header.map k) given []) (sym e)
          (exact.given ∙ ap (λ (b : Bool). assembled a.limits s.header.map segments ++ cond b given []) (sym same))
      | inr ne ↦ exact.others m ne ∙ sym (append-nil (assembled a.limits m segments))
          ∙ ap (λ (b : Bool). assembled a.limits m segments ++ cond b given [])
          (sym (ne_eqb s.header.map m (λ (e : s.header.map ≡ m). ne (sym e))))
    ]

module _ (check : Check) (m : ℕ) where
  -- from any state, these records list what their accepted segments give
  abbrev IsTold : List (List ℕ) → Type 0
  IsTold records =
      (x : MapState) (segments : List SegmentView) → length x.assembler.parts ≡ 64 → HasPartsOf x.assembler segments
      → assembled x.assembler.limits m (segments ++ accepted_in check x.receiver records)
      ≡ assembled x.assembler.limits m segments ++ listed_on check m x records

  behind_segment : (records : List (List ℕ)) → IsTold records
      → (r : FarmState) (a : AssemblerState) (segments : List SegmentView) → length a.parts ≡ 64 → HasPartsOf a segments
      → (o : Option SegmentView)
      → assembled a.limits m (segments ++ (as_list o ++ accepted_in check r records))
      ≡ assembled a.limits m segments
      ++ (listed_at m a o ++ listed_on check m (record { receiver = r; assembler = assembler_after a o }) records)
  behind_segment records told r a segments count has None =
      told (record { receiver = r; assembler = a }) segments count has
  behind_segment records told r a segments count has (Some s) =
      let x : MapState = record { receiver = r; assembler = after_step a s } in
      let exact = taken_exactly a segments s count has in
      let accepted : List SegmentView = accepted_in check r records in
      let more = told x (segments ++ s ∷ []) (length-set a.parts s.header.map (step_at a s).part ∙ count) exact.kept in
      ap (assembled a.limits m) (sym (append_assoc segments (s ∷ []) accepted)) ∙ more
      ∙ ap (λ (ps : List (List ℕ)). ps ++ listed_on check m x records) (listed_once m a segments s exact)
      ∙ append_assoc (assembled a.limits m segments) (listed_at m a (Some s)) (listed_on check m x records)

  behind_record : (records : List (List ℕ)) → IsTold records → (x : MapState) (segments : List SegmentView)
      → length x.assembler.parts ≡ 64 → HasPartsOf x.assembler segments
      → (f : Result FrameView TcFault)
      → assembled x.assembler.limits m (segments
      ++ (as_list (segment_in x.receiver f) ++ accepted_in check (farms.after_frame x.receiver f) records))
      ≡ assembled x.assembler.limits m segments
      ++ (listed_at m x.assembler (segment_in x.receiver f) ++ listed_on check m (after_frame x f) records)
  behind_record records told x segments count has (Ok f) =
      behind_segment records told (farms.after_body x.receiver f.body) x.assembler segments count has
      (segment_of x.receiver f.body)
  behind_record records told x segments count has (Err e) = told x segments count has

  is_told : (records : List (List ℕ)) → IsTold records
  is_told [] x segments count has =
      ap (assembled x.assembler.limits m) (append-nil segments)
      ∙ sym (append-nil (assembled x.assembler.limits m segments))
  is_told (o ∷ os) x segments count has = behind_record os (is_told os) x segments count has (frame_at check o)

  none_either : (b : Bool) → (let xs : List (List ℕ) = cond b [] [] in xs) ≡ []
  none_either true = refl
  none_either false = refl

  -- and so from the first frame on
  pub told_of_all : (width vr : ℕ) (blocking : Bool) (records : List (List ℕ))
      → listed_on check m (map_opened width vr blocking) records
      ≡ assembled (map_limits blocking) m (accepted_in check (new_farm width vr) records)
  told_of_all width vr blocking records =
      let nothing : Option (List ℕ) = None in
      let x : MapState = map_opened width vr blocking in
      sym (is_told records x [] (length-replicate 64 nothing) (no_parts (map_limits blocking))
      ∙ ap (λ (ps : List (List ℕ)). ps ++ listed_on check m x records) (none_either (is_open (map_limits blocking) m)))

-- The listing of a MAP has the lines that a listing of all MAPs has for it.

-- the same part is put at the same place of both
same_set : (xs ys : List (Option (List ℕ))) (k m : ℕ) (part : Option (List ℕ)) → length xs ≡ length ys
    → get_or xs m None ≡ get_or ys m None → get_or (set xs k part) m None ≡ get_or (set ys k part) m None
same_set xs ys k m part count same =
    elim (cases_eq m k) [
      | inr other ↦ get_or-set_other xs k m part None other ∙ same ∙ sym (get_or-set_other ys k m part None other)
      | inl is ↦ subst (λ (j : ℕ). get_or (set xs k part) j None ≡ get_or (set ys k part) j None) (sym is)
          (elim (cases_lt k (length xs)) [
            | inl lt ↦ get_or-set_same xs k part None lt ∙ sym (get_or-set_same ys k part None (omega (arith, count)))
            | inr ge ↦ get_or_past (set xs k part) k None (omega (arith, length-set xs k part))
                ∙ sym (get_or_past (set ys k part) k None (omega (arith, length-set ys k part, count)))
          ])
    ]

module _ (asked : Option ℕ) where
  -- two assemblers that are alike on the requested MAP
  record IsAlike (a b : AssemblerState) : Type 0 where
    pub limits : a.limits ≡ b.limits
    pub count : length a.parts ≡ length b.parts
    pub parts : (m : ℕ) → is_asked asked m ≡ true → part_on_map a m ≡ part_on_map b m

  same_step : (a b : AssemblerState) → IsAlike a b → (s : SegmentView) → is_asked asked s.header.map ≡ true
      → step_at a s ≡ step_at b s
  same_step a b alike s on =
      ap (λ (l : Limits). take_step l (part_on_map a s.header.map) s) alike.limits
      ∙ ap (λ (p : Option (List ℕ)). take_step b.limits p s) (alike.parts s.header.map on)

  -- both take a segment of that MAP
  both_after : (a b : AssemblerState) → IsAlike a b → (s : SegmentView) → is_asked asked s.header.map ≡ true
      → (v : Verdict) → IsAlike (assembler_after a (if_accepted v s)) (assembler_after b (if_accepted v s))
  both_after a b alike s on Accepted =
      let step = same_step a b alike s on in
      record {
        limits = alike.limits;
        count = length-set a.parts s.header.map (step_at a s).part ∙ alike.count
            ∙ sym (length-set b.parts s.header.map (step_at b s).part);
        parts = λ m is. same_set a.parts b.parts s.header.map m (step_at a s).part alike.count (alike.parts m is)
            ∙ ap (λ (o : TakeOutcome). get_or (set b.parts s.header.map o.part) m None) step;
      }
  both_after a b alike s on _ = alike

  -- only one of them takes a segment of another MAP
  one_after : (a b : AssemblerState) → IsAlike a b → (s : SegmentView) → is_asked asked s.header.map ≡ false
      → (v : Verdict) → IsAlike a (assembler_after b (if_accepted v s))
  one_after a b alike s off Accepted =
      let apart : (m : ℕ) → is_asked asked m ≡ true → m ≡ s.header.map → ⊥ =
      λ m is e. (let both : true ≡ false = sym is ∙ ap (is_asked asked) e ∙ off in absurd cc) in
      record {
        limits = alike.limits;
        count = alike.count ∙ sym (length-set b.parts s.header.map (step_at b s).part);
        parts = λ m is. alike.parts m is
            ∙ sym (get_or-set_other b.parts s.header.map m (step_at b s).part None (apart m is));
      }
  one_after a b alike s off _ = alike

  same_text : (i : ℕ) (a b : AssemblerState) → IsAlike a b → (s : SegmentView) → is_asked asked s.header.map ≡ true
      → (v : Verdict) → segment_text i a (if_accepted v s) ≡ segment_text i b (if_accepted v s)
  same_text i a b alike s on Accepted = ap (outcome_text i s.header.map) (same_step a b alike s on)
  same_text i a b alike s on _ = refl

module _ (check : Check) (asked : Option ℕ) where
  abbrev state : FarmState → AssemblerState → MapState
  state r a = record { receiver = r; assembler = a }

  abbrev listed : MapState → ℕ → List (List ℕ) → List ℕ
  listed x i records = record_lines (one_map_lines check) (record { map = asked; packets = x }) i records

  -- from any state, these records have the same lines
  abbrev IsSame : List (List ℕ) → Type 0
  IsSame records =
      (r : FarmState) (a b : AssemblerState) (i : ℕ) → IsAlike asked a b
      → listed (state r a) i records ≡ lines_on check asked (state r b) i records

  module _ (records : List (List ℕ)) (same : IsSame records) (a b : AssemblerState) (i : ℕ)
      (alike : IsAlike asked a b) where
    ad : (r : FarmState) (s : SegmentView) (v : Verdict) (on : Bool) → is_asked asked s.header.map ≡ on
        → cond on (segment_text i a (if_accepted v s)) []
        ++ listed (cond on (state r (assembler_after a (if_accepted v s))) (state r a)) (i + 1) records
        ≡ cond on (segment_text i b (if_accepted v s)) []
        ++ lines_on check asked (state r (assembler_after b (if_accepted v s))) (i + 1) records
    ad r s v true is =
        let a' = assembler_after a (if_accepted v s) in
        let b' = assembler_after b (if_accepted v s) in
        ap (λ (t : List ℕ). t ++ listed (state r a') (i + 1) records) (same_text asked i a b alike s is v)
        ∙ ap (λ (t : List ℕ). segment_text i b (if_accepted v s) ++ t)
        (same r a' b' (i + 1) (both_after asked a b alike s is v))
    ad r s v false is =
        same r a (assembler_after b (if_accepted v s)) (i + 1) (one_after asked a b alike s is v)

    bd : (r : FarmState) (s : SegmentView) (on : Bool)
        → cond on (bypass_text i s) [] ++ listed (cond on (state r a) (state r a)) (i + 1) records
        ≡ cond on (bypass_text i s) [] ++ lines_on check asked (state r b) (i + 1) records
    bd r s true = ap (λ (t : List ℕ). bypass_text i s ++ t) (same r a b (i + 1) alike)
    bd r s false = same r a b (i + 1) alike

    body : (r : FarmState) (x : BodyView)
        → cond (is_on asked x) (body_text (state r a) i x) []
        ++ listed (cond (is_on asked x) (after_body (state r a) x) (passed (state r a) x)) (i + 1) records
        ≡ cond (is_on asked x) (body_text (state r b) i x) []
        ++ lines_on check asked (after_body (state r b) x) (i + 1) records
    body r (Ad n s) = ad (farms.after_body r (Ad n s)) s (verdict_of r n true) (is_asked asked s.header.map) refl
    body r (Bd s) = bd (farms.after_body r (Bd s)) s (is_asked asked s.header.map)
    body r (Bc command) = same (farms.after_body r (Bc command)) a b (i + 1) alike

    frame : (r : FarmState) (f : Result FrameView TcFault)
        → one_map_text (record { map = asked; packets = state r a }) i f
        ++ record_lines (one_map_lines check) (one.after_frame (record { map = asked; packets = state r a }) f) (i + 1)
        records
        ≡ cond (is_record_on asked f) (record_text (state r b) i f) []
        ++ lines_on check asked (after_frame (state r b) f) (i + 1) records
    frame r (Ok f) = body r f.body
    frame r (Err e) = ap (λ (t : List ℕ). frame_fault_line i e ++ t) (same r a b (i + 1) alike)

  is_same : (records : List (List ℕ)) → IsSame records
  is_same [] r a b i alike = refl
  is_same (o ∷ os) r a b i alike = frame os (is_same os) a b i alike r (frame_at check o)

-- from the first record on
pub as_all : (check : Check) (map : Option ℕ) (width vr : ℕ) (blocking : Bool) (records : List (List ℕ))
    → record_lines (one_map_lines check) (record { map = map; packets = map_opened width vr blocking }) 1 records
    ≡ lines_on check map (map_opened width vr blocking) 1 records
as_all check map width vr blocking records =
    is_same check map records (new_farm width vr) (none_open blocking) (none_open blocking) 1
    (record { limits = refl; count = refl; parts = λ m is. refl })
