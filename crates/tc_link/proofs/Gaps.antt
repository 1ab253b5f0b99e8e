-- The gap that the ground reports is the number of frames lost since the last that arrived, modulo 256.
use Rattle.tc_link.proofs.Common.{◌≡◌, ◌≢◌, ◌<◌, ℕ, suc, ◌+◌, ◌-◌, ◌%◌, Bool, true, false, List, [], ◌∷◌, ◌++◌}
use Rattle.tc_link.proofs.Common.{length, Option, Some, None, Ok, refl, ap, sym, subst, ◌∙◌, arith, append_assoc}
use Rattle.tc_link.proofs.Common.{AllByRecursion, option_map, ◌==◌, Config, GroundState, GroundOutcome, Heard}
use Rattle.tc_link.proofs.Common.{WorldOutcome, down_deliver_step, telemetry_outcome}
use Rattle.tc_link.proofs.Common.{own_frame_outcome, ground_telemetry, extract_step, choice, state_after, eq-eqb}
use Rattle.tc_link.proofs.Common.{ExtractorState}
use Rattle.tc_link.proofs.Common.{Extracted}
use Rattle.clcw.specs.Decoding.{clcw_at}
use Rattle.tm_link.specs.Arrivals.{IsInRange}
use Rattle.tm_link.specs.Decoding.{frame_at}
use Rattle.tm_link.specs.Extractor.{new_extractor, gap_of}
use Rattle.tm_link.specs.Layout.{FrameView}
use Rattle.tm_link.specs.declared.gap.Gap.TheVariants.{Lost}
use Rattle.simulated_link.specs.World.{world_after_telemetry}
use Rattle.tc_link.specs.Gaps.{lost_since, gap_after, gap_in, EachGapIsLoss}
use Rattle.tc_link.specs.Telemetry.{Downlink, new_downlink, downlink_run}
use Rattle.tc_link.proofs.Telemetry.{Laid, first_of, in_range, new_downlink_laid, run_laid}

-- ---- frames that count up

abbrev Counted : ℕ → List FrameView → Type 0
Counted count [] = Unit {0}
Counted count (f ∷ frames) = (f.vc_count ≡ count) × (count < 256) × Counted ((count + 1) % 256) frames

abbrev HasCounts : List FrameView → Type 0
HasCounts whole =
    (before after : List FrameView) (f g : FrameView) → whole ≡ before ++ f ∷ g ∷ after
    → g.vc_count ≡ (f.vc_count + 1) % 256

abbrev FirstIs : ℕ → List FrameView → Type 0
FirstIs count [] = Unit {0}
FirstIs count (f ∷ frames) = f.vc_count ≡ count

counted_from : (whole before frames : List FrameView) (count : ℕ) → HasCounts whole → whole ≡ before ++ frames
    → AllByRecursion IsInRange frames → FirstIs count frames → Counted count frames
counted_from whole before [] count counts e each first = tt
counted_from whole before (f ∷ frames) count counts e each first =
    let regrouped : whole ≡ (before ++ f ∷ []) ++ frames = e ∙ sym (append_assoc before (f ∷ []) frames) in (
      first,
      omega (arith, each.0.count, first),
      counted_from whole (before ++ f ∷ []) frames ((count + 1) % 256) counts regrouped each.1
          (next_first whole before frames f count counts e first),
    )
  where
    next_first : (whole before frames : List FrameView) (f : FrameView) (count : ℕ) → HasCounts whole
        → whole ≡ before ++ f ∷ frames → f.vc_count ≡ count → FirstIs ((count + 1) % 256) frames
    next_first whole before [] f count counts e is = tt
    next_first whole before (g ∷ frames) f count counts e is =
        counts before frames f g e ∙ ap (λ (n : ℕ). (n + 1) % 256) is

counted_all : (frames : List FrameView) → HasCounts frames → AllByRecursion IsInRange frames
    → (count : ℕ) × Counted count frames
counted_all [] counts each = (0, tt)
counted_all (f ∷ frames) counts each =
    (f.vc_count, counted_from (f ∷ frames) [] (f ∷ frames) f.vc_count counts refl each refl)

-- ---- the extractor's last count

-- so many frames are lost since the last one that arrived, before one of this count
abbrev Follows : Option ℕ → Option ℕ → ℕ → Type 0
Follows None None count = Unit {0}
Follows (Some lost) (Some last) count = (last < 256) × (count ≡ (last + 1 + lost) % 256)
Follows _ _ count = ⊥

gap_is : (lost last : Option ℕ) (count : ℕ) → Follows lost last count → gap_of last count ≡ gap_after lost
gap_is None None count t = refl
gap_is (Some lost) (Some last) count t =
    let is : (count + (255 - last)) % 256 ≡ lost % 256 = omega (arith, t.0, t.1) in ap Lost is
gap_is _ _ count t = elim t [ ]

one_lost : (lost last : Option ℕ) (count : ℕ) → Follows lost last count
    → Follows (option_map suc lost) last ((count + 1) % 256)
one_lost None None count t = tt
one_lost (Some lost) (Some last) count t = (t.0, omega (arith, t.1))
one_lost _ _ count t = elim t [ ]

gap_so : (gone : List FrameView) (f : FrameView) (after : List FrameView) (came : List Bool) (s : ExtractorState)
    (lost : Option ℕ) (count : ℕ) → length came ≡ length gone → Counted count (gone ++ f ∷ after)
    → Follows lost s.last count
    → gap_of (state_after s (choice gone came)).last f.vc_count ≡ gap_after (lost_since lost came)
gap_so [] f after [] s lost count e counted t =
    ap (gap_of s.last) counted.0 ∙ gap_is lost s.last count t
gap_so (g ∷ gone) f after (true ∷ came) s lost count e counted t =
    gap_so gone f after came (extract_step s g).after (Some 0) ((count + 1) % 256) (omega arith) counted.2
    (omega (arith, counted.0, counted.1), omega (arith, counted.0))
gap_so (g ∷ gone) f after (false ∷ came) s lost count e counted t =
    gap_so gone f after came s (option_map suc lost) ((count + 1) % 256) (omega arith) counted.2
    (one_lost lost s.last count t)
gap_so _ f after _ s lost count e counted t = absurd (omega arith)

-- ---- the answer

module _ (c : Config) (d : Downlink) (g : Laid c d) where
  abbrev Reports : WorldOutcome → Type 0
  Reports o = gap_in o.answer ≡ Some (gap_after (lost_since None d.came))

  arrives : (b : List ℕ) (bs : List (List ℕ)) → d.world.down ≡ b ∷ bs → Reports (down_deliver_step d.world (b ∷ bs))
  arrives b bs is =
      let first = first_of c d g.way.gone g.way.going b bs g.each g.way.parts (g.way.down_is ∙ is) in
      let s : GroundState = d.world.ground_node in
      let f : FrameView = first.frame in
      let reads : frame_at s.config.frame_length b ≡ Ok f =
      ap (λ (x : Config). frame_at x.frame_length b) g.sound.ground_node.config
      ∙ ap (frame_at c.frame_length) (sym first.is) ∙ first.sent.reads in
      let scid : f.scid == s.config.scid ≡ true =
      eq-eqb f.scid s.config.scid (first.sent.scid ∙ sym (ap (λ (x : Config). x.scid) g.sound.ground_node.config)) in
      let vcid : f.vcid == s.config.tm_vcid ≡ true =
      eq-eqb f.vcid s.config.tm_vcid
      (first.sent.vcid ∙ sym (ap (λ (x : Config). x.tm_vcid) g.sound.ground_node.config)) in
      let x : Extracted = extract_step s.extractor f in
      let same : ground_telemetry s b ≡ own_frame_outcome s x (clcw_at f.ocf) =
      ap (telemetry_outcome s) reads ∙ rw (scid, vcid) refl in
      let whole : d.sent ≡ g.way.gone ++ f ∷ first.after =
      first.parts ∙ append_assoc g.way.gone (f ∷ []) first.after in
      let counted = counted_all d.sent g.laid.laid.counts (in_range c d.sent g.each) in
      let gap : x.gap ≡ gap_after (lost_since None d.came) =
      ap (λ (e : ExtractorState). gap_of e.last f.vc_count) g.way.state
      ∙ gap_so g.way.gone f first.after d.came new_extractor None counted.0 g.way.counted
      (subst (Counted counted.0) whole counted.1) tt in
      subst (λ (o : GroundOutcome Heard). Reports (world_after_telemetry d.world bs o)) (sym same) (ap Some gap)

  reports_loss : (way : List (List ℕ)) → d.world.down ≡ way → way ≢ [] → Reports (down_deliver_step d.world way)
  reports_loss [] is some = absurd (some refl)
  reports_loss (b ∷ bs) is some = arrives b bs is

pub each_gap_is_loss : EachGapIsLoss
each_gap_is_loss c steps ranges all some =
    let d : Downlink = downlink_run (new_downlink c) steps in
    reports_loss c d (run_laid c steps (new_downlink c) all (new_downlink_laid c ranges)) d.world.down refl some
