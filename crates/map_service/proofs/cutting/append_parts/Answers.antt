use Rattle.std.proofs.Common.{[], ◌∷◌, ◌++◌, List, ap, sym, ◌∙◌, arith}
use Rattle.tc_frame.specs.declared.frame.SegmentFlags.TheVariants.{First, Continuing, Last, Alone}
use Rattle.tc_frame.specs.Layout.{SegmentView}
use Rattle.map_service.specs.Cutting.{segment_views}
use Rattle.map_service.proofs.Parts.{ok_along, and_more, alone-none, parts-alone, later_segments-last}
use Rattle.map_service.proofs.Parts.{flagged-cut, still_before}
use Rattle.map_service.proofs.cutting.append_parts.Goals as goal

pub returns-in-Some-clause-ok : goal.returns-in-Some-clause-ok
returns-in-Some-clause-ok c =
    let old : List SegmentView = segment_views c.args.segments.now.items in
    ok_along c.append.result _ _ (λ e. e
    ∙ ap (λ (vs : List SegmentView). old ++ vs)
    (parts-alone c.args.part c.args.map c.args.octets.now _ c.requires.some_octet c.in-Some.ensures))
    c.append.ensures.ok

pub parts-init : goal.parts-init
parts-init c =
    let split = c.split_at in
    let long = alone-none c.args.part c.args.map c.args.octets.now c.in_default.ensures in
    let cut = flagged-cut First Alone c.args.map c.args.part c.args.octets.now split.result.0.now split.result.1.now
    c.requires.some_part long split.ensures.front split.ensures.back in
    record {
      some = omega (arith, split.ensures.back_len, long);
      views = and_more _ _ _ _ _ _ c.in_ok-append.ensures.ok c.segment_with.ensures cut;
      before = c.append-2.ensures.before;
    }

pub parts-preserved : goal.parts-preserved
parts-preserved c =
    let split = c.split_at-in-parts in
    let cut = flagged-cut Continuing Last c.args.map c.args.part c.parts.rest.now split.result.0.now split.result.1.now
    c.requires.some_part c.parts-test.true split.ensures.front split.ensures.back in
    record {
      some = omega (arith, split.ensures.back_len, c.parts-test.true);
      views = and_more _ _ _ _ _ _ c.in_ok-append-2.ensures.ok c.segment_with-in-parts.ensures cut
          ∙ c.parts.invariant.views;
      before = still_before _ _ _ c.parts.invariant.before c.append-in-parts.ensures.before;
    }

pub returns-clause-ok : goal.returns-clause-ok
returns-clause-ok c =
    let old : List SegmentView = segment_views c.parts.segments.items in
    let last = later_segments-last c.args.map c.args.part c.parts.rest.now c.parts.invariant.some c.parts-test.false in
    let one = ap (λ (s : SegmentView). s ∷ []) c.segment_with-2.ensures ∙ sym last in
    ok_along c.append-3.result _ _ (λ e. e ∙ ap (λ (vs : List SegmentView). old ++ vs) one ∙ c.parts.invariant.views)
    c.append-3.ensures.ok
