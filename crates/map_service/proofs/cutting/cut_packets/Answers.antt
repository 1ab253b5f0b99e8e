use Rattle.std.proofs.Common.{◌≡◌, ◌++◌, List, [], ℕ, ap, sym, ◌∙◌, arith}
use Rattle.std.proofs.lemmas.List.{append-nil}
use Rattle.tc_frame.specs.Layout.{SegmentView}
use Rattle.map_service.specs.Cutting.{segment_views, segments_of}
use Rattle.map_service.proofs.Parts.{and_others, still_before}
use Rattle.map_service.proofs.Groups.{groups-cut, groups-none, none_from}
use Rattle.map_service.proofs.cutting.cut_packets.Goals as goal

pub groups-preserved : goal.groups-preserved
groups-preserved c =
    let cut = groups-cut c.args.part c.args.map c.group_len.result c.groups.rest.now c.split_at.result.0.now
    c.split_at.result.1.now c.groups.invariant.whole
    (omega (arith, c.group_len.ensures.some, c.group_len.ensures.within)) c.group_len.ensures.group
    c.split_at.ensures.front c.split_at.ensures.back in
    record {
      whole = cut.1;
      views = and_others _ _ _ _ _ c.in-Ok.ensures.ok cut.0 ∙ c.groups.invariant.views;
      before = still_before _ _ _ c.groups.invariant.before c.append_parts.ensures.before;
    }

pub returns-clause-ok : goal.returns-clause-ok
returns-clause-ok c =
    let old : List SegmentView = segment_views c.groups.segments.items in
    let rest : c.groups.rest.now ≡ [] = none_from c.groups.rest.now c.groups-test.ensures in
    let none : segments_of c.args.part c.args.map c.groups.rest.now ≡ [] =
    ap (λ (xs : List ℕ). segments_of c.args.part c.args.map xs) rest ∙ groups-none c.args.part c.args.map in
    sym (append-nil old) ∙ ap (λ (vs : List SegmentView). old ++ vs) (sym none) ∙ c.groups.invariant.views
