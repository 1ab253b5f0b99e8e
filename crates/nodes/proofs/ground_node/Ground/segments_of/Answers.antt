use Rattle.std.proofs.Common.{◌≡◌, ◌++◌, [], ◌∷◌, ◌+◌, false, ℕ, List, length, Some, None, Result, Ok, Err, OnOk, ap}
use Rattle.std.proofs.Common.{sym, subst, ◌∙◌, arith}
use Rattle.std.specs.Prelude.{nat_lt}
use Rattle.std.proofs.lemmas.Bool.{not-true}
use Rattle.std.specs.List.{AllByRecursion}
use Rattle.std.specs.Result.{is_err}
use Rattle.tc_frame.specs.declared.frame.Segment.{Segment}
use Rattle.tc_frame.specs.Layout.{SegmentView}
use Rattle.map_service.specs.Cutting.{segment_views, segments_of, alone_segment}
use Rattle.nodes.specs.CommandPackets.{commands_fault}
use Rattle.nodes.specs.Ground.{GroundState, unsent_segments, segments_on, is_over_slots}
use Rattle.nodes.specs.OwnedFields.{FitsFrame}
use Rattle.nodes.specs.Parameters.{limits_of}
use Rattle.nodes.proofs.Submissions.{segments_fit, one_segment, one_fits}
use Rattle.nodes.proofs.ground_node.Ground.segments_of.Goals as goal

where_ok : {A E P : Type 0} (r : Result A E) → is_err r ≡ false → OnOk r P → P
where_ok (Ok x) ok p = p
where_ok (Err e) ok p = absurd cc

pub own-requires : goal.own-requires
own-requires c =
    let m : ℕ = c.args.map in
    let octets : List ℕ = c.args.octets.now in
    let part : ℕ = c.self.inside.config.part in
    let views : segment_views c.cut_packets.new.segments.items
    ≡ segment_views c.new-segments.result.items ++ segments_of part m octets =
    where_ok c.cut_packets.result (sym c.is_err.ensures.value ∙ c.if-is_err.false) c.cut_packets.ensures.ok in
    let is : segment_views c.as_slice.result.now ≡ segments_of part m octets =
    ap segment_views c.as_slice.ensures.value ∙ views
    ∙ ap (λ (ss : List Segment). segment_views ss ++ segments_of part m octets) c.new-segments.ensures.items in
    subst (λ (ss : List SegmentView). AllByRecursion FitsFrame ss) (sym is)
    (segments_fit part m octets c.self.invariant.config.part.0 c.self.invariant.config.part.1 (c.requires.map))

-- packets that go into one segment
one_by : (s t : GroundState) (m : ℕ) (octets : List ℕ) (segment : SegmentView) → t ≡ s
    → commands_fault (limits_of s.config) octets ≡ None → Some segment ≡ alone_segment t.config.part m octets
    → segment ∷ [] ≡ segments_on s m octets
one_by s t m octets segment same h is =
    one_segment (limits_of s.config) m octets segment h
    (is ∙ ap (λ (x : GroundState). alone_segment x.config.part m octets) same)

over_by : (s : GroundState) (m : ℕ) (octets : List ℕ) (segment : SegmentView)
    → segment ∷ [] ≡ segments_on s m octets
    → is_over_slots s m octets ≡ nat_lt s.config.queue_slots (length (unsent_segments s) + 1)
over_by s m octets segment is =
    ap (λ (ss : List SegmentView). nat_lt s.config.queue_slots (length (unsent_segments s) + length ss)) (sym is)

pub new-requires : goal.new-requires
new-requires c =
    let part = ap (λ (x : GroundState). x.config.part) c.self.view_is in
    one_fits (limits_of c.args.self.now.config) c.args.map c.args.octets.now _ c.requires.commands c.requires.map
    (omega (arith, part, c.self.invariant.config.part.1))
    (c.in-Some.ensures
    ∙ ap (λ (x : GroundState). alone_segment x.config.part c.args.map c.args.octets.now) c.self.view_is)

pub returns-in-Ok-clause-segments : goal.returns-in-Ok-clause-segments
returns-in-Ok-clause-segments c =
    ap (λ (segment : SegmentView). segment ∷ []) c.in-Ok.ensures.copied
    ∙ one_by c.args.self.now _ c.args.map c.args.octets.now _ c.self.view_is c.requires.commands c.in-Some.ensures

pub returns-in-Ok-clause-places : goal.returns-in-Ok-clause-places
returns-in-Ok-clause-places c =
    let s : GroundState = c.args.self.now in
    let one = one_by s _ c.args.map c.args.octets.now _ c.self.view_is c.requires.commands c.in-Some.ensures in
    over_by s c.args.map c.args.octets.now _ one ∙ not-true _ (sym c.has_places.ensures ∙ c.if-not-has_places.false)
