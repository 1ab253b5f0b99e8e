use Rattle.std.proofs.Common.{◌≡◌, List, None, get_or, subst, false}
use Rattle.std.specs.Prelude.{IfOk}
use Rattle.tc_frame.specs.Layout.{SegmentView, segment_view}
use Rattle.map_service.specs.AssemblerFields.{parts_of}
use Rattle.map_service.specs.Exactness.{AssemblerState}
use Rattle.map_service.specs.Prepared.{AreClosed, IsFoundBy, IsPrepared}
use Rattle.map_service.proofs.PartLists.{prepared_of}
use Rattle.map_service.proofs.assembler.Assembler.prepare.Goals as goal

pub returns-clause-prepared : goal.returns-clause-prepared
returns-clause-prepared c =
    let s : SegmentView = segment_view c.args.segment.now in
    let listed = c.is_some_open-is_listed.result in
    let lacks = subst (λ (parts : List _). AreClosed (λ m. get_or (parts_of parts) m None) → listed ≡ false)
    c.deref.ensures.value c.is_some_open-is_listed.ensures in
    let found = subst (λ (parts : List _). IfOk c.found.result (IsFoundBy c.self.inside.limits
    (get_or (parts_of parts) s.header.map None) (listed ≡ false) s)) c.deref-2.ensures.value c.found.ensures.found
    in
    subst (λ (a : AssemblerState). IfOk c.found.result (IsPrepared a s)) c.self.view_is
    (prepared_of c.self.inside.limits (λ m. get_or (parts_of c.self.inside.parts.items) m None) listed s
    c.found.result lacks found)
