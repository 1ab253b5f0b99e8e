use Rattle.std.proofs.Common.{List, [], cond, None, ap}
use Rattle.tc_frame.specs.Layout.{SegmentView}
use Rattle.map_service.specs.Assembly.{is_open, ending_part, unless_too_long, blocks_packets}
use Rattle.map_service.proofs.Passage.{given-passed, closed-passed, other-append}
use Rattle.map_service.proofs.laws.law_of_passage.Goals as goal

pub returns-clause-given : goal.returns-clause-given
returns-clause-given c = given-passed

pub returns-clause-closed : goal.returns-clause-closed
returns-clause-closed c = closed-passed

pub returns-clause-others : goal.returns-clause-others
returns-clause-others c = λ limits part m k segments octets one ne.
    let same = other-append part m k segments octets one ne in (
      ap (λ (xs : List SegmentView). cond (is_open limits k) (blocks_packets limits xs) []) same,
      ap (λ (xs : List SegmentView). cond (is_open limits k) (unless_too_long limits (ending_part xs)) None) same,
    )
