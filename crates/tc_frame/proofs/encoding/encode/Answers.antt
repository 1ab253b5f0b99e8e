use Rattle.std.proofs.Common.{◌∙◌, sym}
use Rattle.tc_frame.specs.Layout.{frame_view}
use Rattle.tc_frame.proofs.Spelled.{written_is}
use Rattle.tc_frame.proofs.encoding.encode.Goals as goal

pub returns-clause-spells : goal.returns-clause-spells
returns-clause-spells c =
    written_is c.args.check (frame_view c.args.frame.now) c.total-total.result c.put_frame.new.out _
    (sym c.is_in_range.ensures ∙ c.if-not-is_in_range.false) c.total-total.ensures c.put_frame.ensures
