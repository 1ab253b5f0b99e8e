use Rattle.std.proofs.Common.{◌∙◌, sym, arith}
use Rattle.tm_link.specs.Layout.{frame_view}
use Rattle.tm_link.proofs.Spelled.{spelling_is, written_is}
use Rattle.tm_link.proofs.encoding.encode.Goals as goal

pub returns-clause-spells : goal.returns-clause-spells
returns-clause-spells c =
    written_is _ (frame_view c.args.frame.now) c.put_frame.new.out _ c.put_frame.ensures
    (spelling_is (frame_view c.args.frame.now) (omega arith)
    (sym c.is_in_range.ensures ∙ c.if-not-is_in_range.false))
