use Rattle.std.proofs.Common.{arith}
use Rattle.nodes.proofs.Submissions.{fits_at}
use Rattle.nodes.proofs.owned_segment.own.Goals as goal

pub new-requires : goal.new-requires
new-requires c = fits_at c.args.segments.now c.loop-segment.segment-index _ c.requires (omega arith)
