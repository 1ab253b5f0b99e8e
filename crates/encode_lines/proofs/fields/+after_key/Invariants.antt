use Rattle.std.proofs.Common.{length}
use Rattle.encode_lines.proofs.fields.+after_key.Given as goal

abbrev pub decreases-after_key : goal.decreases-after_key
decreases-after_key l = length l.word.now
