use Rattle.std.proofs.Common.{◌∙◌}
use Rattle.clcw.proofs.NamedBits.{and-named}
use Rattle.clcw.proofs.flags.ClcwFlags.among.Goals as goal

pub returns : goal.returns
returns c = c.from_bits_truncate.ensures tt ∙ and-named c.args.octet c.ranges.octet.fits
