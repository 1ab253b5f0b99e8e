use Rattle.cop1.proofs.FarmFlags.{always}
use Rattle.cop1.proofs.laws.flags_always_agree.Goals as goal

pub returns : goal.returns
returns c = always
