use Rattle.nodes.proofs.Delivery.{delivers}
use Rattle.nodes.proofs.laws.law_of_delivery.Goals as goal

pub returns : goal.returns
returns c = delivers c.law_of_steps.ensures.packets c.law_of_steps.ensures.other_packets
