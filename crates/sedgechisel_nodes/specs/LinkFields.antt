-- How the fields of a simulated link represent what it holds.
use Rattle.sedgechisel_nodes.specs.declared.sim.link.Link.TheInside.{Inside}
use Rattle.sedgechisel_nodes.specs.Links.{LinkState}

abbrev pub state_of : Inside → LinkState
state_of l = record { world = l.sim.world; octets = l.octets.items }
