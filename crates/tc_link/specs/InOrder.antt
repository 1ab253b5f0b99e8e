-- Delivery in order.
use Rattle.std.specs.Prelude.{◌≡◌, ◌≤◌, ℕ, [], length, take}
use Rattle.octets.specs.Beginning.{IsBeginning}
use Rattle.cop1.specs.declared.vocabulary.FopMode.TheVariants.{S1}
use Rattle.nodes.specs.Ground.{outstanding}
use Rattle.simulated_link.specs.World.{World, submitted, accepted, delivered}

-- Packets are delivered in order, each once.
pub record IsInOrder (w : World) : Type 0 where
  -- on each MAP, what is delivered is a prefix of what was submitted
  pub in_order : (m : ℕ) → IsBeginning (delivered w m) (submitted w m)
  -- what the ground counts as acknowledged was accepted on board
  pub acknowledged : take w.session.acknowledged w.session.sent
      ≡ take w.session.acknowledged (accepted w)
  pub counted : (w.session.acknowledged ≤ length w.session.sent)
      × (w.session.acknowledged ≤ length (accepted w))
  -- while the ground is Active and nothing is outstanding, nothing is missing
  pub complete : w.ground_node.fop.state ≡ S1 → outstanding w.ground_node ≡ [] → (m : ℕ)
      → delivered w m ≡ submitted w m
