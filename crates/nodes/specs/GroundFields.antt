-- The state that a ground's fields represent, and the invariant of the fields.
use Rattle.std.specs.Prelude.{◌≡◌, ◌≢◌, ◌≤◌, ◌+◌, ◌/◌, [], ◌++◌, length, true}
use Rattle.std.specs.Prelude.{option_to_list}
use Rattle.std.specs.List.{AllByRecursion}
use Rattle.std.specs.VecDeque.{deque_capacity}
use Rattle.tm_link.specs.Extractor.{octets_of}
use Rattle.map_service.specs.Packets.{is_packet}
use Rattle.cop1.specs.declared.vocabulary.FopMode.TheVariants.{S6}
use Rattle.nodes.specs.declared.ground_node.Ground.TheInside.{Inside}
use Rattle.nodes.specs.Parameters.{IsConfig}
use Rattle.nodes.specs.Fates.{left_after, fates_of}
use Rattle.nodes.specs.Ground.{GroundState, outstanding}
use Rattle.nodes.specs.GroundBounds.{AreShort, IsSenderOf}

abbrev pub state_of : Inside → GroundState
state_of s = record {
  config = s.config;
  fop = s.fop;
  pending = s.pending.items;
  extractor = s.extractor;
  telemetry = octets_of s.waiting.items ++ octets_of s.finished.items;
  fates = fates_of s.acknowledged s.left.items s.kept;
}

-- the invariant of the fields
pub record IsSound (s : Inside) : Type 0 where
  pub config : IsConfig s.config
  -- there is room for all segments that may wait
  pub room : s.config.queue_slots ≤ deque_capacity s.pending
  -- each item that waits to be taken is exactly one packet
  pub packets :
      AllByRecursion (λ p. is_packet p ≡ true)
      (octets_of s.waiting.items ++ octets_of s.finished.items)
  -- once all outstanding segments are acknowledged, every submission is whole; all submissions have
  -- room
  pub owed : s.fop.state ≢ S6 → left_after (length (outstanding (state_of s))) s.left.items ≡ []
  pub places : s.config.queue_slots + 127 ≤ deque_capacity s.left
  -- the configuration bounds each of these
  pub sender : IsSenderOf s.config s.fop
  pub unsent : length (option_to_list s.fop.waiting) + length s.pending.items ≤ s.config.queue_slots
  pub parts : AreShort s.config.part s.pending.items
  pub begun : length s.extractor.part ≤ 65541
  pub submissions : length s.left.items ≤ s.config.width / 2 + s.config.queue_slots
