-- The state that a spacecraft's fields represent, and the invariant of the fields.
use Rattle.std.specs.Prelude.{◌≡◌, ◌<◌, ◌≤◌}
use Rattle.std.specs.VecDeque.{deque_capacity}
use Rattle.map_service.specs.Exactness.{HasPartsOf}
use Rattle.tm_link.specs.Builder.{BuilderState}
use Rattle.nodes.specs.declared.config.Config.{Config}
use Rattle.nodes.specs.declared.spacecraft.Spacecraft.TheInside.{Inside}
use Rattle.nodes.specs.Parameters.{limits_of}
use Rattle.nodes.specs.Spacecraft.{SpacecraftState}
use Rattle.nodes.specs.SpacecraftBounds.{most_ready, IsReadyWithin, IsPastWithin}

abbrev pub state_of : Inside → SpacecraftState
state_of s = record {
  config = s.config;
  farm = s.farm;
  accepted = s.accepted.segments;
  ready = s.ready.items;
  bypass = s.bypass.items;
  builder = s.builder;
}

-- the builder makes frames of the configured length, spacecraft and virtual channel
pub record IsBuilderOf (c : Config) (b : BuilderState) : Type 0 where
  pub scid : b.scid ≡ c.scid
  pub vcid : b.vcid ≡ c.tm_vcid
  pub total : b.total ≡ c.frame_length

-- the invariant of the fields
pub record IsSound (s : Inside) : Type 0 where
  pub vcid : s.config.vcid < 64
  pub limits : s.assembler.limits ≡ limits_of s.config
  -- the assembler holds the open parts that the accepted segments leave
  pub parts : HasPartsOf s.assembler s.accepted.segments
  pub slots : s.bypass.capacity ≡ s.config.bypass_slots
  -- if the buffer is free, there is room for the packets of one more frame
  pub room : most_ready s.config ≤ deque_capacity s.ready
  pub frames : IsBuilderOf s.config s.builder
  -- the configuration bounds the packets that wait
  pub waiting : IsReadyWithin s.config s.ready.items
  pub past : IsPastWithin s.config s.bypass.items
