-- What an accepted segment adds to the records.
use Rattle.std.specs.Prelude.{ℕ, List, Option, option_map}
use Rattle.tc_frame.specs.Layout.{SegmentView, segment_octets}
use Rattle.map_service.specs.Views.{packets_view}
use Rattle.nodes.specs.declared.spacecraft.arrival.Arrival.{Arrival}
use Rattle.nodes.specs.Arrival.{accepted_of}
use Rattle.nodes.specs.Spacecraft.{SpacecraftState, assemble_step}
use Rattle.simulated_link.specs.declared.acceptance.Acceptance.{Acceptance}

-- a data field, its MAP, and the packets that it makes ready on this MAP
pub record AcceptanceView : Type 0 where
  pub field : List ℕ
  pub on_map : ℕ
  pub packets : List (List ℕ)

abbrev pub acceptance_with : SpacecraftState → SegmentView → AcceptanceView
acceptance_with s segment = record {
  field = segment_octets segment;
  on_map = segment.header.map;
  packets = (assemble_step s segment).packets;
}

abbrev pub acceptance_view : Acceptance → AcceptanceView
acceptance_view f = record {
  field = f.field.items;
  on_map = f.map;
  packets = packets_view f.packets;
}

-- what is accepted from octets that have arrived
abbrev pub acceptance_in : Arrival → Option AcceptanceView
acceptance_in a =
    option_map
    (λ p. record { field = segment_octets p.0; on_map = p.0.header.map; packets = p.1 })
    (accepted_of a)
