-- What follows the whole packets that start in a frame's data.
use Rattle.std.specs.Prelude.{ℕ, List, [], drop}
use Rattle.octets.specs.Records.{rest_of}
use Rattle.space_packet.specs.Decoding.{extent_at}
use Rattle.tm_link.specs.declared.frame.Pointer.{Pointer}
use Rattle.tm_link.specs.declared.frame.Pointer.TheVariants.{At, NoStart, OnlyIdle}

abbrev pub rest_in_frame : Pointer → List ℕ → List ℕ
rest_in_frame (At p) payload = rest_of 6 extent_at (drop p payload)
rest_in_frame NoStart payload = []
rest_in_frame OnlyIdle payload = []
