-- Octets as whole packets, one after another.
use Rattle.std.specs.Prelude.{ℕ, List, length, Bool, ◌&&◌, ◌==◌, Option, None, Some}
use Rattle.octets.specs.Records.{first_record, by_record, records_of, rest_of}
use Rattle.space_packet.specs.Decoding.{extent_at}

-- the packet that octets begin with, if they begin with one
abbrev pub first_packet : List ℕ → Option (List ℕ)
first_packet octets = by_record 6 extent_at (first_record 6 extent_at octets) None (λ p. Some p)

-- the packets that octets form, one after another, as far as they are whole
abbrev pub packets_in : List ℕ → List (List ℕ)
packets_in octets = records_of 6 extent_at octets

-- the octets after these packets
abbrev pub rest_in : List ℕ → List ℕ
rest_in octets = rest_of 6 extent_at octets

-- exactly one packet, of either type, idle or not
abbrev pub is_packet : List ℕ → Bool
is_packet octets = (length (packets_in octets) == 1) && (length (rest_in octets) == 0)
