use Rattle.std.proofs.Common.{◌≡◌, ◌++◌, drop}
use Rattle.listings.specs.Text.{written}
use Rattle.tm_link.specs.Extractor.{octets_of}
use Rattle.listings.specs.MapLines.{map_packets_text}
use Rattle.listings.proofs.maps.push_packets.Given as goal

-- the lines so far, and those of the packets that are left
abbrev pub invariant-loop-packet : goal.invariant-loop-packet
invariant-loop-packet l =
    written l.text ++ map_packets_text l.map (octets_of (drop l.packet-index l.packets)) ≡ written l.fn.text
    ++ map_packets_text l.map (octets_of l.fn.packets)
