use Rattle.simulated_link.proofs.Common.{◌≡◌, take, packets_view, octets_of}
use Rattle.simulated_link.proofs.acceptance.copies_of.Given as goal

abbrev pub invariant-loop-packet : goal.invariant-loop-packet
invariant-loop-packet l = packets_view l.copies ≡ octets_of (take l.packet-index l.packets)
