use Rattle.space_packet.proofs.WholePackets.{packet_from, is_packet-again}
use Rattle.map_service.proofs.Whole.{several_are, several_again}
use Rattle.map_service.proofs.laws.law_of_packets.Goals as goal

pub returns-clause-one : goal.returns-clause-one
returns-clause-one c = packet_from

pub returns-clause-one_only : goal.returns-clause-one_only
returns-clause-one_only c = is_packet-again

pub returns-clause-several : goal.returns-clause-several
returns-clause-several c = several_are

pub returns-clause-several_only : goal.returns-clause-several_only
returns-clause-several_only c = several_again
