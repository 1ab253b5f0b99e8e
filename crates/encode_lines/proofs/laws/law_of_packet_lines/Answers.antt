use Rattle.encode_lines.proofs.PacketLines.{packet_line_read, packet_line_said, packet_octets_read}
use Rattle.encode_lines.proofs.laws.law_of_packet_lines.Goals as goal

pub returns-clause-says : goal.returns-clause-says
returns-clause-says c = packet_line_read

pub returns-clause-said : goal.returns-clause-said
returns-clause-said c = packet_line_said

pub returns-clause-read : goal.returns-clause-read
returns-clause-read c = packet_octets_read
