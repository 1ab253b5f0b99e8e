use Rattle.encode_lines.proofs.HeldLines.{octets_line_read, packet_line_held}
use Rattle.encode_lines.proofs.laws.law_of_octets_in_lines.Goals as goal

pub returns-clause-octets : goal.returns-clause-octets
returns-clause-octets c = octets_line_read

pub returns-clause-packets : goal.returns-clause-packets
returns-clause-packets c = packet_line_held
