use Rattle.encode_lines.proofs.FrameLines.{frame_line_read, frame_line_said, frame_octets_read}
use Rattle.encode_lines.proofs.laws.law_of_frame_lines.Goals as goal

pub returns-clause-says : goal.returns-clause-says
returns-clause-says c = frame_line_read

pub returns-clause-said : goal.returns-clause-said
returns-clause-said c = frame_line_said

pub returns-clause-read : goal.returns-clause-read
returns-clause-read c = frame_octets_read
