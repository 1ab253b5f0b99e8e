-- What a splitter of packets contains.
use Rattle.std.specs.Prelude.{ℕ, List, Option, Result}
use Rattle.std.specs.Borrow.{Fml, MutBor}
use Rattle.octets.specs.Splitter.{Held, held}
use Rattle.octets.specs.SplitterLent as lending
use Rattle.space_packet.specs.contracts.splitter.PacketSplitter.{the_row}
use Rattle.space_packet.specs.declared.fault.PacketFault.{PacketFault}
use Rattle.space_packet.specs.declared.splitter.PacketSplitter.{PacketSplitter}

abbrev pub held_in : PacketSplitter → Held PacketFault
held_in s = held s.0

-- what the splitter is once the loan of the answer has ended
abbrev pub EndsAfter : MutBor PacketSplitter → Option (Result (List ℕ) PacketFault) → Fml
EndsAfter s answer = lending.EndsAfter the_row s held_in answer
