-- How a stream of octets is cut into records, and the four layouts of the commands' files.
use Rattle.std.specs.Prelude.{◌≡◌, ◌≤◌, ℕ, List, take, length, nat_lt, if◌then◌else◌, Option, Some}
use Rattle.std.specs.Prelude.{Result, Ok, Err, drop}
use Rattle.clcw.specs.declared.word.Clcw.{Clcw}
use Rattle.clcw.specs.declared.fault.ClcwFault.{ClcwFault}
use Rattle.clcw.specs.Decoding.{clcw_at}
use Rattle.octets.specs.Records.{first_record, records_of, rest_of}
use Rattle.tc_frame.specs.declared.frame.Check.{Check}
use Rattle.tc_frame.specs.declared.fault.TcFault.{TcFault}
use Rattle.tc_frame.specs.declared.fault.TcFault.TheVariants.{Short}
use Rattle.tc_frame.specs.Splitter.{total_at}
use Rattle.space_packet.specs.declared.fault.PacketFault.{PacketFault}
use Rattle.space_packet.specs.declared.fault.PacketFault.TheVariants.{Truncated}
use Rattle.space_packet.specs.Decoding.{extent_at}
use Rattle.tm_link.specs.declared.fault.TmFault.{TmFault}
use Rattle.tm_link.specs.declared.fault.TmFault.TheVariants.{Length}
use Rattle.listings.specs.declared.control_words.WordFault.{WordFault}
use Rattle.listings.specs.declared.control_words.WordFault.TheVariants as words
use Rattle.listings.specs.declared.frame_cutter.FrameCutter.{FrameCutter}
use Rattle.listings.specs.declared.frame_cutter.FrameLength as lengths

-- How a stream is cut into records. F is the fault of octets that do not form a record.
pub record Layout (F : Type 0) : Type 0 where
  -- how many octets declare a record's length
  pub head : ℕ
  -- the length that they declare
  pub extent : List ℕ → Result ℕ F
  -- the fault of octets that end before their record does
  pub truncated : F

-- A record contains the octets that declare its length, and there is at least one.
pub record HasHeads {F : Type 0} (layout : Layout F) : Type 0 where
  pub some_head : 1 ≤ layout.head
  pub has_head : (octets : List ℕ) (n : ℕ) → layout.extent octets ≡ Ok n → layout.head ≤ n

module _ {F : Type 0} (layout : Layout F) where
  -- the record that octets begin with, or why they are refused; none if octets are missing
  abbrev pub first_by : List ℕ → Option (Result (List ℕ) F)
  first_by octets = first_record layout.head layout.extent octets

  -- all whole records
  abbrev pub records_by : List ℕ → List (List ℕ)
  records_by octets = records_of layout.head layout.extent octets

  -- the octets after them
  abbrev pub rest_by : List ℕ → List ℕ
  rest_by octets = rest_of layout.head layout.extent octets

  -- octets at which no record can begin
  abbrev pub IsRefused : List ℕ → Type 0
  IsRefused octets = (e : F) × (first_by octets ≡ Some (Err e))

  -- why an extent was refused, or else that the octets end too early
  abbrev pub extent_fault : Result ℕ F → F
  extent_fault (Ok n) = layout.truncated
  extent_fault (Err e) = e

  -- why octets that begin with no whole record are refused
  abbrev pub rest_fault : List ℕ → F
  rest_fault rest =
      if nat_lt (length rest) layout.head then layout.truncated else extent_fault
      (layout.extent (take layout.head rest))

-- ---- the layouts of the commands

-- telecommand frames, with or without their check: the first five octets give the length (CCSDS
-- 232.0-B-4, 4.1.2)
abbrev pub frame_layout : Check → Layout TcFault
frame_layout check = record { head = 5; extent = total_at check; truncated = Short }

-- each run of this many octets is a telemetry frame, whatever it contains
abbrev pub frame_extent : ℕ → List ℕ → Result ℕ TmFault
frame_extent size head = Ok size

abbrev pub telemetry_layout : ℕ → Layout TmFault
telemetry_layout size = record { head = size; extent = frame_extent size; truncated = Length }

-- space packets: the first six octets give the length (CCSDS 133.0-B-2, 4.1.3)
abbrev pub packet_layout : Layout PacketFault
packet_layout = record { head = 6; extent = extent_at; truncated = Truncated }

-- CLCWs: each four octets are one, whatever they contain (CCSDS 232.0-B-4, 4.2.1)
abbrev pub word_extent : List ℕ → Result ℕ WordFault
word_extent head = Ok 4

abbrev pub word_layout : Layout WordFault
word_layout = record { head = 4; extent = word_extent; truncated = words.Short }

-- the CLCW of a record, or why the record is not a valid CLCW
abbrev pub as_word : Result Clcw ClcwFault → Result Clcw WordFault
as_word (Ok word) = Ok word
as_word (Err fault) = Err (words.Refused fault)

abbrev pub word_in : List ℕ → Result Clcw WordFault
word_in octets = if nat_lt (length octets) 4 then Err words.Short else as_word (clcw_at octets)

-- What is held of a stream of telemetry frames.

-- the octets that were fed and not returned yet
abbrev pub frames_held : {K : Type 0} {size : lengths.Ghosts K} → FrameCutter K size → List ℕ
frames_held c = drop c.start c.octets.items
