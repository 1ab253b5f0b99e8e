-- What a splitter of frames contains.
use Rattle.std.specs.Prelude.{ℕ, List, Option, Result, ◌<◌, ◌+◌, ◌%◌, take, drop, slice_index, Bool}
use Rattle.std.specs.Prelude.{true, false, nat_lt, if◌then◌else◌, Ok, Err}
use Rattle.std.specs.Borrow.{Fml, MutBor, RattleType}
use Rattle.octets.specs.Splitter.{Held, held}
use Rattle.tc_frame.specs.contracts.splitter.TcSplitter.{the_row}
use Rattle.tc_frame.specs.declared.fault.TcFault.{TcFault}
use Rattle.tc_frame.specs.declared.splitter.TcSplitter.{TcSplitter}
use Rattle.octets.specs.Number.{number_of}
use Rattle.tc_frame.specs.declared.frame.Check.{Check}
use Rattle.tc_frame.specs.declared.frame.Check.TheVariants.{On, Off}
use Rattle.tc_frame.specs.Layout.{FrameView, IsTcFrame}
use Rattle.tc_frame.specs.Decoding.{least_total}
use Rattle.octets.specs.declared.wire.Wire as wire
use Rattle.octets.specs.SplitterLent as lending
use Rattle.tc_frame.specs.declared.fault.TcFault.TheVariants as faults

abbrev pub held_in : {C : Type 0} {layout : wire.Ghosts C TcFault} → TcSplitter C layout
    → Held TcFault
held_in s = held s.0

-- what the splitter is once the loan of the answer has ended
abbrev pub EndsAfter : (C : RattleType) (layout : wire.Ghosts C.Denot TcFault)
    → MutBor (TcSplitter C.Denot layout) → Option (Result (List ℕ) TcFault) → Fml
EndsAfter C layout s answer = lending.EndsAfter (the_row C layout) s held_in answer

-- Frames on a stream: a frame is as long as its head declares (CCSDS 232.0-B-4, 4.1.2.7).

-- whether frames end with their check
abbrev pub check_if : Bool → Check
check_if true = On
check_if false = Off

-- the declared total of the frame that begins with this head, if it is enough for a frame
abbrev pub total_at : Check → List ℕ → Result ℕ TcFault
total_at check head =
    let total : ℕ = number_of (take 2 (drop 2 head)) % 1024 + 1 in
    if nat_lt total (least_total check) then Err faults.Length else Ok total

-- octets, which are whole numbers from 0 to 255, spell the frame
pub record IsSpelling (check : Check) (f : FrameView) (b : List ℕ) : Type 0 where
  pub spells : IsTcFrame check f b
  pub octets : (i : ℕ) → slice_index b i < 256
