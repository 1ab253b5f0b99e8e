-- The lines of a receiver: what the receiver does with each record, and its state after the record.
use Rattle.std.specs.Prelude.{ℕ, is_ok, true, List, ◌++◌, codes, decimal, Result, Ok}
use Rattle.std.specs.Prelude.{Err}
use Rattle.tc_frame.specs.declared.frame.Check.{Check}
use Rattle.tc_frame.specs.declared.frame.Command.TheVariants.{Unlock, SetVr}
use Rattle.tc_frame.specs.declared.fault.TcFault.{TcFault}
use Rattle.tc_frame.specs.Layout.{BodyView, Ad, Bd, Bc, FrameView}
use Rattle.tc_frame.specs.Decoding.{frame_at}
use Rattle.cop1.specs.Farm.{FarmState, farm_step, verdict_of, AdArrives, BdArrives, UnlockArrives}
use Rattle.cop1.specs.Farm.{SetVrArrives}
use Rattle.cop1.specs.Names.{farm_mode_name, verdict_row}
use Rattle.listings.specs.RefusalLines.{frame_fault_line}
use Rattle.listings.specs.Listing.{Lines}
use Rattle.listings.specs.Text.{flag_number, line_end}

-- the flags after a frame, and FARM-B, at the end of its line
abbrev pub flags_text : FarmState → List ℕ
flags_text s = codes " l=" ++ (decimal (flag_number s.lockout)
    ++ (codes " w=" ++ (decimal (flag_number s.wait)
    ++ (codes " t=" ++ (decimal (flag_number s.retransmit)
    ++ (codes " b=" ++ (decimal s.farm_b ++ line_end)))))))

-- the receiver after a frame
abbrev pub state_text : FarmState → List ℕ
state_text s = farm_mode_name s.state ++ (codes " vr=" ++ (decimal s.vr ++ flags_text s))

-- the receiver after a frame; the buffer on board is free
abbrev pub after_body : FarmState → BodyView → FarmState
after_body s (Ad n segment) = farm_step s (AdArrives n true)
after_body s (Bd segment) = farm_step s BdArrives
after_body s (Bc Unlock) = farm_step s UnlockArrives
after_body s (Bc (SetVr x)) = farm_step s (SetVrArrives x)

-- what arrived, and what the receiver did with it
abbrev pub body_text : FarmState → BodyView → List ℕ
body_text s (Ad n segment) =
    codes "AD " ++ (decimal n
    ++ (codes " " ++ ((verdict_row (verdict_of s n true)).1 ++ codes " ")))
body_text s (Bd segment) = codes "BD "
body_text s (Bc Unlock) = codes "BC unlock "
body_text s (Bc (SetVr x)) = codes "BC set " ++ (decimal x ++ codes " ")

abbrev pub frame_line : FarmState → ℕ → Result FrameView TcFault → List ℕ
frame_line s i (Ok f) =
    decimal i ++ (codes " " ++ (body_text s f.body ++ state_text (after_body s f.body)))
frame_line s i (Err e) = frame_fault_line i e

abbrev pub after_frame : FarmState → Result FrameView TcFault → FarmState
after_frame s (Ok f) = after_body s f.body
after_frame s (Err e) = s

-- the line of a record, and the receiver after it
abbrev pub farm_line : Check → FarmState → ℕ → List ℕ → List ℕ
farm_line check s i octets = frame_line s i (frame_at check octets)

abbrev pub after_record : Check → FarmState → List ℕ → FarmState
after_record check s octets = after_frame s (frame_at check octets)

-- what is written for frames
abbrev pub farm_lines : Check → Lines FarmState TcFault
farm_lines check = record {
  line_of = farm_line check;
  after = after_record check;
  is_good = λ octets. is_ok (frame_at check octets);
  fault_line = frame_fault_line;
}
