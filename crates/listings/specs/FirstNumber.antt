-- A receiver that begins at the first number that arrives.
use Rattle.std.specs.Prelude.{ℕ, Bool, true, false, List, Option, Some, None, Result, Ok, Err}
use Rattle.tc_frame.specs.declared.frame.Check.{Check}
use Rattle.tc_frame.specs.declared.frame.Command.TheVariants.{Unlock, SetVr}
use Rattle.tc_frame.specs.declared.fault.TcFault.{TcFault}
use Rattle.tc_frame.specs.Layout.{BodyView, Ad, Bd, Bc, FrameView}
use Rattle.tc_frame.specs.Decoding.{frame_at}
use Rattle.cop1.specs.Farm.{FarmState}
use Rattle.listings.specs.Listing.{Lines}

-- the number at which a receiver begins: N(S) of a Type-AD frame, or the value of a Set V(R)
abbrev pub number_of_body : BodyView → Option ℕ
number_of_body (Ad n segment) = Some n
number_of_body (Bd segment) = None
number_of_body (Bc Unlock) = None
number_of_body (Bc (SetVr x)) = Some x

abbrev pub number_in : Result FrameView TcFault → Option ℕ
number_in (Ok f) = number_of_body f.body
number_in (Err e) = None

-- a receiver that expects this number
abbrev pub farm_begun : FarmState → ℕ → FarmState
farm_begun s vr = record s { vr = vr }

-- what a listing keeps, and whether its receiver has not received a number yet
pub record Awaiting (S : Type 0) : Type 0 where
  pub awaits : Bool
  pub kept : S

module _ {S : Type 0} (begun : S → ℕ → S) where
  -- a receiver that awaits a number begins at the first one
  abbrev pub heard_by : Bool → S → Option ℕ → Awaiting S
  heard_by true s (Some n) = record { awaits = false; kept = begun s n }
  heard_by true s None = record { awaits = true; kept = s }
  heard_by false s number = record { awaits = false; kept = s }

  -- and so does the receiver of a listing, at a record
  abbrev pub heard : Check → Awaiting S → List ℕ → Awaiting S
  heard check x r = heard_by x.awaits x.kept (number_in (frame_at check r))

  -- what is written for frames if the receiver may begin at the first number
  abbrev pub from_first : {F : Type 0} → Check → Lines S F → Lines (Awaiting S) F
  from_first check lines = record {
    line_of = λ x i r. lines.line_of (heard check x r).kept i r;
    after = λ x r. record (heard check x r) { kept = lines.after (heard check x r).kept r };
    is_good = lines.is_good;
    fault_line = lines.fault_line;
  }
