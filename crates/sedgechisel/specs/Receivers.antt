-- The receiver as C keeps it.
use Rattle.std.specs.Prelude.{ℕ, ◌%◌, Bool, true, false, not, ◌&&◌, ◌==◌, nat_lt, nat_le}
use Rattle.std.specs.Prelude.{if◌then◌else◌, Result, Ok, Err}
use Rattle.clcw.specs.declared.word.Clcw.{Clcw}
use Rattle.cop1.specs.declared.farm.FarmMode.{FarmMode}
use Rattle.cop1.specs.declared.farm.FarmMode.TheVariants.{Open, Wait, Lockout}
use Rattle.cop1.specs.declared.farm.Verdict.{Verdict}
use Rattle.cop1.specs.Farm.{FarmState, FarmEvent, state_of, farm_step, new_farm}
use Rattle.cop1.specs.Names.{verdict_row}
use Rattle.cop1.specs.Report.{report_of}
use Rattle.octets.specs.Outcome.{map_ok}
use Rattle.sedgechisel.specs.declared.receiver.Receiver.{Receiver}
use Rattle.sedgechisel.specs.Answers.{damaged, IsWritten}

abbrev pub flag_number : Bool → ℕ
flag_number true = 1
flag_number false = 0

-- the width is even, 2 to 254
abbrev pub is_width : ℕ → Bool
is_width width = nat_le 2 width && nat_le width 254 && (width % 2 == 0)

-- each flag is 0 or 1, the wait flag comes with the retransmit flag, and FARM-B is below 4
abbrev pub are_flags_whole : Receiver → Bool
are_flags_whole r =
    nat_lt r.lockout 2 && nat_lt r.wait 2 && nat_lt r.retransmit 2 && nat_lt r.farm_b 4
    && nat_le r.wait r.retransmit

-- these are fields of a receiver
abbrev pub is_whole : Receiver → Bool
is_whole r = is_width r.width && are_flags_whole r

abbrev pub farm_of : Receiver → FarmState
farm_of r = record {
  width = r.width;
  state = state_of (r.lockout == 1) (r.wait == 1);
  vr = r.vr;
  lockout = r.lockout == 1;
  wait = r.wait == 1;
  retransmit = r.retransmit == 1;
  farm_b = r.farm_b;
}

-- the fields that describe a receiver
abbrev pub receiver_of : FarmState → Receiver
receiver_of s = record {
  width = s.width;
  vr = s.vr;
  lockout = flag_number s.lockout;
  wait = flag_number s.wait;
  retransmit = flag_number s.retransmit;
  farm_b = s.farm_b;
}

-- the receiver that the fields describe
abbrev pub farm_described : Receiver → Result FarmState ℕ
farm_described r = if is_whole r then Ok (farm_of r) else Err damaged

-- a new receiver, if the width is valid; otherwise 1 Width
abbrev pub farm_opened : ℕ → ℕ → Result FarmState ℕ
farm_opened width vr = if is_width width then Ok (new_farm width vr) else Err 1

-- the receiver that the fields describe, after an event
abbrev pub farm_stepped : Receiver → FarmEvent → Result FarmState ℕ
farm_stepped r event = map_ok (λ s. farm_step s event) (farm_described r)

-- the return value of a call, and what it leaves in the struct, when an event came to the receiver
abbrev pub IsStepped : FarmEvent → Receiver → Receiver → ℕ → Type 0
IsStepped event old new number = IsWritten receiver_of (farm_stepped old event) old new number

-- the receiver's CLCW for a virtual channel; 5 Range if the channel is 64 or more
abbrev pub farm_report : Receiver → ℕ → Result Clcw ℕ
farm_report r vcid =
    if not (is_whole r) then Err damaged
    else if nat_lt vcid 64 then Ok (report_of (farm_of r) vcid)
    else Err 5

-- the number of an answer, or of the fault if there is none
abbrev pub answer_of : {A : Type 0} → (A → ℕ) → Result A ℕ → ℕ
answer_of number (Ok x) = number x
answer_of number (Err fault) = fault

abbrev pub verdict_number : Verdict → ℕ
verdict_number verdict = (verdict_row verdict).0

abbrev pub mode_number : FarmMode → ℕ
mode_number mode = elim mode [ Open ↦ 0 | Wait ↦ 1 | Lockout ↦ 2 ]
