-- What is read from octets that arrive from anywhere: the numbers of control frames and of CLCWs are octets.
use Rattle.tc_link.proofs.Common.{◌<◌, ◌+◌, ◌-◌, ℕ, zero, suc, Bool, List, [], ◌∷◌, length, Result, Ok, Err, arith}
use Rattle.tc_link.proofs.Common.{cond_both, On, TcFault, TmFault, SegmentView, BodyView, Ad, Bd, Bc, Command, Unlock}
use Rattle.tc_link.proofs.Common.{SetVr, drop}
use Rattle.std.specs.Prelude.{IfOk, slice_index, not, ◌&&◌, ◌||◌, ◌==◌, nat_lt, ◌/◌, ◌%◌, take}
use Rattle.octets.specs.Number.{IsOctets, number_of}
use Rattle.octets.specs.Outcome.{map_ok}
use Rattle.octets.proofs.Checked.{take_fits, drop_fits}
use Rattle.tc_frame.specs.Layout.{FrameView, before_check}
use Rattle.tc_frame.specs.Decoding.{frame_at, body_at, command_at, segment_at, is_check_wrong, least_total, frame_with}
use Rattle.tm_link.specs.Layout as telemetry
use Rattle.tm_link.specs.Decoding as telemetry_reading
use Rattle.tm_link.specs.Decoding.{four_at}

abbrev pub IsOctetIn : Command → Type 0
IsOctetIn Unlock = Unit {0}
IsOctetIn (SetVr x) = x < 256

abbrev pub IsOctetBody : BodyView → Type 0
IsOctetBody (Bc command) = IsOctetIn command
IsOctetBody _ = Unit {0}

-- ---- on board

abbrev Fine : Result BodyView TcFault → Type 0
Fine r = IfOk r IsOctetBody

command_fine : (field : List ℕ) → IsOctets field → Fine (map_ok Bc (command_at field))
unfolding command_at
command_fine [] are = tt
command_fine (a ∷ []) are =
    cond_both (a == 0) _ _ (λ (r : Result Command TcFault). Fine (map_ok Bc r)) (λ t. tt) (λ t. tt)
command_fine (a ∷ b ∷ []) are = tt
command_fine (a ∷ b ∷ x ∷ []) are =
    cond_both ((a == 130) && (b == 0)) _ _ (λ (r : Result Command TcFault). Fine (map_ok Bc r)) (λ t. are 2) (λ t. tt)
command_fine (a ∷ b ∷ x ∷ y ∷ octets) are = tt

bypass_fine : (r : Result SegmentView TcFault) → Fine (map_ok Bd r)
bypass_fine (Ok s) = tt
bypass_fine (Err fault) = tt

sequence_fine : (n : ℕ) (r : Result SegmentView TcFault) → Fine (map_ok (Ad n) r)
sequence_fine n (Ok s) = tt
sequence_fine n (Err fault) = tt

body_fine : (bypass control : Bool) (n : ℕ) (field : List ℕ) → IsOctets field → Fine (body_at bypass control n field)
unfolding body_at
body_fine bypass control n field are =
    cond_both (bypass && not (n == 0)) _ _ Fine (λ t. tt)
    (λ t. cond_both control _ _ Fine (λ t. command_fine field are)
    (λ t. cond_both bypass _ _ Fine (λ t. bypass_fine (segment_at field)) (λ t. sequence_fine n (segment_at field))))

abbrev pub FineFrame : Result FrameView TcFault → Type 0
FineFrame r = IfOk r (λ f. IsOctetBody f.body)

with_body : (scid vcid : ℕ) (r : Result BodyView TcFault) → Fine r → FineFrame (map_ok (frame_with scid vcid) r)
with_body scid vcid (Ok body) fine = fine
with_body scid vcid (Err fault) fine = tt

pub frame_fine : (b : List ℕ) → IsOctets b → FineFrame (frame_at On b)
unfolding frame_at
frame_fine b are =
    let first : ℕ = number_of (take 2 b) in
    let second : ℕ = number_of (take 2 (drop 2 b)) in
    cond_both (nat_lt (length b) 5) _ _ FineFrame (λ t. tt)
    (λ t. cond_both (not (first / 16384 == 0)) _ _ FineFrame (λ t. tt)
    (λ t. cond_both (first / 4096 % 4 == 1) _ _ FineFrame (λ t. tt)
    (λ t. cond_both (not (first / 1024 % 4 == 0)) _ _ FineFrame (λ t. tt)
    (λ t. cond_both (not (second % 1024 + 1 == length b) || nat_lt (length b) (least_total On)) _ _ FineFrame (λ t. tt)
    (λ t. cond_both (is_check_wrong On b) _ _ FineFrame (λ t. tt)
    (λ t. with_body (first % 1024) (second / 1024) _
    (body_fine (first / 8192 % 2 == 1) (first / 4096 % 2 == 1) (slice_index b 4) (drop 5 (before_check On b))
    (drop_fits (before_check On b) 5 (take_fits b (length b - 2) are)))))))))

-- ---- on the ground

four_fine : (b : List ℕ) (k : ℕ) → IsOctets b → IsOctets (four_at b k)
four_fine b k are zero = are k
four_fine b k are (suc zero) = are (k + 1)
four_fine b k are (suc (suc zero)) = are (k + 2)
four_fine b k are (suc (suc (suc zero))) = are (k + 3)
four_fine b k are (suc (suc (suc (suc i)))) = omega arith

abbrev pub FineTelemetry : Result telemetry.FrameView TmFault → Type 0
FineTelemetry r = IfOk r (λ f. IsOctets f.ocf)

pub telemetry_fine : (total : ℕ) (b : List ℕ) → IsOctets b → FineTelemetry (telemetry_reading.frame_at total b)
unfolding telemetry_reading.frame_at
telemetry_fine total b are =
    let first : ℕ = number_of (take 2 b) in
    let status : ℕ = number_of (take 2 (drop 4 b)) in
    cond_both (telemetry_reading.is_length_wrong total (length b)) _ _ FineTelemetry (λ t. tt)
    (λ t. cond_both (not (first / 16384 == 0)) _ _ FineTelemetry (λ t. tt)
    (λ t. cond_both (telemetry_reading.is_check_wrong b) _ _ FineTelemetry (λ t. tt)
    (λ t. cond_both (not (status / 2048 == 3)) _ _ FineTelemetry (λ t. tt)
    (λ t. cond_both (telemetry_reading.is_pointer_outside (status % 2048) (total - 12)) _ _ FineTelemetry (λ t. tt)
    (λ t. cond_both (first % 2 == 0) _ _ FineTelemetry (λ t. tt) (λ t. four_fine b (total - 6) are))))))
