-- What was read is written again from its fields and from its data in their place.
use Rattle.std.proofs.Common.{◌≡◌, ℕ, zero, suc, ◌-◌, Bool, List, [], ◌∷◌, ◌++◌, length, take, drop, Result, Ok, Err}
use Rattle.std.proofs.Common.{refl, sym, ap, ◌∙◌, arith}
use Rattle.std.proofs.lemmas.List.{take-append-drop, append-nil, append_assoc, drop-drop}
use Rattle.std.proofs.Math.Seq.{take-append_seam}
use Rattle.octets.specs.Number.{IsOctets}
use Rattle.octets.specs.Outcome.{map_ok}
use Rattle.tc_frame.specs.declared.frame.SegmentFlags.{SegmentFlags}
use Rattle.tc_frame.specs.declared.frame.SegmentFlags.TheVariants.{First}
use Rattle.tc_frame.specs.declared.frame.Command.TheVariants.{Unlock, SetVr}
use Rattle.tc_frame.specs.Layout as tc
use Rattle.tc_frame.specs.Layout.{BodyView, Ad, Bd, Bc, body_octets, check_length}
use Rattle.tc_frame.specs.Decoding.{frame_with}
use Rattle.tc_frame.specs.Decoding as tc_reading
use Rattle.tc_frame.specs.Splitter.{check_if}
use Rattle.tc_frame.specs.Faults as tc_faults
use Rattle.tc_frame.specs.declared.frame.Check.{Check}
use Rattle.tc_frame.specs.declared.frame.TcFrame.{TcFrame}
use Rattle.tc_frame.specs.declared.fault.TcFault.{TcFault}
use Rattle.tc_frame.proofs.Spelled as tc_frames
use Rattle.tm_link.specs.Layout as tm
use Rattle.tm_link.specs.Decoding as tm_reading
use Rattle.tm_link.specs.Faults as tm_faults
use Rattle.tm_link.specs.declared.frame.TmFrame.{TmFrame}
use Rattle.tm_link.specs.declared.fault.TmFault.{TmFault}
use Rattle.tm_link.proofs.Spelled as tm_frames
use Rattle.sedgechisel.specs.declared.command_frame.CommandFrame.{CommandFrame}
use Rattle.sedgechisel.specs.declared.telemetry_frame.TelemetryFrame.{TelemetryFrame}
use Rattle.sedgechisel.specs.declared.part.Part.{Part}
use Rattle.sedgechisel.specs.Answers.{numbered}
use Rattle.sedgechisel.specs.CommandFrames as commands
use Rattle.sedgechisel.specs.CommandFrames.{fields_with, part_with}
use Rattle.sedgechisel.specs.TelemetryFrames as telemetry

-- the answer of a crate is Ok
read_ok : {A F : Type 0} (row : F → ℕ × List ℕ) (r : Result A F) (x : A) → numbered row r ≡ Ok x → r ≡ Ok x
read_ok row (Ok y) x h = cc
read_ok row (Err e) x h = absurd cc

-- a beginning of what follows from place k on, before place n
none_again : (p r xs : List ℕ) → [] ≡ p ++ r → take (length p) xs ≡ p
none_again [] r xs h = refl
none_again (x ∷ p) r xs h = absurd cc

begins_with : (p r s xs : List ℕ) → xs ≡ (p ++ r) ++ s → take (length p) xs ≡ p
begins_with p r s xs h = ap (take (length p)) (h ∙ append_assoc p r s) ∙ take-append_seam p (r ++ s)

front_again : (k n : ℕ) (b p r : List ℕ) → drop k (take n b) ≡ p ++ r → take (length p) (drop k b) ≡ p
front_again zero n b p r h =
    begins_with p r (drop n b) b (sym (take-append-drop n b) ∙ ap (λ (t : List ℕ). t ++ drop n b) h)
front_again (suc k) zero b p r h = none_again p r (drop (suc k) b) h
front_again (suc k) (suc n) [] p r h = none_again p r [] h
front_again (suc k) (suc n) (x ∷ b) p r h = front_again k n b p r h

-- ---- telecommand frames

-- the data of a Type-D frame
payload_again : (n : ℕ) (b p : List ℕ) (x y : ℕ) → drop 4 (take n b) ≡ x ∷ y ∷ p → take (length p) (drop 6 b) ≡ p
payload_again n b p x y h = front_again 6 n b p [] (sym (drop-drop 2 4 (take n b)) ∙ ap (drop 2) h ∙ sym (append-nil p))

ad_again : (scid vcid n map : ℕ) (flags : SegmentFlags) (p : List ℕ)
    → commands.frame_described (fields_with scid vcid
    (Ad n (record { header = record { flags = flags; map = map }; payload = p }))) p
    ≡ Ok (frame_with scid vcid (Ad n (record { header = record { flags = flags; map = map }; payload = p })))
ad_again scid vcid n map First p = refl
ad_again scid vcid n map _ p = refl

bd_again : (scid vcid map : ℕ) (flags : SegmentFlags) (p : List ℕ)
    → commands.frame_described (fields_with scid vcid
    (Bd (record { header = record { flags = flags; map = map }; payload = p }))) p
    ≡ Ok (frame_with scid vcid (Bd (record { header = record { flags = flags; map = map }; payload = p })))
bd_again scid vcid map First p = refl
bd_again scid vcid map _ p = refl

body_again : (scid vcid n : ℕ) (b : List ℕ) (body : BodyView) → drop 4 (take n b) ≡ body_octets body
    → commands.frame_described (fields_with scid vcid body) (take (part_with body).count (drop (part_with body).from b))
    ≡ Ok (frame_with scid vcid body)
body_again scid vcid n b (Ad m s) h =
    ap (commands.frame_described (fields_with scid vcid (Ad m s))) (payload_again n b s.payload _ _ h)
    ∙ ad_again scid vcid m s.header.map s.header.flags s.payload
body_again scid vcid n b (Bd s) h =
    ap (commands.frame_described (fields_with scid vcid (Bd s))) (payload_again n b s.payload _ _ h)
    ∙ bd_again scid vcid s.header.map s.header.flags s.payload
body_again scid vcid n b (Bc Unlock) h = refl
body_again scid vcid n b (Bc (SetVr x)) h = refl

pub command_again : (checked : Bool) (b : List ℕ) (view : tc.FrameView) → IsOctets b
    → commands.frame_read checked b ≡ Ok view
    → commands.frame_described (commands.fields_of view)
    (take (commands.part_of view).count (drop (commands.part_of view).from b)) ≡ Ok view
command_again checked b view octets h =
    let is = tc_frames.frame_is (check_if checked) b view octets (read_ok tc_faults.fault_row _ view h) in
    body_again view.scid view.vcid (length b - check_length (check_if checked)) b view.body is.rest

found_describes : (checked : Bool) (b : List ℕ) (found : tc.FrameView) → IsOctets b
    → commands.frame_read checked b ≡ Ok found
    → commands.DescribesFrame checked b (commands.fields_of found) (commands.part_of found)
found_describes checked b found octets h view k =
    let same : found ≡ view = cc in rw (← same) (command_again checked b found octets h)

pub command_describes : (checked : Bool) (check : Check) (b : List ℕ) (r : Result TcFrame TcFault) (f : TcFrame)
    (fields : CommandFrame) (part : Part)
    → IsOctets b → check ≡ check_if checked → map_ok tc.frame_view r ≡ tc_reading.frame_at check b → r ≡ Ok f
    → fields ≡ commands.fields_of (tc.frame_view f) → part ≡ commands.part_of (tc.frame_view f)
    → commands.DescribesFrame checked b fields part
command_describes checked check b r f fields part octets on answer is same there =
    let read : commands.frame_read checked b ≡ Ok (tc.frame_view f) =
    rw (← on, ← answer, is) refl in
    rw (same, there) (found_describes checked b (tc.frame_view f) octets read)

-- ---- telemetry frames

found_reports : (total : ℕ) (b : List ℕ) (found : tm.FrameView) → IsOctets b → telemetry.frame_read total b ≡ Ok found
    → telemetry.DescribesFrame total b (telemetry.fields_of found) (telemetry.part_of found)
found_reports total b found octets h view k =
    let is = tm_frames.frame_is total b found octets (read_ok tm_faults.fault_row _ found h) in
    let again = tm_frames.pointer_again found.pointer (total - 12) (omega (arith, is.most)) is.pointer in
    let part : take (length found.payload) (drop 6 b) ≡ found.payload =
    front_again 6 (total - 2) b found.payload found.ocf is.rest in
    let same : found ≡ view = cc in
    rw (part, again.again) same

pub report_describes : (total : ℕ) (b : List ℕ) (r : Result TmFrame TmFault) (f : TmFrame) (fields : TelemetryFrame)
    → IsOctets b → map_ok tm.frame_view r ≡ tm_reading.frame_at total b → r ≡ Ok f
    → fields ≡ telemetry.fields_of (tm.frame_view f)
    → telemetry.DescribesFrame total b fields (telemetry.part_of (tm.frame_view f))
report_describes total b r f fields octets answer is same =
    let read : telemetry.frame_read total b ≡ Ok (tm.frame_view f) =
    ap (numbered tm_faults.fault_row) (sym answer ∙ ap (map_ok tm.frame_view) is) in
    rw same (found_reports total b (tm.frame_view f) octets read)

-- the fields and the data of a frame describe it
pub fields_again : (total : ℕ) (view : tm.FrameView) (b : List ℕ) → tm.IsTmFrame total view b
    → telemetry.frame_described (telemetry.fields_of view) view.payload ≡ view
fields_again total view b is =
    let again = tm_frames.pointer_again view.pointer (total - 12) (omega (arith, is.most)) is.pointer in
    rw (again.again) refl
