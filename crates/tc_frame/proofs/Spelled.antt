-- Data fields and bodies are read exactly as they are spelled.
use Rattle.std.proofs.Common.{◌≡◌, ◌<◌, ◌≤◌, ℕ, zero, suc, ◌+◌, ◌*◌, ◌/◌, ◌%◌, Bool, true, false}
use Rattle.std.proofs.Common.{not, eqb, List, [], ◌∷◌, length, get_or, Ok, refl, ap, subst, ◌∙◌}
use Rattle.std.proofs.Common.{arith, ◌-◌, cond, ltb, take, drop, Result, Err, sym, ◌++◌}
use Rattle.std.proofs.Common.{length-append}
use Rattle.std.specs.Prelude.{◌&&◌, ◌==◌, IsTrue, ◌||◌, IfOk}
use Rattle.std.proofs.lemmas.Bool.{and_from, eqb-true, ltb-true, lt-ltb, and_parts, eqb-false}
use Rattle.std.proofs.lemmas.Bool.{eq-eqb, ne_eqb, ltb-false, le-ltb, or_parts}
use Rattle.octets.proofs.Streams.{passed, ended, mapped, is_zero, ok_is, equal_from, flag_from}
use Rattle.octets.proofs.Streams.{le_true}
use Rattle.octets.specs.Outcome.{map_ok}
use Rattle.tc_frame.specs.declared.frame.SegmentFlags.{SegmentFlags}
use Rattle.tc_frame.specs.declared.frame.SegmentFlags.TheVariants.{First, Continuing, Last, Alone}
use Rattle.tc_frame.specs.declared.frame.Command.{Command}
use Rattle.tc_frame.specs.declared.frame.Command.TheVariants.{Unlock, SetVr}
use Rattle.tc_frame.specs.declared.fault.TcFault.TheVariants as faults
use Rattle.tc_frame.specs.Layout.{SegmentView, BodyView, Ad, Bd, Bc, flags_code, segment_octets}
use Rattle.tc_frame.specs.Layout.{command_octets, body_octets, bypass_flag, control_flag}
use Rattle.tc_frame.specs.Layout.{segment_fits, body_fits, FrameView, frame_view, check_length}
use Rattle.tc_frame.specs.Layout.{HoldsCheckIfOn, IsTcFrame, before_check}
use Rattle.tc_frame.specs.Decoding.{flags_at, segment_at, command_at, body_at, least_total}
use Rattle.tc_frame.specs.Decoding.{is_check_wrong, frame_with, frame_at}
use Rattle.std.proofs.lemmas.List.{length-take, length-drop, take_all, take_at}
use Rattle.octets.specs.Number.{number_of}
use Rattle.octets.proofs.Checked.{two_below, cut_fits, cut_next, drop_fits, holds_check}
use Rattle.tc_frame.specs.declared.frame.Check.{Check}
use Rattle.tc_frame.specs.declared.frame.Check.TheVariants.{On, Off}
use Rattle.tc_frame.specs.declared.frame.TcFrame.{TcFrame}
use Rattle.tc_frame.specs.declared.fault.TcFault.{TcFault}
use Rattle.tc_frame.specs.Laws.{body_long}
use Rattle.byteorder.specs.Endian.{big_bytes}
use Rattle.octets.specs.Check.{check_of}
use Rattle.tc_frame.specs.Encoding.{total_of, first_number, second_number, front_octets, spelling}
use Rattle.tc_frame.specs.Encoding.{frame_fits}

-- ---- segments

flags_back : (code : ℕ) → code < 4 → flags_code (flags_at code) ≡ code
flags_back zero lt = refl
flags_back (suc zero) lt = refl
flags_back (suc (suc zero)) lt = refl
flags_back (suc (suc (suc zero))) lt = refl
flags_back (suc (suc (suc (suc n)))) lt = absurd (omega arith)

flags_again : (flags : SegmentFlags) → (flags_at (flags_code flags) ≡ flags) × (flags_code flags < 4)
flags_again Continuing = (refl, omega arith)
flags_again First = (refl, omega arith)
flags_again Last = (refl, omega arith)
flags_again Alone = (refl, omega arith)

segment_is : (field : List ℕ) (s : SegmentView) → get_or field 0 0 < 256 → segment_at field ≡ Ok s
    → (field ≡ segment_octets s) × IsTrue (segment_fits s)
unfolding segment_at
segment_is [] s octet h = absurd cc
segment_is (header ∷ []) s octet h = absurd cc
segment_is (header ∷ x ∷ xs) s octet h =
    let made : SegmentView =
    record { header = record { flags = flags_at (header / 64); map = header % 64 }; payload = x ∷ xs } in
    let spelled : header ≡ 64 * flags_code (flags_at (header / 64)) + header % 64 =
    omega (arith, flags_back (header / 64) (omega arith)) in
    let low : IsTrue (segment_fits made) =
    and_from _ _ (lt-ltb (header % 64) 64 (omega arith)) (lt-ltb 0 (length (x ∷ xs)) (omega arith)) in
    subst (λ (v : SegmentView). (header ∷ x ∷ xs ≡ segment_octets v) × IsTrue (segment_fits v)) (ok_is made s h)
    (ap (λ (o : ℕ). o ∷ x ∷ xs) spelled, low)

segment_parts_again : (flags : SegmentFlags) (map : ℕ) (payload : List ℕ) → map < 64 → 0 < length payload
    → segment_at ((64 * flags_code flags + map) ∷ payload)
    ≡ Ok (record { header = record { flags = flags; map = map }; payload = payload })
unfolding segment_at
segment_parts_again flags map [] low some = absurd (omega arith)
segment_parts_again flags map (x ∷ xs) low some =
    let again = flags_again flags in
    let code : (64 * flags_code flags + map) / 64 ≡ flags_code flags = omega arith in
    let rest : (64 * flags_code flags + map) % 64 ≡ map = omega arith in
    rw (code, rest, again.0) refl

segment_again : (s : SegmentView) → IsTrue (segment_fits s) → segment_at (segment_octets s) ≡ Ok s
segment_again s fits =
    let both = and_parts _ _ fits in
    segment_parts_again s.header.flags s.header.map s.payload (ltb-true _ _ both.0) (ltb-true _ _ both.1)

-- ---- commands

command_is : (field : List ℕ) (c : Command) → command_at field ≡ Ok c → field ≡ command_octets c
unfolding command_at
command_is [] c h = absurd cc
command_is (a ∷ []) c h =
    let met = ended (eqb a 0) faults.Command Unlock c h in
    let a-is : a ≡ 0 = eqb-true a 0 met.0 in
    subst (λ (k : Command). a ∷ [] ≡ command_octets k) met.1 (rw a-is refl)
command_is (a ∷ b ∷ []) c h = absurd cc
command_is (a ∷ b ∷ x ∷ []) c h =
    let met = ended (eqb a 0x82 && eqb b 0) faults.Command (SetVr x) c h in
    let both = and_parts (eqb a 0x82) (eqb b 0) met.0 in
    let a-is : a ≡ 0x82 = eqb-true a 0x82 both.0 in
    let b-is : b ≡ 0 = eqb-true b 0 both.1 in
    subst (λ (k : Command). a ∷ b ∷ x ∷ [] ≡ command_octets k) met.1 (rw (a-is, b-is) refl)
command_is (a ∷ b ∷ x ∷ y ∷ octets) c h = absurd cc

command_again : (c : Command) → command_at (command_octets c) ≡ Ok c
unfolding command_at
command_again Unlock = refl
command_again (SetVr x) = refl

-- ---- bodies

-- the flags, the number and the data field are those of the body
pub record IsBody (bypass control : Bool) (n : ℕ) (field : List ℕ) (body : BodyView) : Type 0 where
  pub octets : n ∷ field ≡ body_octets body
  pub fits : IsTrue (body_fits body)
  pub bypass_is : bypass ≡ (bypass_flag body == 1)
  pub control_is : control ≡ (control_flag body == 1)

pub body_is : (bypass control : Bool) (n : ℕ) (field : List ℕ) (body : BodyView) → not bypass && control ≡ false
    → get_or field 0 0 < 256
    → body_at bypass control n field ≡ Ok body → IsBody bypass control n field body
unfolding body_at
body_is false false n field body kind octet h =
    let read = mapped (Ad n) (segment_at field) body h in
    let s = segment_is field read.0 octet read.1 in
    subst (IsBody false false n field) read.2
    (record { octets = ap (λ (o : List ℕ). n ∷ o) s.0; fits = s.1; bypass_is = refl; control_is = refl })
body_is false true n field body kind octet h = absurd cc
body_is true true n field body kind octet h =
    let zeroed = passed (not (eqb n 0)) faults.BypassNumber (map_ok Bc (command_at field)) body h in
    let read = mapped Bc (command_at field) body zeroed.1 in
    let spelled : n ∷ field ≡ 0 ∷ command_octets read.0 =
    ap (λ (k : ℕ). k ∷ field) (is_zero n zeroed.0) ∙ ap (λ (o : List ℕ). 0 ∷ o) (command_is field read.0 read.1) in
    subst (IsBody true true n field) read.2
    (record { octets = spelled; fits = refl; bypass_is = refl; control_is = refl })
body_is true false n field body kind octet h =
    let zeroed = passed (not (eqb n 0)) faults.BypassNumber (map_ok Bd (segment_at field)) body h in
    let read = mapped Bd (segment_at field) body zeroed.1 in
    let s = segment_is field read.0 octet read.1 in
    let spelled : n ∷ field ≡ 0 ∷ segment_octets read.0 =
    ap (λ (k : ℕ). k ∷ field) (is_zero n zeroed.0) ∙ ap (λ (o : List ℕ). 0 ∷ o) s.0 in
    subst (IsBody true false n field) read.2
    (record { octets = spelled; fits = s.1; bypass_is = refl; control_is = refl })

pub body_again : (n : ℕ) (field : List ℕ) (body : BodyView) → n ∷ field ≡ body_octets body → IsTrue (body_fits body)
    → body_at (bypass_flag body == 1) (control_flag body == 1) n field ≡ Ok body
unfolding body_at
body_again n field (Ad m s) octets fits =
    let n-is : n ≡ m = cc in
    let field-is : field ≡ segment_octets s = cc in
    rw (n-is, field-is, segment_again s fits) refl
body_again n field (Bd s) octets fits =
    let n-is : n ≡ 0 = cc in
    let field-is : field ≡ segment_octets s = cc in
    rw (n-is, field-is, segment_again s fits) refl
body_again n field (Bc c) octets fits =
    let n-is : n ≡ 0 = cc in
    let field-is : field ≡ command_octets c = cc in
    rw (n-is, field-is, command_again c) refl

-- the flags are bits, and there is no control without bypass
pub flags_below : (body : BodyView) → (bypass_flag body ≤ 1) × (control_flag body ≤ bypass_flag body)
flags_below (Ad n s) = (omega arith, omega arith)
flags_below (Bd s) = (omega arith, omega arith)
flags_below (Bc c) = (omega arith, omega arith)

-- Frames are read exactly as they are spelled.

-- ---- the header's first number

-- from the flags that were read, if version and spare are 00
first_is : (first : ℕ) (body : BodyView) → first / 16384 ≡ 0 → first / 1024 % 4 ≡ 0
    → eqb (first / 8192 % 2) 1 ≡ eqb (bypass_flag body) 1 → eqb (first / 4096 % 2) 1 ≡ eqb (control_flag body) 1
    → first ≡ 8192 * bypass_flag body + 4096 * control_flag body + first % 1024
first_is first body version spare b c =
    let flags = flags_below body in
    let bypass : first / 8192 % 2 ≡ bypass_flag body =
    flag_from (first / 8192 % 2) (omega arith) (bypass_flag body) (omega arith) b in
    let control : first / 4096 % 2 ≡ control_flag body =
    flag_from (first / 4096 % 2) (omega arith) (control_flag body) (omega arith) c in
    omega arith

-- a type that is not reserved
type_from : (bypass control both : ℕ) → bypass < 2 → control < 2 → both ≡ 2 * bypass + control → eqb both 1 ≡ false
    → not (eqb bypass 1) && eqb control 1 ≡ false
type_from zero zero both p q e h = refl
type_from zero (suc zero) both p q e h = absurd (eqb-false both 1 h (omega arith))
type_from zero (suc (suc n)) both p q e h = absurd (omega arith)
type_from (suc zero) control both p q e h = refl
type_from (suc (suc n)) control both p q e h = absurd (omega arith)

-- ---- the check

check_right : (check : Check) (b : List ℕ) → HoldsCheckIfOn check b → is_check_wrong check b ≡ false
check_right On b h = ap not (eq-eqb _ _ h.same)
check_right Off b h = refl

check_from : (check : Check) (b : List ℕ) → 2 ≤ length b → is_check_wrong check b ≡ false → HoldsCheckIfOn check b
check_from On b long h = record { long = long; same = equal_from _ _ h }
check_from Off b long h = tt

-- ---- the frame

pub frame_is : (check : Check) (b : List ℕ) (f : FrameView) → ((i : ℕ) → get_or b i 0 < 256) → frame_at check b ≡ Ok f
    → IsTcFrame check f b
unfolding frame_at
frame_is check b f octets h =
    let first : ℕ = number_of (take 2 b) in
    let second : ℕ = number_of (take 2 (drop 2 b)) in
    let bypass : Bool = first / 8192 % 2 == 1 in
    let control : Bool = first / 4096 % 2 == 1 in
    let front : ℕ = length b - check_length check in
    let field : List ℕ = drop 5 (take front b) in
    let body : Result BodyView TcFault = body_at bypass control (get_or b 4 0) field in
    let make : BodyView → FrameView = frame_with (first % 1024) (second / 1024) in
    let after_check : Result FrameView TcFault = map_ok make body in
    let after_length : Result FrameView TcFault = cond (is_check_wrong check b) (Err faults.Check) after_check in
    let after_spare : Result FrameView TcFault =
    cond (not (second % 1024 + 1 == length b) || ltb (length b) (least_total check)) (Err faults.Length)
    after_length in
    let after_type : Result FrameView TcFault = cond (not (first / 1024 % 4 == 0)) (Err faults.Spare) after_spare in
    let after_version : Result FrameView TcFault = cond (first / 4096 % 4 == 1) (Err faults.ReservedType) after_type in
    let after_short : Result FrameView TcFault = cond (not (first / 16384 == 0)) (Err faults.Version) after_version in
    let short = passed (ltb (length b) 5) faults.Short after_short f h in
    let version = passed (not (first / 16384 == 0)) faults.Version after_version f short.1 in
    let type = passed (first / 4096 % 4 == 1) faults.ReservedType after_type f version.1 in
    let spare = passed (not (first / 1024 % 4 == 0)) faults.Spare after_spare f type.1 in
    let sizes = passed (not (second % 1024 + 1 == length b) || ltb (length b) (least_total check)) faults.Length
    after_length f spare.1 in
    let checked = passed (is_check_wrong check b) faults.Check after_check f sizes.1 in
    let read = mapped make body f checked.1 in
    let long : 5 ≤ length b = ltb-false _ _ short.0 in
    let both = or_parts _ _ sizes.0 in
    let total : second % 1024 + 1 ≡ length b = equal_from _ _ both.0 in
    let least : least_total check ≤ length b = ltb-false _ _ both.1 in
    let known : not bypass && control ≡ false =
    type_from (first / 8192 % 2) (first / 4096 % 2) (first / 4096 % 4) (omega arith) (omega arith) (omega arith)
    type.0 in
    let whole = body_is bypass control (get_or b 4 0) field read.0 known (cut_fits b front 5 octets) read.1 in
    subst (λ (g : FrameView). IsTcFrame check g b) {x = make read.0} read.2 (record {
      first = first_is first read.0 (equal_from _ _ version.0) (equal_from _ _ spare.0) whole.bypass_is
          whole.control_is;
      second = omega arith;
      rest = ◌∙◌ {c = body_octets read.0} (cut_next b front 4 (omega arith) (omega arith)) whole.octets;
      checked = check_from check b (omega arith) checked.0;
      scid = omega arith;
      vcid = omega (arith, two_below (drop 2 b) (drop_fits b 2 octets));
      fits = whole.fits;
      total = omega arith;
    })

pub frame_again : (check : Check) (b : List ℕ) (f : FrameView) → IsTcFrame check f b → frame_at check b ≡ Ok f
unfolding frame_at
frame_again check b f h =
    let first : ℕ = number_of (take 2 b) in
    let second : ℕ = number_of (take 2 (drop 2 b)) in
    let front : ℕ = length b - check_length check in
    let flags = flags_below f.body in
    let long : 6 + check_length check ≤ length b =
    omega (arith, length-drop 4 (take front b), length-take front b, ap length h.rest, body_long f.body h.fits) in
    let short : ltb (length b) 5 ≡ false = le-ltb _ _ (omega arith) in
    let version : eqb (first / 16384) 0 ≡ true = eq-eqb _ _ (omega arith) in
    let type : eqb (first / 4096 % 4) 1 ≡ false = ne_eqb _ _ (λ e. omega arith) in
    let spare : eqb (first / 1024 % 4) 0 ≡ true = eq-eqb _ _ (omega arith) in
    let total : eqb (second % 1024 + 1) (length b) ≡ true = eq-eqb _ _ (omega arith) in
    let least : ltb (length b) (5 + check_length check) ≡ false = le-ltb _ _ (omega arith) in
    let checked : is_check_wrong check b ≡ false = check_right check b h.checked in
    let bypass : first / 8192 % 2 ≡ bypass_flag f.body = omega arith in
    let control : first / 4096 % 2 ≡ control_flag f.body = omega arith in
    let scid : first % 1024 ≡ f.scid = omega arith in
    let vcid : second / 1024 ≡ f.vcid = omega arith in
    let rest : get_or b 4 0 ∷ drop 5 (take front b) ≡ body_octets f.body =
    sym (cut_next b front 4 (omega arith) (omega arith)) ∙ h.rest in
    let body = body_again (get_or b 4 0) (drop 5 (take front b)) f.body rest h.fits in
    rw (short, version, type, spare, total, least, checked, bypass, control, body, scid, vcid) refl

-- what a decoder returned
pub is_found : (check : Check) (b : List ℕ) (r : Result TcFrame TcFault) → ((i : ℕ) → get_or b i 0 < 256)
    → map_ok frame_view r ≡ frame_at check b → IfOk r (λ f. IsTcFrame check (frame_view f) b)
is_found check b (Ok f) octets h = frame_is check b (frame_view f) octets (sym h)
is_found check b (Err e) octets h = tt

-- The spelling of a frame spells it.

length-spelling : (check : Check) (f : FrameView) → length (spelling check f) ≡ total_of check f
length-spelling On f = omega (arith, length-append (front_octets On f) (big_bytes 2 (check_of (front_octets On f))))
length-spelling Off f = omega arith

before_check-spelling : (check : Check) (f : FrameView) → before_check check (spelling check f) ≡ front_octets check f
before_check-spelling On f =
    let front : List ℕ = front_octets On f in
    let last : List ℕ = big_bytes 2 (check_of front) in
    take_at front last (length (spelling On f) - 2) (omega (arith, length-append front last))
before_check-spelling Off f = take_all (length (front_octets Off f) - 0) (front_octets Off f) (omega arith)

checked : (check : Check) (f : FrameView) → HoldsCheckIfOn check (spelling check f)
checked On f = holds_check (front_octets On f)
checked Off f = tt

first_again : (check : Check) (f : FrameView) → first_number f < 65536
    → number_of (take 2 (spelling check f)) ≡ first_number f
first_again On f lt = omega arith
first_again Off f lt = omega arith

second_again : (check : Check) (f : FrameView) → second_number check f < 65536
    → number_of (take 2 (drop 2 (spelling check f))) ≡ second_number check f
second_again On f lt = omega arith
second_again Off f lt = omega arith

pub spelling_is : (check : Check) (f : FrameView) → frame_fits check f ≡ true → IsTcFrame check f (spelling check f)
spelling_is check f fits =
    let total = and_parts _ _ fits in
    let body = and_parts _ _ total.0 in
    let header = and_parts _ _ body.0 in
    let scid : f.scid < 1024 = ltb-true _ _ header.0 in
    let vcid : f.vcid < 64 = ltb-true _ _ header.1 in
    let short : total_of check f ≤ 1024 = le_true _ _ total.1 in
    let flags = flags_below f.body in
    record {
      first = first_again check f (omega arith);
      second = omega (arith, second_again check f (omega arith), length-spelling check f);
      rest = ap (drop 4) (before_check-spelling check f);
      checked = checked check f;
      scid = scid;
      vcid = vcid;
      fits = body.1;
      total = omega (arith, length-spelling check f);
    }

-- what was written in front of other octets
pub written_is : (check : Check) (f : FrameView) (n : ℕ) (out rest : List ℕ) → frame_fits check f ≡ true
    → n ≡ total_of check f → out ≡ spelling check f → IsTcFrame check f (take n (out ++ rest))
written_is check f n out rest fits total is =
    let front : take n (out ++ rest) ≡ out = take_at out rest n (ap length is ∙ length-spelling check f ∙ sym total) in
    subst (IsTcFrame check f) (sym (front ∙ is)) (spelling_is check f fits)
