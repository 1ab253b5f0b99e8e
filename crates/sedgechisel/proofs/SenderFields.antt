-- The fields that are kept of a sender describe that sender again, and fields that no sender has describe none.
use Rattle.std.proofs.Common.{◌≡◌, ◌≤◌, ◌<◌, ℕ, Bool, true, false, Option, Some, None, Ok, Err, refl}
use Rattle.std.proofs.Common.{arith}
use Rattle.std.specs.Prelude.{IfSome, if◌then◌else◌}
use Rattle.std.proofs.lemmas.Bool.{and_from, and_parts}
use Rattle.std.proofs.lemmas.Grind.{common_steps}
use Rattle.tc_frame.specs.declared.frame.Command.TheVariants.{Unlock, SetVr}
use Rattle.cop1.specs.declared.vocabulary.Control.{Control}
use Rattle.cop1.specs.declared.vocabulary.Control.TheVariants.{Idle, Due, Sent}
use Rattle.cop1.specs.declared.vocabulary.FopMode.{FopMode}
use Rattle.cop1.specs.declared.vocabulary.FopMode.TheVariants.{S1}
use Rattle.cop1.specs.declared.sender.SenderFields.{SenderFields}
use Rattle.cop1.specs.Numbers.{IsSender, HasRanges, AgreesWithState, SenderNumbers}
use Rattle.cop1.specs.SenderFields.{numbers_of}
use Rattle.sedgechisel.specs.declared.sender.KeptSender.{KeptSender}
use Rattle.sedgechisel.specs.Answers.{damaged}
use Rattle.sedgechisel.specs.Receivers.{flag_number}
use Rattle.sedgechisel.specs.Senders.{mode_number, ticks_number, control_number, control_vr, kept_of, mode_at, ticks_at}
use Rattle.sedgechisel.specs.Senders.{control_at, flag_at, fields_with, fields_described, has_ranges, agrees_in}
use Rattle.sedgechisel.specs.Senders.{is_sender}
use Rattle.sedgechisel.specs.Senders.{sender_described}

-- ---- each field is written again

mode_again : (m : FopMode) → mode_at (mode_number m) ≡ Some m
mode_again S1 = refl
mode_again _ = refl

flag_again : (b : Bool) → flag_at (flag_number b) ≡ Some b
flag_again true = refl
flag_again false = refl

control_again : (c : Control) → control_at (control_number c) (control_vr c) ≡ Some c
control_again Idle = refl
control_again (Due Unlock) = refl
control_again (Sent Unlock) = refl
control_again (Due (SetVr vr)) = refl
control_again (Sent (SetVr vr)) = refl

ticks_again : (t : Option ℕ) → IfSome t (λ left. 1 ≤ left) → ticks_at (ticks_number t) ≡ t
ticks_again None h = refl
ticks_again (Some left) h = grind arith

-- ---- the ranges

ranges_hold : (s : SenderNumbers) → HasRanges s → has_ranges s ≡ true
ranges_hold s h = grind (arith, common_steps, h)

-- ---- what the state requires of the other numbers

agreement_holds : (s : SenderNumbers) (m : FopMode) → AgreesWithState s → s.state ≡ m → agrees_in s m ≡ true
agreement_holds s S1 h is = grind (arith, common_steps, is, h)
agreement_holds s _ h is = grind (arith, common_steps, is, h)

is_sure : (s : SenderNumbers) → IsSender s → is_sender s ≡ true
is_sure s h = and_from _ _ (ranges_hold s h.ranges) (agreement_holds s s.state h.agrees refl)

fields_again : (s : SenderNumbers) → IfSome s.ticks (λ left. 1 ≤ left) → fields_described (kept_of s) ≡ Ok s
fields_again s h =
    rw (mode_again s.state, flag_again s.waiting, control_again s.control, ticks_again s.ticks h) refl

pub described_again : (s : SenderNumbers) → IsSender s → sender_described (kept_of s) ≡ Ok s
described_again s h = rw (fields_again s h.ranges.ticks, is_sure s h) refl

pub kept_describes : (k : KeptSender) (s : SenderNumbers) → k ≡ kept_of s → IsSender s → sender_described k ≡ Ok s
kept_describes k s is h = rw is (described_again s h)

pub described_some : (k : KeptSender) (f : SenderFields) → fields_described k ≡ Ok (numbers_of f)
    → IsSender (numbers_of f) → sender_described k ≡ Ok (numbers_of f)
described_some k f is h = rw (is, is_sure (numbers_of f) h) refl

-- ---- fields that no sender has

ranges_are : (s : SenderNumbers) → s.vs < 256 → s.nn < 256 → IfSome s.ticks (λ left. 1 ≤ left) → has_ranges s ≡ true
    → HasRanges s
ranges_are s vs nn ticks h = grind (arith, vs, nn, ticks, h)

agreement_is : (s : SenderNumbers) (m : FopMode) → s.state ≡ m → agrees_in s m ≡ true → AgreesWithState s
agreement_is s S1 is h = grind (arith, common_steps, is, h)
agreement_is s _ is h = grind (arith, common_steps, is, h)

sender_is : (s : SenderNumbers) → s.vs < 256 → s.nn < 256 → IfSome s.ticks (λ left. 1 ≤ left) → is_sender s ≡ true
    → IsSender s
sender_is s vs nn ticks h =
    let parts = and_parts _ _ h in
    record { ranges = ranges_are s vs nn ticks parts.0; agrees = agreement_is s s.state refl parts.1 }

if_err : (b : Bool) (s : SenderNumbers) → (b ≡ true → ⊥) → (if b then Ok s else Err damaged) ≡ Err damaged
if_err true s h = absurd (h refl)
if_err false s h = refl

same_ticks : (k : KeptSender) (m : Option FopMode) (f : Option Bool) (c : Option Control) (s : SenderNumbers)
    → fields_with k m f c ≡ Ok s → s.ticks ≡ ticks_at k.ticks
same_ticks k (Some m) (Some f) (Some c) s h = grind arith
same_ticks k _ _ _ s h = absurd cc

ticks_run : (n : ℕ) → IfSome (ticks_at n) (λ left. 1 ≤ left)
ticks_run n = grind arith

pub described_none : (k : KeptSender) (f : SenderFields) → f.vs < 256 → f.nn < 256
    → fields_described k ≡ Ok (numbers_of f) → (IsSender (numbers_of f) → ⊥)
    → sender_described k ≡ Err damaged
described_none k f vs nn is h =
    let s : SenderNumbers = numbers_of f in
    let ticks : IfSome s.ticks (λ left. 1 ≤ left) = rw (same_ticks k _ _ _ s is) (ticks_run k.ticks) in
    rw is (if_err (is_sender s) s (λ (sure : is_sender s ≡ true). h (sender_is s vs nn ticks sure)))
