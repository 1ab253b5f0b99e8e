-- What an encoder has written after lines, and which line it could not read.
use Rattle.std.proofs.Common.{◌≡◌, ◌+◌, ◌++◌, ℕ, Bool, List, [], ◌∷◌, Option, Some, None, cond, refl, ap}
use Rattle.std.specs.Prelude.{is_some}
use Rattle.std.specs.Option.{unwrap_or}
use Rattle.tc_frame.specs.declared.frame.Check.{Check}
use Rattle.streams.specs.Player.{answers, after_lines}
use Rattle.encode_lines.specs.declared.encoder.Encoder.{Encoder}
use Rattle.encode_lines.specs.Octets.{line_octets, octets_of_lines, unreadable_after, and_then, or_number, encoding}

abbrev encoder : Bool → Check → ℕ → Option ℕ → Encoder
encoder skips check n refused = record { skips = skips; check = check; lines = n; refused = refused }

-- nothing is written after an unreadable line, and that line stays the first one
none_written : (skips : Bool) (check : Check) (n i : ℕ) (lines : List (List ℕ))
    → answers encoding (encoder skips check n (Some i)) lines ≡ []
none_written skips check n i [] = refl
none_written skips check n i (line ∷ lines) = none_written skips check (n + 1) i lines

stays : (skips : Bool) (check : Check) (n i : ℕ) (lines : List (List ℕ))
    → (after_lines encoding (encoder skips check n (Some i)) lines).refused ≡ Some i
stays skips check n i [] = refl
stays skips check n i (line ∷ lines) = stays skips check (n + 1) i lines

written_case : (skips : Bool) (check : Check) (n : ℕ) (lines : List (List ℕ)) (octets : Option (List ℕ))
    → (answers encoding (encoder skips check (n + 1) None) lines ≡ octets_of_lines skips check lines)
    → unwrap_or octets []
    ++ answers encoding (encoder skips check (n + 1) (cond (is_some octets) None (Some (n + 1)))) lines
    ≡ and_then octets (octets_of_lines skips check lines)
written_case skips check n lines None more = none_written skips check (n + 1) (n + 1) lines
written_case skips check n lines (Some octets) more = ap (λ (t : List ℕ). octets ++ t) more

pub written : (skips : Bool) (check : Check) (n : ℕ) (lines : List (List ℕ))
    → answers encoding (encoder skips check n None) lines ≡ octets_of_lines skips check lines
written skips check n [] = refl
written skips check n (line ∷ lines) =
    written_case skips check n lines (line_octets skips check line) (written skips check (n + 1) lines)

refused_case : (skips : Bool) (check : Check) (n : ℕ) (lines : List (List ℕ)) (octets : Option (List ℕ))
    → ((after_lines encoding (encoder skips check (n + 1) None) lines).refused
    ≡ unreadable_after skips check (n + 1) lines)
    → (after_lines encoding (encoder skips check (n + 1) (cond (is_some octets) None (Some (n + 1)))) lines).refused
    ≡ or_number octets (n + 1) (unreadable_after skips check (n + 1) lines)
refused_case skips check n lines None more = stays skips check (n + 1) (n + 1) lines
refused_case skips check n lines (Some octets) more = more

pub refused : (skips : Bool) (check : Check) (n : ℕ) (lines : List (List ℕ))
    → (after_lines encoding (encoder skips check n None) lines).refused ≡ unreadable_after skips check n lines
refused skips check n [] = refl
refused skips check n (line ∷ lines) =
    refused_case skips check n lines (line_octets skips check line) (refused skips check (n + 1) lines)
