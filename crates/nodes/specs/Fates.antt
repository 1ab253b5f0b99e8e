-- The progress of a session's submissions. The submissions are numbered from 0, in order. A
-- submission is whole once its last segment is done.
use Rattle.std.specs.Prelude.{ℕ, zero, suc, ◌+◌, ◌-◌, ◌%◌, ◌^◌, List, [], ◌∷◌, ◌++◌, length}
use Rattle.std.specs.Prelude.{Bool, true, false, not, ◌&&◌, if◌then◌else◌, Option, None, Some}
use Rattle.cop1.specs.Alerts.{shows_broken}
use Rattle.cop1.specs.declared.vocabulary.Alert.{Alert}
use Rattle.cop1.specs.declared.vocabulary.Directive.{Directive}
use Rattle.cop1.specs.declared.vocabulary.Directive.TheVariants.{SetVs}
use Rattle.cop1.specs.FopDirective.{is_initiation}

-- How many segments each submission lacks after one more segment is done. The oldest submission
-- lacks one less, and leaves the list with its last segment.
abbrev pub without_one : List ℕ → List ℕ
without_one [] = []
without_one (suc (suc n) ∷ ns) = suc n ∷ ns
without_one (n ∷ ns) = ns

-- how many each lacks after k more segments are done
abbrev pub left_after : ℕ → List ℕ → List ℕ
left_after zero left = left
left_after (suc k) left = left_after k (without_one left)

-- how many of the submissions, counted from the oldest, are whole after k more segments
abbrev pub whole_within : ℕ → List ℕ → ℕ
whole_within k left = length left - length (left_after k left)

-- the submissions of a session
pub record Fates : Type 0 where
  -- how many submissions are acknowledged whole, modulo 2^64
  pub acknowledged : ℕ
  -- for each other submission, how many of its segments are not acknowledged, the oldest first
  pub left : List ℕ
  -- V(S) and NN(R) are those of the session, and what a CLCW shows relative to them is true. A
  -- session has begun, and since then no directive has set V(S) and no alert has shown a broken
  -- condition.
  pub kept : Bool

abbrev pub fates_of : ℕ → List ℕ → Bool → Fates
fates_of acknowledged left kept = record { acknowledged = acknowledged; left = left; kept = kept }

-- counting starts again from 0, when a session begins or V(S) is set
abbrev pub new_fates : Bool → Fates
new_fates kept = fates_of 0 [] kept

-- after a submission of this many segments is accepted
abbrev pub with_submission : ℕ → Fates → Fates
with_submission segments f = record f { left = f.left ++ segments ∷ [] }

-- how many submissions are whole with k segments beyond the acknowledged ones, modulo 2^64
abbrev pub whole_with : ℕ → Fates → ℕ
whole_with k f = (f.acknowledged + whole_within k f.left) % 2 ^ 64

-- after k more segments are acknowledged
abbrev pub after_acknowledging : ℕ → Fates → Fates
after_acknowledging k f =
    record f { acknowledged = whole_with k f; left = left_after k f.left }

-- there is an alert, and it shows a broken condition
abbrev pub shows_one : Option Alert → Bool
shows_one None = false
shows_one (Some alert) = shows_broken alert

-- after a CLCW with this alert, or none; if it shows a broken condition, nothing is known any more
abbrev pub beside_alert : Option Alert → Fates → Fates
beside_alert alert f = record f { kept = not (shows_one alert) && f.kept }

-- `Some false` for a directive that sets V(S), and None for any other
abbrev pub number_set : Directive → Option Bool
number_set (SetVs x) = Some false
number_set _ = None

-- whether V(S) and NN(R) are a session's after a directive; None if the directive leaves the counts
abbrev pub kept_after : Directive → Option Bool
kept_after directive = if is_initiation directive then Some true else number_set directive

abbrev pub counted_from : Option Bool → Fates → Fates
counted_from None f = f
counted_from (Some kept) f = new_fates kept

abbrev pub after_obeying : Fates → Directive → Fates
after_obeying f directive = counted_from (kept_after directive) f

-- the number of the session's submissions, modulo 2^64
abbrev pub submitted : Fates → ℕ
submitted f = (f.acknowledged + length f.left) % 2 ^ 64
