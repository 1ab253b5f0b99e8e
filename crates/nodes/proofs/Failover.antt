-- A ground that is opened with the record of another continues as the other would.
use Rattle.std.proofs.Common.{◌≡◌, ◌≤◌, ℕ, List, take, refl, ap, sym, ◌∙◌, arith}
use Rattle.std.proofs.Common.{Option, None, Some}
use Rattle.std.specs.Prelude.{Ok, option_map, ◌==◌, nat_lt, if◌then◌else◌}
use Rattle.std.proofs.lemmas.Bool.{cond_both, ltb-false}
use Rattle.cop1.specs.Accepted.{accepted_beyond}
use Rattle.cop1.specs.FopDirective.{terminate_in}
use Rattle.cop1.specs.FopVariables.{IsActive}
use Rattle.std.proofs.Common.{subst}
use Rattle.cop1.specs.Modulo.{ahead_by}
use Rattle.cop1.specs.Units.{IsFop}
use Rattle.cop1.specs.declared.vocabulary.Directive.TheVariants.{Terminate}
use Rattle.cop1.specs.declared.vocabulary.FopMode.{FopMode}
use Rattle.cop1.specs.declared.vocabulary.FopMode.TheVariants.{S6}
use Rattle.nodes.specs.Fates.{Fates, whole_with, whole_within, fates_of}
use Rattle.nodes.specs.Ground.{GroundState, known_on_board, sent_beyond, ground_step, Resume, directive_outcome}
use Rattle.nodes.specs.Ground.{known_at_end, resumed_from}
use Rattle.nodes.specs.KeptGround.{whole_sent}
use Rattle.nodes.specs.Failover.{failed_over, terminated, emptied, IsGround, begun_at, EachGoesOn}
use Rattle.nodes.proofs.Kept.{front_is, whole_first}

answer_as : (s t : GroundState) (value : ℕ) (o : Option ℕ)
    → (resumed_from s value o).answer ≡ (resumed_from t value o).answer
answer_as s t value None = refl
answer_as s t value (Some whole) = refl

module _ (s : GroundState) where
  abbrev k : ℕ
  k = sent_beyond s

  -- the bookkeeping of the opened ground
  account : (failed_over s).fates ≡ record s.fates { left = take (whole_sent s) s.fates.left }
  account = ap (λ (xs : List ℕ). fates_of s.fates.acknowledged xs s.fates.kept) (front_is s)

  -- it counts as the original ground does, for up to the number of sent segments
  counts : (j : ℕ) → j ≤ k → whole_with j (failed_over s).fates ≡ whole_with j s.fates
  counts j le = omega (arith, ap (whole_within j) (front_is s), whole_first j k s.fates.left le)

  known_with : (value : ℕ) (o : Option ℕ) → o ≡ accepted_beyond s.fop.nn s.fop.vs value
      → option_map (λ j. whole_with j (failed_over s).fates) o ≡ option_map (λ j. whole_with j s.fates) o
  known_with value None is = refl
  known_with value (Some j) is = ap Some (counts j (most value j is)) where
    most : (value j : ℕ) → Some j ≡ accepted_beyond s.fop.nn s.fop.vs value → j ≤ k
    most value j =
        cond_both (s.fop.vs == s.fop.nn) (Some 0) _ (λ (o : Option ℕ). Some j ≡ o → j ≤ k)
        (λ t is. let none : j ≡ 0 = cc is in omega (arith, none))
        (λ f. cond_both (nat_lt k (ahead_by value s.fop.nn)) None _ (λ (o : Option ℕ). Some j ≡ o → j ≤ k)
        (λ t is. absurd (cc is))
        (λ f is. let same : j ≡ ahead_by value s.fop.nn = cc is in
        omega (arith, same, ltb-false k (ahead_by value s.fop.nn) f)))

  known_as : (value : ℕ) → known_on_board (failed_over s) value ≡ known_on_board s value
  known_as value =
      ap (λ (o : Option ℕ). if s.fates.kept then o else None)
      (known_with value (accepted_beyond s.fop.nn s.fop.vs value) refl)

  -- ---- Terminate

  abbrev ended_by : FopMode → GroundState
  ended_by m = (directive_outcome s Terminate (terminate_in s.fop m)).after

  known_ended : (m : FopMode) (value : ℕ) → s.fop.state ≡ m
      → known_at_end (ended_by m) value ≡ known_on_board s value
  known_ended S6 value is = rw is refl
  known_ended _ value is = refl

  resumes_as : (value : ℕ) → (ground_step (failed_over s) (Resume value)).answer
      ≡ (ground_step (terminated s) (Resume value)).answer
  resumes_as value =
      answer_as (failed_over s) (terminated s) value (known_at_end (failed_over s) value)
      ∙ ap (λ (o : Option ℕ). (resumed_from (terminated s) value o).answer)
      (known_as value ∙ sym (known_ended s.fop.state value refl))

  begins_so : (value whole : ℕ) (o : Option ℕ) → (resumed_from (failed_over s) value o).answer ≡ Ok whole
      → (resumed_from (failed_over s) value o).after ≡ begun_at s.config value
  begins_so value whole (Some more) is = refl
  begins_so value whole None is = absurd (cc is)

  ended_is : IsGround s → (m : FopMode) → s.fop.state ≡ m → failed_over s ≡ emptied (ended_by m)
  ended_is g S6 is =
      let f : IsFop s.fop = g.fop in
      ap (λ (fates : Fates). record (failed_over s) { fates = fates }) account
      ∙ rw (
        is,
        g.room,
        f.unsubmitted is,
        f.unsent (λ on. subst IsActive is on),
        f.untimed is,
        f.commanded (λ five. absurd (cc (is, five))),
        g.pending (rw is refl),
      ) refl
  ended_is g _ is =
      ap (λ (fates : Fates). record (failed_over s) { fates = fates }) account ∙ rw (g.room) refl

pub each_goes_on : EachGoesOn
each_goes_on s = record {
  is = λ g. ended_is s g s.fop.state refl;
  sent = counts s (sent_beyond s) (omega arith);
  acknowledged = counts s 0 (omega arith);
  known = known_as s;
  resumes = resumes_as s;
  begins = λ value whole. begins_so s value whole (known_at_end (failed_over s) value);
}
