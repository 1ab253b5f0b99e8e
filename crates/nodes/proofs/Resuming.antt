-- A resumption is refused, or a session begins and the progress of the last session is known.
use Rattle.std.proofs.Common.{◌≡◌, true, false, ℕ, Option, Some, None, Result, refl, ap}
use Rattle.std.proofs.lemmas.Bool.{cond_both}
use Rattle.std.specs.Prelude.{Ok, Err, is_some}
use Rattle.nodes.specs.declared.fault.LinkFault.{LinkFault}
use Rattle.nodes.specs.declared.fault.LinkFault.TheVariants.{NotKnown}
use Rattle.nodes.specs.Ground.{GroundState, GroundOutcome, after_resuming, can_resume, known_at_end, ground_resume}
use Rattle.nodes.specs.Ground.{resumed_from, known_on_board, is_closed}

module _ (s : GroundState) (value : ℕ) (P : GroundOutcome (Result ℕ LinkFault) → Type 0) where
  resumed_by : (o : Option ℕ) → known_at_end s value ≡ o
      → ((whole : ℕ) → known_at_end s value ≡ Some whole → can_resume s value ≡ true
      → P (record { answer = Ok whole; after = after_resuming s value }))
      → (can_resume s value ≡ false → P (record { answer = Err NotKnown; after = s })) → P (resumed_from s value o)
  resumed_by (Some whole) is each refused = each whole is (ap is_some is)
  resumed_by None is each refused = refused (ap is_some is)

  pub resumed_or : ((whole : ℕ) → known_at_end s value ≡ Some whole → can_resume s value ≡ true
      → P (record { answer = Ok whole; after = after_resuming s value }))
      → (can_resume s value ≡ false → P (record { answer = Err NotKnown; after = s })) → P (ground_resume s value)
  resumed_or = resumed_by (known_at_end s value) refl

-- if the resumption is not refused
pub resumed_known : (s : GroundState) (value : ℕ) → can_resume s value ≡ true
    → (whole : ℕ) × (known_at_end s value ≡ Some whole)
    × (ground_resume s value ≡ record { answer = Ok whole; after = after_resuming s value })
resumed_known s value can = known (known_at_end s value) refl where
  known : (o : Option ℕ) → known_at_end s value ≡ o
      → (whole : ℕ) × (known_at_end s value ≡ Some whole)
      × (ground_resume s value ≡ record { answer = Ok whole; after = after_resuming s value })
  known (Some whole) is = (whole, is, ap (resumed_from s value) is)
  known None is = absurd (cc (can, ap is_some is))

-- the progress is known only in S6
pub known_off : (s : GroundState) (value more : ℕ) → known_at_end s value ≡ Some more
    → is_closed s.fop.state ≡ true
known_off s value more =
    cond_both (is_closed s.fop.state) _ None (λ (o : Option ℕ). o ≡ Some more → is_closed s.fop.state ≡ true)
    (λ off known. off) (λ on known. absurd (cc known))

-- in any state, it is known only while `kept` is true
pub known_kept : (s : GroundState) (value more : ℕ) → known_on_board s value ≡ Some more → s.fates.kept ≡ true
known_kept s value more =
    cond_both s.fates.kept _ _ (λ (o : Option ℕ). o ≡ Some more → s.fates.kept ≡ true) (λ kept known. kept)
    (λ none known. absurd (cc known))
