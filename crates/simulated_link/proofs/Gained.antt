-- The segment to be accepted on board is accepted, and its packets follow those delivered on its MAP.
use Rattle.simulated_link.proofs.Common.{◌≡◌, refl, sym, ap, ◌∙◌, map, option_map, ℕ, List, [], ◌++◌, option_to_list}
use Rattle.simulated_link.proofs.Common.{Option, Some, None, append-nil, map-append, SegmentView, segment_octets}
use Rattle.simulated_link.proofs.Common.{SpacecraftState, spacecraft_receive, limits_of, segment_to_accept, ◌≤◌, ◌∷◌}
use Rattle.simulated_link.proofs.Common.{length, take, drop, arith, length-append, inl, inr, cases_eq, eq-eqb, ne_eqb}
use Rattle.simulated_link.proofs.Common.{take-append-drop, take-append-le, drop-append-le, Limits, assembled}
use Rattle.simulated_link.proofs.Common.{assembled_begins, assembled-push, assembled-other, Config, acceptance_with}
use Rattle.simulated_link.proofs.Common.{packets_accepted_on}
use Rattle.nodes.proofs.Arrivals.{octets_come}

-- The segment to be accepted is the one that is accepted.

-- the accepted segments after octets arrive
pub accepts_segment : (s : SpacecraftState) (octets : List ℕ)
    → (spacecraft_receive s octets).after.accepted ≡ s.accepted ++ option_to_list (segment_to_accept s octets)
accepts_segment s = octets_come s (λ o t. t.accepted ≡ s.accepted ++ option_to_list o) (record {
  same = sym (append-nil s.accepted);
  steps = λ e. sym (append-nil s.accepted);
  keeps = λ packet. sym (append-nil s.accepted);
  accepts = λ n u. refl;
})

of_option : (x : Option SegmentView)
    → option_to_list (option_map segment_octets x) ≡ map segment_octets (option_to_list x)
of_option None = refl
of_option (Some segment) = refl

-- so its data field is appended to those that were accepted
pub field_behind : (s : SpacecraftState) (octets : List ℕ) (fields : List (List ℕ)) (field : Option (List ℕ))
    → fields ≡ map segment_octets s.accepted → field ≡ option_map segment_octets (segment_to_accept s octets)
    → fields ++ option_to_list field ≡ map segment_octets (spacecraft_receive s octets).after.accepted
field_behind s octets fields field before field_is =
    rw (before, field_is, of_option (segment_to_accept s octets), accepts_segment s octets) (sym (map-append _ _ _))

-- The packets of an accepted segment follow those that the session delivered on its MAP.

-- the configuration does not change
pub config_stays : (s : SpacecraftState) (octets : List ℕ) → (spacecraft_receive s octets).after.config ≡ s.config
config_stays s = octets_come s (λ o t. t.config ≡ s.config) assumption

-- ---- what is delivered

-- on MAP m, if `before` segments had been accepted when the session began
abbrev pub delivered_by : Config → ℕ → ℕ → List SegmentView → List (List ℕ)
delivered_by c m before segments =
    drop (length (assembled (limits_of c) m (take before segments))) (assembled (limits_of c) m segments)

adds : (s : SpacecraftState) (segment : SegmentView) (m : ℕ)
    → assembled (limits_of s.config) m (s.accepted ++ segment ∷ []) ≡ assembled (limits_of s.config) m s.accepted
    ++ packets_accepted_on m (Some (acceptance_with s segment))
adds s segment m =
    elim (cases_eq m segment.header.map) [
      | inl same ↦ rw (same, eq-eqb segment.header.map segment.header.map refl)
          (assembled-push (limits_of s.config) s.accepted segment _ refl)
      | inr apart ↦ rw (ne_eqb segment.header.map m (λ e. apart (sym e)))
          (assembled-other (limits_of s.config) s.accepted segment m apart
          ∙ sym (append-nil (assembled (limits_of s.config) m s.accepted)))
    ]

begins : (limits : Limits) (m before : ℕ) (segments : List SegmentView)
    → length (assembled limits m (take before segments)) ≤ length (assembled limits m segments)
begins limits m before segments =
    let more = assembled_begins limits m (take before segments) (drop before segments) in
    let all : assembled limits m segments ≡ assembled limits m (take before segments) ++ more.0 =
    ap (assembled limits m) (sym (take-append-drop before segments)) ∙ more.1 in
    omega (arith, ap length all, length-append (assembled limits m (take before segments)) more.0)

with_one : (s : SpacecraftState) (m before : ℕ) (o : Option SegmentView) → before ≤ length s.accepted
    → delivered_by s.config m before (s.accepted ++ option_to_list o) ≡ delivered_by s.config m before s.accepted
    ++ packets_accepted_on m (option_map (acceptance_with s) o)
with_one s m before None le =
    ap (delivered_by s.config m before) (append-nil s.accepted)
    ∙ sym (append-nil (delivered_by s.config m before s.accepted))
with_one s m before (Some segment) le =
    ap (λ (xs : List SegmentView). drop (length (assembled (limits_of s.config) m xs))
    (assembled (limits_of s.config) m (s.accepted ++ segment ∷ [])))
    (take-append-le before s.accepted (segment ∷ []) le)
    ∙ ap (drop (length (assembled (limits_of s.config) m (take before s.accepted)))) (adds s segment m)
    ∙ drop-append-le (length (assembled (limits_of s.config) m (take before s.accepted)))
    (assembled (limits_of s.config) m s.accepted) (packets_accepted_on m (Some (acceptance_with s segment)))
    (begins (limits_of s.config) m before s.accepted)

-- when octets arrive
pub gained : (s : SpacecraftState) (octets : List ℕ) (m before : ℕ) → before ≤ length s.accepted
    → delivered_by (spacecraft_receive s octets).after.config m before (spacecraft_receive s octets).after.accepted
    ≡ delivered_by s.config m before s.accepted
    ++ packets_accepted_on m (option_map (acceptance_with s) (segment_to_accept s octets))
gained s octets m before le =
    ap (λ (c : Config). delivered_by c m before (spacecraft_receive s octets).after.accepted)
    (config_stays s octets)
    ∙ ap (delivered_by s.config m before) (accepts_segment s octets)
    ∙ with_one s m before (segment_to_accept s octets) le
