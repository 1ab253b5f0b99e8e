-- What arrives is delivered as it becomes ready: segments in order, and whole packets.
use Rattle.std.proofs.Common.{◌≡◌, ◌++◌, ℕ, true, false, not, List, [], ◌∷◌, length, take, drop, Result, Ok, Err, refl}
use Rattle.std.proofs.Common.{ap, ◌∙◌, ◌≢◌, sym}
use Rattle.std.proofs.Common.{append-nil, inl, inr}
use Rattle.std.specs.Prelude.{nat_lt, ◌==◌}
use Rattle.std.proofs.lemmas.Bool.{cond_both, ltb-false, eqb-true, cases_eq, eq-eqb, ne_eqb}
use Rattle.octets.specs.Records.{records_of}
use Rattle.space_packet.specs.declared.fault.PacketFault.{PacketFault}
use Rattle.space_packet.specs.Decoding.{extent_at}
use Rattle.tc_frame.specs.Layout.{SegmentView}
use Rattle.map_service.specs.declared.limits.Limits.{Limits}
use Rattle.map_service.specs.Assembly.{assembled, open_part}
use Rattle.map_service.specs.AssemblerTable.{take_step}
use Rattle.map_service.proofs.Groups.{packets-split}
use Rattle.map_service.proofs.Handed.{AreWhole, lone_whole, each_whole}
use Rattle.tm_link.specs.declared.frame.Pointer.{Pointer}
use Rattle.tm_link.specs.declared.frame.Pointer.TheVariants.{At, NoStart, OnlyIdle}
use Rattle.tm_link.specs.Extractor.{ExtractorState, ending_by, ending_of, finished_by, completed_packet, gap_of}
use Rattle.tm_link.specs.Extractor.{part_over_gap, finished_packets, is_idle, without_idle, extract_step}
use Rattle.tm_link.specs.Layout as telemetry
use Rattle.nodes.specs.Parameters.{limits_of}
use Rattle.nodes.specs.Packets.{put_on_map}
use Rattle.nodes.specs.Spacecraft.{SpacecraftState, after_farm, assemble_step}
use Rattle.nodes.proofs.Arrivals.{octets_come}
use Rattle.nodes.specs.Delivery.{packets_of_map, delivered_on, HasDelivered, DeliversWhatItReceives}

-- A telemetry frame finishes only octets that are exactly one packet each.

pub whole_append : (xs ys : List (List ℕ)) → AreWhole xs → AreWhole ys → AreWhole (xs ++ ys)
whole_append [] ys h k = k
whole_append (x ∷ xs) ys h k = (h.0, whole_append xs ys h.1 k)

whole_one : (octets : List ℕ) → nat_lt (length octets) 6 ≡ false → (n : ℕ) → extent_at (take 6 octets) ≡ Ok n
    → n == length octets ≡ true → AreWhole (octets ∷ [])
whole_one octets long n e same =
    (lone_whole octets (record { has_head = ltb-false _ _ long; extent_is = e ∙ ap Ok (eqb-true _ _ same) }, tt), tt)

by_extent : (octets : List ℕ) → nat_lt (length octets) 6 ≡ false → (r : Result ℕ PacketFault)
    → extent_at (take 6 octets) ≡ r → AreWhole (finished_by octets (ending_by r (length octets)))
by_extent octets long (Err e) is = tt
by_extent octets long (Ok n) is =
    cond_both (n == length octets) _ _ (λ ending. AreWhole (finished_by octets ending))
    (λ same. whole_one octets long n is same)
    (λ other. cond_both (nat_lt (length octets) n) _ _ (λ ending. AreWhole (finished_by octets ending))
    (λ t. tt) (λ t. tt))

finished_whole : (octets : List ℕ) → AreWhole (finished_by octets (ending_of octets))
finished_whole octets =
    cond_both (nat_lt (length octets) 6) _ _ (λ ending. AreWhole (finished_by octets ending)) (λ t. tt)
    (λ long. by_extent octets long (extent_at (take 6 octets)) refl)

completed_whole : (part octets : List ℕ) → AreWhole (completed_packet part octets)
completed_whole part octets =
    cond_both (length part == 0) [] _ AreWhole (λ t. tt) (λ t. finished_whole (part ++ octets))

all_whole : (part : List ℕ) (p : Pointer) (payload : List ℕ) → AreWhole (finished_packets part p payload)
all_whole part OnlyIdle payload = tt
all_whole part NoStart payload = completed_whole part payload
all_whole part (At p) payload =
    whole_append (completed_packet part (take p payload)) (records_of 6 extent_at (drop p payload))
    (completed_whole part (take p payload))
    (each_whole (records_of 6 extent_at (drop p payload)) (packets-split (drop p payload)).each)

kept_whole : (packets : List (List ℕ)) → AreWhole packets → AreWhole (without_idle packets)
kept_whole [] h = tt
kept_whole (p ∷ ps) h =
    cond_both (not (is_idle p)) (p ∷ without_idle ps) (without_idle ps) AreWhole (λ t. (h.0, kept_whole ps h.1))
    (λ t. kept_whole ps h.1)

pub extracted_whole : (s : ExtractorState) (f : telemetry.FrameView) → AreWhole (extract_step s f).packets
extracted_whole s f =
    let part : List ℕ = part_over_gap (gap_of s.last f.vc_count) s.part in
    kept_whole (finished_packets part f.pointer f.payload) (all_whole part f.pointer f.payload)

-- What is received is delivered as it becomes ready.

of_its_map : (m : ℕ) (packets : List (List ℕ)) → packets_of_map m (put_on_map m packets) ≡ packets
of_its_map m [] = refl
of_its_map m (p ∷ ps) = rw (eq-eqb m m refl) (ap (λ (qs : List (List ℕ)). p ∷ qs) (of_its_map m ps))

of_another_map : (k m : ℕ) (packets : List (List ℕ)) → (m ≡ k → ⊥) → packets_of_map k (put_on_map m packets) ≡ []
of_another_map k m [] apart = refl
of_another_map k m (p ∷ ps) apart = rw (ne_eqb m k apart) (of_another_map k m ps apart)

-- if nothing becomes ready and nothing is accepted
same_delivered : (old new : SpacecraftState) → new.config ≡ old.config → new.accepted ≡ old.accepted
    → new.ready ≡ old.ready → HasDelivered old new
same_delivered old new config accepted ready = record {
  more = [];
  ready = ready ∙ sym (append-nil old.ready);
  delivered = λ m. rw (config, accepted) (sym (append-nil (delivered_on m old)));
}

module _
    (adds : (limits : Limits) (segments : List SegmentView) (s : SegmentView)
    → assembled limits s.header.map (segments ++ s ∷ [])
    ≡ assembled limits s.header.map segments ++ (take_step limits (open_part limits s.header.map segments) s).packets)
    (keeps : (limits : Limits) (segments : List SegmentView) (s : SegmentView) (m : ℕ) → m ≢ s.header.map
    → assembled limits m (segments ++ s ∷ []) ≡ assembled limits m segments)
  where
    adds_delivered : (s : SpacecraftState) (segment : SegmentView) (m : ℕ)
        → assembled (limits_of s.config) m (s.accepted ++ segment ∷ []) ≡ delivered_on m s
        ++ packets_of_map m (put_on_map segment.header.map (assemble_step s segment).packets)
    adds_delivered s segment m =
        elim (cases_eq m segment.header.map) [
          | inl same ↦ rw (same, of_its_map segment.header.map (assemble_step s segment).packets)
              (adds (limits_of s.config) s.accepted segment)
          | inr apart ↦ rw (of_another_map m segment.header.map (assemble_step s segment).packets (λ e. apart (sym e)))
              (keeps (limits_of s.config) s.accepted segment m apart ∙ sym (append-nil (delivered_on m s)))
        ]

    pub delivers : DeliversWhatItReceives
    delivers s octets = octets_come s (λ accepted new. HasDelivered s new) (record {
      same = same_delivered s s refl refl refl;
      steps = λ e. same_delivered s (after_farm s e) refl refl refl;
      keeps = λ packet. same_delivered s _ refl refl refl;
      accepts = λ n segment. record {
        more = put_on_map segment.header.map (assemble_step s segment).packets;
        ready = refl;
        delivered = adds_delivered s segment;
      };
    }) octets
