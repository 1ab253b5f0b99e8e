-- Packets that are queued, and the frames that carry them.
use Rattle.std.proofs.Common.{◌≡◌, ℕ, ◌+◌, ◌*◌, ◌%◌, ◌<◌, true, false, not, List, take, refl, sym, ap, ◌∙◌, arith, []}
use Rattle.std.proofs.Common.{◌∷◌, ◌++◌, length, subst, inl, inr, length-append, append_assoc}
use Rattle.std.proofs.lemmas.Bool.{and_parts, not-true}
use Rattle.octets.specs.Number.{number_of, IsOctets}
use Rattle.space_packet.specs.Layout.{PacketView, type_bit, secondary_bit, is_idle_apid, IsPacket}
use Rattle.space_packet.specs.Packets.{is_packet}
use Rattle.space_packet.proofs.WholePackets.{packet_from, is_packet-again}
use Rattle.tm_link.specs.Builder.{is_to_send, IsToSend, BuilderState, builder_with_counts, after_queue, idle_tail}
use Rattle.tm_link.specs.Builder.{held_by, IsCutAt, IsLaidOutBy}
use Rattle.tm_link.specs.Extractor.{is_idle, without_idle}
use Rattle.std.specs.List.{AllByRecursion, concat}
use Rattle.std.proofs.lemmas.List.{append-nil}
use Rattle.std.proofs.lemmas.List.Folds.{concat-append}
use Rattle.octets.specs.Records.{IsRecord}
use Rattle.space_packet.specs.Laws.{own_extent_of}
use Rattle.space_packet.specs.Decoding.{extent_at}
use Rattle.tm_link.specs.Layout.{FrameView}
use Rattle.tm_link.specs.Stream.{IsPointed, slice_of, carried_octets, IsLaidOut}
use Rattle.tm_link.proofs.Passed.{cut_more}
use Rattle.tm_link.proofs.Passed.{last_or_before, pointed_more, carried_octets-append, length-carried}
use Rattle.tm_link.proofs.Records.{without_idle-append}

-- What is queued is one packet, which is not idle.

apid_is : (p : PacketView) (octets : List ℕ) → IsPacket p octets → number_of (take 2 octets) % 2048 ≡ p.apid
apid_is p octets h =
    let first : number_of (take 2 octets) ≡ 4096 * type_bit p.kind + 2048 * secondary_bit p.secondary + p.apid =
    h.first in
    let low : p.apid < 2048 = h.apid in
    omega arith

pub to_send_is : (octets : List ℕ) → IsOctets octets → is_to_send octets ≡ true → (p : PacketView) × IsToSend p octets
to_send_is octets fits h =
    let both = and_parts (is_packet octets) (not (is_idle octets)) h in
    let packet = packet_from octets fits both.0 in
    let other : is_idle_apid packet.0.apid ≡ false =
    ap is_idle_apid (sym (apid_is packet.0 octets packet.1)) ∙ not-true (is_idle octets) both.1 in
    (packet.0, record { packet = packet.1; not_idle = other })

pub not_idle : (p : PacketView) (octets : List ℕ) → IsToSend p octets → is_idle octets ≡ false
not_idle p octets h = ap is_idle_apid (apid_is p octets h.packet) ∙ h.not_idle

pub to_send_again : (p : PacketView) (octets : List ℕ) → IsToSend p octets → is_to_send octets ≡ true
to_send_again p octets h = rw (is_packet-again octets (p, h.packet), not_idle p octets h) refl

-- Packets after the stream, and frames that continue it.

-- ---- a new builder

no_frame : {X : Type 0} (before after : List X) (f : X) → [] ≡ before ++ f ∷ after → ⊥
no_frame [] after f e = cc
no_frame (b ∷ bs) after f e = cc

no_two_frames : {X : Type 0} (before after : List X) (f g : X) → [] ≡ before ++ f ∷ g ∷ after → ⊥
no_two_frames before after f g e = no_frame before (g ∷ after) f e

pub new_laid : (scid vcid total mc_count vc_count : ℕ)
    → IsLaidOutBy (builder_with_counts scid vcid total mc_count vc_count) [] []
new_laid scid vcid total mc_count vc_count = record {
  laid = record {
    all = [];
    each = tt;
    sent = refl;
    stream = refl;
    pointers = λ before after f e. absurd (no_frame before after f e);
    counts = λ before after f g e. absurd (no_two_frames before after f g e);
  };
  next = λ before f e. absurd (no_frame before [] f e);
  cut = record { before = []; whole = []; parts = refl; ends = refl; none = λ q lt s. omega arith; lengths = refl };
}

-- ---- a packet after the stream

each_more : (P : List ℕ → Type 0) (all : List (List ℕ)) (p : List ℕ) → AllByRecursion P all → P p
    → AllByRecursion P (all ++ p ∷ [])
each_more P [] p each here = (here, tt)
each_more P (x ∷ xs) p each here = (each.0, each_more P xs p each.1 here)

-- the stream has no fewer octets than the frames carry
pub carried_within : (packets : List (List ℕ)) (frames : List FrameView) (rest : List ℕ)
    (h : IsLaidOut packets frames rest) → length (carried_octets frames) + length rest ≡ length (concat h.all)
carried_within packets frames rest h = sym (length-append (carried_octets frames) rest) ∙ ap length h.stream

-- the frames stay where they are
pointers_more : (packets : List (List ℕ)) (frames : List FrameView) (rest : List ℕ) (h : IsLaidOut packets frames rest)
    (more : List (List ℕ)) (before after : List FrameView) (f : FrameView)
    → frames ≡ before ++ f ∷ after
    → IsPointed (h.all ++ more) (length (carried_octets before)) f.pointer (length f.payload)
pointers_more packets frames rest h more before after f e =
    let size : length (carried_octets frames) ≡ length (carried_octets before)
    + (length (slice_of f) + length (carried_octets after)) =
    ap (λ (fs : List FrameView). length (carried_octets fs)) e ∙ length-carried before after f in
    let within : length (carried_octets frames) + length rest ≡ length (concat h.all) =
    carried_within packets frames rest h in
    pointed_more h.all more (length (carried_octets before)) f.pointer f.payload (omega arith)
    (h.pointers before after f e)

-- one more packet, whose octets the builder holds
pub packet_after : (packets more : List (List ℕ)) (frames : List FrameView) (rest p : List ℕ)
    (h : IsLaidOut packets frames rest) → IsRecord 6 extent_at p → packets ++ without_idle (p ∷ []) ≡ more
    → (l : IsLaidOut more frames (rest ++ p)) × (l.all ≡ h.all ++ p ∷ [])
packet_after packets more frames rest p h is e = (
  record {
    all = h.all ++ p ∷ [];
    each = each_more (IsRecord 6 extent_at) h.all p h.each is;
    sent = without_idle-append h.all (p ∷ []) ∙ ap (λ (ps : List (List ℕ)). ps ++ without_idle (p ∷ [])) h.sent ∙ e;
    stream = sym (append_assoc (carried_octets frames) rest p) ∙ ap (λ (xs : List ℕ). xs ++ p) h.stream
        ∙ ap (λ (xs : List ℕ). concat h.all ++ xs) (sym (append-nil p)) ∙ sym (concat-append h.all (p ∷ []));
    pointers = λ before after f d. pointers_more packets frames rest h (p ∷ []) before after f d;
    counts = h.counts;
  },
  refl,
)

-- ---- one more frame

pointers_next : (packets : List (List ℕ)) (frames : List FrameView) (rest : List ℕ) (g : FrameView)
    (h : IsLaidOut packets frames rest)
    → IsPointed h.all (length (carried_octets frames)) g.pointer (length g.payload)
    → (before after : List FrameView) (f : FrameView) → frames ++ g ∷ [] ≡ before ++ f ∷ after
    → IsPointed h.all (length (carried_octets before)) f.pointer (length f.payload)
pointers_next packets frames rest g h here before after f e =
    elim (last_or_before frames before after g f e) [
      | inl w ↦ h.pointers before w.0 f w.1
      | inr w ↦ subst (λ (x : FrameView). IsPointed h.all (length (carried_octets before)) x.pointer (length x.payload))
          (sym w.1) (subst (λ (xs : List FrameView). IsPointed h.all (length (carried_octets xs)) g.pointer
          (length g.payload)) (sym w.0) here)
    ]

-- the next frame has the next count
abbrev pub IsNext : List FrameView → ℕ → Type 0
IsNext frames count =
    (before : List FrameView) (f : FrameView) → frames ≡ before ++ f ∷ [] → count ≡ (f.vc_count + 1) % 256

counts_next : (packets : List (List ℕ)) (frames : List FrameView) (rest : List ℕ) (g : FrameView)
    (h : IsLaidOut packets frames rest) → IsNext frames g.vc_count
    → (before after : List FrameView) (f x : FrameView) → frames ++ g ∷ [] ≡ before ++ f ∷ x ∷ after
    → x.vc_count ≡ (f.vc_count + 1) % 256
counts_next packets frames rest g h next before after f x e =
    elim (last_or_before frames (before ++ f ∷ []) after g x (e ∙ sym (append_assoc before (f ∷ []) (x ∷ after)))) [
      | inl w ↦ h.counts before w.0 f x (w.1 ∙ append_assoc before (f ∷ []) (x ∷ w.0))
      | inr w ↦ ap (λ (y : FrameView). y.vc_count) w.1 ∙ next before f (sym w.0)
    ]

pub next_again : (frames : List FrameView) (g : FrameView) → IsNext (frames ++ g ∷ []) ((g.vc_count + 1) % 256)
next_again frames g before f e =
    elim (last_or_before frames before [] g f e) [
      | inl w ↦ absurd (no_frame w.0 [] g w.2)
      | inr w ↦ ap (λ (y : FrameView). (y.vc_count + 1) % 256) (sym w.1)
    ]

pub frame_after : (packets : List (List ℕ)) (frames : List FrameView) (rest left : List ℕ) (g : FrameView)
    (h : IsLaidOut packets frames rest) → slice_of g ++ left ≡ rest
    → IsPointed h.all (length (carried_octets frames)) g.pointer (length g.payload) → IsNext frames g.vc_count
    → (l : IsLaidOut packets (frames ++ g ∷ []) left) × (l.all ≡ h.all)
frame_after packets frames rest left g h parts here next = (
  record {
    all = h.all;
    each = h.each;
    sent = h.sent;
    stream = ap (λ (xs : List ℕ). xs ++ left) (carried_octets-append frames (g ∷ []))
        ∙ append_assoc (carried_octets frames) (slice_of g ++ []) left
        ∙ ap (λ (xs : List ℕ). carried_octets frames ++ (xs ++ left)) (append-nil (slice_of g))
        ∙ ap (λ (xs : List ℕ). carried_octets frames ++ xs) parts ∙ h.stream;
    pointers = pointers_next packets frames rest g h here;
    counts = counts_next packets frames rest g h next;
  },
  refl,
)

-- what the frames lay out, expressed by what a builder does
pub laid_again : (s : BuilderState) (packets : List (List ℕ)) (frames : List FrameView) (rest : List ℕ)
    (all : List (List ℕ)) (l : IsLaidOut packets frames rest) → l.all ≡ all → rest ≡ held_by s
    → IsNext frames s.vc_count
    → IsCutAt all (length (carried_octets frames)) (s.idle_left + s.begun) s.sizes → IsLaidOutBy s packets frames
laid_again s packets frames rest all l e held next cut = record {
  laid = record {
    all =
        l.all;
    each =
        l.each;
    sent =
        l.sent;
    stream =
        ap (λ (xs : List ℕ). carried_octets frames ++ xs) (sym held) ∙ l.stream;
    pointers =
        l.pointers;
    counts = l.counts;
  };
  next = next;
  cut = subst (λ (ps : List (List ℕ)). IsCutAt ps (length (carried_octets frames)) (s.idle_left + s.begun) s.sizes)
      (sym e) cut;
}

-- ---- queueing

to_send_record : (p : PacketView) (octets : List ℕ) → IsToSend p octets → IsRecord 6 extent_at octets
to_send_record p octets h = let own = own_extent_of p octets h.packet in record { has_head = own.0; extent_is = own.1 }

-- a packet that is queued is delivered
to_send_handed : (p : PacketView) (octets : List ℕ) → IsToSend p octets → without_idle (octets ∷ []) ≡ octets ∷ []
to_send_handed p octets h = rw (not_idle p octets h) refl

pub queue_laid : (s : BuilderState) (octets : List ℕ) (packets : List (List ℕ)) (frames : List FrameView)
    → IsOctets octets → is_to_send octets ≡ true
    → IsLaidOutBy s packets frames → IsLaidOutBy (after_queue s octets) (packets ++ octets ∷ []) frames
queue_laid s octets packets frames fits sends h =
    let packet = to_send_is octets fits sends in
    let x = packet_after packets (packets ++ octets ∷ []) frames (held_by s) octets h.laid
    (to_send_record packet.0 octets packet.1)
    (ap (λ (ps : List (List ℕ)). packets ++ ps) (to_send_handed packet.0 octets packet.1)) in
    let held : held_by s ++ octets ≡ held_by (after_queue s octets) =
    append_assoc (idle_tail s.idle_left) s.pending octets in
    let cut = cut_more h.laid.all (length (carried_octets frames)) (s.idle_left + s.begun) s.sizes octets h.cut in
    laid_again (after_queue s octets) (packets ++ octets ∷ []) frames (held_by s ++ octets) (h.laid.all ++ octets ∷ [])
    x.0 x.1 held h.next cut
