-- Why packets to be submitted are refused, and what is known of packets that are not refused.
use Rattle.std.proofs.Common.{◌≡◌, ◌⊎◌, inl, inr, ℕ, List, Bool, true, false, not, if◌then◌else◌, refl, ◌∙◌, Option}
use Rattle.std.proofs.Common.{Some, None, IfSome, Result, Ok, Err, IfErr, IsErrAnd, IsOkUnless, ◌≤◌, ◌<◌, ◌+◌, zero}
use Rattle.std.proofs.Common.{is_some, suc, get_or, cond, [], ◌∷◌, length, sym, ap, subst, arith}
use Rattle.std.specs.Prelude.{◌==◌}
use Rattle.std.specs.List.{AllByRecursion, concat}
use Rattle.std.proofs.lemmas.Bool.{ltb-true, ltb-false, and_parts, not-false}
use Rattle.space_packet.proofs.WholePackets.{no_more}
use Rattle.tc_frame.specs.declared.frame.SegmentFlags.TheVariants.{Alone}
use Rattle.tc_frame.specs.declared.frame.Segment.{Segment}
use Rattle.tc_frame.specs.Layout.{SegmentView, segment_view}
use Rattle.map_service.specs.Assembly.{is_open}
use Rattle.map_service.specs.Packets.{packets_in, is_some_over, is_packet, are_taken}
use Rattle.map_service.specs.Cutting.{segment_with, segment_views, alone_segment, segments_of, payloads, IsPart}
use Rattle.map_service.specs.declared.limits.Limits.{Limits}
use Rattle.map_service.proofs.Parts.{segments-parts, segments-joined, alone-some, parts-alone}
use Rattle.map_service.proofs.Groups.{in-one}
use Rattle.map_service.proofs.Passage.{one-from, IsCuttable, cuttable_from}
use Rattle.nodes.specs.declared.fault.LinkFault.{LinkFault}
use Rattle.nodes.specs.declared.fault.LinkFault.TheVariants.{NotOpen, ClosedMap, NotCommand, TooLong, QueueFull, Memory}
use Rattle.nodes.specs.CommandPackets.{are_commands, commands_fault}
use Rattle.nodes.specs.Ground.{GroundState, is_closed, is_over_slots, submit_fault, unsent_segments, segments_on}
use Rattle.nodes.specs.Ground.{bypass_fault}
use Rattle.nodes.specs.Parameters.{limits_of, IsConfig}
use Rattle.nodes.specs.OwnedFields.{FitsFrame}

-- Why packets to be submitted are refused, and the answer to a refusal.

-- ---- the reason

pub no_session : (s : GroundState) (m : ℕ) (octets : List ℕ) → is_closed s.fop.state ≡ true
    → submit_fault s m octets ≡ Some NotOpen
no_session s m octets closed = rw closed refl

-- the result of the packet tests, or the next reason if they refuse nothing
tested : (commands over : Bool) → Option LinkFault → Option LinkFault
tested commands over rest = if not commands then Some NotCommand else if over then Some TooLong else rest

for_one : (commands over : Bool) (rest : Option LinkFault) (fault : LinkFault) → tested commands over None ≡ Some fault
    → tested commands over rest ≡ Some fault
unfolding tested
for_one true false rest fault is = absurd (cc is)
for_one _ _ rest fault is = is

for_none : (commands over : Bool) (rest : Option LinkFault) → tested commands over None ≡ None
    → tested commands over rest ≡ rest
unfolding tested
for_none true false rest is = refl
for_none _ _ rest is = absurd (cc is)

-- in a session
module _ (s : GroundState) (m : ℕ) (octets : List ℕ) (active : is_closed s.fop.state ≡ false) where
  pub no_such_map : is_open (limits_of s.config) m ≡ false → submit_fault s m octets ≡ Some ClosedMap
  no_such_map shut = rw (active, shut) refl

  -- on an open MAP
  module _ (opened : is_open (limits_of s.config) m ≡ true) where
    abbrev rest : Option LinkFault
    rest = if is_over_slots s m octets then Some QueueFull else None

    judged : submit_fault s m octets
        ≡ tested (are_commands (s.config.blocking == 1) octets) (is_some_over s.config.max_packet (packets_in octets))
        rest
    unfolding tested
    judged = rw (active, opened) refl

    pub no_commands : (fault : LinkFault) → commands_fault (limits_of s.config) octets ≡ Some fault
        → submit_fault s m octets ≡ Some fault
    unfolding tested
    no_commands fault is = judged ∙ for_one _ _ rest fault is

    pub but_for_places : commands_fault (limits_of s.config) octets ≡ None → submit_fault s m octets ≡ rest
    unfolding tested
    but_for_places is = judged ∙ for_none _ _ rest is

-- ---- the answer

-- a refusal for this reason or, if there is none, because memory ran out
pub record IsRefusal {A : Type 0} (reason : Option LinkFault) (r : Result A LinkFault) : Type 0 where
  pub refused : IfSome reason (λ fault. r ≡ Err fault)
  pub memory : reason ≡ None → IsOkUnless r Memory
  pub faults : IfErr r (λ e. (e ≡ Memory) ⊎ (reason ≡ Some e))

pub for_reason : {A : Type 0} (reason : Option LinkFault) (fault : LinkFault) → reason ≡ Some fault
    → IsRefusal {A = A} reason (Err fault)
for_reason reason fault is = record {
  refused = rw is refl;
  memory = λ none. absurd (cc (is, none));
  faults = inr is;
}

pub passed_on : {A : Type 0} (reason : Option LinkFault) (r : Result A LinkFault) (fault : LinkFault)
    → IsErrAnd r (λ e. e ≡ fault) → reason ≡ Some fault → IsRefusal reason r
passed_on reason (Ok x) fault is why = absurd is
passed_on reason (Err e) fault is why = for_reason reason e (rw is why)

pub for_places : {A : Type 0} (over : Bool) (reason : Option LinkFault) (fault : LinkFault)
    → reason ≡ (if over then Some QueueFull else None) → fault ≡ (if over then QueueFull else Memory)
    → IsRefusal {A = A} reason (Err fault)
for_places true reason fault is answer = for_reason reason fault (cc (is, answer))
for_places false reason fault is answer = record {
  refused = rw is tt;
  memory = λ none. answer;
  faults = inl answer;
}

-- The segments of packets that the ground does not refuse fit into frames.

-- a test that refused nothing
pub passed : (b : Bool) (fault : LinkFault) (rest : Option LinkFault) → cond b (Some fault) rest ≡ None
    → (b ≡ false) × (rest ≡ None)
passed true fault rest h = absurd cc
passed false fault rest h = (refl, h)

below_64 : (limits : Limits) (m : ℕ) → not (is_open limits m) ≡ false → m < 64
below_64 limits m h = ltb-true m 64 (and_parts _ _ (not-false _ h)).0

some_octet : (octets : List ℕ) → is_packet octets ≡ true → 1 ≤ length octets
some_octet [] h = let one = (one-from [] h).1 in let none = (no_more [] refl).0 in absurd cc
some_octet (x ∷ xs) h = omega arith

pub submit_map : (s : GroundState) (m : ℕ) (octets : List ℕ) → submit_fault s m octets ≡ None → m < 64
submit_map s m octets h = below_64 (limits_of s.config) m (passed _ _ _ (passed _ _ _ h).1).0

-- a submission that is not refused: the sender is not in S6, the octets are packets, and they fit into the queue
pub record IsAccepted (s : GroundState) (m : ℕ) (octets : List ℕ) : Type 0 where
  pub active : is_closed s.fop.state ≡ false
  pub commands : commands_fault (limits_of s.config) octets ≡ None
  pub places : length (unsent_segments s) + length (segments_on s m octets) ≤ s.config.queue_slots

pub is_accepted : (s : GroundState) (m : ℕ) (octets : List ℕ) → submit_fault s m octets ≡ None → IsAccepted s m octets
is_accepted s m octets h =
    let session = passed (is_closed s.fop.state) NotOpen _ h in
    let open_map = passed (not (is_open (limits_of s.config) m)) ClosedMap _ session.1 in
    let commands = passed (not (are_commands (s.config.blocking == 1) octets)) NotCommand _ open_map.1 in
    let short = passed (is_some_over s.config.max_packet (packets_in octets)) TooLong _ commands.1 in
    let over = passed (is_over_slots s m octets) QueueFull None short.1 in
    record {
      active = session.0;
      commands = rw (commands.0, short.0) refl;
      places = ltb-false _ _ over.0;
    }

-- octets that form one segment have at most `part` octets
pub not_over : (over : Bool) (s : SegmentView) → not (is_some (if over then None else Some s)) ≡ false → over ≡ false
not_over true s one = absurd (cc one)
not_over false s one = refl

pub bypass_fits : (s : GroundState) (m : ℕ) (octets : List ℕ) → IsConfig s.config → bypass_fault s m octets ≡ None
    → FitsFrame (segment_with Alone m octets)
bypass_fits s m octets c h =
    let open_map = passed _ _ _ h in
    let command = passed _ _ _ open_map.1 in
    let packet = passed _ _ _ command.1 in
    let part = passed _ _ _ packet.1 in
    let one = and_parts _ _ (not-false _ command.0) in
    let fits : length octets ≤ s.config.part = ltb-false _ _ (not_over _ _ part.0) in
    record {
      map = below_64 (limits_of s.config) m open_map.0;
      least = some_octet octets one.0;
      most = omega (arith, c.part.1);
    }

all_fit : (part m : ℕ) (segments : List SegmentView) → part ≤ 1016 → m < 64 → AllByRecursion (IsPart part m) segments
    → AllByRecursion FitsFrame segments
all_fit part m [] le lt h = tt
all_fit part m (s ∷ ss) le lt h =
    let fit : FitsFrame s =
    record { map = omega (arith, h.0.on_map); least = h.0.least; most = omega (arith, h.0.most) } in
    (fit, all_fit part m ss le lt h.1)

pub segments_fit : (part m : ℕ) (octets : List ℕ) → 1 ≤ part → part ≤ 1016 → m < 64
    → AllByRecursion FitsFrame (segments_of part m octets)
segments_fit part m octets one le lt =
    all_fit part m (segments_of part m octets) le lt (segments-parts part m octets one)

-- ---- what is known of commands

pub cuttable : (limits : Limits) (octets : List ℕ) → commands_fault limits octets ≡ None → IsCuttable limits octets
cuttable limits octets h =
    let command = passed _ _ _ h in
    let taken : are_taken limits.blocking octets ≡ true = (and_parts _ _ (not-false _ command.0)).0 in
    let over : is_some_over limits.max_packet (packets_in octets) ≡ false = (passed _ _ _ command.1).0 in
    cuttable_from limits octets (rw (taken, over) refl)

-- packets have at least one segment
some_of : (segments : List SegmentView) (octets : List ℕ) → concat (payloads segments) ≡ octets → 1 ≤ length octets
    → 1 ≤ length segments
some_of [] octets is some = absurd (omega (arith, ap length is, some))
some_of (s ∷ ss) octets is some = omega arith

pub some_segments : (limits : Limits) (m : ℕ) (octets : List ℕ) → 1 ≤ limits.part → commands_fault limits octets ≡ None
    → 1 ≤ length (segments_of limits.part m octets)
some_segments limits m octets one h =
    let is = cuttable limits octets h in
    some_of (segments_of limits.part m octets) octets (segments-joined limits.part m octets one is.whole) is.some

-- packets that fit into one segment
pub one_segment : (limits : Limits) (m : ℕ) (octets : List ℕ) (s : SegmentView) → commands_fault limits octets ≡ None
    → Some s ≡ alone_segment limits.part m octets
    → s ∷ [] ≡ segments_of limits.part m octets
one_segment limits m octets s h e =
    let is = cuttable limits octets h in
    parts-alone limits.part m octets s is.some e
    ∙ sym (in-one limits.part m octets is.whole is.some (alone-some limits.part m octets s e).1)

pub one_fits : (limits : Limits) (m : ℕ) (octets : List ℕ) (s : SegmentView) → commands_fault limits octets ≡ None
    → m < 64 → limits.part ≤ 1016 → Some s ≡ alone_segment limits.part m octets → FitsFrame s
one_fits limits m octets s h lt most e =
    let is = alone-some limits.part m octets s e in
    subst FitsFrame (sym is.0)
    (record { map = lt; least = (cuttable limits octets h).some; most = omega (arith, is.1) })

-- packets that the ground does not refuse
pub not_refused : (s : GroundState) (m : ℕ) (octets : List ℕ) → is_closed s.fop.state ≡ false
    → is_open (limits_of s.config) m ≡ true
    → commands_fault (limits_of s.config) octets ≡ None → is_over_slots s m octets ≡ false
    → submit_fault s m octets ≡ None
not_refused s m octets closed opened h over =
    let command = passed _ _ _ h in
    let all : are_commands (s.config.blocking == 1) octets ≡ true = not-false _ command.0 in
    let short : is_some_over s.config.max_packet (packets_in octets) ≡ false = (passed _ _ _ command.1).0 in
    rw (closed, opened, all, short, over) refl

-- one of several segments
pub fits_at : (segments : List Segment) (i : ℕ) (d : Segment) → AllByRecursion FitsFrame (segment_views segments)
    → i < length segments → FitsFrame (segment_view (get_or segments i d))
fits_at [] i d h lt = absurd (omega arith)
fits_at (s ∷ ss) zero d h lt = h.0
fits_at (s ∷ ss) (suc i) d h lt = fits_at ss i d h.1 (omega arith)
