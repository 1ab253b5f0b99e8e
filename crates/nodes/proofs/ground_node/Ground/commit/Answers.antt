use Rattle.std.proofs.Common.{◌≡◌, ◌≢◌, ◌≤◌, ◌+◌, ◌/◌, ◌++◌, ℕ, List, [], ◌∷◌, length, Bool, true, if◌then◌else◌, is_ok}
use Rattle.std.proofs.Common.{sym, ap, ◌∙◌, arith, length-append}
use Rattle.std.specs.Prelude.{option_to_list}
use Rattle.std.proofs.lemmas.List.{length-map}
use Rattle.tc_frame.specs.Layout.{SegmentView}
use Rattle.map_service.proofs.Parts.{all-append}
use Rattle.cop1.specs.declared.vocabulary.FopMode.TheVariants.{S6}
use Rattle.nodes.specs.declared.ground_node.Ground.TheInside.{Inside}
use Rattle.nodes.specs.declared.ground_node.submission.Segments.TheVariants.{One}
use Rattle.nodes.specs.declared.ground_node.submission.Submission.{Submission}
use Rattle.nodes.specs.Ground.{GroundState, segments_on, after_submission, outstanding, refill_step, submit_fault}
use Rattle.nodes.specs.Ground.{unless_refused, unsent_segments}
use Rattle.nodes.specs.GroundBounds.{AreShort}
use Rattle.nodes.specs.GroundFields.{state_of, IsSound}
use Rattle.nodes.specs.Parameters.{IsConfig, limits_of}
use Rattle.nodes.specs.Submissions.{segments_held, IsSubmissionAt}
use Rattle.nodes.proofs.GroundBounds.{segments_short}
use Rattle.nodes.proofs.Owed.{most_left, AreOwed, owed_with}
use Rattle.nodes.proofs.Submissions.{IsAccepted, is_accepted, some_segments}
use Rattle.nodes.proofs.ground_node.Ground.commit.Goals.{in-One, in-Several}
use Rattle.nodes.proofs.ground_node.Ground.commit.Goals as goal

-- a ground as it was when the packets were prepared
module _ (s t : GroundState) (b : Submission) (prepared : IsSubmissionAt s b) (same : t ≡ s) where
  abbrev held : List SegmentView
  held = segments_held b.segments

  accepted : IsAccepted t b.map b.octets.now
  accepted =
      is_accepted t b.map b.octets.now
      (ap (λ (x : GroundState). submit_fault x b.map b.octets.now) same ∙ prepared.fault)

  held_is : held ≡ segments_on t b.map b.octets.now
  held_is = prepared.segments ∙ ap (λ (x : GroundState). segments_on x b.map b.octets.now) (sym same)

  on : t.fop.state ≢ S6
  on off = absurd (cc (accepted.active, off))

  places : length (unsent_segments t) + length held ≤ t.config.queue_slots
  places = omega (arith, ap length held_is, accepted.places)

  pending_places : length t.pending + length held ≤ t.config.queue_slots
  pending_places = omega (arith, places, length-append (option_to_list t.fop.waiting) t.pending)

  some : IsConfig t.config → 1 ≤ length held
  some c =
      omega (arith, ap length held_is, some_segments (limits_of t.config) b.map b.octets.now c.part.0 accepted.commands)

  -- each submission has a segment, so with one more there are at most as many as segments may be outstanding
  room : (most : ℕ) → AreOwed t.fop t.pending t.fates.left → length t.fop.sent ≤ most → IsConfig t.config
      → 1 + length t.fates.left ≤ most + t.config.queue_slots
  room most owed sent c =
      let none = most_left (length (outstanding t)) t.fates.left (owed on) in
      omega (arith, length-append {A = SegmentView}, length-map t.fop.sent (λ u. u.unit), places, some c)

  unsent_places : length (option_to_list t.fop.waiting) + (length t.pending + length held) ≤ t.config.queue_slots
  unsent_places = omega (arith, places, length-append (option_to_list t.fop.waiting) t.pending)

  held_short : IsConfig t.config → AreShort t.config.part held
  held_short c = rw held_is (segments_short t.config.part b.map b.octets.now c.part.0)

  queued : (x : GroundState) (pending : List SegmentView) (left : List ℕ)
      → x ≡ record t { pending = pending; fates = record t.fates { left = left } }
      → pending ≡ t.pending ++ held → left ≡ t.fates.left ++ length held ∷ []
      → refill_step x ≡ after_submission s b.map b.octets.now
  queued x pending left is joined counted =
      ap refill_step
      (is
      ∙ ap (λ (ss : List SegmentView). record t { pending = ss; fates = record t.fates { left = left } }) joined
      ∙ ap (λ (ns : List ℕ). record t { pending = t.pending ++ held; fates = record t.fates { left = ns } }) counted
      ∙ ap (λ (ss : List SegmentView). record t {
        pending = t.pending ++ ss;
        fates = record t.fates { left = t.fates.left ++ length ss ∷ [] };
      }) held_is)
      ∙ ap (λ (x : GroundState). after_submission x b.map b.octets.now) same

pub push_back_reserved-requires : goal.push_back_reserved-requires
push_back_reserved-requires c =
    let fits = room c.args.self.now (state_of c.self.inside) c.args.submission c.requires c.self.view_is 127
    c.self.invariant.owed (omega (arith, c.sent.ensures.count, c.sent.ensures.most)) c.self.invariant.config in
    omega (arith, fits, c.self.invariant.places, c.self.inside.left.ok.0)

-- one more segment is pending, or several more are

module _ (s : GroundState) (i : Inside) (b : Submission) (prepared : IsSubmissionAt s b) (same : state_of i ≡ s)
    (sound : IsSound i) where
  owed : (pending : List SegmentView) (left : List ℕ) (n : ℕ) → n ≡ length (segments_held b.segments)
      → pending ≡ i.pending.items ++ segments_held b.segments → left ≡ i.left.items ++ n ∷ []
      → AreOwed i.fop pending left
  owed pending left n count joined counted =
      let one = some s (state_of i) b prepared same sound.config in
      rw (joined, counted)
      (owed_with i.fop i.pending.items (segments_held b.segments) i.left.items n count (omega (arith, one, count))
      sound.owed)

  fits : length i.pending.items + length (segments_held b.segments) ≤ i.config.queue_slots
  fits = pending_places s (state_of i) b prepared same

  unsent : (pending : List SegmentView) → pending ≡ i.pending.items ++ segments_held b.segments
      → length (option_to_list i.fop.waiting) + length pending ≤ i.config.queue_slots
  unsent pending joined =
      omega (
        arith,
        ap length joined,
        length-append i.pending.items (segments_held b.segments),
        unsent_places s (state_of i) b prepared same,
      )

  short : (pending : List SegmentView) → pending ≡ i.pending.items ++ segments_held b.segments
      → AreShort i.config.part pending
  short pending joined =
      rw joined
      (all-append (λ (u : SegmentView). length u.payload ≤ i.config.part) i.pending.items (segments_held b.segments)
      sound.parts (held_short s (state_of i) b prepared same sound.config))

  submissions : (left : List ℕ) (n : ℕ) → left ≡ i.left.items ++ n ∷ [] → length i.fop.sent ≤ i.fop.room
      → length left ≤ i.config.width / 2 + i.config.queue_slots
  submissions left n counted sent =
      let most = room s (state_of i) b prepared same (i.config.width / 2) sound.owed
      (omega (arith, sent, sound.sender.room)) sound.config in
      omega (arith, ap length counted, length-append i.left.items (n ∷ []), most)

one_held : (b : Submission) (segment : SegmentView) → b.segments ≡ One segment
    → segment ∷ [] ≡ segments_held b.segments
one_held b segment is = sym (ap segments_held is)

pub push_back_reserved-requires-in-One : goal.push_back_reserved-requires-in-One
push_back_reserved-requires-in-One c =
    let places = fits c.args.self.now c.self.inside c.args.submission c.requires c.self.view_is c.self.invariant in
    let one = ap length (one_held c.args.submission c.in-One.segment c.in-One.is) in
    omega (arith, c.self.invariant.room, c.self.inside.pending.ok.0)

pub invariant_of-self : goal.invariant_of-self
invariant_of-self c =
    let s : GroundState = c.args.self.now in
    let i : Inside = c.self.inside in
    let b : Submission = c.args.submission in
    let pending : List SegmentView = c.push_back_reserved-in-One.new.self.items in
    let left : List ℕ = c.push_back_reserved.new.self.items in
    let joined : pending ≡ i.pending.items ++ segments_held b.segments =
    c.push_back_reserved-in-One.ensures.items
    ∙ ap (λ (ss : List SegmentView). i.pending.items ++ ss) (one_held b c.in-One.segment c.in-One.is) in
    let counted : left ≡ i.left.items ++ c.count.result ∷ [] = c.push_back_reserved.ensures.items in
    record {
      config = c.self.invariant.config;
      room = omega (arith, c.self.invariant.room, c.push_back_reserved-in-One.ensures.capacity);
      packets = c.self.invariant.packets;
      owed = owed s i b c.requires c.self.view_is c.self.invariant pending left c.count.result c.count.ensures joined
          counted;
      places = omega (arith, c.self.invariant.places, c.push_back_reserved.ensures.capacity);
      sender = c.self.invariant.sender;
      unsent = unsent s i b c.requires c.self.view_is c.self.invariant pending joined;
      parts = short s i b c.requires c.self.view_is c.self.invariant pending joined;
      begun = c.self.invariant.begun;
      submissions = submissions s i b c.requires c.self.view_is c.self.invariant left c.count.result counted
          (omega (arith, c.sent.ensures.count, c.sent.ensures.within));
    }

several_held : (i : Inside) (b : Submission) (segments : List SegmentView)
    → segments ≡ segments_held b.segments → (pending : List SegmentView) (joined : Bool)
    → pending ≡ (if joined then i.pending.items ++ segments else i.pending.items) → joined ≡ true
    → pending ≡ i.pending.items ++ segments_held b.segments
several_held i b segments is pending joined appended ok =
    appended ∙ ap (λ (all : Bool). if all then i.pending.items ++ segments else i.pending.items) ok
    ∙ ap (λ (ss : List SegmentView). i.pending.items ++ ss) is

module _ (c : goal.After-drop-segments) where
  held_are : c.in-Several.segments.items ≡ segments_held c.args.submission.segments
  held_are = sym (ap segments_held c.in-Several.is)

  all_joined : is_ok c.append.result ≡ true
  all_joined =
      let places = fits c.args.self.now c.self.inside c.args.submission c.requires c.self.view_is c.self.invariant in
      let held = ap length held_are in
      c.append.ensures.succeeds
      (omega (arith, c.self.invariant.room, c.self.inside.pending.ok.0, c.in-Several.segments.ok.0))

  joined_are : c.append.new.self.items ≡ c.self.inside.pending.items ++ segments_held c.args.submission.segments
  joined_are =
      several_held c.self.inside c.args.submission c.in-Several.segments.items held_are c.append.new.self.items
      (is_ok c.append.result) c.append.ensures.items all_joined

pub invariant_of-self-in-Several : goal.invariant_of-self-in-Several
invariant_of-self-in-Several c = record {
  config = c.self.invariant.config;
  room = omega (arith, c.self.invariant.room, c.append.ensures.capacity);
  packets = c.self.invariant.packets;
  owed =
      owed c.args.self.now c.self.inside c.args.submission c.requires c.self.view_is c.self.invariant
      c.append.new.self.items c.push_back_reserved.new.self.items c.count.result c.count.ensures (joined_are c)
      c.push_back_reserved.ensures.items;
  places = omega (arith, c.self.invariant.places, c.push_back_reserved.ensures.capacity);
  sender = c.self.invariant.sender;
  unsent =
      unsent c.args.self.now c.self.inside c.args.submission c.requires c.self.view_is c.self.invariant
      c.append.new.self.items (joined_are c);
  parts =
      short c.args.self.now c.self.inside c.args.submission c.requires c.self.view_is c.self.invariant
      c.append.new.self.items (joined_are c);
  begun = c.self.invariant.begun;
  submissions =
      submissions c.args.self.now c.self.inside c.args.submission c.requires c.self.view_is c.self.invariant
      c.push_back_reserved.new.self.items c.count.result c.push_back_reserved.ensures.items
      (omega (arith, c.sent.ensures.count, c.sent.ensures.within));
}

pub returns : goal.returns
returns c =
    let s : GroundState = c.args.self.now in
    let b : Submission = c.args.submission in
    let i : Inside = c.self.inside in
    let counted = c.push_back_reserved.ensures.items
    ∙ ap (λ (n : ℕ). i.left.items ++ n ∷ []) c.count.ensures in
    let after : refill_step c.match-segments.self ≡ after_submission s b.map b.octets.now =
    elim c.match-segments.branch [
      | in-One w ↦
          queued s (state_of i) b c.requires c.self.view_is c.match-segments.self
          w.push_back_reserved-in-One.new.self.items c.push_back_reserved.new.self.items w.self-is
          (w.push_back_reserved-in-One.ensures.items
          ∙ ap (λ (ss : List SegmentView). i.pending.items ++ ss) (one_held b w.in-One.segment w.in-One.is)) counted
      | in-Several w ↦
          let is = sym (ap segments_held w.in-Several.is) in
          let places = fits s i b c.requires c.self.view_is c.self.invariant in
          let held = ap length is in
          let ok : is_ok w.append.result ≡ true =
          w.append.ensures.succeeds
          (omega (arith, c.self.invariant.room, i.pending.ok.0, w.in-Several.segments.ok.0)) in
          queued s (state_of i) b c.requires c.self.view_is c.match-segments.self w.append.new.self.items
          c.push_back_reserved.new.self.items w.self-is
          (several_held i b w.in-Several.segments.items is w.append.new.self.items (is_ok w.append.result)
          w.append.ensures.items ok) counted
    ] in
    c.refill.ensures ∙ after
    ∙ ap (λ reason. (unless_refused reason s (after_submission s b.map b.octets.now)).after) (sym c.requires.fault)
