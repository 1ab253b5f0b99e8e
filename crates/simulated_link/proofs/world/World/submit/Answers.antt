use Rattle.simulated_link.proofs.Common.{◌≡◌, ◌++◌, ◌∷◌, [], ℕ, List, map, filter, length, Bool, true, false, refl, ap}
use Rattle.simulated_link.proofs.Common.{sym, ◌∙◌, arith, append-nil, ◌==◌, if◌then◌else◌, filter-append, packets_view}
use Rattle.simulated_link.proofs.Common.{GroundState, submit_fault, PacketOn, packet_on, None, IfSome, Option, Some}
use Rattle.simulated_link.proofs.Common.{Result, Ok, Err, Event, LinkFault, World, GroundOutcome, unless_refused}
use Rattle.simulated_link.proofs.Common.{after_submission}
use Rattle.std.specs.List.{flat_map}
use Rattle.std.specs.Option.{is_some}
use Rattle.std.proofs.lemmas.Grind.{flat_map-append}
use Rattle.std.proofs.lemmas.List.{map_push}
use Rattle.map_service.specs.Packets.{packets_in}
use Rattle.nodes.specs.declared.ground_node.submission.Submission.{Submission}
use Rattle.nodes.specs.Packets.{packet_view}
use Rattle.nodes.specs.declared.event.Event.TheVariants as events
use Rattle.simulated_link.specs.declared.fault.SimFault.TheVariants.{Memory}
use Rattle.simulated_link.specs.declared.reply.NodeFault.TheVariants.{Link}
use Rattle.simulated_link.specs.declared.reply.Reply.TheVariants as replies
use Rattle.simulated_link.specs.Events.{LetsHappen}
use Rattle.simulated_link.specs.Replies.{reply_to_submission}
use Rattle.simulated_link.specs.World.{submission_of, world_after_submission}
use Rattle.simulated_link.specs.WorldFields.{world_of}
use Rattle.simulated_link.proofs.Unchanged.{refused, submit_never}
use Rattle.simulated_link.proofs.Counted.{submit_same}
use Rattle.simulated_link.proofs.Transit.{happens, lacks}
use Rattle.simulated_link.proofs.world.World.submit.Goals.{then-is_err-via-then-is_err}
use Rattle.simulated_link.proofs.world.World.submit.Goals.{then-is_err-via-else-is_err+then-is_err-2, In-Ok}
use Rattle.simulated_link.proofs.world.World.submit.Goals as goal

-- the packets of these submissions on MAP m
abbrev packets_on : ℕ → List PacketOn → List (List ℕ)
packets_on m ps = flat_map (λ (p : PacketOn). packets_in p.octets) (filter (λ (p : PacketOn). p.on_map == m) ps)

of_one : (m : ℕ) (p : PacketOn) (own : Bool) → p.on_map == m ≡ own
    → packets_on m (p ∷ []) ≡ (if own then packets_in p.octets else [])
of_one m p true own = rw own (append-nil (packets_in p.octets))
of_one m p false own = rw own refl

one_more : (m : ℕ) (ps : List PacketOn) (p : PacketOn)
    → packets_on m (ps ++ p ∷ []) ≡ packets_on m ps ++ (if p.on_map == m then packets_in p.octets else [])
one_more m ps p =
    ap (flat_map (λ (p : PacketOn). packets_in p.octets)) (filter-append (λ (p : PacketOn). p.on_map == m) ps (p ∷ []))
    ∙ flat_map-append (λ (p : PacketOn). packets_in p.octets) (filter (λ (p : PacketOn). p.on_map == m) ps)
    (filter (λ (p : PacketOn). p.on_map == m) (p ∷ []))
    ∙ ap (λ (xs : List (List ℕ)). packets_on m ps ++ xs) (of_one m p (p.on_map == m) refl)

-- a prepared submission has no fault
taken : {A : Type 0} (fault : Option LinkFault) (x : A) → IfSome fault (λ f. Ok x ≡ Err f) → fault ≡ None
taken None x refused = refl
taken (Some f) x refused = cc refused

abbrev after_submit : GroundState → ℕ → List ℕ → GroundState
after_submit s m octets = (unless_refused (submit_fault s m octets) s (after_submission s m octets)).after

abbrev with_submissions : World → List PacketOn → World
with_submissions w ps = record w { session = record w.session { submissions = ps } }

-- the case in which the ground accepts the packets
module _ (c : goal.After-append_on) where
  abbrev p : PacketOn
  p = packet_on c.args.map c.args.octets.now

  abbrev w : World
  w = world_of c.self.inside

  submissions : map packet_view c.push_reserved.new.self.items ≡ w.session.submissions ++ p ∷ []
  submissions =
      ap (map packet_view) (c.push_reserved.ensures.items
      ∙ ap (λ xs. xs ++ (c.args.map, c.in-Ok-from_slice.copy) ∷ []) c.try_reserve.ensures.items)
      ∙ map_push packet_view c.self.inside.session.submissions.items (c.args.map, c.in-Ok-from_slice.copy)
      ∙ ap (λ (o : List ℕ). w.session.submissions ++ packet_on c.args.map o ∷ []) c.in-Ok-from_slice.ensures.items

pub invariant_of-self-2 : goal.invariant_of-self-2
invariant_of-self-2 c =
    let s : GroundState = c.self.inside.ground_node in
    let octets : List ℕ = c.args.octets.now in
    let b : Submission = c.in-Ok.submission in
    let same : length c.commit.new.self.fop.sent ≡ length s.fop.sent =
    ap (λ (t : GroundState). length t.fop.sent) c.commit.ensures
    ∙ ap length (submit_same s b.map b.octets.now (submit_fault s b.map b.octets.now)) in
    let copies : packets_view c.in-Ok-copied.packets ≡ packets_in octets =
    c.in-Ok-copied.ensures ∙ c.packets.ensures ∙ c.in-Ok.ensures.submission.packets
    ∙ ap packets_in c.in-Ok.ensures.given.1 in
    record {
      accepted = c.self.invariant.accepted;
      before = c.self.invariant.before;
      counted = omega (arith, c.self.invariant.counted, same);
      submitted_on = λ m.
          c.append_on.ensures m
          ∙ ap (λ (xs : List (List ℕ)). xs
          ++ (if c.args.map == m then packets_view c.in-Ok-copied.packets else []))
          (c.make_room.ensures.same m ∙ c.self.invariant.submitted_on m)
          ∙ ap (λ (xs : List (List ℕ)). packets_on m (map packet_view c.self.inside.session.submissions.items)
          ++ (if c.args.map == m then xs else [])) copies
          ∙ sym (one_more m (map packet_view c.self.inside.session.submissions.items) (packet_on c.args.map octets))
          ∙ ap (packets_on m) (sym (submissions c));
      delivered_on = c.self.invariant.delivered_on;
    }

pub returns : goal.returns
returns c =
    let b : Submission = c.in-Ok.submission in
    let s : GroundState = c.self.inside.ground_node in
    let octets : List ℕ = c.args.octets.now in
    let fault : Option LinkFault = submit_fault s c.args.map octets in
    let none : fault ≡ None = taken fault b c.in-Ok.ensures.refused in
    let step : Option LinkFault → GroundOutcome (Result (Unit {0}) LinkFault) =
    λ reason. unless_refused reason s (after_submission s c.args.map octets) in
    let committed : c.commit.new.self ≡ (step fault).after =
    c.commit.ensures ∙ ap (λ (m : ℕ). after_submit s m b.octets.now) c.in-Ok.ensures.given.0
    ∙ ap (after_submit s c.args.map) c.in-Ok.ensures.given.1 in
    let one : p c ∷ [] ≡ submission_of (p c) (step fault).answer =
    sym (ap (λ (reason : Option LinkFault). submission_of (p c) (step reason).answer) none) in
    happens c.self.inside c.args.self.now c.self.view_is (events.Submit c.args.map c.args.octets) replies.Done
    (with_submissions (record (w c) { ground_node = c.commit.new.self })
    (map packet_view c.push_reserved.new.self.items))
    (ap (λ (reason : Option LinkFault). Ok (reply_to_submission (step reason).answer)) none)
    (ap (with_submissions (record (w c) { ground_node = c.commit.new.self }))
    (submissions c ∙ ap (λ (xs : List PacketOn). (w c).session.submissions ++ xs) one)
    ∙ ap (λ (t : GroundState). with_submissions (record (w c) { ground_node = t })
    ((w c).session.submissions ++ submission_of (p c) (step fault).answer)) committed)

-- the case in which memory runs out
wants : (c : In-Ok) (new : World) → new ≡ c.args.self.now
    → LetsHappen (events.Submit c.args.map c.args.octets) c.args.self.now new (Err Memory)
wants c new same =
    let none = taken (submit_fault c.self.inside.ground_node c.args.map c.args.octets.now) c.in-Ok.submission
    c.in-Ok.ensures.refused in
    lacks c.self.inside c.args.self.now c.self.view_is (events.Submit c.args.map c.args.octets) new same tt
    (λ some. cc (some, ap is_some none))

pub returns-in_default : goal.returns-in_default
returns-in_default c = wants (goal.at.returns-in_default c).In-Ok c.args.self.now refl

pub returns-in_default-copied : goal.returns-in_default-copied
returns-in_default-copied c = wants (goal.at.returns-in_default-copied c).In-Ok c.args.self.now refl

pub invariant_of-self : goal.invariant_of-self
invariant_of-self c = record {
  accepted = c.self.invariant.accepted;
  before = c.self.invariant.before;
  counted = c.self.invariant.counted;
  submitted_on = λ m. c.self.invariant.submitted_on m
      ∙ ap (λ xs. packets_on m (map packet_view xs)) (sym c.try_reserve.ensures.items);
  delivered_on = c.self.invariant.delivered_on;
}

pub invariant_of-self-then-is_err-2 : goal.invariant_of-self-then-is_err-2
invariant_of-self-then-is_err-2 c = record {
  accepted = c.self.invariant.accepted;
  before = c.self.invariant.before;
  counted = c.self.invariant.counted;
  submitted_on = λ m. c.make_room.ensures.same m ∙ c.self.invariant.submitted_on m
      ∙ ap (λ xs. packets_on m (map packet_view xs)) (sym c.try_reserve.ensures.items);
  delivered_on = c.self.invariant.delivered_on;
}

pub returns-then-is_err : goal.returns-then-is_err
returns-then-is_err c =
    let same : with_submissions (world_of c.self.inside) (map packet_view c.try_reserve.new.self.items)
    ≡ c.args.self.now =
    ap (λ xs. with_submissions (world_of c.self.inside) (map packet_view xs)) c.try_reserve.ensures.items
    ∙ c.self.view_is in
    wants (goal.at.returns-then-is_err c).In-Ok _ (elim c.then-is_err.branch [
      | then-is_err-via-then-is_err x ↦ x.self-is ∙ same
      | then-is_err-via-else-is_err+then-is_err-2 x ↦ x.self-is ∙ same
    ])

-- the case in which the ground refuses
pub returns-in-Err : goal.returns-in-Err
returns-in-Err c =
    let s : GroundState = c.self.inside.ground_node in
    let w : World = world_of c.self.inside in
    let now : World = c.args.self.now in
    let event : Event = events.Submit c.args.map c.args.octets in
    let fault : Option LinkFault = submit_fault s c.args.map c.args.octets.now in
    let unless : Option LinkFault → GroundOutcome (Result (Unit {0}) LinkFault) =
    λ reason. unless_refused reason s (after_submission s c.args.map c.args.octets.now) in
    refused (LetsHappen event now now) c.in-Err.fault fault c.prepare.result c.in-Err.is c.prepare.ensures.refused
    c.prepare.ensures.memory (submit_never s c.args.map c.args.octets.now)
    (lacks c.self.inside now c.self.view_is event now refl tt)
    (λ why. happens c.self.inside now c.self.view_is event (replies.Refused (Link c.in-Err.fault)) now
    (ap (λ reason. Ok (reply_to_submission (unless reason).answer)) why)
    (sym c.self.view_is ∙ ap (with_submissions w) (sym (append-nil w.session.submissions))
    ∙ sym (ap (λ reason. (world_after_submission w (packet_on c.args.map c.args.octets.now) (unless reason)).after)
    why)))
    c.answer_to_refusal.result c.answer_to_refusal.ensures
