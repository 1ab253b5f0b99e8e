use Rattle.simulated_link.proofs.Common.{◌≡◌, ℕ, List, [], ◌∷◌, ◌++◌, Option, None, Some, option_map, ap, ◌∙◌, On}
use Rattle.simulated_link.proofs.Common.{GroundState, World, world_after_pull, first_in, ◌≤◌, ◌+◌, length, arith}
use Rattle.simulated_link.proofs.Common.{length-append, option_to_list, map-append, length-map, octets_of, ground_step}
use Rattle.tc_frame.specs.Layout.{FrameView}
use Rattle.tc_frame.specs.Encoding.{spelling}
use Rattle.nodes.specs.Ground.{Pull}
use Rattle.simulated_link.specs.WorldFields.{world_of}
use Rattle.simulated_link.specs.World.{world_after_send}
use Rattle.simulated_link.proofs.Counted.{pull_first, nothing_first}
use Rattle.simulated_link.proofs.world.World.send.Goals as goal

-- What holds after a frame was sent.

-- the world with another ground node, other frames on the uplink, and another record of what was sent
abbrev with_sent : World → GroundState → List (List ℕ) → List (List ℕ) → World
with_sent w ground_node up sent =
    record w { ground_node = ground_node; up = up; session = record w.session { sent = sent } }

or_nothing : Option (List ℕ) → List ℕ
or_nothing None = []
or_nothing (Some octets) = octets

send_is : (w : World) (after : GroundState) (answer : Option FrameView) (octets : List ℕ) (first : List (List ℕ))
    → Some octets ≡ option_map (spelling On) answer → first ≡ first_in w.ground_node.fop.vs answer
    → with_sent w after (w.up ++ octets ∷ []) (w.session.sent ++ first) ≡ (world_after_pull w after answer).after
unfolding or_nothing
send_is w after None octets first is sent = absurd cc
send_is w after (Some f) octets first is sent =
    ap (λ (x : List ℕ). with_sent w after (w.up ++ x ∷ []) (w.session.sent ++ first)) (ap or_nothing is)
    ∙ ap (λ (x : List (List ℕ)). with_sent w after (w.up ++ spelling On f ∷ []) (w.session.sent ++ x)) sent

pub invariant_of-self : goal.invariant_of-self
invariant_of-self c =
    let s : GroundState = c.self.inside.ground_node in
    let answer : Option FrameView = (ground_step s Pull).answer in
    let nothing : None ≡ option_map (spelling On) answer = rw c.in_default.is at c.in_ok-outgoing.ensures.octets in
    let none : first_in s.fop.vs answer ≡ [] = nothing_first s.fop.vs answer nothing in
    let same : length c.advance.new.self.fop.sent ≡ length (ground_step s Pull).after.fop.sent =
    ap (λ (t : GroundState). length t.fop.sent) c.advance.ensures in
    let counted : c.self.inside.session.acknowledged + length c.advance.new.self.fop.sent
    ≤ length c.self.inside.session.sent.items =
    omega (arith, c.self.invariant.counted, pull_first s, ap length none, same) in
    assumption (counted, c.self.invariant)

pub invariant_of-self-2 : goal.invariant_of-self-2
invariant_of-self-2 c =
    let s : GroundState = c.self.inside.ground_node in
    let first : List (List ℕ) = option_to_list (option_map (λ v. v.items) c.in-Some.outgoing.field) in
    let is : first ≡ first_in s.fop.vs (ground_step s Pull).answer =
    rw c.in-Some.is at c.in_ok-outgoing.ensures.field in
    let before : List (List ℕ) = octets_of c.try_reserve-else-is_err.new.self.items in
    let more : length c.push_some.new.fields.items ≡ length c.self.inside.session.sent.items + length first =
    omega (
      arith,
      ap length c.push_some.ensures.items,
      length-append before first,
      length-map c.push_some.new.fields.items (λ v. v.items),
      length-map c.try_reserve-else-is_err.new.self.items (λ v. v.items),
      ap length c.try_reserve-else-is_err.ensures.items,
    ) in
    let same : length c.advance-2.new.self.fop.sent ≡ length (ground_step s Pull).after.fop.sent =
    ap (λ (t : GroundState). length t.fop.sent) c.advance-2.ensures in
    let counted : c.self.inside.session.acknowledged + length c.advance-2.new.self.fop.sent
    ≤ length c.push_some.new.fields.items =
    omega (arith, c.self.invariant.counted, pull_first s, ap length is, more, same) in
    assumption (counted, c.self.invariant)

pub returns-clause-after : goal.returns-clause-after
returns-clause-after c =
    let w : World = world_of c.self.inside in
    let after : GroundState = c.advance-2.new.self in
    let answer : Option FrameView = (ground_step c.self.inside.ground_node Pull).answer in
    let octets : List ℕ = c.in-Some.outgoing.octets.items in
    let first : List (List ℕ) = option_to_list (option_map (λ v. v.items) c.in-Some.outgoing.field) in
    let goes : Some octets ≡ option_map (spelling On) answer = rw c.in-Some.is at c.in_ok-outgoing.ensures.octets in
    let is : first ≡ first_in w.ground_node.fop.vs answer = rw c.in-Some.is at c.in_ok-outgoing.ensures.field in
    let up : octets_of c.push_back_reserved.new.self.items ≡ w.up ++ octets ∷ [] =
    ap octets_of c.push_back_reserved.ensures.items
    ∙ map-append (λ v. v.items) c.try_reserve.new.self.items (c.in-Some.outgoing.octets ∷ [])
    ∙ ap (λ xs. octets_of xs ++ octets ∷ []) c.try_reserve.ensures.items in
    let sent : octets_of c.push_some.new.fields.items ≡ w.session.sent ++ first =
    c.push_some.ensures.items ∙ ap (λ xs. octets_of xs ++ first) c.try_reserve-else-is_err.ensures.items in
    ap (λ (x : List (List ℕ)). with_sent w after x (octets_of c.push_some.new.fields.items)) up
    ∙ ap (λ (x : List (List ℕ)). with_sent w after (w.up ++ octets ∷ []) x) sent
    ∙ send_is w after answer octets first goes is
    ∙ ap (λ (s : GroundState). (world_after_pull w s answer).after) c.advance-2.ensures
    ∙ ap (λ (x : World). (world_after_send x (ground_step x.ground_node Pull)).after) c.self.view_is
