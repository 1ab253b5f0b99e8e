use Rattle.std.proofs.Common.{◌≡◌, ◌∙◌, ℕ, Bool, true, false, if◌then◌else◌, List, [], drop, length, refl, sym, arith}
use Rattle.map_service.specs.Assembly.{is_open}
use Rattle.nodes.specs.Ground.{new_ground}
use Rattle.nodes.specs.Parameters.{limits_of}
use Rattle.nodes.specs.Spacecraft.{new_spacecraft}
use Rattle.simulated_link.proofs.world.World.new.Goals as goal

-- the packets of no segments, on an open MAP or another
abbrev given : Bool → List (List ℕ)
given is_open = if is_open then [] else []

none_given : (is_open : Bool) → drop (length (given is_open)) (given is_open) ≡ []
none_given true = refl
none_given false = refl

pub invariant_of-result : goal.invariant_of-result
invariant_of-result c =
    let ground : c.in-Ok.ground_node ≡ new_ground c.args.config.now = c.in-Ok.ensures.made in
    let spacecraft : c.in-Ok-of.spacecraft ≡ new_spacecraft c.args.config.now = c.in-Ok-of.ensures.made in
    record {
      accepted = rw (spacecraft, c.new-5.ensures.items) refl;
      before = omega arith;
      counted = rw (ground, c.new-4.ensures.items) (omega arith);
      submitted_on = λ m. rw c.new-3.ensures.items (c.no_packets.ensures.none m);
      delivered_on = λ m. rw spacecraft
          (c.no_packets-2.ensures.none m ∙ sym (none_given (is_open (limits_of c.args.config.now) m)));
    }
