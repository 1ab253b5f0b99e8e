use Rattle.std.proofs.Common.{arith}
use Rattle.std.proofs.lemmas.Grind.{common_steps}
use Rattle.nodes.proofs.ground_node.Ground.take_telemetry.Goals.{then-is_empty, else-is_empty}
use Rattle.nodes.proofs.ground_node.Ground.take_telemetry.Goals as goal

pub invariant_of-self : goal.invariant_of-self
invariant_of-self c =
    let sound = c.self.invariant in
    elim c.if-is_empty.branch [
      | then-is_empty w ↦ record {
        config = rw w.self-inside-is sound.config;
        room = rw w.self-inside-is sound.room;
        packets = grind (arith, common_steps);
        owed = rw w.self-inside-is sound.owed;
        places = rw w.self-inside-is sound.places;
        sender = rw w.self-inside-is sound.sender;
        unsent = rw w.self-inside-is sound.unsent;
        parts = rw w.self-inside-is sound.parts;
        begun = rw w.self-inside-is sound.begun;
        submissions = rw w.self-inside-is sound.submissions;
      }
      | else-is_empty w ↦ record {
        config = rw w.self-inside-is sound.config;
        room = rw w.self-inside-is sound.room;
        packets = grind (arith, common_steps);
        owed = rw w.self-inside-is sound.owed;
        places = rw w.self-inside-is sound.places;
        sender = rw w.self-inside-is sound.sender;
        unsent = rw w.self-inside-is sound.unsent;
        parts = rw w.self-inside-is sound.parts;
        begun = rw w.self-inside-is sound.begun;
        submissions = rw w.self-inside-is sound.submissions;
      }
    ]
