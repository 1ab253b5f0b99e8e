use Rattle.std.proofs.Common.{rules, arith, ap, length}
use Rattle.nodes.proofs.Kept.{few_kept}
use Rattle.nodes.proofs.ground_node.Ground.open_at.Goals as goal

pub invariant_of-result : goal.invariant_of-result
invariant_of-result c =
    record {
      config = search rules;
      room = search rules;
      packets = search rules;
      owed = search rules;
      places = search rules;
      sender = search rules;
      unsent = search rules;
      parts = search rules;
      begun = search rules;
      submissions =
          omega (arith, ap length c.in-Ok-left_of.ensures.left, few_kept _ _ (c.is_of.ensures.0 c.if-not-is_of.false));
    }
