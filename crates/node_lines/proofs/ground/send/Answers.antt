use Rattle.std.proofs.Common.{rules, sym, subst, replicate, refl}
use Rattle.octets.specs.Beginning.{Appends}
use Rattle.nodes.specs.Ground.{ground_step, Pull}
use Rattle.node_lines.proofs.Answered.{pulled}
use Rattle.node_lines.proofs.ground.send.Goals as goal

pub returns-in-Some : goal.returns-in-Some
returns-in-Some c =
    let e = c.in-Some.ensures in
    record {
      text = subst (Appends c.push_sent.result c.args.text.now c.push_sent.new.text)
          (sym (pulled (ground_step c.args.node.now Pull).answer c.in-Some.count c.pull.new.out (replicate 1024 0)
          e.count e.frame e.spells c.pull.array_long refl)) c.push_sent.ensures;
      node = search rules;
    }
