use Rattle.std.proofs.Common.{rules, ℕ, List, subst, replicate}
use Rattle.octets.specs.Beginning.{Appends}
use Rattle.tm_link.specs.Encoding.{spelling}
use Rattle.nodes.specs.Spacecraft.{spacecraft_step, Report}
use Rattle.node_lines.specs.Answers.{sent_text}
use Rattle.node_lines.proofs.Answered.{front_is}
use Rattle.node_lines.proofs.spacecraft.send.Goals as goal

pub returns : goal.returns
returns c =
    let e = c.report-count.ensures in
    let sent = c.push_sent in
    let frame = (spacecraft_step c.args.node.now Report).answer in
    record {
      text = subst (λ (octets : List ℕ). Appends sent.result c.args.text.now sent.new.text (sent_text octets))
          (front_is c.report-count.result c.report-count.new.out (spelling frame) (replicate 2048 0) e.frame
          c.report-count.array_long e.spells.most) sent.ensures;
      node = search rules;
    }
