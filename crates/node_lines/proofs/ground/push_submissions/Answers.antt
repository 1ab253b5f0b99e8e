use Rattle.node_lines.proofs.ground.push_submissions.Goals as goal

pub returns : goal.returns
returns c =
    rw (
      ← c.submitted-submitted.ensures,
      ← c.sent_whole-sent.ensures,
      ← c.acknowledged_whole-acknowledged.ensures,
      ← c.outstanding-outstanding.ensures.count,
    ) c.write.ensures.bytes
