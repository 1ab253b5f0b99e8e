use Rattle.std.proofs.Common.{◌∙◌, ap, codes, string_bytes, length}
use Rattle.nodes.specs.Ground.{outstanding}
use Rattle.script.proofs.Counts.{two_counts}
use Rattle.script.proofs.show.push_acknowledged.Goals as goal

pub returns : goal.returns
returns c =
    let w = c.args.world.now in
    two_counts c.push_count-2.result (string_bytes c.args.text.now) (string_bytes c.push_count.new.text)
    (string_bytes c.push_count-2.new.text) (codes " acknowledged=") (codes " outstanding=")
    c.acknowledged.result c.outstanding.result w.session.acknowledged (length (outstanding w.ground_node))
    c.in_ok-push_count.ensures c.acknowledged.ensures
    (c.outstanding.ensures.count ∙ ap (λ g. length (outstanding g)) c.ground_node.ensures) c.push_count-2.ensures
