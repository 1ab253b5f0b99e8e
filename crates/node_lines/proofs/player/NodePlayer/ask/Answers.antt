use Rattle.std.proofs.Common.{rules, ◌≡◌, true, OnOk, IfOk, is_some, sym, subst}
use Rattle.octets.specs.Beginning.{Appends}
use Rattle.node_lines.specs.Lines.{ask_view}
use Rattle.node_lines.proofs.Answered.{first_as}
use Rattle.node_lines.proofs.player.NodePlayer.ask.Goals as goal

pub returns-in-Configured-clause-text : goal.returns-in-Configured-clause-text
returns-in-Configured-clause-text g c =
    let rules_of = g.N.Node.rules in
    let asked = rules_of.asked (ask_view c.args.ask) in
    let takes : is_some asked ≡ true = search rules in
    let first = first_as rules_of c.args.cause.now c.args.self.now _ asked c.in-Configured.is takes in
    subst (λ o. Appends c.ask_first.result c.args.text.now c.ask_first.new.text o.answer) (sym first)
    c.ask_first.ensures.text

pub returns-in-Configured-clause-state : goal.returns-in-Configured-clause-state
returns-in-Configured-clause-state g c =
    let rules_of = g.N.Node.rules in
    let asked = rules_of.asked (ask_view c.args.ask) in
    let takes : is_some asked ≡ true = search rules in
    let first = first_as rules_of c.args.cause.now c.args.self.now _ asked c.in-Configured.is takes in
    subst (λ o. OnOk c.ask_first.result (c.ask_first.new.self ≡ o.after)) (sym first) c.ask_first.ensures.state

pub returns-in-Configured-clause-good : goal.returns-in-Configured-clause-good
returns-in-Configured-clause-good g c =
    let rules_of = g.N.Node.rules in
    let asked = rules_of.asked (ask_view c.args.ask) in
    let takes : is_some asked ≡ true = search rules in
    let first = first_as rules_of c.args.cause.now c.args.self.now _ asked c.in-Configured.is takes in
    subst (λ o. IfOk c.ask_first.result (λ good. good ≡ o.is_good)) (sym first) c.ask_first.ensures.good
