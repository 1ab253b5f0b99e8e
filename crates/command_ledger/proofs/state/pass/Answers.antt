use Rattle.std.proofs.Common.{◌≡◌, ℕ, suc, ◌+◌, ◌-◌, List, ◌∷◌, ◌++◌, Option, length, ◌∙◌, ap, arith, option_to_list}
use Rattle.command_ledger.specs.Waiting.{Waiting}
use Rattle.command_ledger.specs.State.{fate}
use Rattle.command_ledger.proofs.Passing.{dropped_one, told_one, less_one}
use Rattle.command_ledger.proofs.state.pass.Goals as goal

pub loop-passed-preserved : goal.loop-passed-preserved
loop-passed-preserved c =
    let l = c.loop-passed in
    let before = l.invariant in
    let x = c.unwrap-command.result in
    let new = c.pop_front.new.self.items in
    let n : ℕ = c.args.count - l._passed in
    let m : ℕ = c.args.count - (l._passed + 1) in
    let e : n ≡ suc m = omega arith in
    let f : l.commands.items ≡ x ∷ new = c.pop_front.ensures.items
    ∙ ap (λ (o : Option Waiting). option_to_list o ++ new) c.unwrap-command.ensures in
    let g : c.fate.result ≡ fate c.args.kept.now c.args.doubt (l.number + 1) x.tag = c.fate.ensures
    ∙ ap (λ (t : ℕ). fate c.args.kept.now c.args.doubt (l.number + 1) t) c.tag.ensures in
    let h : c.saturating_sub-left.result ≡ l.left - (length x.packet + 18) = c.saturating_sub-left.ensures
    ∙ ap (λ (octets : List ℕ). l.left - (length octets + 18)) c.packet.ensures.packet in
    let long : length l.commands.items ≡ suc (length new) = ap length f in
    record {
      number = omega arith;
      room = omega arith;
      there = omega arith;
      commands = dropped_one n m x l.commands.items new e f ∙ before.commands;
      tells =
          told_one c.args.kept.now c.args.doubt l.number n m x l.commands.items new c.fate.result l.tells.items
          c.push_back_reserved.new.self.items e f g c.push_back_reserved.ensures.items
          ∙ before.tells;
      live =
          less_one l.left c.saturating_sub-left.result n m x l.commands.items new e f h ∙ before.live;
    }
