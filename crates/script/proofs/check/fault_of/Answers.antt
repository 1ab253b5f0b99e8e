use Rattle.std.proofs.Common.{◌≡◌, ◌∙◌, ◌∷◌, ◌<◌, length, sym, ap, subst, IfSome, option_copied, arith}
use Rattle.streams.specs.Lines.{parts_of}
use Rattle.streams.specs.Words.{parts_from}
use Rattle.node_lines.specs.Lines.{line_view}
use Rattle.script.specs.Scripts.{script_in, with_lines}
use Rattle.script.proofs.ScriptLines.{script_begins, goes_past, left_after}
use Rattle.script.proofs.check.fault_of.Goals as goal

pub lines-preserved : goal.lines-preserved
lines-preserved c =
    let i = c.lines.invariant in
    let said = line_view c.read_line.result in
    let text = c.lines.rest.now in
    let line = c.cut.result.0.now in
    let after = c.in-Some.after.now in
    let more = script_in after in
    let parts : parts_of text ≡ line ∷ parts_of after =
    c.cut.ensures.parts ∙ ap (λ o. parts_from 10 line (option_copied o)) c.in-Some.is in
    let begins : script_in text ≡ said ∷ more =
    script_begins text line (parts_of after) said parts c.read_line.ensures.line in
    let shorter : length after < length text =
    subst (λ o. IfSome o (λ rest. length rest.now < length text)) c.in-Some.is c.cut.ensures.shorter in
    let room = i.room in
    let taken = c.if-refuses.false in
    record {
      found = goes_past c.lines.number c.lines.seen.begun _ said more (script_in text) begins
          (sym c.refuses.ensures.refused ∙ taken) (c.refuses.ensures.begun taken) ∙ i.found;
      asked = ap (λ config. with_lines config more) (c.refuses.ensures.config taken)
          ∙ sym (ap (with_lines c.lines.seen.config) begins) ∙ i.asked;
      left = left_after c.lines.number (parts_of c.args.script.now) line (parts_of after) i.some (i.left ∙ parts);
      some = omega (arith, i.some);
      room = omega (arith, shorter, room);
    }
