use Rattle.std.proofs.Common.{◌≡◌, ◌∙◌, ◌++◌, [], ℕ, List, Option, None, ap, sym, subst}
use Rattle.std.proofs.lemmas.List.{append-nil}
use Rattle.octets.specs.Beginning.{IsBeginning}
use Rattle.streams.specs.Lines.{parts_of}
use Rattle.streams.specs.Player.{answers}
use Rattle.node_lines.specs.Player.{fresh_player, node_playing}
use Rattle.script.specs.declared.check.ScriptFault.{ScriptFault}
use Rattle.script.specs.Ending.{Ends, script_text}
use Rattle.script.specs.LinkNode.{link_rules}
use Rattle.script.proofs.PlayedLines.{plays}
use Rattle.script.proofs.run.ScriptTakerUnit.end.Goals as goal

-- the answers of a script that is run, with its octets as the code has them
played : (items script : List ℕ) → script ≡ items → Ends None script
    → answers (node_playing link_rules) fresh_player (parts_of script) ≡ script_text (items ++ [])
played items script is good = plays script good ∙ ap script_text (is ∙ sym (append-nil items))

pub returns-in-Ok-clause-ends : goal.returns-in-Ok-clause-ends
returns-in-Ok-clause-ends g c =
    let items = c.args.self.now.octets.items in
    let good : Ends None c.as_slice-script.result.now =
    subst (λ (fault : Option ScriptFault). Ends fault c.as_slice-script.result.now) c.in-None.is c.fault_of.ensures in
    let same : c.as_slice-script.result.now ≡ items ++ [] = c.as_slice-script.ensures.value ∙ sym (append-nil items) in
    record {
      text = c.in-Ok.ensures.ok
          ∙ ap (λ (t : List ℕ). g.W.Sink.taken_octets c.args.writer.now ++ t)
          (played items c.as_slice-script.result.now c.as_slice-script.ensures.value good);
      ends = subst (λ (script : List ℕ). Ends None script) same good;
    }

pub returns-in-Err-clause-beginning : goal.returns-in-Err-clause-beginning
returns-in-Err-clause-beginning g c =
    let taken = g.W.Sink.taken_octets in
    let items = c.args.self.now.octets.items in
    let good : Ends None c.as_slice-script.result.now =
    subst (λ (fault : Option ScriptFault). Ends fault c.as_slice-script.result.now) c.in-None.is c.fault_of.ensures in
    subst (λ (t : List ℕ). IsBeginning (taken c.play.new.writer) (taken c.args.writer.now ++ t))
    (played items c.as_slice-script.result.now c.as_slice-script.ensures.value good) c.in-Err.ensures.beginning
