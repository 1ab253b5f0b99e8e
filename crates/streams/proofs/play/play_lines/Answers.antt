use Rattle.std.proofs.Common.{◌≡◌, ◌∙◌, ◌++◌, ◌∷◌, ℕ, List, ap, sym, subst, append_assoc, option_copied}
use Rattle.octets.specs.Beginning.{IsBeginning}
use Rattle.streams.specs.Lines.{parts_of}
use Rattle.streams.specs.Words.{parts_from}
use Rattle.streams.specs.Player.{answers}
use Rattle.streams.proofs.Beginnings.{begins_more}
use Rattle.streams.proofs.play.play_lines.Goals as goal

pub returns-in-Err-clause-beginning : goal.returns-in-Err-clause-beginning
returns-in-Err-clause-beginning g c =
    let taken = g.W.Sink.taken_octets in
    let playing = g.P.Player.playing in
    let line = c.cut.result.0.now in
    let after = c.in-Some.after.now in
    let before = g.T.Gathered.octets c.lines.text in
    let more = answers playing c.play.new.self (parts_of after) in
    let parts : parts_of c.lines.rest.now ≡ line ∷ parts_of after =
    c.cut.ensures.parts ∙ ap (λ o. parts_from 10 line (option_copied o)) c.in-Some.is in
    let whole = before ++ answers playing c.lines.player (parts_of c.lines.rest.now) in
    let then_on = playing.after c.lines.player line in
    let answer = playing.answer c.lines.player line in
    let written = c.as_octets-then-as_octets-ge4096 in
    let cut : whole ≡ written.result.now ++ more =
    ap (λ (ps : List (List ℕ)). before ++ answers playing c.lines.player ps) parts
    ∙ sym (append_assoc before answer (answers playing then_on (parts_of after)))
    ∙ ap (λ (t : List ℕ). t ++ answers playing then_on (parts_of after))
    (sym (written.ensures ∙ c.in-Ok.ensures.text))
    ∙ ap (λ p. written.result.now ++ answers playing p (parts_of after)) (sym c.in-Ok.ensures.state) in
    subst (IsBeginning (taken c.write_answers-then-as_octets-ge4096.new.writer)) c.lines.invariant.told
    (begins_more _ (taken c.lines.writer) written.result.now more whole cut
    c.write_answers-then-as_octets-ge4096.ensures.beginning)
