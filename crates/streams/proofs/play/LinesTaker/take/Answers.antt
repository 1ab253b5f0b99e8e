use Rattle.std.proofs.Common.{[], refl}
use Rattle.streams.proofs.Beginnings.{begins_more}
use Rattle.streams.specs.Lines.{line_left}
use Rattle.streams.specs.Player.{answers, fed, standing}
use Rattle.streams.specs.declared.play.Lines.{Lines}
use Rattle.streams.proofs.PlayedPieces.{playing_goes_on}
use Rattle.streams.proofs.play.LinesTaker.take.Goals as goal

pub returns-in-Ok-clause-goes_on : goal.returns-in-Ok-clause-goes_on
returns-in-Ok-clause-goes_on g c = λ e.
    playing_goes_on g.P.Player.playing (λ (l : Lines g.row.T.Denot) player. standing [] player l.progress)
    _ _ _ _ _ _ _ _ c.in-Ok.ensures.played

pub returns-in-Err-clause-beginning : goal.returns-in-Err-clause-beginning
returns-in-Err-clause-beginning g c =
    let st = fed g.P.Player.playing (standing [] c.args.player.now c.args.self.now.progress) c.args.piece.now in
    begins_more _ _ st.text (answers g.P.Player.playing st.player (line_left st.left)) _ refl
    c.in-Err.ensures.beginning
