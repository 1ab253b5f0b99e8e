use Rattle.std.proofs.Common.{◌≡◌, ◌∙◌, ◌∷◌, ap, option_copied}
use Rattle.streams.specs.Lines.{parts_of}
use Rattle.streams.specs.Words.{parts_from}
use Rattle.streams.specs.Player.{standing}
use Rattle.streams.proofs.PlayedPieces.{fed_after}
use Rattle.streams.proofs.play.play_parts.Goals as goal

pub lines-preserved : goal.lines-preserved
lines-preserved g c =
    let st = standing (g.T.Gathered.octets c.lines.text) c.lines.player c.lines.progress in
    let part = c.cut.result.0.now in
    let rest = c.lines.rest.now in
    let after = c.in-Some.after.now in
    let cuts : parts_of rest ≡ part ∷ parts_of after =
    c.cut.ensures.parts ∙ ap (λ o. parts_from 10 part (option_copied o)) c.in-Some.is in
    fed_after g.P.Player.playing st _ _ part rest after c.in_ok-extend_from_slice.ensures.items
    c.in_ok-play_line.ensures cuts
    ∙ c.lines.invariant
