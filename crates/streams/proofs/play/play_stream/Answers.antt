use Rattle.std.proofs.Common.{◌∙◌, subst}
use Rattle.std.proofs.lemmas.Result.{IfOk-weaker}
use Rattle.streams.specs.Devices.{gained}
use Rattle.streams.specs.Streams.{WritesText}
use Rattle.streams.proofs.Beginnings.{on_ok_from}
use Rattle.streams.proofs.PlayedPieces.{text_of_all, good_of_all, player_of_all}
use Rattle.streams.proofs.play.play_stream.Goals as goal

pub returns-clause-writes : goal.returns-clause-writes
returns-clause-writes g c =
    let octets = gained (g.R.Source.given c.args.reader.now) (g.R.Source.given c.go_through.new.reader) in
    subst (WritesText g.W.Sink.taken_octets g.W.Sink.failures c.go_through.result c.args.writer.now
    c.go_through.new.writer) (text_of_all g.P.Player.playing c.args.player.now _ octets c.new.ensures.items)
    c.go_through.ensures.writes

pub returns-clause-good : goal.returns-clause-good
returns-clause-good g c =
    let octets = gained (g.R.Source.given c.args.reader.now) (g.R.Source.given c.go_through.new.reader) in
    IfOk-weaker c.go_through.result _ _
    (λ good h. h.0 ∙ good_of_all g.P.Player.playing c.args.player.now _ octets c.new.ensures.items)
    c.go_through.ensures.answer

pub returns-clause-player : goal.returns-clause-player
returns-clause-player g c =
    let octets = gained (g.R.Source.given c.args.reader.now) (g.R.Source.given c.go_through.new.reader) in
    on_ok_from _ c.go_through.result
    (λ good h. h.1 ∙ player_of_all g.P.Player.playing c.args.player.now _ octets c.new.ensures.items)
    c.go_through.ensures.answer
