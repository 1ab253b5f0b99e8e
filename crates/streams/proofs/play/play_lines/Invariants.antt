use Rattle.std.proofs.Common.{◌≡◌, ◌++◌, length}
use Rattle.streams.specs.Lines.{parts_of}
use Rattle.streams.specs.Player.{after_lines, answers}
use Rattle.streams.proofs.play.play_lines.Given as goal

-- what is written, what is gathered and the answers to what is left are together the answers to all
abbrev pub invariant-lines : goal.invariant-lines
invariant-lines g l =
    let taken = g.W.Sink.taken_octets in
    let playing = g.P.Player.playing in
    record {
      told : taken l.writer ++ (g.T.Gathered.octets l.text ++ answers playing l.player (parts_of l.rest))
          ≡ taken l.fn.writer ++ answers playing l.fn.player (parts_of l.fn.lines);
      played : after_lines playing l.player (parts_of l.rest)
          ≡ after_lines playing l.fn.player (parts_of l.fn.lines);
      failures : g.W.Sink.failures l.writer ≡ g.W.Sink.failures l.fn.writer;
    }

abbrev pub decreases-lines : goal.decreases-lines
decreases-lines g l = length l.rest
