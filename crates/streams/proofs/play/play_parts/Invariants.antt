use Rattle.std.proofs.Common.{◌≡◌, length}
use Rattle.streams.specs.Player.{fed, standing}
use Rattle.streams.proofs.play.play_parts.Given as goal

-- the octets from here on lead to where all octets lead
abbrev pub invariant-lines : goal.invariant-lines
invariant-lines g l =
    fed g.P.Player.playing (standing (g.T.Gathered.octets l.text) l.player l.progress) l.rest
    ≡ fed g.P.Player.playing (standing (g.T.Gathered.octets l.fn.text) l.fn.player l.fn.progress) l.fn.piece

abbrev pub decreases-lines : goal.decreases-lines
decreases-lines g l = length l.rest
