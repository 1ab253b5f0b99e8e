use Rattle.std.proofs.Common.{◌≡◌, ◌-◌, ◌≤◌, ◌++◌, length}
use Rattle.std.specs.Io.KnownBytes.{Consumes}
use Rattle.streams.specs.Devices.{gained}
use Rattle.streams.specs.Pieces.{GoesOn}
use Rattle.streams.specs.declared.pieces.TheConstants.{MOST_OCTETS}
use Rattle.streams.proofs.pieces.go_through.Given as goal

-- the octets so far are taken
abbrev pub invariant-pieces : goal.invariant-pieces
invariant-pieces g l =
    let given = g.R.Source.given in
    let left = g.R.Source.remaining in
    let taken = g.W.Sink.taken_octets in
    record {
      gave : given l.reader ≡ given l.fn.reader ++ gained (given l.fn.reader) (given l.reader);
      goes_on : GoesOn g.T.Taker.taking 0 (gained (given l.fn.reader) (given l.reader)) l.fn.taker l.fn.kept
          (taken l.fn.writer) l.taker l.kept (taken l.writer);
      consumes : Consumes (left l.fn.reader) (left l.reader) (gained (given l.fn.reader) (given l.reader));
      counted : l.total ≡ length (gained (given l.fn.reader) (given l.reader));
      short : l.total ≤ MOST_OCTETS;
      read_failures : g.R.Source.failures l.reader ≡ g.R.Source.failures l.fn.reader;
      write_failures : g.W.Sink.failures l.writer ≡ g.W.Sink.failures l.fn.writer;
    }

abbrev pub decreases-pieces : goal.decreases-pieces
decreases-pieces g l = MOST_OCTETS - l.total
