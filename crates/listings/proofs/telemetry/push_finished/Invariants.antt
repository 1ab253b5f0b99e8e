use Rattle.std.proofs.Common.{◌≡◌, ◌++◌, drop}
use Rattle.listings.specs.Text.{written}
use Rattle.tm_link.specs.Extractor.{octets_of}
use Rattle.listings.specs.TelemetryLines.{finished_lines}
use Rattle.listings.proofs.telemetry.push_finished.Given as goal

-- the lines so far, and those of the packets that are left
abbrev pub invariant-loop-packet : goal.invariant-loop-packet
invariant-loop-packet l =
    written l.text ++ finished_lines (octets_of (drop l.packet-index l.packets)) ≡ written l.fn.text
    ++ finished_lines (octets_of l.fn.packets)
