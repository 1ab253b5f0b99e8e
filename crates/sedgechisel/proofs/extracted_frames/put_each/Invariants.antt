use Rattle.std.proofs.Common.{◌≡◌, ◌≤◌, ◌+◌, ◌++◌, length, take, drop}
use Rattle.space_packet.specs.Packets.{packets_in}
use Rattle.tm_link.specs.Extractor.{without_idle}
use Rattle.sedgechisel.specs.Extractors.{handed_from}
use Rattle.sedgechisel.proofs.extracted_frames.put_each.Given as goal

abbrev pub invariant-each : goal.invariant-each
invariant-each l = record {
  within : l.place ≤ length l.payload;
  after : l.fn.at ≤ l.end;
  long : length l.packets ≡ length l.fn.packets;
  end : l.end + length (handed_from l.place l.payload) ≡ l.fn.at + length (handed_from l.fn.from l.payload);
  packets : take l.end l.packets ++ handed_from l.place l.payload
      ≡ take l.fn.at l.fn.packets ++ handed_from l.fn.from l.payload;
  rest : drop l.end l.packets ≡ drop l.end l.fn.packets;
}

abbrev pub decreases-each : goal.decreases-each
decreases-each l = length (without_idle (packets_in (drop l.place l.payload)))
