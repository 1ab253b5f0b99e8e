use Rattle.std.proofs.Common.{rules, ◌∙◌, ap}
use Rattle.listings.specs.MapLines.{MapState}
use Rattle.listings.specs.OneMap.{OneMapState}
use Rattle.stream_commands.proofs.listed.list_maps.Goals as goal

pub list_only-requires-clause-lines : goal.list_only-requires-clause-lines
list_only-requires-clause-lines g c octets =
    let start = c.new-packets-in-Some.ensures
    ∙ ap (λ (x : OneMapState). record { awaits = c.in-Some.field-0.part.from_first; kept = x })
    (c.new.ensures
    ∙ ap (λ (x : MapState). record { map = c.in-Some.field-0.map; packets = x }) c.new-packets.ensures) in
    rw (start, c.frames_of-frames.ensures, c.requires.task, c.in-Some.is) (search rules)
