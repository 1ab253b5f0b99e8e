use Rattle.std.proofs.Common.{◌∙◌, ap, sym}
use Rattle.std.proofs.lemmas.Result.{IfOk-weaker}
use Rattle.command_line.specs.declared.task.Searched.{Searched}
use Rattle.command_line.specs.declared.task.Task.{Task}
use Rattle.command_line.specs.declared.task.Task.TheVariants as tasks
use Rattle.stream_commands.specs.Found.{found_summary}
use Rattle.listings.specs.FirstNumber.{Awaiting, from_first}
use Rattle.streams.specs.Devices.{gained}
use Rattle.listings.specs.MapLines.{MapState}
use Rattle.listings.specs.OneMap.{OneMapState, one_map_begun, one_map_lines}
use Rattle.tc_frame.specs.declared.frame.Check.TheVariants.{On}
use Rattle.stream_commands.specs.Listed.{task_summary}
use Rattle.stream_commands.proofs.searched.list_searched.Goals as goal

pub returns-in-Map-clause-listed : goal.returns-in-Map-clause-listed
returns-in-Map-clause-listed g c =
    let octets = gained (g.R.Source.given c.args.reader.now) (g.R.Source.given c.list_found_frames-in-Map.new.reader) in
    let asked = c.requires.task ∙ ap (λ (s : Searched). tasks.Resync s c.args.scid c.args.vcid) c.in-Map.is in
    let start = c.new-packets-in-Map.ensures
    ∙ ap (λ (x : OneMapState). record { awaits = c.in-Map.from_first; kept = x })
    (c.new-in-Map.ensures ∙ ap (λ (x : MapState). record { map = c.in-Map.map; packets = x }) c.new-packets.ensures) in
    IfOk-weaker c.list_found_frames-in-Map.result _ _
    (λ l h. h
    ∙ (ap (λ (s : Awaiting OneMapState).
    found_summary (from_first one_map_begun On (one_map_lines On)) c.args.scid c.args.vcid s octets) start
    ∙ ap (λ (t : Task). task_summary t octets) (sym asked)))
    c.list_found_frames-in-Map.ensures.listed

pub returns-in-Map-clause-writes : goal.returns-in-Map-clause-writes
returns-in-Map-clause-writes g c =
    let asked = c.requires.task ∙ ap (λ (s : Searched). tasks.Resync s c.args.scid c.args.vcid) c.in-Map.is in
    let start = c.new-packets-in-Map.ensures
    ∙ ap (λ (x : OneMapState). record { awaits = c.in-Map.from_first; kept = x })
    (c.new-in-Map.ensures ∙ ap (λ (x : MapState). record { map = c.in-Map.map; packets = x }) c.new-packets.ensures) in
    rw (asked, sym start) c.list_found_frames-in-Map.ensures.writes
