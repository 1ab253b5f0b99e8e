-- The table of commands, and what it defines: the lines, the outcome and the end of a file. Nothing
-- is listed for a file that is run.
use Rattle.std.specs.Prelude.{◌≡◌, ◌⊎◌, List, [], ℕ, Bool, true, false, Option, Some, None}
use Rattle.std.specs.Prelude.{Result, IfOk, OnOk}
use Rattle.tc_frame.specs.declared.frame.Check.{Check}
use Rattle.tc_frame.specs.declared.frame.Check.TheVariants.{On}
use Rattle.tc_frame.specs.declared.fault.TcFault.{TcFault}
use Rattle.tc_frame.specs.Splitter.{check_if}
use Rattle.cop1.specs.Farm.{FarmState, new_farm}
use Rattle.command_line.specs.declared.task.Channel.{Channel}
use Rattle.command_line.specs.declared.task.MapPart.{MapPart}
use Rattle.command_line.specs.declared.task.Part.{Part}
use Rattle.command_line.specs.declared.task.Searched.{Searched}
use Rattle.command_line.specs.declared.task.Searched.TheVariants as searches
use Rattle.command_line.specs.declared.task.Task.{Task}
use Rattle.command_line.specs.declared.task.Task.TheVariants as tasks
use Rattle.stream_commands.specs.Found.{found, found_summary}
use Rattle.streams.specs.declared.fault.StreamFault.{StreamFault}
use Rattle.streams.specs.Devices.{gained, HasEnded}
use Rattle.listings.specs.FarmLines.{farm_lines}
use Rattle.listings.specs.Filters.{keeps_frame, keeps_packet, keeps_telemetry, keeps_word, only}
use Rattle.listings.specs.FirstNumber.{farm_begun, from_first}
use Rattle.listings.specs.FrameLines.{frame_lines}
use Rattle.listings.specs.MapLines.{MapState, map_lines, map_opened}
use Rattle.listings.specs.OneMap.{one_map_begun, one_map_lines}
use Rattle.listings.specs.RefusalLines.{refusal_lines}
use Rattle.listings.specs.PacketLines.{none_seen, packet_lines}
use Rattle.listings.specs.ReportLines.{report_lines}
use Rattle.listings.specs.TelemetryLines.{telemetry_lines, telemetry_opened}
use Rattle.listings.specs.Layouts.{Layout, frame_layout, telemetry_layout, word_layout}
use Rattle.listings.specs.Layouts.{packet_layout, rest_by, IsRefused}
use Rattle.listings.specs.Listing.{Lines, fresh, text_of, summary_of}
use Rattle.streams.specs.Streams.{Reads, WritesText}
use Rattle.listings.specs.Totals.{totals_of}
use Rattle.listings.specs.declared.stream.Summary.{Summary}
use Rattle.stream_commands.specs.declared.outcome.Outcome.{Outcome}
use Rattle.stream_commands.specs.Outcome.{outcome_if}

-- What is done with a file. Its records are listed, cut by this layout, with these lines and this
-- kept before the first. Or the good frames of a channel, of this spacecraft and this virtual
-- channel, are listed in the same way, with what is skipped between them. Or the file is run, as a
-- script or line by line, and is not a stream of records.
pub data Work : Type 1 where
  Lists : {S F : Type 0} → Layout F → Lines S F → S → Work
  Finds : {S F : Type 0} → ℕ → ℕ → Lines S F → S → Work
  Plays : Work

-- the telecommand frames of a channel
abbrev pub frames_on : Channel → List ℕ → Bool
frames_on c octets = keeps_frame c.scid c.vcid octets

-- the telemetry frames of a channel
abbrev pub telemetry_on : Channel → List ℕ → Bool
telemetry_on c octets = keeps_telemetry c.scid c.vcid octets

-- telecommand frames are listed, those of a channel or all
abbrev pub frames_work : {S : Type 0} → Check → Lines S TcFault → S → Option Channel → Work
frames_work check lines start None = Lists (frame_layout check) lines start
frames_work check lines start (Some c) =
    Lists (frame_layout check) (only (frames_on c) lines) start

abbrev pub farm_work : Check → FarmState → Option Part → Work
farm_work check start None = frames_work check (farm_lines check) start None
farm_work check start (Some p) =
    frames_work check (from_first farm_begun check (farm_lines check))
    (record { awaits = p.from_first; kept = start }) (Some p.channel)

abbrev pub map_work : Check → MapState → Option MapPart → Work
map_work check start None = frames_work check (map_lines check) start None
map_work check start (Some p) =
    frames_work check (from_first one_map_begun check (one_map_lines check))
    (record { awaits = p.part.from_first; kept = record { map = p.map; packets = start } })
    (Some p.part.channel)

abbrev pub telemetry_work : ℕ → Bool → Option Channel → Work
telemetry_work size report None =
    Lists (telemetry_layout size) (telemetry_lines size) (telemetry_opened report)
telemetry_work size report (Some c) =
    Lists (telemetry_layout size) (only (telemetry_on c) (telemetry_lines size))
    (telemetry_opened report)

abbrev pub word_work : Option ℕ → Work
word_work None = Lists word_layout report_lines tt
word_work (Some vcid) = Lists word_layout (only (keeps_word vcid) report_lines) tt

abbrev pub packet_work : Option ℕ → Work
packet_work None = Lists packet_layout packet_lines none_seen
packet_work (Some apid) = Lists packet_layout (only (keeps_packet apid) packet_lines) none_seen

-- what is listed for the good frames of a channel
abbrev pub searched_work : ℕ → ℕ → Searched → Work
searched_work scid vcid (searches.Farm width vr first) =
    Finds scid vcid (from_first farm_begun On (farm_lines On))
    (record { awaits = first; kept = new_farm width vr })
searched_work scid vcid (searches.Map width vr first blocking map) =
    Finds scid vcid (from_first one_map_begun On (one_map_lines On))
    (record { awaits = first; kept = record { map = map; packets = map_opened width vr blocking } })
searched_work scid vcid searches.Tc = Finds scid vcid (frame_lines On) tt
searched_work scid vcid searches.Check = Finds scid vcid refusal_lines tt

-- the table of commands
abbrev pub work_of : Task → Work
work_of (tasks.Farm check width vr part) = farm_work (check_if check) (new_farm width vr) part
work_of (tasks.Map check width vr blocking part) =
    map_work (check_if check) (map_opened width vr blocking) part
work_of (tasks.Tc check channel) =
    frames_work (check_if check) (frame_lines (check_if check)) tt channel
work_of (tasks.Tm size report channel) = telemetry_work size report channel
work_of (tasks.Clcw vcid) = word_work vcid
work_of (tasks.Check channel) = frames_work On refusal_lines tt channel
work_of (tasks.Resync listed scid vcid) = searched_work scid vcid listed
work_of (tasks.Packets apid) = packet_work apid
work_of (tasks.Encode check skips) = Plays
work_of tasks.Sim = Plays
work_of tasks.Ground = Plays
work_of tasks.Spacecraft = Plays

-- whether a file is listed
abbrev pub is_listed : Task → Bool
is_listed (tasks.Encode check skips) = false
is_listed tasks.Sim = false
is_listed tasks.Ground = false
is_listed tasks.Spacecraft = false
is_listed task = true

-- the lines for all octets of a file, its rest included; nothing is listed for a file that is run
abbrev pub work_lines : Work → List ℕ → List ℕ
work_lines (Lists layout lines start) octets = text_of lines layout (fresh start octets)
work_lines (Finds scid vcid lines start) octets = (found lines scid vcid start octets).text
work_lines Plays octets = []

-- how many records and octets there are, and whether every record is good and nothing is left; if
-- good frames are searched for, whether nothing is skipped
abbrev pub work_summary : Work → List ℕ → Summary
work_summary (Lists layout lines start) octets = summary_of lines layout (fresh start octets)
work_summary (Finds scid vcid lines start) octets = found_summary lines scid vcid start octets
work_summary Plays octets = record { records = 0; octets = 0; all_good = true }

-- a record's length is refused, so that nothing more is read; a file that is searched or run is
-- read to its end
abbrev pub WorkStops : Work → List ℕ → Type 0
WorkStops (Lists layout lines start) octets = IsRefused layout (rest_by layout octets)
WorkStops (Finds scid vcid lines start) octets = ⊥
WorkStops Plays octets = ⊥

abbrev pub listed_lines : Task → List ℕ → List ℕ
listed_lines task octets = work_lines (work_of task) octets

abbrev pub task_summary : Task → List ℕ → Summary
task_summary task octets = work_summary (work_of task) octets

-- Good exactly when every record is good and nothing is left
abbrev pub listed_outcome : Task → List ℕ → Outcome
listed_outcome task octets = outcome_if (task_summary task octets).all_good

-- what is written for a file: its lines, or their totals
abbrev pub shown_lines : Bool → Task → List ℕ → List ℕ
shown_lines false task octets = listed_lines task octets
shown_lines true task octets =
    totals_of (task_summary task octets).records (task_summary task octets).octets
    (listed_lines task octets)

abbrev pub StopsAt : Task → List ℕ → Type 0
StopsAt task octets = WorkStops (work_of task) octets

-- A file is listed as a task requires: what the source has given is read, and the lines are
-- written. The answer is what was listed. All was read, or the task stops.
pub record ListsTask {R W : Type 0} (given : R → List ℕ) (remaining : R → Option (List ℕ))
    (read_failures : R → ℕ) (has_ended : R → Bool) (taken : W → List ℕ) (write_failures : W → ℕ)
    (task : Task) (result : Result Summary StreamFault)
    (reader reader' : R) (writer writer' : W) : Type 0 where
  pub reads : Reads given remaining read_failures result reader reader'
  pub writes : WritesText taken write_failures result writer writer'
      (listed_lines task (gained (given reader) (given reader')))
  pub listed : IfOk result (λ l. l ≡ task_summary task (gained (given reader) (given reader')))
  pub end : OnOk result (HasEnded (has_ended reader') (remaining reader')
      ⊎ StopsAt task (gained (given reader) (given reader')))
