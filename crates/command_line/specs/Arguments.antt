-- The arguments of the commands, and the values that they give.
use Rattle.std.specs.Prelude.{◌≡◌, ◌++◌, ℕ, Bool, true, false, List, [], ◌∷◌, Option, Some, None}
use Rattle.std.specs.Prelude.{IfSome, codes, is_some, pos, ◌<◌, ◌≤◌, ◌%◌}
use Rattle.std.specs.Bool.{OnTrue}
use Rattle.clap.specs.declared.builder.arg.Arg.{Arg}
use Rattle.clap.specs.declared.builder.command.Command.{Command}
use Rattle.clap.specs.declared.builder.command.Command.TheViews.{out-Command as fields_of}
use Rattle.clap.specs.declared.parser.matches.ArgMatches.{ArgMatches}
use Rattle.clap.specs.Built.{IsPlainArg, TakesValue}
use Rattle.clap.specs.Facts.{args_of, groups_of}
use Rattle.clap.specs.Words.{IsSignedIn, first_value, found_of, one_text, without_minus}
use Rattle.command_line.specs.declared.commands.Named.{Named}
use Rattle.cop1.specs.Farm.{IsWidth}
use Rattle.command_line.specs.declared.task.Channel.{Channel}
use Rattle.command_line.specs.declared.task.MapPart.{MapPart}
use Rattle.command_line.specs.declared.task.Searched.{Searched}
use Rattle.command_line.specs.declared.task.Task.{Task}
use Rattle.command_line.specs.declared.task.UsageFault.{UsageFault}
use Rattle.command_line.specs.declared.task.UsageFault.TheVariants.{Words, OddWidth}
use Rattle.clap.specs.declared.builder.value_parser.ValueParser.TheVariants as parsers
use Rattle.command_line.specs.declared.commands.Named.TheVariants as commands
use Rattle.command_line.specs.declared.task.Searched.TheVariants as searches
use Rattle.command_line.specs.declared.task.Task.TheVariants as tasks

-- a command with no argument, no group and nothing global yet, in which a subcommand lifts no
-- requirement
abbrev pub IsBare : Command → Type 0
IsBare command =
    (args_of command ≡ []) × (groups_of command ≡ []) × ((fields_of command).has_globals ≡ false)
    × ((fields_of command).subcommand_negates_reqs ≡ false)

-- what an argument must be: its name, whether it is required, and the range of its number, if it
-- has one
pub record Wanted : Type 0 where
  pub name : List ℕ
  pub is_required : Bool
  pub range : Option (ℕ × ℕ)

abbrev pub named : List ℕ → Wanted
named name = record { name = name; is_required = false; range = None }

abbrev pub width : Wanted
width = record (named (codes "width")) { range = Some (2, 254) }

abbrev pub vr : Wanted
vr = named (codes "vr")

abbrev pub check : Wanted
check = named (codes "check")

abbrev pub resync : Wanted
resync = named (codes "resync")

abbrev pub skip_invalid : Wanted
skip_invalid = named (codes "skip-invalid")

abbrev pub blocking : Wanted
blocking = named (codes "blocking")

abbrev pub report : Wanted
report = named (codes "report")

abbrev pub count : Wanted
count = named (codes "count")

abbrev pub length : Wanted
length = record { name = codes "length"; is_required = true; range = Some (16, 2048) }

abbrev pub scid : Wanted
scid = record (named (codes "scid")) { range = Some (0, 1023) }

abbrev pub vcid : Wanted
vcid = record (named (codes "vcid")) { range = Some (0, 63) }

abbrev pub telemetry_vcid : Wanted
telemetry_vcid = record (named (codes "vcid")) { range = Some (0, 7) }

abbrev pub map : Wanted
map = record (named (codes "map")) { range = Some (0, 63) }

abbrev pub apid : Wanted
apid = record (named (codes "apid")) { range = Some (0, 2047) }

abbrev pub file : Wanted
file = record { name = codes "FILE"; is_required = true; range = None }

-- a file that may be omitted
abbrev pub input : Wanted
input = named (codes "FILE")

-- the file of each command, its last argument
abbrev pub file_of : Named → Wanted
file_of commands.Ground = input
file_of commands.Spacecraft = input
file_of _ = file

-- the arguments of each command, except the file
abbrev pub options_of : Named → List Wanted
options_of commands.Farm = width ∷ vr ∷ scid ∷ vcid ∷ check ∷ resync ∷ count ∷ []
options_of commands.Map =
    width ∷ vr ∷ scid ∷ vcid ∷ map ∷ check ∷ resync ∷ blocking ∷ count ∷ []
options_of commands.Tc = scid ∷ vcid ∷ check ∷ resync ∷ count ∷ []
options_of commands.Tm = length ∷ scid ∷ telemetry_vcid ∷ report ∷ count ∷ []
options_of commands.Clcw = vcid ∷ count ∷ []
options_of commands.Check = scid ∷ vcid ∷ resync ∷ count ∷ []
options_of commands.Packets = apid ∷ count ∷ []
options_of commands.Encode = check ∷ skip_invalid ∷ []
options_of commands.Sim = []
options_of commands.Ground = []
options_of commands.Spacecraft = []

abbrev pub wanted_of : Named → List Wanted
wanted_of command = options_of command ++ file_of command ∷ []

-- the argument is the expected one, excludes nothing, and belongs only to its command
abbrev pub IsArgument : Arg → Wanted → Type 0
IsArgument a wanted =
    (a.id.now ≡ wanted.name) × IsPlainArg a × (a.global ≡ false)
    × OnTrue wanted.is_required (TakesValue a)
    × IfSome wanted.range (λ r. a.value_parser ≡ Some (parsers.Signed (pos r.0) (pos r.1)))

-- and so are these arguments, one after another
abbrev pub AreArguments : List Arg → List Wanted → Type 0
AreArguments [] [] = Unit {0}
AreArguments [] (wanted ∷ more) = ⊥
AreArguments (a ∷ rest) [] = ⊥
AreArguments (a ∷ rest) (wanted ∷ more) = IsArgument a wanted × AreArguments rest more

-- a text that is read as a number in this range
abbrev pub IsNumberIn : ℕ × ℕ → List ℕ → Type 0
IsNumberIn range text =
    (word : List ℕ) × (text ≡ without_minus word)
    × IsSignedIn (pos range.0) (pos range.1) word

-- the input has a value if one is required, and no number that is out of range
abbrev pub Gives : ArgMatches → Wanted → Type 0
Gives given wanted =
    OnTrue wanted.is_required (is_some (first_value (found_of given) wanted.name) ≡ true)
    × IfSome wanted.range (λ r. (text : List ℕ)
    → one_text (found_of given) wanted.name ≡ Some text → IsNumberIn r text)

abbrev pub GivesAll : ArgMatches → List Wanted → Type 0
GivesAll given [] = Unit {0}
GivesAll given (wanted ∷ more) = Gives given wanted × GivesAll given more

-- The ranges of the numbers in the input.

-- of a spacecraft, and of a virtual channel up to this one
abbrev pub AreIdentifiers : ℕ → Channel → Type 0
AreIdentifiers most c = IfSome c.scid (λ n. n ≤ 1023) × IfSome c.vcid (λ n. n ≤ most)

abbrev pub IsMapPart : MapPart → Type 0
IsMapPart p = AreIdentifiers 63 p.part.channel × IfSome p.map (λ n. n ≤ 63)

-- what is listed for the good frames of a channel
abbrev pub IsSearched : Searched → Type 0
IsSearched (searches.Farm width vr from_first) = IsWidth width × (vr < 256)
IsSearched (searches.Map width vr from_first blocking map) =
    IsWidth width × (vr < 256) × IfSome map (λ n. n ≤ 63)
IsSearched searches.Tc = Unit {0}
IsSearched searches.Check = Unit {0}

abbrev pub IsInRange : Task → Type 0
IsInRange (tasks.Farm check width vr part) =
    IsWidth width × (vr < 256) × IfSome part (λ p. AreIdentifiers 63 p.channel)
IsInRange (tasks.Map check width vr blocking part) =
    IsWidth width × (vr < 256) × IfSome part IsMapPart
IsInRange (tasks.Tc check channel) = IfSome channel (AreIdentifiers 63)
IsInRange (tasks.Tm length report channel) =
    (16 ≤ length) × (length ≤ 2048) × IfSome channel (AreIdentifiers 7)
IsInRange (tasks.Clcw vcid) = IfSome vcid (λ n. n ≤ 63)
IsInRange (tasks.Check channel) = IfSome channel (AreIdentifiers 63)
IsInRange (tasks.Resync listed scid vcid) = IsSearched listed × (scid ≤ 1023) × (vcid ≤ 63)
IsInRange (tasks.Packets apid) = IfSome apid (λ n. n ≤ 2047)
IsInRange (tasks.Encode check skips) = Unit {0}
IsInRange tasks.Sim = Unit {0}
IsInRange tasks.Ground = Unit {0}
IsInRange tasks.Spacecraft = Unit {0}

-- a width that is refused is odd
abbrev pub IsOddIfWidth : UsageFault → Type 0
IsOddIfWidth (Words error) = Unit {0}
IsOddIfWidth (OddWidth width) = width % 2 ≡ 1
