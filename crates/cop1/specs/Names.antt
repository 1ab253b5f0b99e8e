-- The verdicts of the receiver and the alerts of the sender, one row for each, and the names of the
-- states.
use Rattle.std.specs.Prelude.{ℕ, List, codes}
use Rattle.cop1.specs.declared.vocabulary.Alert.{Alert}
use Rattle.cop1.specs.declared.vocabulary.Alert.TheVariants.{Lockout, NnR, Clcw, Synch, Limit}
use Rattle.cop1.specs.declared.vocabulary.Alert.TheVariants.{Timer}
use Rattle.cop1.specs.declared.vocabulary.Alert.TheVariants.{Terminated}
use Rattle.cop1.specs.declared.vocabulary.FopMode.{FopMode}
use Rattle.cop1.specs.declared.vocabulary.FopMode.TheVariants.{S1, S2, S3, S4, S5, S6}
use Rattle.cop1.specs.declared.farm.FarmMode.{FarmMode}
use Rattle.cop1.specs.declared.farm.FarmMode.TheVariants as modes
use Rattle.cop1.specs.declared.farm.Verdict.{Verdict}
use Rattle.cop1.specs.declared.farm.Verdict.TheVariants.{Accepted, Ahead, NoBuffer, Behind, Outside}
use Rattle.cop1.specs.declared.farm.Verdict.TheVariants.{Discarded}

-- the number, and the name in ASCII
abbrev pub verdict_row : Verdict → ℕ × List ℕ
verdict_row Accepted = (0, codes "accepted")
verdict_row Ahead = (1, codes "ahead")
verdict_row NoBuffer = (2, codes "nobuffer")
verdict_row Behind = (3, codes "behind")
verdict_row Outside = (4, codes "outside")
verdict_row Discarded = (5, codes "discarded")

-- the number, and the name in ASCII
abbrev pub alert_row : Alert → ℕ × List ℕ
alert_row Lockout = (1, codes "Lockout")
alert_row NnR = (2, codes "NnR")
alert_row Clcw = (3, codes "Clcw")
alert_row Synch = (4, codes "Synch")
alert_row Limit = (5, codes "Limit")
alert_row Timer = (6, codes "Timer")
alert_row Terminated = (7, codes "Terminated")

-- the name of a state of the sender, in ASCII
abbrev pub fop_mode_name : FopMode → List ℕ
fop_mode_name S1 = codes "S1"
fop_mode_name S2 = codes "S2"
fop_mode_name S3 = codes "S3"
fop_mode_name S4 = codes "S4"
fop_mode_name S5 = codes "S5"
fop_mode_name S6 = codes "S6"

-- the name of a state of the receiver, in ASCII
abbrev pub farm_mode_name : FarmMode → List ℕ
farm_mode_name modes.Open = codes "Open"
farm_mode_name modes.Wait = codes "Wait"
farm_mode_name modes.Lockout = codes "Lockout"
