-- The words for numbers, which are those of the crates.
use Rattle.std.specs.Prelude.{ℕ, Bool, false, List, [], ◌∷◌, codes, Option, Some, None}
use Rattle.c_words.specs.Words.{name_if, name_by, found_by}
use Rattle.clcw.specs.declared.fault.ClcwFault.TheVariants as clcw
use Rattle.clcw.specs.Faults as clcw_faults
use Rattle.cop1.specs.declared.fault.CopFault.TheVariants as cop
use Rattle.cop1.specs.Faults as cop_faults
use Rattle.cop1.specs.declared.farm.Verdict.TheVariants as verdicts
use Rattle.cop1.specs.Names.{verdict_row, alert_row}
use Rattle.cop1.specs.Alerts.{shows_broken, advice}
use Rattle.cop1.specs.declared.vocabulary.Alert.{Alert}
use Rattle.cop1.specs.declared.vocabulary.Alert.TheVariants as alerts
use Rattle.tc_frame.specs.declared.fault.TcFault.TheVariants as tc
use Rattle.tc_frame.specs.Faults as tc_faults
use Rattle.space_packet.specs.declared.fault.PacketFault.TheVariants as packet
use Rattle.space_packet.specs.Faults as packet_faults
use Rattle.tm_link.specs.declared.fault.TmFault.TheVariants as tm
use Rattle.tm_link.specs.Faults as tm_faults
use Rattle.map_service.specs.declared.fault.MapFault.TheVariants as map
use Rattle.map_service.specs.Faults as map_faults
use Rattle.map_service.specs.Causes.{cause_row}
use Rattle.command_log.specs.declared.fault.LogFault.TheVariants as log
use Rattle.command_log.specs.Faults as log_faults
use Rattle.sedgechisel.specs.Maps.{cause_at}

abbrev pub clcw_fault_word : ℕ → List ℕ
clcw_fault_word n =
    name_by clcw_faults.fault_row
    (clcw.Kind ∷ clcw.Version ∷ clcw.Cop ∷ clcw.Spare ∷ clcw.Range ∷ []) n

abbrev pub cop_fault_word : ℕ → List ℕ
cop_fault_word n = name_by cop_faults.fault_row
    (cop.Width ∷ cop.Window ∷ cop.Limit ∷ cop.Timer ∷ cop.Memory ∷ cop.NotOpen ∷ cop.Busy
    ∷ cop.WrongState ∷ cop.State ∷ []) n

abbrev pub verdict_word : ℕ → List ℕ
verdict_word n = name_by verdict_row
    (verdicts.Accepted ∷ verdicts.Ahead ∷ verdicts.NoBuffer ∷ verdicts.Behind ∷ verdicts.Outside
    ∷ verdicts.Discarded ∷ []) n

-- the alert of this number, 1 to 7
abbrev pub alert_at : ℕ → Option Alert
alert_at n = found_by (λ alert. (alert_row alert).0)
    (alerts.Lockout ∷ alerts.NnR ∷ alerts.Clcw ∷ alerts.Synch ∷ alerts.Limit ∷ alerts.Timer
    ∷ alerts.Terminated ∷ []) n

abbrev pub alert_word : ℕ → List ℕ
alert_word n = name_if alert_row (alert_at n)

-- whether an alert shows a broken condition; false for none
abbrev pub broken_if : Option Alert → Bool
broken_if None = false
broken_if (Some alert) = shows_broken alert

-- what an alert advises, and "?" for none
abbrev pub advice_if : Option Alert → List ℕ
advice_if None = codes "?"
advice_if (Some alert) = advice alert

abbrev pub tc_fault_word : ℕ → List ℕ
tc_fault_word n = name_by tc_faults.fault_row
    (tc.Short ∷ tc.Version ∷ tc.ReservedType ∷ tc.Spare ∷ tc.Length ∷ tc.Check ∷ tc.BypassNumber
    ∷ tc.EmptyData ∷ tc.Command
    ∷ tc.Room ∷ tc.FieldRange ∷ tc.Memory ∷ []) n

abbrev pub packet_fault_word : ℕ → List ℕ
packet_fault_word n = name_by packet_faults.fault_row
    (packet.Truncated ∷ packet.Version ∷ packet.IdleWithSecondary ∷ packet.Room ∷ packet.FieldRange
    ∷ packet.Memory ∷ []) n

abbrev pub tm_fault_word : ℕ → List ℕ
tm_fault_word n = name_by tm_faults.fault_row
    (tm.Length ∷ tm.Version ∷ tm.Check ∷ tm.Status ∷ tm.Pointer ∷ tm.NoOcf ∷ tm.Memory
    ∷ tm.NotAPacket ∷ tm.Room ∷ tm.FieldRange ∷ []) n

abbrev pub map_fault_word : ℕ → List ℕ
map_fault_word n =
    name_by map_faults.fault_row
    (map.NotAPacket ∷ map.TooLong ∷ map.Memory ∷ []) n

abbrev pub log_fault_word : ℕ → List ℕ
log_fault_word n =
    name_by log_faults.fault_row
    (log.Layout ∷ log.Check ∷ log.Starting ∷ log.Busy ∷ log.Lost ∷ log.Behind ∷ log.Ahead
    ∷ log.OtherBoot ∷ log.NotLost ∷ log.OtherMark ∷ log.FieldRange ∷ log.Room ∷ []) n

abbrev pub dropped_word : ℕ → List ℕ
dropped_word n = name_if cause_row (cause_at n)
