-- What is executed, and what is reported of it, over any link.
use Rattle.std.specs.Prelude.{◌≡◌, ⊤, ℕ, ◌+◌, ◌-◌, ◌<◌, ◌≤◌, ◌^◌, max, List, [], ◌∷◌, ◌++◌, true}
use Rattle.std.specs.Prelude.{Some, Ok, slice_get, drop, length, Bool, false}
use Rattle.std.specs.List.{AllByRecursion}
use Rattle.command_log.specs.declared.packets.Order.{Order}
use Rattle.command_log.specs.declared.record.Record.{Record}
use Rattle.command_log.specs.declared.status.Status.{Status}
use Rattle.command_log.specs.declared.status.Status.TheVariants as statuses
use Rattle.command_log.specs.Packets.{is_command, number_in, order_at}
use Rattle.command_log.specs.Status.{status_octets, status_spelled}
use Rattle.command_log.specs.Board.{IsAmong, IsKnown}
use Rattle.command_log.specs.Board.{Event, Offers, Orders, Acts, Restarts, BreaksOff, Spoils}
use Rattle.command_log.specs.CarriedOut.{AreInOrder}
use Rattle.command_ledger.specs.declared.state.Tell.{Tell}
use Rattle.command_ledger.specs.declared.state.Tell.TheVariants.{Executed, Unknown, Restarted}
use Rattle.command_ledger.specs.declared.state.Tell.TheVariants.{RecordLost, Foreign}
use Rattle.command_ledger.specs.Waiting.{Waiting}
use Rattle.execution.specs.System.{System, Report, Deed, Commands, Hears, Rebuilds, Appends}
use Rattle.execution.specs.System.{Reports}
use Rattle.execution.specs.System.{Renews, Crashes, Sends, OrdersRestart, Happens, SendsStatus}
use Rattle.execution.specs.System.{new_system, system_step, system_run}
use Rattle.execution.specs.System as deeds

-- ---- assumptions

-- no status has reported the mark
pub record IsNewMark (s : System) (mark : ℕ) : Type 0 where
  pub small : mark < 2 ^ 32
  pub new : (waits : ℕ) → IsAmong (status_octets (statuses.Lost mark) waits) s.statuses → ⊥

-- A command packet or an order that arrives with a valid check was sent. The mark of a restart is
-- new.
abbrev pub IsOfTheLink : System → Event → Type 0
IsOfTheLink s (Offers octets) = is_command octets ≡ true → IsAmong octets s.packets
IsOfTheLink s (Orders octets) =
    (order : Order) → order_at octets ≡ Ok order → IsAmong octets s.orders
IsOfTheLink s Acts = ⊤
IsOfTheLink s (Restarts mark) = IsNewMark s mark
IsOfTheLink s (BreaksOff mark) = IsNewMark s mark
IsOfTheLink s (Spoils place) = ⊤

-- a status that arrives with a valid check was sent
abbrev pub IsOwed : System → Deed → Type 0
IsOwed s (Commands tag on_map apid count content) = tag < 2 ^ 64
IsOwed s (Hears octets) =
    (status : Status × ℕ) → status_spelled octets ≡ Ok status → IsAmong octets s.statuses
IsOwed s Rebuilds = ⊤
IsOwed s Appends = ⊤
IsOwed s (Reports noted) = ⊤
IsOwed s Renews = ⊤
IsOwed s (Crashes torn) = ⊤
IsOwed s (Sends number) = ⊤
IsOwed s (deeds.Orders apid count) = ⊤
IsOwed s (OrdersRestart apid count) = ⊤
IsOwed s (Happens event) = IsOfTheLink s event
IsOwed s (SendsStatus waits) = ⊤

abbrev pub AreOwed : System → List Deed → Type 0
AreOwed s [] = ⊤
AreOwed s (deed ∷ deeds) = IsOwed s deed × AreOwed (system_step s deed) deeds

-- ---- guarantees

-- the command with this number, which begins at 1
abbrev pub HasNumber : List Waiting → ℕ → Waiting → Type 0
HasNumber given n c = (0 < n) × (slice_get given (n - 1) ≡ Some c)

-- the packet is that of the command with the packet's number
abbrev pub IsGiven : List Waiting → List ℕ → Type 0
IsGiven given packet = (c : Waiting) × HasNumber given (number_in packet) c × (c.packet ≡ packet)

-- The number is that of a command with this tag, which is reported in this way, and each number
-- below it was reported before. `fates` has for each number whether it was reported as executed.
pub record IsNext (s : System) (fates : List Bool) (executed : Bool) (before after tag n : ℕ)
    : Type 0 where
  pub command : Waiting
  pub there : HasNumber s.given n command
  pub tagged : command.tag ≡ tag
  pub fate : slice_get fates (n - 1) ≡ Some executed
  pub in_order : n ≤ before + 1
  pub then : after ≡ max before n

-- the executions that have begun since then are all of numbers above n
abbrev pub BeginsNoMore : ℕ → (then now : List (List ℕ)) → Type 0
BeginsNoMore n then now =
    (more : List (List ℕ)) × (now ≡ more ++ then)
    × AllByRecursion (λ packet. n < number_in packet) more

-- A report is true. `before` and `after` are the highest reported numbers before it and after it.
abbrev pub IsTrue : System → List Bool → (before after : ℕ) → (begun : List (List ℕ)) → Tell
    → Type 0
IsTrue s fates before after begun (Executed tag) =
    (n : ℕ) × IsNext s fates true before after tag n × IsAmong n s.board.whole
IsTrue s fates before after begun (Unknown tag) =
    (n : ℕ) × IsNext s fates false before after tag n × BeginsNoMore n begun s.board.packets
IsTrue s fates before after begun (Restarted boot) = after ≡ before
IsTrue s fates before after begun (RecordLost mark) = after ≡ before
IsTrue s fates before after begun (Foreign first last) = after ≡ before

abbrev pub AreTrue : System → List Bool → ℕ → List Report → Type 0
AreTrue s fates after [] = after ≡ 0
AreTrue s fates after (r ∷ rs) =
    (before : ℕ) × IsTrue s fates before after r.begun r.tell × AreTrue s fates before rs

pub record IsCarriedOut (s : System) : Type 0 where
  -- the commands whose execution began were given, and began once each, in order
  pub once : (bound : ℕ) × AreInOrder bound s.board.packets
  pub given : AllByRecursion (IsGiven s.given) s.board.packets
  -- each command that a status shows as executed was executed completely, and so had begun
  pub said : (octets : List ℕ) (kept : Record) (waits n : ℕ) → IsAmong octets s.statuses
      → status_spelled octets ≡ Ok (statuses.Says kept, waits) → IsKnown kept n
      → IsAmong n s.board.whole
  pub whole : (n : ℕ) → IsAmong n s.board.whole
      → (packet : List ℕ) × IsAmong packet s.board.packets × (number_in packet ≡ n)
  -- Each report is true, and no command is reported in two ways. If no report is due, each command
  -- up to `below` was reported, and the ledger has all others.
  pub told : (fates : List Bool) × AreTrue s fates (length fates) s.told
      × (s.ledger.state.tells ≡ [] → s.ledger.state.standing.below ≤ length fates)
  pub held : s.ledger.state.commands ≡ drop s.ledger.state.standing.below s.given

abbrev pub EachSystemCarriesOut : Type 0
EachSystemCarriesOut =
    (max_packet : ℕ) (deeds : List Deed) → AreOwed (new_system max_packet) deeds
    → IsCarriedOut (system_run (new_system max_packet) deeds)
