-- A ground and a board, with any link between them. What was sent arrives once, several times or
-- not at all, in any order. Other octets may arrive too, but their check does not hold. The ground
-- numbers each command, stores the numbered commands, and sends only stored ones. The ground may be
-- lost; another one then begins with what was stored last.
use Rattle.std.specs.Prelude.{◌≡◌, ⊤, ℕ, ◌-◌, ◌<◌, ◌≤◌, max, List, [], ◌∷◌, ◌++◌, true, Some, Ok}
use Rattle.std.specs.Prelude.{slice_get}
use Rattle.std.specs.List.{AllByRecursion}
use Rattle.command_log.specs.declared.record.Record.{Record}
use Rattle.command_log.specs.declared.status.Status.{Status}
use Rattle.command_log.specs.declared.status.Status.TheVariants.{Says, Changes, Starts, Lost}
use Rattle.command_log.specs.declared.packets.Order.{Order}
use Rattle.command_log.specs.declared.packets.Order.TheVariants.{Rebuild}
use Rattle.command_log.specs.declared.packets.Order.TheVariants as orders
use Rattle.command_log.specs.Packets.{is_command, number_in, content_in, order_at, last_of}
use Rattle.command_log.specs.Executor.{status_of}
use Rattle.command_log.specs.Board.{Board, Event, Offers, Orders, Acts, Restarts, BreaksOff, Spoils}
use Rattle.command_log.specs.Board.{new_board, board_step}
use Rattle.command_log.specs.Board.{IsAmong, IsKnown}

pub record Pair : Type 0 where
  -- the commands in the order of their numbers, which begin at 1: all that were given a number, and
  -- those that were stored last
  pub given : List (List ℕ)
  pub stored : List (List ℕ)
  -- what was sent: command packets and orders, and the highest number in any of them
  pub sent : List (List ℕ)
  pub directed : List Order
  pub high : ℕ
  -- what the board's statuses reported: records, and the marks of losses
  pub said : List Record
  pub lost : List ℕ
  pub board : Board

abbrev pub new_pair : Pair
new_pair =
    record {
      given = [];
      stored = [];
      sent = [];
      directed = [];
      high = 0;
      said = [];
      lost = [];
      board = new_board;
    }

pub data Deed : Type 0 where
  -- on the ground
  Gives : (command : List ℕ) → Deed
  Stores : Deed
  Sends : (packet : List ℕ) → Deed
  Directs : (order : Order) → Deed
  LosesGround : Deed
  -- on board
  Happens : (event : Event) → Deed
  Tells : Deed

abbrev pub after_status : Pair → Status → Pair
after_status p (Says kept) = record p { said = kept ∷ p.said }
after_status p Changes = p
after_status p Starts = p
after_status p (Lost mark) = record p { lost = mark ∷ p.lost }

abbrev pub pair_step : Pair → Deed → Pair
pair_step p (Gives command) = record p { given = p.given ++ command ∷ [] }
pair_step p Stores = record p { stored = p.given }
pair_step p (Sends packet) =
    record p { sent = packet ∷ p.sent; high = max p.high (number_in packet) }
pair_step p (Directs order) =
    record p { directed = order ∷ p.directed; high = max p.high (last_of order) }
pair_step p LosesGround = record p { given = p.stored }
pair_step p (Happens event) = record p { board = board_step p.board event }
pair_step p Tells = after_status p (status_of p.board.executor)

abbrev pub pair_run : Pair → List Deed → Pair
pair_run p [] = p
pair_run p (deed ∷ deeds) = pair_run (pair_step p deed) deeds

-- ---- assumptions

-- the packet's content is the command with the packet's number
abbrev pub IsNumbered : List (List ℕ) → List ℕ → Type 0
IsNumbered commands packet =
    (0 < number_in packet) × (slice_get commands (number_in packet - 1) ≡ Some (content_in packet))

-- A command packet or an order that arrives with a valid check was sent. No status has reported the
-- mark of a restart before the restart.
abbrev pub IsOfTheLink : Pair → Event → Type 0
IsOfTheLink p (Offers octets) = is_command octets ≡ true → IsAmong octets p.sent
IsOfTheLink p (Orders octets) =
    (order : Order) → order_at octets ≡ Ok order → IsAmong order p.directed
IsOfTheLink p Acts = ⊤
IsOfTheLink p (Restarts mark) = IsAmong mark p.lost → ⊥
IsOfTheLink p (BreaksOff mark) = IsAmong mark p.lost → ⊥
IsOfTheLink p (Spoils place) = ⊤

-- An order that brings a record contains a mark that a status has reported, and no number above the
-- order's last has been sent.
abbrev pub IsDirected : Pair → Order → Type 0
IsDirected p (orders.Restart boot) = ⊤
IsDirected p (Rebuild mark boot last) = IsAmong mark p.lost × (p.high ≤ last)

-- the ground sends only commands that are stored
abbrev pub IsOwed : Pair → Deed → Type 0
IsOwed p (Gives command) = ⊤
IsOwed p Stores = ⊤
IsOwed p (Sends packet) = IsNumbered p.stored packet
IsOwed p (Directs order) = IsDirected p order
IsOwed p LosesGround = ⊤
IsOwed p (Happens event) = IsOfTheLink p event
IsOwed p Tells = ⊤

abbrev pub AreOwed : Pair → List Deed → Type 0
AreOwed p [] = ⊤
AreOwed p (deed ∷ deeds) = IsOwed p deed × AreOwed (pair_step p deed) deeds

-- ---- guarantees

-- the numbers decrease; the newest is first, so each occurs once and in order
abbrev pub AreInOrder : ℕ → List (List ℕ) → Type 0
AreInOrder bound [] = ⊤
AreInOrder bound (packet ∷ packets) =
    (number_in packet < bound) × AreInOrder (number_in packet) packets

pub record AreCarriedOut (p : Pair) : Type 0 where
  -- the packets whose execution began contain commands that the ground has stored under these
  -- numbers, each once and in order
  pub once : (bound : ℕ) × AreInOrder bound p.board.packets
  pub stored : AllByRecursion (IsNumbered p.stored) p.board.packets
  -- each command that a status reported as executed was executed completely
  pub said : (kept : Record) (n : ℕ) → IsAmong kept p.said → IsKnown kept n
      → IsAmong n p.board.whole
  pub whole : (n : ℕ) → IsAmong n p.board.whole
      → (packet : List ℕ) × IsAmong packet p.board.packets × (number_in packet ≡ n)
  -- the last number of a status is at least the last number of each earlier status
  pub rises : (kept earlier : Record) → status_of p.board.executor ≡ Says kept
      → IsAmong earlier p.said
      → earlier.last ≤ kept.last

abbrev pub EachPairCarriesOut : Type 0
EachPairCarriesOut = (deeds : List Deed) → AreOwed new_pair deeds
    → AreCarriedOut (pair_run new_pair deeds)
