-- An event on board, and a status that the board sends.
use Rattle.std.proofs.Common.{◌≡◌, ℕ, ◌<◌, inl, inr, List, ◌∷◌, length}
use Rattle.std.proofs.Common.{refl, sym, ◌∙◌, ap, subst, arith, Result, Ok, Err}
use Rattle.std.specs.Prelude.{◌^◌}
use Rattle.std.specs.List.{AllByRecursion}
use Rattle.std.specs.Prelude.{⊤, true}
use Rattle.command_log.specs.declared.fault.LogFault.{LogFault}
use Rattle.command_log.specs.declared.record.Record.{Record}
use Rattle.command_log.specs.declared.status.Status.{Status}
use Rattle.command_log.specs.declared.status.Status.TheVariants.{Says, Changes, Starts}
use Rattle.command_log.specs.declared.status.Status.TheVariants as statuses
use Rattle.command_log.specs.declared.packets.Order.{Order}
use Rattle.command_log.specs.declared.packets.Order.TheVariants.{Restart, Rebuild}
use Rattle.command_log.specs.Packets.{order_at}
use Rattle.command_log.specs.Status.{status_octets, IsStatusInRange}
use Rattle.command_log.specs.Executor.{ExecutorState, status_of}
use Rattle.command_log.specs.Board.{Board, Event, Offers, Orders, Acts, Restarts, BreaksOff, Spoils, board_step}
use Rattle.command_log.specs.Board.{IsAmong}
use Rattle.command_log.specs.CarriedOut.{Happens, Tells, after_status, pair_step}
use Rattle.command_log.specs.CarriedOut as carried
use Rattle.command_log.proofs.Steps.{taken_parts}
use Rattle.command_log.proofs.Exact.{each_order_is_read}
use Rattle.command_ledger.specs.Waiting.{Waiting}
use Rattle.execution.specs.System.{System}
use Rattle.execution.specs.Execution.{IsGiven, IsOfTheLink}
use Rattle.execution.proofs.Lists.{all_more, all_at}
use Rattle.execution.proofs.Records.{records_step, reports, Reports, IsFit, Keeps, KeepsOrder}
use Rattle.execution.proofs.Records.{fit_executed, fit_started, fit_begun, fit_brought}
use Rattle.execution.proofs.Held.{TakesGiven, held_step}
use Rattle.execution.proofs.Tells.{Past}
use Rattle.execution.proofs.Good.{IsMore}
use Rattle.execution.proofs.Own.{IsOwnRecord, IsOwnBoard, IsNoRebuild, own_begun, own_executed, started_own, own_said}
use Rattle.execution.proofs.Link.{OnLink, IsSaid, IsSentOrder, IsFitOrder, IsReported, pair_of, given_low}
use Rattle.execution.proofs.Link.{IsReached, reached_step}

same_order : (read : Result Order LogFault) (one two : Order) → read ≡ Ok one → read ≡ Ok two → one ≡ two
same_order (Ok order) one two e f = cc
same_order (Err fault) one two e f = absurd cc

-- an order that arrives was made
order_made : (directed : List Order) (sent : List (List ℕ)) (octets : List ℕ) (order : Order)
    → AllByRecursion (IsSentOrder directed) sent → IsAmong octets sent → order_at octets ≡ Ok order
    → IsAmong order directed
order_made directed sent octets order are among e =
    let is : IsSentOrder directed octets = all_at (IsSentOrder directed) octets sent among are in
    let read = each_order_is_read is.apid is.count is.order is.fits is.range in
    let same : is.order ≡ order =
    same_order (order_at octets) is.order order (ap order_at is.spelled ∙ read) e in
    subst (λ (o : Order). IsAmong o directed) same is.among

-- the assumption about a pair
pair_link : (s : System) (stored : List Waiting) (g : Past) (high : ℕ) (event : Event) → IsOfTheLink s event
    → OnLink stored g s.packets s.orders s.statuses s.board
    → carried.IsOfTheLink (pair_of s.packets s.board stored g high) event
pair_link s stored g high (Offers octets) is h = is
pair_link s stored g high (Orders octets) is h =
    λ order e. order_made g.directed s.orders octets order h.orders_are (is order e) e
pair_link s stored g high Acts is h = tt
pair_link s stored g high (Restarts mark) is h =
    λ among. let told = (h.lost mark among).1 in is.new told.waits told.among
pair_link s stored g high (BreaksOff mark) is h =
    λ among. let told = (h.lost mark among).1 in is.new told.waits told.among
pair_link s stored g high (Spoils place) is h = tt

keeps_order : (bound : ℕ) (s : ExecutorState) (read : Result Order LogFault)
    → ((order : Order) → read ≡ Ok order → IsFitOrder bound order) → KeepsOrder (IsFit bound) s read
keeps_order bound s (Err e) fits = tt
keeps_order bound s (Ok (Restart boot)) fits = tt
keeps_order bound s (Ok (Rebuild mark boot last)) fits =
    let is = fits (Rebuild mark boot last) refl in
    λ t. fit_brought bound boot last is.range.1 is.range.2 is.low

keeps_fit : (s : System) (stored : List Waiting) (g : Past) (event : Event) → IsOfTheLink s event
    → OnLink stored g s.packets s.orders s.statuses s.board
    → Keeps (IsFit (length stored)) (λ mark. mark < 2 ^ 32) s.board event
keeps_fit s stored g (Offers octets) is h =
    λ t rests before.
    let parts = taken_parts s.board.executor octets t in
    let number = parts.3 in
    let given = all_at (IsGiven stored) octets s.packets (is parts.0) h.packets_are in
    let low = given_low stored octets given in
    fit_begun (length stored) s.board.executor.kept octets parts.2 (omega (arith, number, low)) before
keeps_fit s stored g (Orders octets) is h =
    keeps_order (length stored) s.board.executor (order_at octets)
    (λ order e. h.directed order (order_made g.directed s.orders octets order h.orders_are (is order e) e))
keeps_fit s stored g Acts is h =
    (fit_started (length stored) s.board.executor.kept, fit_executed (length stored) s.board.executor.kept)
keeps_fit s stored g (Restarts mark) is h = is.small
keeps_fit s stored g (BreaksOff mark) is h = is.small
keeps_fit s stored g (Spoils place) is h = tt

takes_given : (s : System) (stored : List Waiting) (g : Past) (event : Event) → IsOfTheLink s event
    → OnLink stored g s.packets s.orders s.statuses s.board → TakesGiven (IsGiven stored) s.board event
takes_given s stored g (Offers octets) is h =
    λ t. all_at (IsGiven stored) octets s.packets (is (taken_parts s.board.executor octets t).0) h.packets_are
takes_given s stored g (Orders octets) is h = tt
takes_given s stored g Acts is h = tt
takes_given s stored g (Restarts mark) is h = tt
takes_given s stored g (BreaksOff mark) is h = tt
takes_given s stored g (Spoils place) is h = tt

no_order : (stored : List Waiting) (said : List Record) (s : ExecutorState) (read : Result Order LogFault)
    → ((order : Order) → read ≡ Ok order → IsNoRebuild order) → KeepsOrder (IsOwnRecord stored said) s read
no_order stored said s (Err e) none = tt
no_order stored said s (Ok (Restart boot)) none = tt
no_order stored said s (Ok (Rebuild mark boot last)) none = absurd (none (Rebuild mark boot last) refl)

keeps_own : (s : System) (stored : List Waiting) (g : Past) (event : Event) → IsOfTheLink s event
    → OnLink stored g s.packets s.orders s.statuses s.board → s.board.executor.kept.boot < 4294967295
    → ((order : Order) → IsAmong order g.directed → IsNoRebuild order)
    → Keeps (IsOwnRecord stored g.said) (λ mark. ⊤) s.board event
keeps_own s stored g (Offers octets) is h small none =
    λ t rests before.
    let parts = taken_parts s.board.executor octets t in
    let given = all_at (IsGiven stored) octets s.packets (is parts.0) h.packets_are in
    own_begun stored g.said s.board.executor.kept octets rests parts.2 parts.3 given before
keeps_own s stored g (Orders octets) is h small none =
    no_order stored g.said s.board.executor (order_at octets)
    (λ order e. none order (order_made g.directed s.orders octets order h.orders_are (is order e) e))
keeps_own s stored g Acts is h small none = (
  started_own stored g.said s.board.executor.kept s.board.executor.kept.begun refl small,
  own_executed stored g.said s.board.executor.kept,
)
keeps_own s stored g (Restarts mark) is h small none = tt
keeps_own s stored g (BreaksOff mark) is h small none = tt
keeps_own s stored g (Spoils place) is h small none = tt

own_happens : (s : System) (stored : List Waiting) (g : Past) (event : Event) → IsOfTheLink s event
    → OnLink stored g s.packets s.orders s.statuses s.board → s.board.executor.kept.boot < 4294967295
    → IsOwnBoard stored g.said g.directed s.board
    → IsOwnBoard stored g.said g.directed (board_step s.board event)
own_happens s stored g event is h small own =
    record {
      records =
          records_step (IsOwnRecord stored g.said) (λ mark. ⊤) s.board event
          (keeps_own s stored g event is h small own.none) own.records;
      histories = own.histories;
      pairs = own.pairs;
      none = own.none;
    }

pub link_happens : (s : System) (stored : List Waiting) (g : Past) (event : Event) → IsOfTheLink s event
    → (g.quiet ≡ true → s.board.executor.kept.boot < 4294967295)
    → OnLink stored g s.packets s.orders s.statuses s.board
    → OnLink stored g s.packets s.orders s.statuses (board_step s.board event)
link_happens s stored g event is calm h =
    record {
      high = h.high;
      low = h.low;
      reached =
          reached_step (pair_of s.packets s.board stored g h.high) (Happens event)
          (pair_link s stored g h.high event is h) h.reached;
      records =
          records_step (IsFit (length stored)) (λ mark. mark < 2 ^ 32) s.board event (keeps_fit s stored g event is h)
          h.records;
      held = held_step (IsGiven stored) s.board event (takes_given s stored g event is h) h.held;
      packets_are = h.packets_are;
      orders_are = h.orders_are;
      statuses_are = h.statuses_are;
      said = h.said;
      lost = h.lost;
      directed = h.directed;
      own = λ q. own_happens s stored g event is h (calm q) (h.own q);
    }

-- ---- a status

pub record Told (stored : List Waiting) (g : Past) (ws : List ℕ) (packets orders sent : List (List ℕ))
    (board : Board) : Type 0 where
  pub past : Past
  pub more : IsMore g past ws ws
  pub quiet : past.quiet ≡ g.quiet
  pub holds : OnLink stored past packets orders sent board

kept_more : (said : List Record) (lost : List ℕ) (new : Record) (status : Status)
    → Reports (λ kept. IsAmong kept said) (λ mark. IsAmong mark lost) status
    → Reports (λ kept. IsAmong kept (new ∷ said)) (λ mark. IsAmong mark lost) status
kept_more said lost new (Says kept) is = inr is
kept_more said lost new Changes is = tt
kept_more said lost new Starts is = tt
kept_more said lost new (statuses.Lost mark) is = is

mark_more : (said : List Record) (lost : List ℕ) (new : ℕ) (status : Status)
    → Reports (λ kept. IsAmong kept said) (λ mark. IsAmong mark lost) status
    → Reports (λ kept. IsAmong kept said) (λ mark. IsAmong mark (new ∷ lost)) status
mark_more said lost new (Says kept) is = is
mark_more said lost new Changes is = tt
mark_more said lost new Starts is = tt
mark_more said lost new (statuses.Lost mark) is = inr is

said_more : (said : List Record) (lost : List ℕ) (new : Record) (octets : List ℕ) → IsSaid said lost octets
    → IsSaid (new ∷ said) lost octets
said_more said lost new octets is =
    record {
      status = is.status;
      waits = is.waits;
      spelled = is.spelled;
      range = is.range;
      kept = kept_more said lost new is.status is.kept;
    }

lost_more : (said : List Record) (lost : List ℕ) (new : ℕ) (octets : List ℕ) → IsSaid said lost octets
    → IsSaid said (new ∷ lost) octets
lost_more said lost new octets is =
    record {
      status = is.status;
      waits = is.waits;
      spelled = is.spelled;
      range = is.range;
      kept = mark_more said lost new is.status is.kept;
    }

reported_more : (sent : List (List ℕ)) (octets : List ℕ) (mark : ℕ) → IsReported sent mark
    → IsReported (octets ∷ sent) mark
reported_more sent octets mark is = record { waits = is.waits; among = inr is.among }

-- a status that reports neither a record nor a mark
told_none : (stored : List Waiting) (g : Past) (ws : List ℕ) (packets orders sent : List (List ℕ)) (board : Board)
    (status : Status) (waits : ℕ) → IsStatusInRange status
    → Reports (λ kept. IsAmong kept g.said) (λ mark. IsAmong mark g.lost) status
    → OnLink stored g packets orders sent board
    → Told stored g ws packets orders (status_octets status waits ∷ sent) board
told_none stored g ws packets orders sent board status waits range kept h =
    let lost = h.lost in
    record {
      past = g;
      more = record { directed = λ o i. i; said = λ r i. i; lost = λ m i. i; whole = λ n i. i; quiet = λ q. q };
      quiet = refl;
      holds =
          record {
            high = h.high;
            low = h.low;
            reached = h.reached;
            records = h.records;
            held = h.held;
            packets_are = h.packets_are;
            orders_are = h.orders_are;
            statuses_are = (
              record { status = status; waits = waits; spelled = refl; range = range; kept = kept },
              h.statuses_are,
            );
            said = h.said;
            lost =
                λ mark among.
                let before = lost mark among in
                (before.0, reported_more sent (status_octets status waits) mark before.1);
            directed = h.directed;
            own = h.own;
          };
    }

told_by : (stored : List Waiting) (g : Past) (ws : List ℕ) (packets orders sent : List (List ℕ)) (board : Board)
    (status : Status) (waits : ℕ) → status_of board.executor ≡ status
    → Reports (IsFit (length stored)) (λ mark. mark < 2 ^ 32) status → OnLink stored g packets orders sent board
    → Told stored g ws packets orders (status_octets status waits ∷ sent) board
told_by stored g ws packets orders sent board (Says kept) waits e fits h =
    let p = pair_of packets board stored g h.high in
    let past : Past = record g { said = kept ∷ g.said } in
    let said = h.said in
    let lost = h.lost in
    let now : IsSaid (kept ∷ g.said) g.lost (status_octets (Says kept) waits) =
    record { status = Says kept; waits = waits; spelled = refl; range = fits.range; kept = inl refl } in
    record {
      past = past;
      more = record { directed = λ o i. i; said = λ r i. inr i; lost = λ m i. i; whole = λ n i. i; quiet = λ q. q };
      quiet = refl;
      holds =
          record {
            high = h.high;
            low = h.low;
            reached =
                subst (λ (st : Status). IsReached (after_status p st)) e (reached_step p Tells tt h.reached);
            records = h.records;
            held = h.held;
            packets_are = h.packets_are;
            orders_are = h.orders_are;
            statuses_are = (
              now,
              all_more (IsSaid g.said g.lost) (IsSaid (kept ∷ g.said) g.lost) (said_more g.said g.lost kept) sent
                  h.statuses_are,
            );
            said =
                λ r among. elim among as (λ _. IsFit (length stored) r) [
                  | inl same ↦ subst (IsFit (length stored)) (sym same) fits
                  | inr earlier ↦ said r earlier
                ];
            lost =
                λ mark among.
                let before = lost mark among in
                (before.0, reported_more sent (status_octets (Says kept) waits) mark before.1);
            directed = h.directed;
            own = λ q. own_said stored g.said g.directed board kept e (h.own q);
          };
    }
told_by stored g ws packets orders sent board (statuses.Lost mark) waits e fits h =
    let p = pair_of packets board stored g h.high in
    let past : Past = record g { lost = mark ∷ g.lost } in
    let octets : List ℕ = status_octets (statuses.Lost mark) waits in
    let lost = h.lost in
    let now : IsSaid g.said (mark ∷ g.lost) octets =
    record { status = statuses.Lost mark; waits = waits; spelled = refl; range = fits; kept = inl refl } in
    record {
      past = past;
      more = record { directed = λ o i. i; said = λ r i. i; lost = λ m i. inr i; whole = λ n i. i; quiet = λ q. q };
      quiet = refl;
      holds =
          record {
            high = h.high;
            low = h.low;
            reached =
                subst (λ (st : Status). IsReached (after_status p st)) e (reached_step p Tells tt h.reached);
            records = h.records;
            held = h.held;
            packets_are = h.packets_are;
            orders_are = h.orders_are;
            statuses_are = (
              now,
              all_more (IsSaid g.said g.lost) (IsSaid g.said (mark ∷ g.lost)) (lost_more g.said g.lost mark) sent
                  h.statuses_are,
            );
            said = h.said;
            lost =
                λ m among. elim among as (λ _. (m < 2 ^ 32) × IsReported (octets ∷ sent) m) [
                  | inl same ↦
                      subst (λ (k : ℕ). (k < 2 ^ 32) × IsReported (octets ∷ sent) k) (sym same)
                      (fits, record { waits = waits; among = inl refl })
                  | inr earlier ↦
                      let before = lost m earlier in (before.0, reported_more sent octets m before.1)
                ];
            directed = h.directed;
            own = h.own;
          };
    }
told_by stored g ws packets orders sent board Changes waits e fits h =
    told_none stored g ws packets orders sent board Changes waits tt tt h
told_by stored g ws packets orders sent board Starts waits e fits h =
    told_none stored g ws packets orders sent board Starts waits tt tt h

pub link_told : (stored : List Waiting) (g : Past) (ws : List ℕ) (packets orders sent : List (List ℕ))
    (board : Board) (waits : ℕ) → OnLink stored g packets orders sent board
    → Told stored g ws packets orders (status_octets (status_of board.executor) waits ∷ sent) board
link_told stored g ws packets orders sent board waits h =
    told_by stored g ws packets orders sent board (status_of board.executor) waits refl
    (reports (IsFit (length stored)) (λ mark. mark < 2 ^ 32) board.executor.kept board.executor.stage h.records.now) h
