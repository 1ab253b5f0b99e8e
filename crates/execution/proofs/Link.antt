-- The board agrees with what was sent to it; each event keeps this.
use Rattle.std.proofs.Common.{◌≡◌, ℕ, ◌-◌, ◌<◌, ◌≤◌, max, inl, inr, List, [], ◌∷◌, ◌++◌, length}
use Rattle.std.proofs.Common.{refl, sym, ◌∙◌, ap, subst, arith, length-append, append_assoc, append-nil}
use Rattle.std.proofs.Common.{Some, true}
use Rattle.std.specs.Prelude.{◌^◌, slice_get}
use Rattle.std.specs.List.{AllByRecursion}
use Rattle.command_log.specs.declared.record.Record.{Record}
use Rattle.command_log.specs.declared.status.Status.{Status}
use Rattle.command_log.specs.declared.status.Status.TheVariants.{Says, Changes, Starts}
use Rattle.command_log.specs.declared.status.Status.TheVariants as statuses
use Rattle.command_log.specs.declared.packets.Order.{Order}
use Rattle.command_log.specs.Packets.{number_in, content_in, order_octets, order_fits, last_of}
use Rattle.command_log.specs.Exact.{IsOrderInRange}
use Rattle.command_log.specs.Status.{status_octets, IsStatusInRange}
use Rattle.command_log.specs.Board.{Board}
use Rattle.command_log.specs.Board.{IsAmong}
use Rattle.command_log.specs.CarriedOut.{Pair, Deed, Gives, Stores, Sends, Directs, Happens, Tells, new_pair}
use Rattle.command_log.specs.CarriedOut.{pair_step, pair_run, IsOwed, AreOwed, AreCarriedOut, after_status}
use Rattle.command_log.specs.CarriedOut as carried
use Rattle.command_log.proofs.Pair.{each_carries_out}
use Rattle.command_ledger.specs.Waiting.{Waiting}
use Rattle.execution.specs.Execution.{IsGiven}
use Rattle.execution.proofs.Lists.{get_append, get_low, contents, contents_at, contents_both, all_more}
use Rattle.execution.proofs.Records.{HasRecords, records_more, Reports, IsFit, fit_more}
use Rattle.execution.proofs.Held.{HasHeld, held_more}
use Rattle.execution.proofs.Tells.{Past}
use Rattle.execution.proofs.Good.{IsMore}
use Rattle.execution.proofs.Own.{IsOwnBoard, IsNoRebuild, own_stored}

-- ---- a pair that some deeds lead to

pub record IsReached (p : Pair) : Type 0 where
  pub deeds : List Deed
  pub owed : AreOwed new_pair deeds
  pub is : pair_run new_pair deeds ≡ p

run_push : (p : Pair) (deeds : List Deed) (deed : Deed)
    → pair_run p (deeds ++ deed ∷ []) ≡ pair_step (pair_run p deeds) deed
run_push p [] deed = refl
run_push p (d ∷ deeds) deed = run_push (pair_step p d) deeds deed

owed_push : (p : Pair) (deeds : List Deed) (deed : Deed) → AreOwed p deeds → IsOwed (pair_run p deeds) deed
    → AreOwed p (deeds ++ deed ∷ [])
owed_push p [] deed are is = (is, tt)
owed_push p (d ∷ deeds) deed are is = (are.0, owed_push (pair_step p d) deeds deed are.1 is)

pub reached_step : (p : Pair) (deed : Deed) → IsOwed p deed → IsReached p → IsReached (pair_step p deed)
reached_step p deed is h =
    record {
      deeds = h.deeds ++ deed ∷ [];
      owed = owed_push new_pair h.deeds deed h.owed (subst (λ (q : Pair). IsOwed q deed) (sym h.is) is);
      is = run_push new_pair h.deeds deed ∙ ap (λ (q : Pair). pair_step q deed) h.is;
    }

pub reached_so : (p : Pair) → IsReached p → AreCarriedOut p
reached_so p h = subst AreCarriedOut h.is (each_carries_out h.deeds h.owed)

abbrev pub pair_of : List (List ℕ) → Board → List Waiting → Past → ℕ → Pair
pair_of packets board stored g high =
    record {
      given = contents stored;
      stored = contents stored;
      sent = packets;
      directed = g.directed;
      high = high;
      said = g.said;
      lost = g.lost;
      board = board;
    }

-- ---- what was sent

pub record IsSaid (said : List Record) (lost : List ℕ) (octets : List ℕ) : Type 0 where
  pub status : Status
  pub waits : ℕ
  pub spelled : octets ≡ status_octets status waits
  pub range : IsStatusInRange status
  pub kept : Reports (λ kept. IsAmong kept said) (λ mark. IsAmong mark lost) status

pub record IsSentOrder (directed : List Order) (octets : List ℕ) : Type 0 where
  pub apid : ℕ
  pub count : ℕ
  pub order : Order
  pub spelled : octets ≡ order_octets apid count order
  pub fits : order_fits apid count ≡ true
  pub range : IsOrderInRange order
  pub among : IsAmong order directed

pub record IsFitOrder (bound : ℕ) (order : Order) : Type 0 where
  pub range : IsOrderInRange order
  pub low : last_of order ≤ bound

pub record IsReported (sent : List (List ℕ)) (mark : ℕ) : Type 0 where
  pub waits : ℕ
  pub among : IsAmong (status_octets (statuses.Lost mark) waits) sent

pub record OnLink (stored : List Waiting) (g : Past) (packets orders sent : List (List ℕ)) (board : Board)
    : Type 0 where
  pub high : ℕ
  pub low : high ≤ length stored
  pub reached : IsReached (pair_of packets board stored g high)
  pub records : HasRecords (IsFit (length stored)) (λ mark. mark < 2 ^ 32) board
  pub held : HasHeld (IsGiven stored) board
  pub packets_are : AllByRecursion (IsGiven stored) packets
  pub orders_are : AllByRecursion (IsSentOrder g.directed) orders
  pub statuses_are : AllByRecursion (IsSaid g.said g.lost) sent
  pub said : (kept : Record) → IsAmong kept g.said → IsFit (length stored) kept
  pub lost : (mark : ℕ) → IsAmong mark g.lost → (mark < 2 ^ 32) × IsReported sent mark
  pub directed : (order : Order) → IsAmong order g.directed → IsFitOrder (length stored) order
  pub own : g.quiet ≡ true → IsOwnBoard stored g.said g.directed board

pub given_low : (stored : List Waiting) (packet : List ℕ) → IsGiven stored packet → number_in packet ≤ length stored
given_low stored packet is =
    let low = get_low stored (number_in packet - 1) is.0 is.1.1 in
    let some = is.1.0 in
    omega (arith, low, some)

-- a packet is sent
pub link_sends : (stored : List Waiting) (g : Past) (packets orders sent : List (List ℕ)) (board : Board)
    (packet : List ℕ) → IsGiven stored packet → OnLink stored g packets orders sent board
    → OnLink stored g (packet ∷ packets) orders sent board
link_sends stored g packets orders sent board packet is h =
    let c : Waiting = is.0 in
    let there = contents_at stored (number_in packet - 1) c is.1.1 in
    let same : content_in c.packet ≡ content_in packet = ap content_in is.2 in
    let up = given_low stored packet is in
    let low = h.low in
    record {
      high = max h.high (number_in packet);
      low = omega (arith, up, low);
      reached =
          reached_step (pair_of packets board stored g h.high) (Sends packet)
          (is.1.0, subst (λ (xs : List ℕ). slice_get (contents stored) (number_in packet - 1) ≡ Some xs) same there)
          h.reached;
      records = h.records;
      held = h.held;
      packets_are = (is, h.packets_are);
      orders_are = h.orders_are;
      statuses_are = h.statuses_are;
      said = h.said;
      lost = h.lost;
      directed = h.directed;
      own = h.own;
    }

-- ---- an order is made

abbrev pub with_order : Past → Order → Past
with_order g order = record g { directed = order ∷ g.directed }

pub more_orders : (g : Past) (order : Order) (ws : List ℕ) → IsMore g (with_order g order) ws ws
more_orders g order ws =
    record { directed = λ o h. inr h; said = λ r h. h; lost = λ m h. h; whole = λ n h. h; quiet = λ q. q }

sent_more : (directed : List Order) (order : Order) (octets : List ℕ) → IsSentOrder directed octets
    → IsSentOrder (order ∷ directed) octets
sent_more directed order octets h =
    record {
      apid = h.apid;
      count = h.count;
      order = h.order;
      spelled = h.spelled;
      fits = h.fits;
      range = h.range;
      among = inr h.among;
    }

pub link_directs : (stored : List Waiting) (g : Past) (packets orders sent : List (List ℕ)) (board : Board)
    (order : Order) → IsFitOrder (length stored) order → (g.quiet ≡ true → IsNoRebuild order)
    → (h : OnLink stored g packets orders sent board) → carried.IsDirected (pair_of packets board stored g h.high) order
    → OnLink stored (with_order g order) packets orders sent board
link_directs stored g packets orders sent board order fits quiet h is =
    let up = fits.low in
    let low = h.low in
    let before = h.directed in
    record {
      high = max h.high (last_of order);
      low = omega (arith, up, low);
      reached = reached_step (pair_of packets board stored g h.high) (Directs order) is h.reached;
      records = h.records;
      held = h.held;
      packets_are = h.packets_are;
      orders_are =
          all_more (IsSentOrder g.directed) (IsSentOrder (order ∷ g.directed)) (sent_more g.directed order) orders
          h.orders_are;
      statuses_are = h.statuses_are;
      said = h.said;
      lost = h.lost;
      directed =
          λ o among. elim among as (λ _. IsFitOrder (length stored) o) [
            | inl same ↦ subst (IsFitOrder (length stored)) (sym same) fits
            | inr earlier ↦ before o earlier
          ];
      own =
          λ q.
          let own = h.own q in
          let none = own.none in
          let now = quiet q in
          record {
            records = own.records;
            histories = own.histories;
            pairs = own.pairs;
            none =
                λ o among. elim among as (λ _. IsNoRebuild o) [
                  | inl same ↦ subst IsNoRebuild (sym same) now
                  | inr earlier ↦ none o earlier
                ];
          };
    }

pub link_orders : (stored : List Waiting) (g : Past) (packets orders sent : List (List ℕ)) (board : Board)
    (octets : List ℕ) → IsSentOrder g.directed octets → OnLink stored g packets orders sent board
    → OnLink stored g packets (octets ∷ orders) sent board
link_orders stored g packets orders sent board octets is h =
    record {
      high = h.high;
      low = h.low;
      reached = h.reached;
      records = h.records;
      held = h.held;
      packets_are = h.packets_are;
      orders_are = (is, h.orders_are);
      statuses_are = h.statuses_are;
      said = h.said;
      lost = h.lost;
      directed = h.directed;
      own = h.own;
    }

-- ---- commands are stored

gives_all : (given stored : List (List ℕ)) (sent : List (List ℕ)) (directed : List Order) (high : ℕ)
    (said : List Record) (lost : List ℕ) (board : Board) (more : List Waiting)
    → IsReached (record {
      given = given;
      stored = stored;
      sent = sent;
      directed = directed;
      high = high;
      said = said;
      lost = lost;
      board = board;
    })
    → IsReached (record {
      given = given ++ contents more;
      stored = stored;
      sent = sent;
      directed = directed;
      high = high;
      said = said;
      lost = lost;
      board = board;
    })
gives_all given stored sent directed high said lost board [] h =
    subst (λ (xs : List (List ℕ)). IsReached (record {
      given = xs;
      stored = stored;
      sent = sent;
      directed = directed;
      high = high;
      said = said;
      lost = lost;
      board = board;
    })) (sym (append-nil given)) h
gives_all given stored sent directed high said lost board (c ∷ cs) h =
    let command : List ℕ = content_in c.packet in
    subst (λ (xs : List (List ℕ)). IsReached (record {
      given = xs;
      stored = stored;
      sent = sent;
      directed = directed;
      high = high;
      said = said;
      lost = lost;
      board = board;
    }))
    (append_assoc given (command ∷ []) (contents cs))
    (gives_all (given ++ command ∷ []) stored sent directed high said lost board cs
    (reached_step (record {
      given = given;
      stored = stored;
      sent = sent;
      directed = directed;
      high = high;
      said = said;
      lost = lost;
      board = board;
    }) (Gives command) tt h))

given_more : (stored more : List Waiting) (packet : List ℕ) → IsGiven stored packet → IsGiven (stored ++ more) packet
given_more stored more packet is =
    (is.0, (is.1.0, get_append stored more (number_in packet - 1) is.0 is.1.1), is.2)

pub link_stored : (stored more : List Waiting) (g : Past) (packets orders sent : List (List ℕ)) (board : Board)
    → OnLink stored g packets orders sent board → OnLink (stored ++ more) g packets orders sent board
link_stored stored more g packets orders sent board h =
    let long = length-append stored more in
    let up : length stored ≤ length (stored ++ more) = omega (arith, long) in
    let low = h.low in
    let fit = fit_more (length stored) (length (stored ++ more)) up in
    let all : IsReached (record {
      given = contents stored ++ contents more;
      stored = contents stored;
      sent = packets;
      directed = g.directed;
      high = h.high;
      said = g.said;
      lost = g.lost;
      board = board;
    }) =
    gives_all (contents stored) (contents stored) packets g.directed h.high g.said g.lost board more h.reached in
    let kept : IsReached (record {
      given = contents stored ++ contents more;
      stored = contents stored ++ contents more;
      sent = packets;
      directed = g.directed;
      high = h.high;
      said = g.said;
      lost = g.lost;
      board = board;
    }) =
    reached_step (record {
      given = contents stored ++ contents more;
      stored = contents stored;
      sent = packets;
      directed = g.directed;
      high = h.high;
      said = g.said;
      lost = g.lost;
      board = board;
    }) Stores tt all in
    let said = h.said in
    let directed = h.directed in
    record {
      high = h.high;
      low = omega (arith, up, low);
      reached =
          subst (λ (xs : List (List ℕ)). IsReached (record {
            given = xs;
            stored = xs;
            sent = packets;
            directed = g.directed;
            high = h.high;
            said = g.said;
            lost = g.lost;
            board = board;
          }))
          (sym (contents_both stored more)) kept;
      records =
          records_more (IsFit (length stored)) (IsFit (length (stored ++ more))) (λ mark. mark < 2 ^ 32) board fit
          h.records;
      held = held_more (IsGiven stored) (IsGiven (stored ++ more)) (given_more stored more) board h.held;
      packets_are =
          all_more (IsGiven stored) (IsGiven (stored ++ more)) (given_more stored more) packets h.packets_are;
      orders_are = h.orders_are;
      statuses_are = h.statuses_are;
      said = λ kept among. fit kept (said kept among);
      lost = h.lost;
      directed =
          λ order among.
          let is = directed order among in
          let last = is.low in
          record { range = is.range; low = omega (arith, up, last) };
      own = λ q. own_stored stored more g.said g.directed board said (h.own q);
    }
