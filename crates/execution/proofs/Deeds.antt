-- An invariant of a ground and a board, which each deed preserves.
use Rattle.std.proofs.Common.{◌≡◌, ℕ, ◌-◌, ◌<◌, ◌≤◌, inl, List, [], ◌∷◌, ◌++◌, length}
use Rattle.std.proofs.Common.{refl, sym, ◌∙◌, ap, subst, arith, drop, take, length-append, append-nil, IfSome}
use Rattle.std.proofs.Common.{Some, None, Option, Bool, true, Result, Ok, Err}
use Rattle.std.specs.Prelude.{◌^◌}
use Rattle.std.proofs.lemmas.Bool.{cond_both}
use Rattle.std.specs.Prelude.{false}
use Rattle.std.specs.List.{AllByRecursion}
use Rattle.command_log.specs.declared.fault.LogFault.{LogFault}
use Rattle.command_log.specs.declared.record.Record.{Record}
use Rattle.command_log.specs.declared.status.Status.{Status}
use Rattle.command_log.specs.declared.status.Status.TheVariants.{Says, Lost}
use Rattle.command_log.specs.declared.packets.Order.{Order}
use Rattle.command_log.specs.declared.packets.Order.TheVariants as orders
use Rattle.command_log.specs.Packets.{order_octets, order_fits, number_in}
use Rattle.command_log.specs.Exact.{IsOrderInRange}
use Rattle.command_log.specs.Status.{status_octets, status_spelled}
use Rattle.command_log.specs.Executor.{status_of}
use Rattle.command_log.specs.Record.{no_commands}
use Rattle.command_log.specs.Board.{Board, Event, board_step, IsAmong, IsKnown}
use Rattle.command_ledger.specs.declared.fault.LedgerFault.{LedgerFault}
use Rattle.command_ledger.specs.declared.known.Rebuild.{Rebuild}
use Rattle.command_ledger.specs.declared.state.Tell.{Tell}
use Rattle.command_ledger.specs.Waiting.{Waiting}
use Rattle.command_ledger.specs.Kept.{IsMark, IsRebuild}
use Rattle.command_ledger.specs.State.{Entry, Rebuilds, new_state}
use Rattle.command_ledger.specs.Ledger.{LedgerState, NextView, Nothing, Stores, opened, next_of, next_command}
use Rattle.command_ledger.specs.Ledger.{give_fault}
use Rattle.command_ledger.specs.Ledger.{packet_of, news, appended, rebuild_of, order_of, all_stored, is_at_rest}
use Rattle.command_ledger.specs.Ledger.{fresh_octets}
use Rattle.command_ledger.specs.Ledger as views
use Rattle.execution.specs.System.{System, Report, Deed, Commands, Hears, Appends, Reports, Renews, Crashes, Sends}
use Rattle.execution.specs.System.{Orders, OrdersRestart, Happens, SendsStatus, new_system, system_step, system_run}
use Rattle.execution.specs.System.{after_command, after_status, after_rebuild, due_octets, after_append, after_report}
use Rattle.execution.specs.System.{after_renewal, after_crash, after_packet, after_order}
use Rattle.execution.specs.System as deeds
use Rattle.execution.specs.Execution.{IsOwed, AreOwed, IsGiven, IsCarriedOut, EachSystemCarriesOut}
use Rattle.execution.proofs.Lists.{all_more, all_at, get_append}
use Rattle.execution.proofs.Records.{IsFit, HasRecords, fit_brought}
use Rattle.execution.proofs.Records as records
use Rattle.execution.proofs.Tells.{Past, up_after, AreTells, up_stays}
use Rattle.execution.proofs.Good.{Good, IsMore, good_rebuilds}
use Rattle.execution.proofs.Chain.{all_in, same_now}
use Rattle.execution.proofs.Keeping.{OnGround, ledger_good, on_append, on_stored, on_crash, stores_all, StoresAll}
use Rattle.execution.proofs.Keeping.{torn_of}
use Rattle.execution.proofs.Renewal.{on_renewed}
use Rattle.execution.proofs.Link.{OnLink, IsSaid, IsSentOrder, IsFitOrder, pair_of, reached_so, link_sends}
use Rattle.execution.proofs.Link.{link_directs}
use Rattle.execution.proofs.Link.{link_orders, link_stored, with_order, more_orders}
use Rattle.execution.proofs.Events.{link_happens, link_told}
use Rattle.execution.proofs.Reported.{AreMade, all_made_more, same_board, happens_grows, made_now, all_true, IsMade}
use Rattle.execution.proofs.Calls.{ground_more, on_command, same_status, on_status, new_is, IsNew, order_is, packet_is}
use Rattle.execution.proofs.Calls.{tells_first, on_told}
use Rattle.execution.specs.Own.{IsOwn, IsCalm, AreCalm, EachCommandIsOwn}
use Rattle.execution.proofs.Own.{IsOwnRecord}

-- whether no order that brings a record is made
pub record Holds (quiet : Bool) (s : System) : Type 0 where
  pub stored : List Waiting
  pub past : Past
  pub up : List Bool
  pub link : OnLink stored past s.packets s.orders s.statuses s.board
  pub ledger : OnGround stored past s.board.whole up s.ledger s.store s.given
  pub told : AreMade stored past.said s.board.whole s.board.packets up (length up) s.told
  pub quiet_is : past.quiet ≡ quiet
  pub own : quiet ≡ true → AllByRecursion (λ (r : Report). IsOwn r.tell) s.told

-- nothing more is known
no_more : (g : Past) (ws : List ℕ) → IsMore g g ws ws
no_more g ws = record { directed = λ o i. i; said = λ r i. i; lost = λ m i. i; whole = λ n i. i; quiet = λ q. q }

with_ledger : (quiet : Bool) (s : System) (l : LedgerState) (h : Holds quiet s)
    → OnGround h.stored h.past s.board.whole h.up l s.store s.given → Holds quiet (record s { ledger = l })
with_ledger quiet s l h is =
    record {
      stored = h.stored;
      past = h.past;
      up = h.up;
      link = h.link;
      ledger = is;
      told = h.told;
      quiet_is = h.quiet_is;
      own = h.own;
    }

-- ---- calls of the ledger

commands_so : (quiet : Bool) (s : System) (tag on_map apid count : ℕ) (content : List ℕ) (fault : Option LedgerFault)
    → give_fault s.ledger on_map apid count (length content) ≡ fault → tag < 2 ^ 64 → Holds quiet s
    → Holds quiet (after_command s tag on_map (next_command s.ledger apid count content) fault)
commands_so quiet s tag on_map apid count content (Some fault) e small h = h
commands_so quiet s tag on_map apid count content None e small h =
    record {
      stored = h.stored;
      past = h.past;
      up = h.up;
      link = h.link;
      ledger =
          on_command h.stored h.past s.board.whole h.up s.ledger s.store s.given tag on_map apid count content small e
          h.ledger;
      told = h.told;
      quiet_is = h.quiet_is;
      own = h.own;
    }

-- what the status that arrives shows is so
shown : (quiet : Bool) (s : System) (h : Holds quiet s) (octets : List ℕ) (read : Status × ℕ)
    → status_spelled octets ≡ Ok read
    → IsAmong octets s.statuses
    → ((kept : Record) → read.0 ≡ Says kept → IsAmong kept h.past.said × IsFit (length h.stored) kept
    × ((n : ℕ) → IsKnown kept n → IsAmong n s.board.whole))
    × ((mark : ℕ) → read.0 ≡ Lost mark → IsAmong mark h.past.lost × (mark < 2 ^ 32))
shown quiet s h octets read e among =
    let g : Past = h.past in
    let is = all_at (IsSaid g.said g.lost) octets s.statuses among h.link.statuses_are in
    let same : read.0 ≡ is.status = same_status octets is.status is.waits read is.range is.spelled e in
    let so = reached_so (pair_of s.packets s.board h.stored g h.link.high) h.link.reached in
    let said = h.link.said in
    let lost = h.link.lost in (
      λ kept f.
          let there : IsAmong kept g.said =
          subst (λ (st : Status). records.Reports (λ r. IsAmong r g.said) (λ m. IsAmong m g.lost) st) (sym same ∙ f)
          is.kept in
          (there, said kept there, λ n known. so.said kept n there known),
      λ mark f.
          let there : IsAmong mark g.lost =
          subst (λ (st : Status). records.Reports (λ r. IsAmong r g.said) (λ m. IsAmong m g.lost) st) (sym same ∙ f)
          is.kept in
          (there, (lost mark there).0),
    )

hears_so : (quiet : Bool) (s : System) (octets : List ℕ) (read : Result (Status × ℕ) LogFault)
    → status_spelled octets ≡ read
    → ((status : Status × ℕ) → status_spelled octets ≡ Ok status → IsAmong octets s.statuses) → Holds quiet s
    → Holds quiet (record s { ledger = after_status s.ledger read })
hears_so quiet s octets (Err fault) e among h = h
hears_so quiet s octets (Ok status) e among h =
    let is = shown quiet s h octets status e (among status e) in
    with_ledger quiet s (after_status s.ledger (Ok status)) h
    (on_status h.stored h.past s.board.whole h.up s.ledger s.store s.given status.0 is.0 is.1 s.board h.link.own
    h.ledger)

made_so : (quiet : Bool) (s : System) (entry : Entry) (o : Rebuild) → entry ≡ Rebuilds o → IsNew s.ledger o
    → (quiet ≡ true → ⊥)
    → Holds quiet s → Holds quiet (record s { ledger = appended s.ledger entry })
made_so quiet s entry o e is none h =
    let quiet_is = h.quiet_is in
    let loud : h.past.quiet ≡ true → ⊥ = λ q. none (sym quiet_is ∙ q) in
    let g : Past = h.past in
    let order : Order = orders.Rebuild o.mark o.boot o.last in
    let k = ledger_good h.stored g s.board.whole h.up s.ledger s.store s.given h.ledger in
    let safe = h.ledger.safe in
    let up = k.board.reach in
    let last_is = is.last in
    let last : o.last ≡ length h.stored = omega (arith, safe, up, last_is) in
    let few = k.few in
    let long = ap length k.goes_on ∙ length-append h.stored k.rest in
    let small : o.last < 2 ^ 32 = omega (arith, last, few, long) in
    let mark_small : o.mark < 2 ^ 32 = subst IsMark is.mark k.remembers.mark in
    let mark_lost : IsAmong o.mark g.lost =
    subst (λ (m : Option ℕ). IfSome m (λ x. IsAmong x g.lost)) is.mark k.remembers.lost in
    let low = h.link.low in
    let range : IsOrderInRange order = (mark_small, is.boot, small) in
    let fits : IsFitOrder (length h.stored) order = record { range = range; low = omega (arith, last) } in
    let rebuild : IsRebuild o = record { mark = mark_small; boot = is.boot; last = small } in
    let past : Past = with_order g order in
    let now : OnGround h.stored past s.board.whole h.up s.ledger s.store s.given =
    ground_more h.stored g past s.board.whole s.board.whole h.up s.ledger s.store s.given
    (more_orders g order s.board.whole) h.ledger in
    let then_good = ledger_good h.stored past s.board.whole h.up s.ledger s.store s.given now in
    let after : OnGround h.stored past s.board.whole h.up (appended s.ledger (Rebuilds o)) s.store s.given =
    on_append h.stored past s.board.whole h.up s.ledger s.store s.given s.given (Rebuilds o) refl rebuild
    (sym (append-nil s.given))
    (good_rebuilds h.stored past s.board.whole h.up s.given s.ledger.state o rebuild (inl refl) loud then_good) now in
    record {
      stored = h.stored;
      past = past;
      up = h.up;
      link =
          link_directs h.stored g s.packets s.orders s.statuses s.board order fits (λ q. absurd (loud q)) h.link
          (mark_lost, omega (arith, low, last));
      ledger =
          subst (λ (x : Entry). OnGround h.stored past s.board.whole h.up (appended s.ledger x) s.store s.given) (sym e)
          after;
      told = h.told;
      quiet_is = h.quiet_is;
      own = h.own;
    }

rebuilds_so : (quiet : Bool) (s : System) (made : Result (Option Entry) LedgerFault) → rebuild_of s.ledger ≡ made
    → (quiet ≡ true → ⊥) → Holds quiet s → Holds quiet (record s { ledger = after_rebuild s.ledger made })
rebuilds_so quiet s (Err fault) e none h = h
rebuilds_so quiet s (Ok None) e none h = h
rebuilds_so quiet s (Ok (Some entry)) e none h =
    let is = new_is s.ledger s.ledger.state.standing.mark entry refl e in made_so quiet s entry is.0 is.1 is.2 none h

-- ---- the store

appends_so : (quiet : Bool) (s : System) (view : NextView) → StoresAll s.ledger.unstored view → Holds quiet s
    → Holds quiet (after_append s view)
appends_so quiet s Nothing is h = h
appends_so quiet s (views.Says tell) is h = h
appends_so quiet s (Stores octets) is h =
    let g : Past = h.past in
    let more : List Waiting = all_in h.ledger.new in
    let after = on_stored h.stored g s.board.whole h.up s.ledger s.store s.given h.ledger in
    let kept : OnGround s.given g s.board.whole h.up (all_stored s.ledger) (s.store ++ octets) s.given =
    subst (λ (xs : List ℕ). OnGround s.given g s.board.whole h.up (all_stored s.ledger) (s.store ++ xs) s.given)
    (sym is) after in
    record {
      stored = h.stored ++ more;
      past = g;
      up = h.up;
      link = link_stored h.stored more g s.packets s.orders s.statuses s.board h.link;
      ledger =
          subst (λ (cs : List Waiting). OnGround cs g s.board.whole h.up (all_stored s.ledger) (s.store ++ octets)
          s.given) h.ledger.given_is kept;
      told =
          all_made_more h.stored more g.said g.said s.board.whole s.board.whole s.board.packets s.board.packets h.up
          h.up (length h.up) s.told (λ r i. i) (λ i b f. f) (same_board g.said s.board.whole s.board.packets) h.told;
      quiet_is = h.quiet_is;
      own = h.own;
    }

crash_so : (quiet : Bool) (s : System) (octets : List ℕ) (n : ℕ) → octets ≡ s.store ++ take n s.ledger.unstored
    → Holds quiet s
    → Holds quiet (after_crash s octets)
crash_so quiet s octets n e h =
    let g : Past = h.past in
    let is = on_crash h.stored g s.board.whole h.up s.ledger s.store s.given s.ledger.max_packet n h.ledger in
    let after : Holds quiet (after_crash s (s.store ++ take n s.ledger.unstored)) =
    record {
      stored = h.stored ++ is.more;
      past = g;
      up = h.up;
      link = link_stored h.stored is.more g s.packets s.orders s.statuses s.board h.link;
      ledger = is.holds;
      told =
          all_made_more h.stored is.more g.said g.said s.board.whole s.board.whole s.board.packets s.board.packets
          h.up h.up (length h.up) s.told (λ r i. i) (λ i b f. f)
          (same_board g.said s.board.whole s.board.packets) h.told;
      quiet_is = h.quiet_is;
      own = h.own;
    } in
    subst (λ (xs : List ℕ). Holds quiet (after_crash s xs)) (sym e) after

renews_so : (quiet : Bool) (s : System) → is_at_rest s.ledger ≡ true → Holds quiet s
    → Holds quiet (after_renewal s (fresh_octets s.ledger.state))
renews_so quiet s rests h =
    record {
      stored = h.stored;
      past = h.past;
      up = h.up;
      link = h.link;
      ledger =
          on_renewed h.stored h.past s.board.whole h.up s.ledger s.store s.given (length (fresh_octets s.ledger.state))
          rests h.ledger;
      told = h.told;
      quiet_is = h.quiet_is;
      own = h.own;
    }

-- ---- a report

reports_so : (quiet : Bool) (s : System) (noted : Bool) (view : NextView) → next_of s.ledger ≡ view → Holds quiet s
    → Holds quiet (after_report s noted view)
reports_so quiet s noted Nothing e h = h
reports_so quiet s noted (Stores octets) e h = h
reports_so quiet s noted (views.Says tell) e h =
    let g : Past = h.past in
    let l : LedgerState = s.ledger in
    let ws : List ℕ = s.board.whole in
    let packets : List (List ℕ) = s.board.packets in
    let k = ledger_good h.stored g ws h.up l s.store s.given h.ledger in
    let first = tells_first l tell e in
    let rest : List Tell = drop 1 l.state.tells in
    let below : ℕ = l.state.standing.below in
    let tells : AreTells h.stored g ws h.up k.start below (tell ∷ rest) =
    subst (AreTells h.stored g ws h.up k.start below) first k.tells in
    let now = made_now h.stored g ws packets h.up k.start below tell rest k.reported tells in
    let made : IsMade h.stored g.said ws packets (up_after h.up k.start l.state.tells) (length h.up)
    (length (up_after h.up k.start l.state.tells)) packets tell =
    subst (λ (ts : List Tell). IsMade h.stored g.said ws packets (up_after h.up k.start ts) (length h.up)
    (length (up_after h.up k.start ts)) packets tell) (sym first) now in
    let earlier = all_made_more h.stored [] g.said g.said ws ws packets packets h.up
    (up_after h.up k.start l.state.tells) (length h.up) s.told (λ r i. i)
    (up_stays h.up k.start l.state.tells k.reported).stays (same_board g.said ws packets) h.told in
    record {
      stored = h.stored;
      past = g;
      up = up_after h.up k.start l.state.tells;
      link = h.link;
      ledger = on_told h.stored g ws h.up l s.store s.given noted tell e h.ledger;
      told = (
        length h.up,
        made,
        subst (λ (cs : List Waiting). AreMade cs g.said ws packets (up_after h.up k.start l.state.tells)
            (length h.up) s.told) (append-nil h.stored) earlier,
      );
      quiet_is = h.quiet_is;
      own =
          λ q.
          let own = (k.own (h.quiet_is ∙ q)).own in
          let are : AllByRecursion IsOwn (tell ∷ rest) = subst (AllByRecursion IsOwn) first own in
          (are.0, h.own q);
    }

-- ---- what is sent

sends_so : (quiet : Bool) (s : System) (number : ℕ) (found : Option Waiting) → packet_of s.ledger number ≡ found
    → Holds quiet s
    → Holds quiet (after_packet s found)
sends_so quiet s number None e h = h
sends_so quiet s number (Some c) e h =
    let is = packet_is h.stored h.past s.board.whole h.up s.ledger s.store s.given number c e h.ledger in
    record {
      stored = h.stored;
      past = h.past;
      up = h.up;
      link = link_sends h.stored h.past s.packets s.orders s.statuses s.board c.packet is h.link;
      ledger = h.ledger;
      told = h.told;
      quiet_is = h.quiet_is;
      own = h.own;
    }

order_sent : (quiet : Bool) (s : System) (apid count : ℕ) (order : Order) (h : Holds quiet s)
    → (order_fits apid count ≡ true → IsAmong order h.past.directed × IsOrderInRange order)
    → Holds quiet (after_order s apid count (Some order))
order_sent quiet s apid count order h is =
    cond_both (order_fits apid count) (record s { orders = order_octets apid count order ∷ s.orders }) s (Holds quiet)
    (λ t.
    let made = is t in
    let sent : IsSentOrder h.past.directed (order_octets apid count order) =
    record { apid = apid; count = count; order = order; spelled = refl; fits = t; range = made.1; among = made.0 } in
    record {
      stored = h.stored;
      past = h.past;
      up = h.up;
      link =
          link_orders h.stored h.past s.packets s.orders s.statuses s.board (order_octets apid count order) sent
          h.link;
      ledger = h.ledger;
      told = h.told;
      quiet_is = h.quiet_is;
      own = h.own;
    })
    (λ f. h)

orders_so : (quiet : Bool) (s : System) (apid count : ℕ) (found : Option Order) → order_of s.ledger ≡ found
    → Holds quiet s
    → Holds quiet (after_order s apid count found)
orders_so quiet s apid count None e h = h
orders_so quiet s apid count (Some order) e h =
    let k = ledger_good h.stored h.past s.board.whole h.up s.ledger s.store s.given h.ledger in
    order_sent quiet s apid count order h
    (λ t. order_is h.stored h.past s.board.whole h.up s.ledger s.given order e k)

-- an order to restart may be made at any time
restart_so : (quiet : Bool) (s : System) (apid count : ℕ) → Holds quiet s
    → Holds quiet (after_order s apid count (Some (orders.Restart s.ledger.state.standing.board.boot)))
restart_so quiet s apid count h =
    let g : Past = h.past in
    let order : Order = orders.Restart s.ledger.state.standing.board.boot in
    let k = ledger_good h.stored g s.board.whole h.up s.ledger s.store s.given h.ledger in
    let range : IsOrderInRange order = k.board.range.boot in
    let fits : IsFitOrder (length h.stored) order = record { range = range; low = omega arith } in
    let past : Past = with_order g order in
    let made : Holds quiet s =
    record {
      stored = h.stored;
      past = past;
      up = h.up;
      link = link_directs h.stored g s.packets s.orders s.statuses s.board order fits (λ q. tt) h.link tt;
      ledger =
          ground_more h.stored g past s.board.whole s.board.whole h.up s.ledger s.store s.given
          (more_orders g order s.board.whole) h.ledger;
      told = h.told;
      quiet_is = h.quiet_is;
      own = h.own;
    } in
    order_sent quiet s apid count order made (λ t. (inl refl, range))

-- ---- on board

happens_so : (quiet : Bool) (s : System) (event : Event) → IsOwed s (Happens event)
    → (quiet ≡ true → s.board.executor.kept.boot < 4294967295) → Holds quiet s
    → Holds quiet (record s { board = board_step s.board event })
happens_so quiet s event is calm h =
    let quiet_is = h.quiet_is in
    let g : Past = h.past in
    let after : Board = board_step s.board event in
    let grows = happens_grows h.stored g s.packets s.orders s.statuses s.board event h.link in
    let told = all_made_more h.stored [] g.said g.said s.board.whole after.whole s.board.packets after.packets h.up
    h.up (length h.up) s.told (λ r i. i) (λ i b f. f) grows h.told in
    record {
      stored = h.stored;
      past = g;
      up = h.up;
      link =
          link_happens s h.stored g event is (λ q. calm (sym quiet_is ∙ q)) h.link;
      ledger =
          ground_more h.stored g g s.board.whole after.whole h.up s.ledger s.store s.given
          (record { directed = λ o i. i; said = λ r i. i; lost = λ m i. i; whole = grows.whole; quiet = λ q. q })
          h.ledger;
      told =
          subst (λ (cs : List Waiting). AreMade cs g.said after.whole after.packets h.up (length h.up) s.told)
          (append-nil h.stored) told;
      quiet_is = h.quiet_is;
      own = h.own;
    }

status_so : (quiet : Bool) (s : System) (waits : ℕ) → Holds quiet s
    → Holds quiet (record s { statuses = status_octets (status_of s.board.executor) waits ∷ s.statuses })
status_so quiet s waits h =
    let g : Past = h.past in
    let is = link_told h.stored g s.board.whole s.packets s.orders s.statuses s.board waits h.link in
    let told = all_made_more h.stored [] g.said is.past.said s.board.whole s.board.whole s.board.packets
    s.board.packets h.up h.up (length h.up) s.told is.more.said (λ i b f. f)
    (same_board g.said s.board.whole s.board.packets) h.told in
    record {
      stored = h.stored;
      past = is.past;
      up = h.up;
      link = is.holds;
      ledger =
          ground_more h.stored g is.past s.board.whole s.board.whole h.up s.ledger s.store s.given is.more h.ledger;
      told =
          subst (λ (cs : List Waiting). AreMade cs is.past.said s.board.whole s.board.packets h.up (length h.up) s.told)
          (append-nil h.stored) told;
      quiet_is = is.quiet ∙ h.quiet_is;
      own = h.own;
    }

-- ---- each deed

step_holds : (quiet : Bool) (s : System) (deed : Deed) → IsOwed s deed → (quiet ≡ true → IsCalm s deed) → Holds quiet s
    → Holds quiet (system_step s deed)
step_holds quiet s (Commands tag on_map apid count content) is calm h =
    commands_so quiet s tag on_map apid count content (give_fault s.ledger on_map apid count (length content)) refl is h
step_holds quiet s (Hears octets) is calm h = hears_so quiet s octets (status_spelled octets) refl is h
step_holds quiet s deeds.Rebuilds is calm h = rebuilds_so quiet s (rebuild_of s.ledger) refl calm h
step_holds quiet s Appends is calm h = appends_so quiet s (next_of s.ledger) (stores_all s.ledger) h
step_holds quiet s (Reports noted) is calm h = reports_so quiet s noted (next_of s.ledger) refl h
step_holds quiet s Renews is calm h =
    cond_both (is_at_rest s.ledger) (after_renewal s (fresh_octets s.ledger.state)) s (Holds quiet)
    (λ t. renews_so quiet s t h)
    (λ f. h)
step_holds quiet s (Crashes torn) is calm h =
    let due : List ℕ = take torn (due_octets (next_of s.ledger)) in
    let left = torn_of s.ledger torn (next_of s.ledger) (stores_all s.ledger) in
    crash_so quiet s (s.store ++ due) left.0 (ap (λ (xs : List ℕ). s.store ++ xs) left.1) h
step_holds quiet s (Sends number) is calm h = sends_so quiet s number (packet_of s.ledger number) refl h
step_holds quiet s (Orders apid count) is calm h = orders_so quiet s apid count (order_of s.ledger) refl h
step_holds quiet s (OrdersRestart apid count) is calm h = restart_so quiet s apid count h
step_holds quiet s (Happens event) is calm h = happens_so quiet s event is calm h
step_holds quiet s (SendsStatus waits) is calm h = status_so quiet s waits h

run_holds : (quiet : Bool) (s : System) (deeds : List Deed) → AreOwed s deeds → (quiet ≡ true → AreCalm s deeds)
    → Holds quiet s
    → Holds quiet (system_run s deeds)
run_holds quiet s [] is calm h = h
run_holds quiet s (deed ∷ deeds) is calm h =
    run_holds quiet (system_step s deed) deeds is.1 (λ q. (calm q).1) (step_holds quiet s deed is.0 (λ q. (calm q).0) h)

new_holds : (quiet : Bool) (max_packet : ℕ) → Holds quiet (new_system max_packet)
new_holds quiet max_packet =
    let fit : IsFit 0 (no_commands 0 0) = fit_brought 0 0 0 (omega arith) (omega arith) (omega arith) in
    let good : Good [] (record { directed = []; said = []; lost = []; quiet = quiet }) [] [] [] new_state =
    record {
      rest = [];
      goes_on = refl;
      few = omega arith;
      packets = tt;
      low = omega arith;
      commands = refl;
      board = fit;
      remembers = record { doubt = omega arith; mark = tt; lost = tt; order = tt; directed = tt };
      start = 0;
      reported = omega arith;
      covered = omega arith;
      tells = refl;
      own = λ q. record { none = refl; known = inl refl; below = omega arith; own = tt };
    } in
    let first : IsOwnRecord [] [] (no_commands 0 0) =
    record { fit = fit; history = refl; later = λ earlier among. absurd among } in
    record {
      stored = [];
      past = record { directed = []; said = []; lost = []; quiet = quiet };
      up = [];
      link =
          record {
            high = 0;
            low = omega arith;
            reached = record { deeds = []; owed = tt; is = refl };
            records = record { first = fit; second = fit; now = fit; same = tt };
            held = record { packets = tt; held = tt };
            packets_are = tt;
            orders_are = tt;
            statuses_are = tt;
            said = λ kept among. absurd among;
            lost = λ mark among. absurd among;
            directed = λ order among. absurd among;
            own =
                λ q. record {
                  records = record { first = first; second = first; now = first; same = tt };
                  histories = λ kept among. absurd among;
                  pairs = λ one two a b low. absurd a;
                  none = λ order among. absurd among;
                };
          };
      ledger =
          record {
            old = [];
            new = [];
            read = tt;
            store_is = refl;
            follow = tt;
            unstored = refl;
            good = good;
            same = same_now new_state;
            safe = refl;
            given_is = refl;
            notes = λ f. tt;
          };
      told = refl;
      quiet_is = refl;
      own = λ q. tt;
    }

given_all : (stored rest given : List Waiting) (packet : List ℕ) → given ≡ stored ++ rest → IsGiven stored packet
    → IsGiven given packet
given_all stored rest given packet e is =
    subst (λ (cs : List Waiting). IsGiven cs packet) (sym e)
    (is.0, (is.1.0, get_append stored rest (number_in packet - 1) is.0 is.1.1), is.2)

said_so : (quiet : Bool) (s : System) (h : Holds quiet s) (octets : List ℕ) (kept : Record) (waits n : ℕ)
    → IsAmong octets s.statuses
    → status_spelled octets ≡ Ok (Says kept, waits) → IsKnown kept n → IsAmong n s.board.whole
said_so quiet s h octets kept waits n among e known =
    let is = shown quiet s h octets (Says kept, waits) e among in
    (is.0 kept refl).2 n known

-- if no report is due, all up to this number were made
all_reported : (stored : List Waiting) (g : Past) (ws : List ℕ) (up : List Bool) (n m : ℕ) (ts : List Tell) → ts ≡ []
    → n ≤ length up → AreTells stored g ws up n m ts → m ≤ length up
all_reported stored g ws up n m [] e low are = omega (arith, low, are)
all_reported stored g ws up n m (t ∷ ts) e low are = absurd cc

are_carried_out : (quiet : Bool) (s : System) → Holds quiet s → IsCarriedOut s
are_carried_out quiet s h =
    let k = ledger_good h.stored h.past s.board.whole h.up s.ledger s.store s.given h.ledger in
    let so = reached_so (pair_of s.packets s.board h.stored h.past h.link.high) h.link.reached in
    record {
      once = so.once;
      given =
          all_more (IsGiven h.stored) (IsGiven s.given)
          (λ packet is. given_all h.stored (all_in h.ledger.new) s.given packet h.ledger.given_is is) s.board.packets
          h.link.held.packets;
      said = λ octets kept waits n among e known. said_so quiet s h octets kept waits n among e known;
      whole = so.whole;
      told = (
        h.up,
        all_true s h.stored (all_in h.ledger.new) h.past.said h.up (length h.up) s.told h.ledger.given_is h.told,
        λ none.
            all_reported h.stored h.past s.board.whole h.up k.start s.ledger.state.standing.below
            s.ledger.state.tells none k.reported k.tells,
      );
      held = k.commands;
    }

pub each_system : EachSystemCarriesOut
each_system max_packet deeds is =
    are_carried_out false (system_run (new_system max_packet) deeds)
    (run_holds false (new_system max_packet) deeds is (λ q. absurd (cc q)) (new_holds false max_packet))

pub each_is_own : EachCommandIsOwn
each_is_own max_packet deeds is calm =
    (run_holds true (new_system max_packet) deeds is (λ q. calm) (new_holds true max_packet)).own refl
