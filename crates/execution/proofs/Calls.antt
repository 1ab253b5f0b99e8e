-- Each call of the ledger, and what the program does with its answer.
use Rattle.std.proofs.Common.{◌≡◌, ℕ, ◌+◌, ◌-◌, ◌<◌, ◌≤◌, max, List, [], ◌∷◌, ◌++◌, length}
use Rattle.std.proofs.Common.{refl, sym, ◌∙◌, ap, subst, arith, drop, length-append, append-nil}
use Rattle.std.proofs.Common.{Some, None, Option, Bool, true, false, Result, Ok, Err, IfSome, eqb-true}
use Rattle.std.proofs.lemmas.Bool.{leb-true, leb-false, ltb-false, cond_both}
use Rattle.std.specs.Prelude.{◌^◌, ◌&&◌, ◌||◌, ◌==◌, not, nat_lt, nat_le, slice_get, slice_index, if◌then◌else◌}
use Rattle.std.specs.Str.{bytes_eq}
use Rattle.byteorder.specs.Endian.{big_bytes}
use Rattle.command_log.specs.declared.fault.LogFault.{LogFault}
use Rattle.command_log.specs.declared.fault.LogFault.TheVariants as log_faults
use Rattle.command_log.specs.declared.record.Record.{Record}
use Rattle.command_log.specs.declared.status.Status.{Status}
use Rattle.command_log.specs.declared.status.Status.TheVariants.{Says, Changes, Starts, Lost}
use Rattle.command_log.specs.declared.packets.Order.{Order}
use Rattle.command_log.specs.declared.packets.Order.TheVariants as orders
use Rattle.command_log.specs.Check.{check_of}
use Rattle.command_log.specs.Packets.{CommandView, is_command, number_in, command_octets, command_fits, header_octets}
use Rattle.command_log.specs.Exact.{IsOrderInRange}
use Rattle.command_log.specs.Status.{status_octets, status_in, status_spelled, IsStatusInRange}
use Rattle.command_log.specs.Board.{Board, IsAmong, IsKnown}
use Rattle.command_log.proofs.ReadBack.{read_status}
use Rattle.command_log.proofs.Steps.{both}
use Rattle.command_ledger.specs.declared.fault.LedgerFault.{LedgerFault}
use Rattle.command_ledger.specs.declared.fault.LedgerFault.TheVariants as faults
use Rattle.command_ledger.specs.declared.known.Standing.{Standing}
use Rattle.command_ledger.specs.declared.known.Rebuild.{Rebuild}
use Rattle.command_ledger.specs.declared.state.Tell.{Tell}
use Rattle.command_ledger.specs.Waiting.{Waiting, waiting}
use Rattle.command_ledger.specs.Known.{reach, is_news, has_told}
use Rattle.command_ledger.specs.State.{State, Entry, Gives, Hears, Loses, Rebuilds, Tells, highest, follows}
use Rattle.command_ledger.specs.Ledger.{LedgerState, appended, appended_if, next_command, give_fault, packet_of, news}
use Rattle.command_ledger.specs.Ledger.{boot_before, is_for, new_order, order_for, rebuild_of, order_of}
use Rattle.command_ledger.specs.Ledger.{order_of_mark, next_of, NextView, Stores, told_or_stored, rest_stored}
use Rattle.command_ledger.specs.Ledger as views
use Rattle.command_ledger.specs.Kept.{IsRebuild, IsOrder}
use Rattle.command_ledger.proofs.Commands.{follows_next, fits_of}
use Rattle.execution.specs.Execution.{IsGiven}
use Rattle.execution.proofs.Lists.{IsPacket, packet_at, get_drop, get_front}
use Rattle.execution.proofs.Records.{IsFit}
use Rattle.execution.proofs.Chain.{chain_more}
use Rattle.execution.proofs.Keeping.{OnGround, ledger_good, on_append}
use Rattle.execution.proofs.Tells.{Past}
use Rattle.execution.proofs.Good.{Good, IsMore, good_highest, good_hears, good_gives, good_loses}
use Rattle.execution.proofs.Tells.{up_after, up_long, AreTells, same_start, tail_pushed}
use Rattle.execution.proofs.Good.{good_told}
use Rattle.execution.proofs.Chain.{chain_reported}
use Rattle.command_ledger.specs.State.{new_state}
use Rattle.command_ledger.specs.Kept.{after_entries}
use Rattle.execution.proofs.Own.{IsOwnBoard, own_agrees}

-- more is known
pub ground_more : (stored : List Waiting) (g h : Past) (ws vs : List ℕ) (up : List Bool) (l : LedgerState)
    (store : List ℕ) (given : List Waiting) → IsMore g h ws vs → OnGround stored g ws up l store given
    → OnGround stored h vs up l store given
ground_more stored g h ws vs up l store given more is =
    record {
      old = is.old;
      new = is.new;
      read = is.read;
      store_is = is.store_is;
      follow = is.follow;
      unstored = is.unstored;
      good = chain_more stored g h ws vs up stored _ is.new more is.good;
      same = is.same;
      safe = is.safe;
      given_is = is.given_is;
      notes = is.notes;
    }

-- ---- a command

command_long : (c : CommandView) → length (command_octets c) ≡ length c.content + 14
command_long c =
    let body : List ℕ = big_bytes 4 c.number ++ c.content in
    let front : List ℕ = header_octets c.apid c.count (length body + 4) ++ body in
    omega (arith, length-append front (big_bytes 4 (check_of front)))

command_short : (c : CommandView) → command_fits c ≡ true → length (command_octets c) ≤ 65542
command_short c e =
    let last = both (nat_lt c.apid 2048 && nat_lt c.count 16384 && nat_lt 0 c.number && nat_lt c.number (2 ^ 32))
    (nat_le (length c.content) 65528) e in
    let low = leb-true (length c.content) 65528 last.1 in
    let long = command_long c in
    omega (arith, long, low)

packet_of_follows : (s : State) (n tag on_map : ℕ) (packet : List ℕ) → highest s ≡ n → tag < 2 ^ 64
    → length packet ≤ 65542 → follows s (Gives tag on_map packet) ≡ true
    → IsPacket (n + 1) (waiting tag on_map packet)
packet_of_follows s n tag on_map packet high small short e =
    let one = both (nat_lt (highest s) 4294967295)
    (nat_le (length packet) 65542 && (is_command packet && (number_in packet == highest s + 1))) e in
    let two = both (nat_le (length packet) 65542) (is_command packet && (number_in packet == highest s + 1)) one.1 in
    let three = both (is_command packet) (number_in packet == highest s + 1) two.1 in
    let number = eqb-true (number_in packet) (highest s + 1) three.1 in
    record { command = three.0; number = omega (arith, number, high); short = short; tag = small }

pub on_command : (stored : List Waiting) (g : Past) (ws : List ℕ) (up : List Bool) (l : LedgerState) (store : List ℕ)
    (given : List Waiting) (tag on_map apid count : ℕ) (content : List ℕ) → tag < 2 ^ 64
    → give_fault l on_map apid count (length content) ≡ None → OnGround stored g ws up l store given
    → let packet = command_octets (next_command l apid count content) in
    OnGround stored g ws up (appended l (Gives tag on_map packet)) store (given ++ waiting tag on_map packet ∷ [])
on_command stored g ws up l store given tag on_map apid count content small none h =
    let c : CommandView = next_command l apid count content in
    let packet : List ℕ = command_octets c in
    let fits = fits_of l on_map apid count content none in
    let short = command_short c fits.0 in
    let may = follows_next l.state tag on_map c packet fits.0 refl refl short fits.1 in
    let k = ledger_good stored g ws up l store given h in
    let high = good_highest stored g ws up given l.state k in
    let is = packet_of_follows l.state (length given) tag on_map packet high small short may in
    let low = fits.1 in
    on_append stored g ws up l store given (given ++ waiting tag on_map packet ∷ []) (Gives tag on_map packet) may
    (small, short) refl
    (good_gives stored g ws up given l.state (waiting tag on_map packet) is (omega (arith, low, high)) k) h

-- ---- a status

spelled_by : (a b : Bool) (one two : Status × ℕ)
    → ◌≡◌ {A = Result (Status × ℕ) LogFault}
    (if not a then Err log_faults.Layout else if b then Ok one else Err log_faults.Check) (Ok two) → one ≡ two
spelled_by true true one two e = cc
spelled_by true false one two e = absurd cc
spelled_by false b one two e = absurd cc

-- the status that octets spell is the one that they were made of
pub same_status : (octets : List ℕ) (status : Status) (waits : ℕ) (read : Status × ℕ) → IsStatusInRange status
    → octets ≡ status_octets status waits → status_spelled octets ≡ Ok read → read.0 ≡ status
same_status octets status waits read range is e =
    let found : status_in octets ≡ status = (read_status octets status waits range is).0 in
    let same = spelled_by (length octets == 27)
    (bytes_eq (status_octets (status_in octets) (slice_index octets 22)) octets)
    (status_in octets, slice_index octets 22) read e in
    sym (ap (λ (r : Status × ℕ). r.0) same) ∙ found

on_some : (stored : List Waiting) (g : Past) (ws : List ℕ) (up : List Bool) (l : LedgerState) (store : List ℕ)
    (given : List Waiting) (e : Entry) (flag : Bool) → OnGround stored g ws up l store given
    → (flag ≡ true → OnGround stored g ws up (appended l e) store given)
    → OnGround stored g ws up (appended_if l (if flag then Some e else None)) store given
on_some stored g ws up l store given e true h more = more refl
on_some stored g ws up l store given e false h more = h

on_others : (stored : List Waiting) (g : Past) (ws : List ℕ) (up : List Bool) (l : LedgerState) (store : List ℕ)
    (given : List Waiting) (e : Entry) (flag : Bool) → OnGround stored g ws up l store given
    → OnGround stored g ws up (appended l e) store given
    → OnGround stored g ws up (appended_if l (if flag then None else Some e)) store given
on_others stored g ws up l store given e true h more = h
on_others stored g ws up l store given e false h more = more

pub on_status : (stored : List Waiting) (g : Past) (ws : List ℕ) (up : List Bool) (l : LedgerState) (store : List ℕ)
    (given : List Waiting) (status : Status)
    → ((kept : Record) → status ≡ Says kept → IsAmong kept g.said × IsFit (length stored) kept
    × ((n : ℕ) → IsKnown kept n → IsAmong n ws))
    → ((mark : ℕ) → status ≡ Lost mark → IsAmong mark g.lost × (mark < 2 ^ 32)) → (b : Board)
    → (g.quiet ≡ true → IsOwnBoard stored g.said g.directed b) → OnGround stored g ws up l store given
    → OnGround stored g ws up (appended_if l (news l status)) store given
on_status stored g ws up l store given Changes said lost b own h = h
on_status stored g ws up l store given Starts said lost b own h = h
on_status stored g ws up l store given (Says kept) said lost b own h =
    let is = said kept refl in
    let k = ledger_good stored g ws up l store given h in
    on_some stored g ws up l store given (Hears kept) (is_news l.state.standing kept) h
    (λ news.
    on_append stored g ws up l store given given (Hears kept) refl is.1.range (sym (append-nil given))
    (good_hears stored g ws up given l.state kept is.0 is.1 is.2
    (λ q. own_agrees stored g ws up given l.state b kept q k (own q) is.0 is.1 news) k) h)
on_status stored g ws up l store given (Lost mark) said lost b own h =
    let is = lost mark refl in
    let k = ledger_good stored g ws up l store given h in
    on_others stored g ws up l store given (Loses mark) (has_told l.state.standing.mark mark) h
    (on_append stored g ws up l store given given (Loses mark) refl is.1 (sym (append-nil given))
    (good_loses stored g ws up given l.state mark is.1 is.0 k) h)

-- ---- an order

pub record IsNew (l : LedgerState) (o : Rebuild) : Type 0 where
  pub mark : l.state.standing.mark ≡ Some o.mark
  pub boot : o.boot < 2 ^ 32
  pub last : o.last ≡ max l.safe (reach l.state.standing.board)

new_by : (l : LedgerState) (mark : ℕ) (a b lost : Bool) (o : Rebuild) (entry : Entry)
    → (b ≡ false → o.boot < 2 ^ 32) → l.state.standing.mark ≡ Some mark → o.mark ≡ mark
    → o.last ≡ max l.safe (reach l.state.standing.board)
    → ◌≡◌ {A = Result (Option Entry) LedgerFault}
    (if lost then (if a then Ok None else if b then Err faults.NoBoot else Ok (Some (Rebuilds o)))
    else Err faults.NotLost) (Ok (Some entry))
    → (r : Rebuild) × (entry ≡ Rebuilds r) × IsNew l r
new_by l mark true b true o entry low e f g is = absurd cc
new_by l mark false true true o entry low e f g is = absurd cc
new_by l mark a b false o entry low e f g is = absurd cc
new_by l mark false false true o entry low e f g is =
    let same : entry ≡ Rebuilds o = cc in
    (o, same, record { mark = e ∙ ap (λ (m : ℕ). Some m) (sym f); boot = low refl; last = g })

pub new_is : (l : LedgerState) (told : Option ℕ) (entry : Entry) → l.state.standing.mark ≡ told
    → order_for l told ≡ Ok (Some entry) → (r : Rebuild) × (entry ≡ Rebuilds r) × IsNew l r
new_is l None entry e is = absurd cc
new_is l (Some mark) entry e is =
    let s : Standing = l.state.standing in
    let boot : ℕ = boot_before s s.order + 65536 in
    let o : Rebuild = record { mark = mark; boot = boot; last = max l.safe (reach s.board) } in
    new_by l mark (is_for s.order mark) (nat_le (2 ^ 32) boot) s.is_lost o entry (λ f. leb-false (2 ^ 32) boot f) e refl
    refl is

-- an order that may be sent
made_if : (g : Past) (flag : Bool) (o : Rebuild) (found : Order)
    → ◌≡◌ {A = Option Order} (if flag then Some (orders.Rebuild o.mark o.boot o.last) else None) (Some found)
    → IsRebuild o → IsAmong (orders.Rebuild o.mark o.boot o.last) g.directed
    → IsAmong found g.directed × IsOrderInRange found
made_if g false o found e range among = absurd cc
made_if g true o found e range among =
    let same : orders.Rebuild o.mark o.boot o.last ≡ found = cc in
    subst (λ (order : Order). IsAmong order g.directed × IsOrderInRange order) same
    (among, (range.mark, range.boot, range.last))

made_by : (g : Past) (lost : Bool) (order : Option Rebuild) (mark : Option ℕ) (found : Order)
    → ◌≡◌ {A = Option Order} (if lost then order_of_mark order mark else None) (Some found) → IsOrder order
    → IfSome order (λ o. IsAmong (orders.Rebuild o.mark o.boot o.last) g.directed)
    → IsAmong found g.directed × IsOrderInRange found
made_by g false order mark found e range among = absurd cc
made_by g true None mark found e range among = absurd cc
made_by g true (Some o) None found e range among = absurd cc
made_by g true (Some o) (Some mark) found e range among =
    made_if g (o.mark == mark) o found e range among

pub order_is : (stored : List Waiting) (g : Past) (ws : List ℕ) (up : List Bool) (l : LedgerState)
    (given : List Waiting)
    (found : Order) → order_of l ≡ Some found → Good stored g ws up given l.state
    → IsAmong found g.directed × IsOrderInRange found
order_is stored g ws up l given found e k =
    let s : Standing = l.state.standing in
    made_by g (s.is_lost && not l.due) s.order s.mark found e k.remembers.order k.remembers.directed

-- ---- a packet

found_by : (lost high low : Bool) (found : Option Waiting) (c : Waiting)
    → ◌≡◌ {A = Option Waiting} (if lost || (high || low) then None else found) (Some c)
    → (high ≡ false) × (low ≡ false) × (found ≡ Some c)
found_by true high low found c e = absurd cc
found_by false true low found c e = absurd cc
found_by false false true found c e = absurd cc
found_by false false false found c e = (refl, refl, e)

pub packet_is : (stored : List Waiting) (g : Past) (ws : List ℕ) (up : List Bool) (l : LedgerState) (store : List ℕ)
    (given : List Waiting) (number : ℕ) (c : Waiting) → packet_of l number ≡ Some c
    → OnGround stored g ws up l store given → IsGiven stored c.packet
packet_is stored g ws up l store given number c e h =
    let k = ledger_good stored g ws up l store given h in
    let below : ℕ = l.state.standing.below in
    let found = found_by l.state.standing.is_lost (nat_lt l.safe number) (nat_le number below)
    (slice_get l.state.commands (number - below - 1)) c e in
    let within : number ≤ l.safe = ltb-false l.safe number found.0 in
    let above : below < number = leb-false number below found.1 in
    let safe = h.safe in
    let here : slice_get (drop below given) (number - below - 1) ≡ Some c =
    subst (λ (cs : List Waiting). slice_get cs (number - below - 1) ≡ Some c) k.commands found.2 in
    let place : below + (number - below - 1) ≡ number - 1 = omega (arith, above) in
    let there : slice_get given (number - 1) ≡ Some c =
    subst (λ (i : ℕ). slice_get given i ≡ Some c) place (get_drop below (number - below - 1) given c here) in
    let packet = packet_at 0 (number - 1) given c k.packets there in
    let is = packet.number in
    let same : number_in c.packet ≡ number = omega (arith, is, above) in
    let kept : slice_get stored (number - 1) ≡ Some c =
    get_front stored k.rest (number - 1) c
    (subst (λ (cs : List Waiting). slice_get cs (number - 1) ≡ Some c) k.goes_on there)
    (omega (arith, within, above, safe)) in (
      c,
      (
        omega (arith, same, above),
        subst (λ (n : ℕ). slice_get stored (n - 1) ≡ Some c) (sym same) kept,
      ),
      refl,
    )

-- ---- a report

says_by : (due : Bool) (unstored : List ℕ) (first : Option Tell) (tell : Tell)
    → (if due then Stores unstored else told_or_stored unstored first) ≡ views.Says tell → first ≡ Some tell
says_by true unstored first tell e = absurd cc
says_by false [] None tell e = absurd cc
says_by false (x ∷ xs) None tell e = absurd cc
says_by false unstored (Some t) tell e = cc

first_of_tells : (ts : List Tell) (tell : Tell) → slice_get ts 0 ≡ Some tell → ts ≡ tell ∷ drop 1 ts
first_of_tells [] tell e = absurd cc
first_of_tells (t ∷ ts) tell e = cc

pub tells_first : (l : LedgerState) (tell : Tell) → next_of l ≡ views.Says tell
    → l.state.tells ≡ tell ∷ drop 1 l.state.tells
tells_first l tell e =
    first_of_tells l.state.tells tell (says_by l.due l.unstored (slice_get l.state.tells 0) tell e)

due_by : (due : Bool) (unstored : List ℕ) (first : Option Tell) (tell : Tell)
    → (if due then Stores unstored else told_or_stored unstored first) ≡ views.Says tell → due ≡ false
due_by true unstored first tell e = absurd cc
due_by false unstored first tell e = refl

pub on_told : (stored : List Waiting) (g : Past) (ws : List ℕ) (up : List Bool) (l : LedgerState) (store : List ℕ)
    (given : List Waiting) (noted : Bool) (tell : Tell) → next_of l ≡ views.Says tell
    → (h : OnGround stored g ws up l store given)
    → let k = ledger_good stored g ws up l store given h in
    OnGround stored g ws (up_after up k.start l.state.tells) (if noted then appended l Tells else l) store given
on_told stored g ws up l store given noted tell e h =
    let k = ledger_good stored g ws up l store given h in
    let tail : List Tell = l.state.tells in
    let high : List Bool = up_after up k.start tail in
    let s : State = after_entries new_state h.old in
    let t : State = after_entries s h.new in
    let notes = h.notes (due_by l.due l.unstored (slice_get l.state.tells 0) tell e) in
    let tells : t.tells ≡ tail = sym (ap (λ (x : State). x.tells) h.same.is) in
    let below : l.state.standing.below ≡ t.standing.below = ap (λ (x : State). x.standing.below) h.same.is in
    let are : AreTells stored g ws up k.start t.standing.below tail =
    subst (λ (m : ℕ). AreTells stored g ws up k.start m tail) below k.tells in
    let made = chain_reported stored g ws up stored s h.new k.start tail notes k.reported tells are h.good in
    let all : OnGround stored g ws high l store given =
    record {
      old = h.old;
      new = h.new;
      read = h.read;
      store_is = h.store_is;
      follow = h.follow;
      unstored = h.unstored;
      good = made.good;
      same = h.same;
      safe = h.safe;
      given_is = h.given_is;
      notes = h.notes;
    } in
    let now = ledger_good stored g ws high l store given all in
    let same : now.start ≡ k.start =
    same_start stored g ws high now.start k.start l.state.standing.below tail now.tells
    (tail_pushed stored g ws up k.start l.state.standing.below tail k.reported k.tells) in
    let long = up_long up k.start tail k.reported in
    cond_both noted (appended l Tells) l (λ (m : LedgerState). OnGround stored g ws high m store given)
    (λ f. on_append stored g ws high l store given given Tells refl tt (sym (append-nil given))
    (good_told stored g ws high given l.state now (omega (arith, same, long))) all)
    (λ f. all)
