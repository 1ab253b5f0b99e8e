-- A sender of units follows the rules over numbers: its outcomes are theirs, with the queues that their answers leave.
use denote.Bor.{Bor}
use Rattle.circular_buffer.specs.Buffer.{keep_last, Buffer, buffer}
use Rattle.std.proofs.Common.{◌≡◌, ◌≤◌, ◌<◌, ℕ, zero, suc, ◌+◌, ◌-◌, true, List, [], ◌∷◌, ◌++◌, length, drop, map}
use Rattle.std.proofs.Common.{Option, Some, None, inl, inr, refl, ap, arith, Bool, false, ◌%◌, is_some, min, sym, subst}
use Rattle.std.proofs.Common.{◌∙◌, length-drop, length-append}
use Rattle.std.specs.Prelude.{slice_get, option_copied, if◌then◌else◌, ◌==◌, not, nat_lt, ◌↔◌, IsSome}
use Rattle.std.proofs.lemmas.Bool.{cases_lt, eq-eqb, ne_eqb}
use Rattle.std.proofs.lemmas.List.{drop-drop, drop_all}
use Rattle.clcw.specs.declared.word.Clcw.{Clcw}
use Rattle.cop1.specs.Units.{marked_unit, unmarked_unit, oldest_marked, without_oldest_mark, due_units, SentUnit, units}
use Rattle.cop1.specs.Units.{is_none_sent, FopOutcome, IsFop}
use Rattle.cop1.specs.Queues.{marked_last, Queues, Fits, FollowsTheRules, with_queues, still_waiting, trimmed, trims}
use Rattle.cop1.specs.Queues.{submitted, first_bypass, taken_from, next_at, pulled, peeked_at, pulled_by, by_rules}
use Rattle.cop1.specs.Modulo.{ahead_by}
use Rattle.cop1.specs.declared.vocabulary.Alert.{Alert}
use Rattle.cop1.specs.declared.vocabulary.Directive.{Directive}
use Rattle.cop1.specs.declared.vocabulary.Directive.TheVariants.{InitWithoutCheck, InitWithCheck, InitUnlock, InitSetVr}
use Rattle.cop1.specs.declared.vocabulary.FopMode.{FopMode}
use Rattle.cop1.specs.declared.vocabulary.FopMode.TheVariants.{S4, S5, S6, S1, S2}
use Rattle.cop1.specs.FopVariables.{Store, SenderOf, OutcomeOf, held_by}
use Rattle.cop1.specs.FopWords.{alerts, goes_on}
use Rattle.cop1.specs.FopReport.{clcw_step, report_in, confirms, move_on, after_new_value, retransmits, locks, waits}
use Rattle.cop1.specs.FopReport.{asks}
use Rattle.cop1.specs.FopTick.{tick_step}
use Rattle.cop1.specs.FopDirective.{directive_step, obeys}
use Rattle.cop1.specs.declared.vocabulary.Control.{Control}
use Rattle.cop1.specs.declared.vocabulary.Control.TheVariants.{Due}
use Rattle.cop1.specs.UnitsNext.{IsPlaced, seen_at}
use Rattle.cop1.specs.FopSubmit.{submit_in, waits_behind}
use Rattle.cop1.specs.UnitsStep.{handing_back, FopInput, fop_step}
use Rattle.cop1.specs.FopPull as pulls
use Rattle.cop1.specs.FopPull.{PulledUnit, NothingPulled, SequencePulled}
use Rattle.cop1.specs.UnitsStep as fop
use Rattle.cop1.specs.Numbers.{IsSender, SenderNumbers, SenderOutcome, Counted, numbers, Which, TheWaiting, OneSent}
use Rattle.cop1.specs.Numbers.{waiting_which}
use Rattle.cop1.specs.NumbersStep.{is_due, next_of, next_outcome}
use Rattle.cop1.specs.declared.fop.Fop.TheInside.{Inside}
use Rattle.cop1.specs.FopFields.{queues_of, fop_state_of, IsSound}
use Rattle.cop1.proofs.Cases.{when, heard_both, ticked_both, obeyed_both, begun}

-- The sent queue as bare units, the last of them marked.

module _ {U : Type 0} where
  pub length-marked_last : (due : ℕ) (us : List U) → length (marked_last due us) ≡ length us
  length-marked_last due [] = refl
  length-marked_last due (u ∷ us) = ap suc (length-marked_last due us)

  -- the marks are counted from the end, so they do not move when units leave the front
  pub drop-marked_last : (due n : ℕ) (us : List U) → drop n (marked_last due us) ≡ marked_last due (drop n us)
  drop-marked_last due (suc n) (u ∷ us) = drop-marked_last due n us
  drop-marked_last due _ _ = refl

  -- no more are marked than there are
  pub marked_last-all : (due more : ℕ) (us : List U) → length us ≤ due → length us ≤ more
      → marked_last due us ≡ marked_last more us
  marked_last-all due more [] all all' = refl
  marked_last-all due more (u ∷ us) all all' =
      grind (arith, all, all', marked_last-all due more us (omega arith) (omega arith))

  pub map-marked_unit-marked_last : (due : ℕ) (us : List U)
      → map marked_unit (marked_last due us) ≡ marked_last (length us) us
  map-marked_unit-marked_last due [] = refl
  map-marked_unit-marked_last due (u ∷ us) =
      let more = marked_last-all (length us) (suc (length us)) us (omega arith) (omega arith) in
      grind (arith, map-marked_unit-marked_last due us, more)

  -- as many are marked as are due
  pub length_due : (due : ℕ) (us : List U) → due ≤ length us → length (due_units (marked_last due us)) ≡ due
  length_due due [] within = omega arith
  length_due due (u ∷ us) within =
      elim (cases_lt (length us) due) [
        | inl lt ↦
            let all = marked_last-all due (length us) us (omega arith) (omega arith) in
            grind (arith, lt, all, length_due (length us) us (omega arith))
        | inr le ↦ grind (arith, le, length_due due us le)
      ]

  -- a unit added at the end, if none is marked
  pub marked_last-push : (us : List U) (u : U) → marked_last 0 (us ++ u ∷ []) ≡ marked_last 0 us ++ unmarked_unit u ∷ []
  marked_last-push [] u = refl
  marked_last-push (x ∷ us) u = grind (arith, marked_last-push us u)

  -- the oldest marked unit is the first of the last `due`
  pub oldest_marked-none : (place : ℕ) (us : List U) → oldest_marked place (marked_last 0 us) ≡ None
  oldest_marked-none place [] = refl
  oldest_marked-none place (u ∷ us) = grind (arith, oldest_marked-none (place + 1) us)

  pub oldest_marked-last : (place due : ℕ) (us : List U) (u : U) → 0 < due → due ≤ length us
      → slice_get us (length us - due) ≡ Some u
      → oldest_marked place (marked_last due us) ≡ Some (place + (length us - due), u)
  oldest_marked-last place due [] u some within found = absurd (omega arith)
  oldest_marked-last place due (x ∷ us) u some within found =
      elim (cases_lt (length us) due) [
        | inl lt ↦
            let first : suc (length us) - due ≡ 0 = omega arith in
            let unit : Some x ≡ Some u = rw first at found in
            grind (arith, lt, first, unit)
        | inr le ↦
            let behind : suc (length us) - due ≡ suc (length us - due) = omega arith in
            let unit : slice_get us (length us - due) ≡ Some u = rw behind at found in
            grind (arith, le, behind, oldest_marked-last (place + 1) due us u some le unit)
      ]

  pub without_oldest_mark-last : (due : ℕ) (us : List U) → 0 < due → due ≤ length us
      → without_oldest_mark (marked_last due us) ≡ marked_last (due - 1) us
  without_oldest_mark-last due [] some within = absurd (omega arith)
  without_oldest_mark-last due (x ∷ us) some within =
      grind (arith, some, within, marked_last-all due (due - 1) us, without_oldest_mark-last due us some)

  pub map-unit-marked_last : (due : ℕ) (us : List U) → map (λ u. u.unit) (marked_last due us) ≡ us
  map-unit-marked_last due [] = refl
  map-unit-marked_last due (u ∷ us) = ap (λ us. u ∷ us) (map-unit-marked_last due us)

  -- a list has an element at each place within it
  pub slice_get-within : (us : List U) (place : ℕ) → place < length us → (u : U) × (slice_get us place ≡ Some u)
  slice_get-within [] place lt = absurd (omega arith)
  slice_get-within (u ∷ us) zero lt = (u, refl)
  slice_get-within (u ∷ us) (suc place) lt = slice_get-within us place (omega arith)

  pub is_some_copied : (o : Option (Bor U)) (u : U) → option_copied o ≡ Some u → is_some o ≡ true
  is_some_copied None u e = absurd cc
  is_some_copied (Some r) u e = refl

  pub slice_get-push : (us : List U) (u : U) → slice_get (us ++ u ∷ []) (length us) ≡ Some u
  slice_get-push [] u = refl
  slice_get-push (x ∷ us) u = slice_get-push us u

pub ruleset marks =
    (length-marked_last, drop-marked_last, map-marked_unit-marked_last, marked_last-push, map-unit-marked_last)

-- Two senders have the same numbers, and their units are held in two stores whose operations keep them alike. They stay
-- alike after each CLCW, tick and directive.

-- what holds of the units that wait and those sent, in one store and in another
pub record Keeps (H K : Store) : Type 1 where
  pub Waits : H.Waiting → K.Waiting → Type 0
  pub Sends : H.Sent → K.Sent → Type 0
  pub no_unit : Waits H.no_unit K.no_unit
  pub no_units : Sends H.no_units K.no_units
  pub is_empty : (x : H.Sent) (y : K.Sent) → Sends x y → K.is_empty y ≡ H.is_empty x
  pub left : (n : ℕ) (x : H.Sent) (y : K.Sent) → Sends x y → Sends (H.left n x) (K.left n y)
  pub repeated : (x : H.Sent) (y : K.Sent) → Sends x y → Sends (H.repeated x) (K.repeated y)

module _ {H K : Store} (k : Keeps H K) (room : ℕ) (b : K.Bypass) where
  pub record Alike {A : Type 0} (o : OutcomeOf H A) (p : OutcomeOf K A) : Type 0 where
    pub same : p ≡ record {
      after = held_by K o.after p.after.waiting p.after.sent b;
      answer = o.answer;
      gone = o.gone;
    }
    pub waiting : k.Waits o.after.waiting p.after.waiting
    pub sent : k.Sends o.after.sent p.after.sent
    pub same_room : o.after.room ≡ room

  abbrev pub Stands : SenderOf H → K.Waiting → K.Sent → Type 0
  Stands s w q = (s.room ≡ room) × k.Waits s.waiting w × k.Sends s.sent q

  so : {A : Type 0} {t : SenderOf H} {w : K.Waiting} {q : K.Sent} {answer : A} {n : ℕ} → Stands t w q
      → Alike (record { after = t; answer = answer; gone = n })
      (record { after = held_by K t w q b; answer = answer; gone = n })
  so h = record { same = refl; waiting = h.1; sent = h.2; same_room = h.0 }

  if_so : {o o' : OutcomeOf H (Option Alert)} {p p' : OutcomeOf K (Option Alert)} (c : Bool) → Alike o p → Alike o' p'
      → Alike (if c then o else o') (if c then p else p')
  if_so c here there = when (λ o p. Alike o p) c (λ t. here) (λ t. there)

  module _ (s : SenderOf H) (w : K.Waiting) (q : K.Sent) (h : Stands s w q) where
    abbrev t : SenderOf K
    t = held_by K s w q b

    none : Stands (record s { waiting = H.no_unit; sent = H.no_units }) K.no_unit K.no_units
    none = (h.0, k.no_unit, k.no_units)

    all : Stands (record s { sent = H.repeated s.sent }) w (K.repeated q)
    all = (h.0, h.1, k.repeated s.sent q h.2)

    over : (x : Alert) → Alike (alerts s x) (alerts t x)
    over x = so none

    later : (v : ℕ) → Stands (after_new_value s v) w (K.left (ahead_by v s.nn) q)
    later v = (h.0, h.1, k.left (ahead_by v s.nn) s.sent q h.2)

    moved_on : (v : ℕ) → Alike (move_on s v) (move_on t v)
    moved_on v = rw (k.is_empty _ _ (later v).2) (so (later v))

    repeats : (again : Bool) → Alike (goes_on (retransmits s again)) (goes_on (retransmits t again))
    repeats true = so all
    repeats false = so h

    heard : (c : Clcw) (m : FopMode) → Alike (report_in s c m) (report_in t c m)
    heard c S4 =
        if_so (locks c) (over _) (if_so (not (c.value == s.vs)) (over _)
        (if_so (asks c) (over _) (if_so (waits c) (over _) (so h))))
    heard c S5 = if_so (confirms s c) (so h) (so h)
    heard c S6 = so h
    heard c _ = heard_both s w q b c (λ o p. Alike o p) (record {
      locked = λ is. over _;
      outside = λ is. over _;
      wait_flag = λ asking is. over _;
      asks_none = λ asking at. over _;
      same = so h;
      ceases = λ asking at were. over _;
      moves = λ inside. moved_on c.value;
      others_over = λ inside asking one. so none;
      others_wait = λ inside asking. so (later c.value);
      others_again = λ inside asking. so (h.0, h.1, k.repeated _ _ (later c.value).2);
      all_over = λ asking one. over _;
      all_wait = λ asking. so h;
      all_again = λ asking again. repeats again;
    })

    pub reported : (c : Clcw) → Alike (clcw_step s c) (clcw_step t c)
    reported c = heard c s.state

    pub ticked : Alike (tick_step s) (tick_step t)
    ticked = ticked_both s w q b (λ o p. Alike o p) (record {
      off = so h;
      runs = λ left. so h;
      stops = so h;
      repeats = λ active. so all;
      counts = so h;
      commands = λ is. so h;
      gives_up = so none;
    })

    began : (d : Directive) → Alike (obeys (begun s d)) (obeys (begun t d))
    began InitWithoutCheck = so none
    began InitWithCheck = so none
    began InitUnlock = so none
    began (InitSetVr x) = so none
    began _ = so h

    pub directed : (d : Directive) → Alike (directive_step s d) (directive_step t d)
    directed d = obeyed_both s w q b (λ d o p. Alike o p) (record {
      refused = λ d fault on. so h;
      begins = λ d is off. began d;
      terminated = so none;
      numbers = λ x off. so h;
      sets = λ d k n ticks plain most. so h;
    }) d

-- A sender of units follows the rules over numbers: its outcomes are theirs, with the queues that their answers leave.

module _ {U : Type 0} where
  -- ---- CLCWs, ticks and directives: the numbers represent what is left of the queues

  pub no_units : (us : List U) (n : ℕ) → length us ≡ n → n ≡ 0 → us ≡ []
  no_units [] n e z = refl
  no_units (u ∷ us) n e z = absurd (omega (arith, e, z))

  pub no_unit : (w : Option U) (b : Bool) → is_some w ≡ b → b ≡ false → w ≡ None
  no_unit None b e f = refl
  no_unit (Some u) b e f = absurd (cc (e, f))

  still : (w : Option U) (b : Bool) → is_some w ≡ b → w ≡ still_waiting b w
  still None b e = grind (arith, e)
  still (Some u) b e = grind (arith, e)

  keep_all : (us : List U) (n : ℕ) → length us ≡ n → us ≡ keep_last n us
  keep_all us n e = let none : length us - n ≡ 0 = omega arith in rw none refl

  keep_none : (us : List U) → keep_last 0 us ≡ []
  keep_none us = drop_all (length us - 0) us (omega arith)

  length-kept : (n : ℕ) (us : List U) → n ≤ length us → length (keep_last n us) ≡ n
  length-kept n us le = omega (arith, length-drop (length us - n) us, le)

  none-marked : (k n : ℕ) (us : List U) → length us ≡ n → is_none_sent (marked_last k us) ≡ (n == 0)
  none-marked k n [] e = grind (arith, e)
  none-marked k n (u ∷ us) e = grind (arith, e)

  pub record IsLeft (us : List U) (c : Counted) (sent : List (SentUnit U)) : Type 0 where
    pub are : sent ≡ marked_last c.due (keep_last c.count us)
    pub within : c.count ≤ length us

  left-left : (us : List U) (n : ℕ) (c : Counted) (sent : List (SentUnit U)) → IsLeft us c sent
      → IsLeft us (numbers.left n c) (drop n sent)
  left-left us n c sent is =
      let front = length us - c.count in
      let later = drop-drop n front us in
      let shorter : (xs : List U) → length xs ≡ c.count - n
      → marked_last c.due xs ≡ marked_last (min c.due (c.count - n)) xs =
      λ xs e. grind (arith, e, marked_last-all c.due (min c.due (c.count - n)) xs) in
      let same : drop n (keep_last c.count us) ≡ keep_last (c.count - n) us =
      elim (cases_lt c.count n) [
        | inl lt ↦ drop_all n _ (omega (arith, length-kept c.count us is.within)) ∙ sym (drop_all _ us (omega arith))
        | inr le ↦ later ∙ ap (λ k. drop k us) (omega (arith, is.within))
      ] in
      record {
        are = rw (is.are, drop-marked_last c.due n (keep_last c.count us), same)
            (shorter (keep_last (c.count - n) us) (length-kept (c.count - n) us (omega (arith, is.within))));
        within = omega (arith, is.within);
      }

  -- numbers, and what is left of these queues
  abbrev keeps : (q : Queues U) → Keeps numbers (units U)
  keeps q =
      record {
        Waits = λ b w. (w ≡ still_waiting b q.waiting) × (is_some w ≡ b);
        Sends = IsLeft q.units;
        no_unit = (refl, refl);
        no_units = record { are = rw (keep_none q.units) refl; within = omega arith };
        is_empty = λ c sent is. rw is.are
            (none-marked c.due c.count (keep_last c.count q.units) (length-kept c.count q.units is.within));
        left = λ n c sent is. left-left q.units n c sent is;
        repeated = λ c sent is. record {
          are = rw (is.are, map-marked_unit-marked_last, length-kept c.count q.units is.within) refl;
          within = is.within;
        };
      }

  -- an outcome of the rules and that of a sender of units, from these queues and with this room
  pub record Follows {A : Type 0} (room : ℕ) (q : Queues U) (o : SenderOutcome A) (f : FopOutcome U A) : Type 0 where
    pub same : f ≡ trims q o
    pub fits : Fits o.after (trimmed o.after q)
    pub same_room : o.after.room ≡ room

  follows-alike : {A : Type 0} (room : ℕ) (q : Queues U) (o : SenderOutcome A) (f : FopOutcome U A)
      → Alike (keeps q) room q.bypass o f → Follows room q o f
  follows-alike room q o f is =
      record {
        same = is.same ∙ rw (is.waiting.0, is.sent.are) refl;
        fits = record {
          waiting = ap is_some (sym is.waiting.0) ∙ is.waiting.1;
          units = length-kept o.after.sent.count q.units is.sent.within;
        };
        same_room = is.same_room;
      }

  module _ {s : SenderNumbers} {q : Queues U} (fits : Fits s q) where
    waits_alike : (q.waiting ≡ still_waiting s.waiting q.waiting) × (is_some q.waiting ≡ s.waiting)
    waits_alike = (still q.waiting s.waiting fits.waiting, fits.waiting)

    sent : IsLeft q.units s.sent (marked_last s.sent.due q.units)
    sent =
        record {
          are = ap (marked_last s.sent.due) (keep_all q.units s.sent.count fits.units);
          within = omega (arith, fits.units);
        }

    pub report-follows : (c : Clcw) → Follows s.room q (clcw_step s c) (clcw_step (with_queues s q) c)
    report-follows c = follows-alike s.room q _ _
        (reported (keeps q) s.room q.bypass s q.waiting _ (refl, waits_alike, sent) c)

    pub tick-follows : Follows s.room q (tick_step s) (tick_step (with_queues s q))
    tick-follows = follows-alike s.room q _ _
        (ticked (keeps q) s.room q.bypass s q.waiting _ (refl, waits_alike, sent))

    pub directive-follows : (d : Directive) → Follows s.room q (directive_step s d) (directive_step (with_queues s q) d)
    directive-follows d = follows-alike s.room q _ _
        (directed (keeps q) s.room q.bypass s q.waiting _ (refl, waits_alike, sent) d)

  -- ---- units that are taken

  waited : (s : SenderNumbers) (q : Queues U) (u : U) (w : Option U) (b : Bool) → is_some w ≡ b
      → handing_back u (waits_behind (with_queues s q) u w)
      ≡ submitted q u (waits_behind s TheWaiting (waiting_which b)).after
      (waits_behind s TheWaiting (waiting_which b)).answer
  waited s q u None b e = grind (arith, e)
  waited s q u (Some before) b e = grind (arith, e)

  submitted_in : (s : SenderNumbers) (q : Queues U) (u : U) (mode : FopMode) → Fits s q
      → handing_back u (submit_in (with_queues s q) u mode)
      ≡ submitted q u (submit_in s TheWaiting mode).after (submit_in s TheWaiting mode).answer
  submitted_in s q u S6 fits = refl
  submitted_in s q u _ fits = waited s q u q.waiting s.waiting fits.waiting

  -- ---- units that are sent

  -- what is sent on the link, and what a sender of units pulls
  pub record Goes (s : SenderNumbers) (q : Queues U) (o : SenderOutcome (PulledUnit Which))
      (f : FopOutcome U (PulledUnit U)) : Type 0 where
    pub same : f ≡ pulled (next_outcome o) q
    pub fits : Fits o.after (taken_from (next_of o.answer) q)
    pub same_room : o.after.room ≡ s.room
    pub same_nn : o.after.nn ≡ s.nn
    pub placed : IsPlaced (taken_from (next_of o.answer) q).units (next_at o.after.nn (next_of o.answer))
    -- the unit is in its queue before it is sent
    pub seen : seen_at (taken_from (next_of o.answer) q).units (next_at o.after.nn (next_of o.answer))
        ≡ peeked_at o.after.nn (next_of o.answer) q.waiting q.units

  nothing_goes : (s : SenderNumbers) (q : Queues U) → Fits s q
      → Goes s q (pulls.pulls s NothingPulled) (pulls.pulls (with_queues s q) NothingPulled)
  nothing_goes s q fits =
      let fit : Fits s q = record { waiting = fits.waiting; units = fits.units } in
      record { same = refl; fits = fit; same_room = refl; same_nn = refl; placed = tt; seen = refl }

  module _ (s : SenderNumbers) (q : Queues U) (is : IsSender s) (fits : Fits s q)
      (numbered : ahead_by s.vs s.nn ≡ s.sent.count) where
    -- the unit that waits is sent with the number V(S), and nothing is due again
    first_goes : (u : U) → q.waiting ≡ Some u → s.sent.due ≡ 0
        → Goes s q (pulls.pulls (pulls.after_send_first s TheWaiting) (SequencePulled s.vs TheWaiting))
        (pulls.pulls (pulls.after_send_first (with_queues s q) u) (SequencePulled s.vs u))
    first_goes u waits none =
        let place : ahead_by s.vs s.nn ≡ length q.units = numbered ∙ sym fits.units in
        let more = length-append {A = U} q.units (u ∷ []) in
        record {
          same = rw (waits, none, marked_last-push q.units u, place, slice_get-push q.units u)
              (rw (none-marked 0 s.sent.count q.units fits.units) refl);
          fits = record { waiting = refl; units = rw waits (omega (arith, more, fits.units)) };
          same_room = refl;
          same_nn = refl;
          placed = rw waits (omega (arith, more, place));
          seen = rw (waits, place, slice_get-push q.units u) refl;
        }

    waiting_goes : (w : Option U) (b : Bool) → is_some w ≡ b → q.waiting ≡ w → s.sent.due ≡ 0
        → Goes s q (pulls.pull_waiting s (waiting_which b)) (pulls.pull_waiting (with_queues s q) w)
    waiting_goes None false e same none = nothing_goes s q fits
    waiting_goes (Some u) true e same none =
        when (λ o f. Goes s q o f) (nat_lt (ahead_by s.vs s.nn) s.window) (λ t. first_goes u same none)
        (λ t. nothing_goes s q fits)
    waiting_goes _ _ e same none = absurd cc

    -- the oldest unit that is due is retransmitted
    again_goes : 0 < s.sent.due
        → Goes s q (pulls.pull_marked s (Some (s.sent.count - s.sent.due, OneSent)))
        (pulls.pull_marked (with_queues s q) (oldest_marked 0 (marked_last s.sent.due q.units)))
    again_goes some =
        let within : s.sent.due ≤ length q.units = omega (arith, is.ranges.due, fits.units) in
        let found = slice_get-within q.units (length q.units - s.sent.due) (omega arith) in
        let first : 0 + (length q.units - s.sent.due) ≡ s.sent.count - s.sent.due = omega (arith, fits.units) in
        let oldest = oldest_marked-last 0 s.sent.due q.units found.0 some within found.1
        ∙ ap (λ n. Some (n, found.0)) first in
        let place : ahead_by ((s.nn + (s.sent.count - s.sent.due)) % 256) s.nn
        ≡ s.sent.count - s.sent.due = omega (arith, is.ranges.nn, is.ranges.within, is.ranges.room) in
        let unit : slice_get q.units (s.sent.count - s.sent.due) ≡ Some found.0 = subst
        (λ n. slice_get q.units (n - s.sent.due) ≡ Some found.0) fits.units found.1 in
        record {
          same = rw (oldest, place, unit, without_oldest_mark-last s.sent.due q.units some within) refl;
          fits = record { waiting = fits.waiting; units = fits.units };
          same_room = refl;
          same_nn = refl;
          placed = omega (arith, place, fits.units, some, within);
          seen = refl;
        }

    sequence_goes : Goes s q (pulls.next_sequence s) (pulls.next_sequence (with_queues s q))
    sequence_goes = elim (cases_lt 0 s.sent.due) [
      | inl some ↦
          let due : (s.sent.due == 0) ≡ false = ne_eqb s.sent.due 0 (λ z. omega (arith, some, z)) in
          rw due (again_goes some)
      | inr le ↦
          let none : s.sent.due ≡ 0 = omega (arith, le) in
          let due : (s.sent.due == 0) ≡ true = eq-eqb s.sent.due 0 none in
          let unmarked : oldest_marked 0 (marked_last s.sent.due q.units) ≡ None =
          subst (λ n. oldest_marked 0 (marked_last n q.units) ≡ None) (sym none) (oldest_marked-none 0 q.units) in
          rw (due, unmarked) (waiting_goes q.waiting s.waiting fits.waiting refl none)
    ]

  in_state_goes : (s : SenderNumbers) (q : Queues U) (mode : FopMode) → mode ≡ s.state → IsSender s → Fits s q
      → Goes s q (pulls.pull_in s mode) (pulls.pull_in (with_queues s q) mode)
  in_state_goes s q S1 e is fits = sequence_goes s q is fits (is.agrees.numbered (λ h. cc (e, h)))
  in_state_goes s q S2 e is fits = sequence_goes s q is fits (is.agrees.numbered (λ h. cc (e, h)))
  in_state_goes s q _ e is fits = nothing_goes s q fits

  -- what is sent if no bypass unit is sent before it
  control_goes : (s : SenderNumbers) (q : Queues U) (control : Control) (bypass : List U)
      → first_bypass (is_due control) bypass ≡ None
      → bypass ≡ q.bypass → IsSender s → Fits s q → Goes s q (pulls.pull_control s control)
      (pulls.pull_control (record (with_queues s q) { bypass = bypass }) control)
  control_goes s q (Due command) bypass none same is fits =
      rw same (record {
        same = refl;
        fits = record { waiting = fits.waiting; units = fits.units };
        same_room = refl;
        same_nn = refl;
        placed = tt;
        seen = refl;
      })
  control_goes s q _ [] none same is fits = rw same (in_state_goes s q s.state refl is fits)
  control_goes s q _ (u ∷ us) none same is fits = absurd (cc none)

  pub next-goes : {s : SenderNumbers} {q : Queues U} {first : Option U} → IsSender s → Fits s q
      → first ≡ first_bypass (is_due s.control) q.bypass → first ≡ None
      → Goes s q (pulls.pull_step s) (pulls.pull_step (with_queues s q))
  next-goes {s = s} {q = q} is fits e none = control_goes s q s.control q.bypass (sym e ∙ none) refl is fits

  -- a bypass unit is sent before any other
  bypass_goes : (s : SenderNumbers) (q : Queues U) (control : Control) (bypass : List U) (u : U)
      → first_bypass (is_due control) bypass ≡ Some u
      → pulls.pull_control (record (with_queues s q) { bypass = bypass }) control
      ≡ pulls.pulls (with_queues s (record q { bypass = drop 1 bypass })) (pulls.BypassPulled u)
  bypass_goes s q (Due command) bypass u some = absurd (cc some)
  bypass_goes s q _ [] u some = absurd (cc some)
  bypass_goes s q _ (v ∷ vs) u some = cc some

  pulled-by : (s : SenderNumbers) (q : Queues U) (first : Option U) → first_bypass (is_due s.control) q.bypass ≡ first
      → IsSender s → Fits s q → pulls.pull_step (with_queues s q) ≡ pulled_by s q first
  pulled-by s q None e is fits = (next-goes is fits (sym e) refl).same
  pulled-by s q (Some u) e is fits = bypass_goes s q s.control q.bypass u e

  -- ---- any input

  follows : (s : SenderNumbers) (q : Queues U) (input : FopInput U) → IsSender s → Fits s q
      → fop_step (with_queues s q) input ≡ by_rules s q input
  follows s q (fop.Submit unit) is fits = submitted_in s q unit s.state fits
  follows s q (fop.Bypass unit) is fits = refl
  follows s q (fop.Direct directive) is fits = (directive-follows fits directive).same
  follows s q fop.Pull is fits = pulled-by s q (first_bypass (is_due s.control) q.bypass) refl is fits
  follows s q (fop.Report report) is fits = (report-follows fits report).same
  follows s q fop.Tick is fits = (tick-follows fits).same

pub follows_the_rules : (U : Type 0) → FollowsTheRules U
follows_the_rules U s q is fits input = follows s q input is fits

-- How the fields of a sender of units change: as the rules over numbers require, and the queues with them.

module _ {U : Type 0} where
  pub IsFop-fop_state_of : (f : Inside U) → IsSound f → IsFop (fop_state_of f)
  IsFop-fop_state_of f is =
      let s = f.sender in
      let sent = length-marked_last s.sent.due f.sent.items in
      record {
        numbered = λ h. is.sender.agrees.numbered h ∙ sym (sent ∙ is.fits.units);
        within = omega (arith, sent, is.fits.units, is.sender.ranges.within);
        window = is.sender.ranges.window;
        repeating = λ h two. omega (arith, sent, is.fits.units, is.sender.agrees.repeating h two);
        unsent = λ h. ap (marked_last s.sent.due)
            (no_units f.sent.items s.sent.count is.fits.units (is.sender.agrees.unsent h));
        unsubmitted = λ h. no_unit f.waiting s.waiting is.fits.waiting (is.sender.agrees.unsubmitted h);
        timed = λ h. subst (λ n. IsSome s.ticks ↔ 1 ≤ n) (sym (sent ∙ is.fits.units)) (is.sender.agrees.timed h);
        checking = is.sender.agrees.checking;
        untimed = is.sender.agrees.untimed;
        commanding = is.sender.agrees.commanding;
        commanded = is.sender.agrees.commanded;
        limit = is.sender.ranges.limit;
        timer = is.sender.ranges.timer;
        ticks = is.sender.ranges.ticks;
      }

  -- after the queues are trimmed
  module _ {A : Type 0} (f : Inside U) {o : SenderOutcome A} {r : FopOutcome U A} {s : SenderNumbers} {w : Option U}
      {b : Buffer U}
      (follows : Follows f.sender.room (queues_of f) o r) (numbers : s ≡ o.after)
      (waiting : w ≡ still_waiting s.waiting f.waiting)
      (sent : b ≡ buffer (keep_last s.sent.count f.sent.items) f.sent.capacity) where
    abbrev ending : Inside U
    ending = record f { sender = s; waiting = w; sent = b }

    pub trimmed-state : fop_state_of ending ≡ r.after
    trimmed-state = rw (sent, waiting, numbers, follows.same) refl

    pub trimmed-sound : IsSender s → IsSound f → IsSound ending
    trimmed-sound is was =
        rw (sent, waiting) (record {
          sender = is;
          fits = subst (λ (t : SenderNumbers). Fits t (trimmed t (queues_of f))) (sym numbers) follows.fits;
          room = omega (arith, ap (λ (t : SenderNumbers). t.room) numbers, follows.same_room, was.room);
        })
