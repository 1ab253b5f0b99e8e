-- In a session that had an idle start, packets are delivered in order.
use Rattle.tc_link.proofs.Common.{◌≡◌, ◌≢◌, ℕ, ◌+◌, ◌-◌, ◌/◌, ◌%◌, ◌≤◌, max, inl, inr, Bool, true, false, cond, eqb}
use Rattle.tc_link.proofs.Common.{List, [], ◌∷◌, ◌++◌, length, take, drop, map, filter, Some, None, refl, ap, sym}
use Rattle.tc_link.proofs.Common.{subst, ◌∙◌, append_assoc, arith, length-append, length-drop, nat_lt, AllByRecursion}
use Rattle.tc_link.proofs.Common.{eqb-true, eqb-false, cond_both, ltb-true, append-nil, take-append-drop, take_all}
use Rattle.tc_link.proofs.Common.{length-take-le, length-map, SegmentView, segment_octets, Limits, is_open, assembled}
use Rattle.tc_link.proofs.Common.{segments_of, assembled_begins, Clcw, Directive, InitWithoutCheck, S1, units_of}
use Rattle.tc_link.proofs.Common.{ahead_by, Config, PacketOn, limits_of, unsent_segments, is_closed, ◌==◌, WereAccepted}
use Rattle.tc_link.proofs.Common.{World, IsSettled, accepted, delivered, PlainLink, IsHistory, HasPlainHistory, IsNear}
use Rattle.tc_link.proofs.Common.{Rises, number_of, IsChecking, active_on}
use Rattle.std.specs.List.{flat_map}
use Rattle.std.proofs.lemmas.List.{take-take, append_cancel_left, take-map}
use Rattle.std.proofs.Math.Seq.{drop-append_seam}
use Rattle.octets.specs.Beginning.{IsBeginning}
use Rattle.map_service.specs.Assembly.{blocks_packets}
use Rattle.map_service.specs.Packets.{packets_in}
use Rattle.map_service.proofs.Passage.{given-passed, other-append}
use Rattle.nodes.specs.Ground.{outstanding}
use Rattle.simulated_link.specs.World.{submitted}
use Rattle.tc_link.specs.Accepted.{KeepsNumbers, said_by}
use Rattle.tc_link.specs.InOrder.{IsInOrder}
use Rattle.tc_link.proofs.IdleStart.{InSession, in_session}
use Rattle.tc_link.proofs.Linked.{SessionBy, Linked, Settled, IsGiven, units_of_all, kept_of, holds_on, Fits, DownIs}
use Rattle.tc_link.proofs.Linked.{rises_to}
use Rattle.tc_link.proofs.InTransit.{units_in, values_in, reports_of}
use Rattle.tc_link.proofs.Sound.{Sound}

-- ---- submitted packets are assembled, whatever came before

module _ (c : Config) (m : ℕ) (one : 1 ≤ c.part) where
  abbrev bounds : Limits
  bounds = limits_of c

  abbrev segments : PacketOn → List SegmentView
  segments p = segments_of c.part p.on_map p.octets

  abbrev packets : List PacketOn → List (List ℕ)
  packets ps = flat_map (λ (p : PacketOn). packets_in p.octets) (filter (λ (p : PacketOn). eqb p.on_map m) ps)

  one_given : (before : List SegmentView) (p : PacketOn) (b : Bool) → eqb p.on_map m ≡ b → IsGiven c p
      → assembled bounds m (before ++ segments p) ≡ assembled bounds m before ++ cond b (packets_in p.octets) []
  one_given before p true own h =
      let is : p.on_map ≡ m = eqb-true _ _ own in
      subst (λ (k : ℕ). assembled bounds k (before ++ segments p) ≡ assembled bounds k before ++ packets_in p.octets) is
      (given-passed bounds p.on_map before p.octets one h.opened h.cut)
  one_given before p false other h =
      let ne : m ≢ p.on_map = λ e. eqb-false _ _ other (sym e) in
      ap (λ (xs : List SegmentView). cond (is_open bounds m) (blocks_packets bounds xs) [])
      (other-append c.part p.on_map m before p.octets one ne) ∙ sym (append-nil (assembled bounds m before))

  cond_first : (b : Bool) (p : PacketOn) (ps : List PacketOn)
      → cond b (packets_in p.octets) [] ++ packets ps
      ≡ flat_map (λ (p : PacketOn). packets_in p.octets)
      (cond b (p ∷ filter (λ (p : PacketOn). eqb p.on_map m) ps) (filter (λ (p : PacketOn). eqb p.on_map m) ps))
  cond_first true p ps = refl
  cond_first false p ps = refl

  pub all_given : (before : List SegmentView) (ps : List PacketOn) → AllByRecursion (IsGiven c) ps
      → assembled bounds m (before ++ flat_map segments ps) ≡ assembled bounds m before ++ packets ps
  all_given before [] h = ap (assembled bounds m) (append-nil before) ∙ sym (append-nil (assembled bounds m before))
  all_given before (p ∷ ps) h =
      let one = one_given before p (eqb p.on_map m) refl h.0 in
      rw (← append_assoc before (segments p) (flat_map segments ps), all_given (before ++ segments p) ps h.1, one)
      (append_assoc (assembled bounds m before) (cond (eqb p.on_map m) (packets_in p.octets) []) (packets ps)
      ∙ ap (λ (xs : List (List ℕ)). assembled bounds m before ++ xs) (cond_first (eqb p.on_map m) p ps))

-- ---- what the records show

-- nothing before the confirmation
pub unsettled : {Reached : PlainLink → Type 0} (c : Config) (d : Directive) (base : ℕ) (w : World)
    → SessionBy true Reached c d base w → IsSettled w → ⊥
unsettled c d base w g settled = elim settled [
  | inl confirmed ↦ (let no : w.session.confirmed ≡ false = g.stage.confirmed_not in cc)
  | inr without ↦ (
      let is : Some d ≡ Some InitWithoutCheck = sym g.linked.opened ∙ without in
      let it : IsChecking (Some InitWithoutCheck) = subst IsChecking is g.stage.checked in
      it.1 refl)
]

abbrev pub SettledAs : {early : Bool} {Reached : PlainLink → Type 0} {c : Config} {d : Directive} {base : ℕ} {w : World}
    → SessionBy early Reached c d base w → Type 0
SettledAs {early} {Reached} {c} {d} {base} {w} g =
    Settled d base w.ground_node.fop.state w.spacecraft.farm w.session.confirmed g.front g.reports g.plain.a g.plain.r
    g.plain.n g.plain.down

pub settled_as : (early : Bool) {Reached : PlainLink → Type 0} (c : Config) (d : Directive) (base : ℕ) (w : World)
    (g : SessionBy early Reached c d base w) → IsSettled w → SettledAs g
settled_as true c d base w g settled = absurd (unsettled c d base w g settled)
settled_as false c d base w g settled = g.stage

all_near : (h : ℕ) (p : PlainLink) (r : ℕ) (qs : List (ℕ × SegmentView)) → p.r ≤ r
    → Fits h p.n p.units r qs → AllByRecursion (IsNear p h) qs
all_near h p r [] below fit = tt
all_near h p r (q ∷ qs) below fit =
    ((fit.1, omega (arith, below, fit.2)), all_near h p (max r (q.0 + 1)) qs (omega (arith, below)) fit.3)

module _ (early : Bool) {Reached : PlainLink → Type 0} (c : Config) (d : Directive) (base : ℕ) (w : World)
    (g : SessionBy early Reached c d base w) where
  abbrev p : PlainLink
  p = g.plain

  pub all_accepted : w.ground_node.fop.state ≡ S1 → outstanding w.ground_node ≡ []
      → length p.units ≤ p.r
  all_accepted on nothing =
      let l = g.linked in
      let held = holds_on g.linked (rw on refl) in
      let none_left : length (units_of w.ground_node.fop.sent) + length (unsent_segments w.ground_node) ≡ 0 =
      sym (length-append (units_of w.ground_node.fop.sent) (unsent_segments w.ground_node))
      ∙ ap length nothing in
      let sent : length (drop p.a (take p.n p.units)) ≡ length (units_of w.ground_node.fop.sent) =
      ap length (sym held.sent_is) in
      let rest : length (drop p.n p.units) ≡ length (unsent_segments w.ground_node) =
      ap length (sym held.rest_is) in
      omega (arith, length-drop p.a (take p.n p.units), length-take-le p.n p.units l.n_most, length-drop p.n p.units)

  abbrev pub Ends : Type 0
  Ends = (w.ground_node.fop.vs ≡ number_of base p.n) × (w.ground_node.fop.nn ≡ number_of base p.a)

  pub ends_as : KeepsNumbers w → Ends
  ends_as still = elim still [
    | inl active ↦ (let held = holds_on g.linked (active_on w.ground_node.fop.state active) in
        (held.vs_is, held.nn_is))
    | inr two ↦ (elim (kept_of (is_closed w.ground_node.fop.state) _ _ _ _ _ _ _ _ g.linked.held) [
      | inl both ↦ both
      | inr one ↦ absurd (two one)
    ])
  ]

  -- a number between the number acknowledged and the number sent
  pub said_is : (half_most : c.width / 2 ≤ 127) → Ends → (value v : ℕ) → value ≡ (base + v) % 256
      → p.a ≤ v → v ≤ p.r → said_by w value ≡ Some (v - p.a)
  said_is half_most ends value v is low high =
      let l = g.linked in
      let s = w.ground_node.fop in
      let vs_is : s.vs ≡ (base + p.n) % 256 = ends.0 in
      let nn_is : s.nn ≡ (base + p.a) % 256 = ends.1 in
      let ahead : ahead_by value s.nn ≡ v - p.a =
      omega (arith, is, nn_is, low, high, l.r_n, l.n_a, half_most) in
      let room : ahead_by s.vs s.nn ≡ p.n - p.a =
      omega (arith, vs_is, nn_is, l.a_r, l.r_n, l.n_a, half_most) in
      cond_both (s.vs == s.nn) (Some 0) _ (λ o. o ≡ Some (v - p.a))
      (λ t. ap Some (omega (arith, eqb-true _ _ t, room, nn_is, low, high, l.r_n)))
      (λ t. cond_both (nat_lt (ahead_by s.vs s.nn) (ahead_by value s.nn)) None (Some (ahead_by value s.nn))
      (λ o. o ≡ Some (v - p.a)) (λ t. absurd (omega (arith, ltb-true _ _ t, ahead, room, low, high, l.r_n)))
      (λ t. ap Some ahead))

  said_all : (half_most : c.width / 2 ≤ 127) → Ends → (low : ℕ) → (rs : List Clcw) (vs : List ℕ)
      → p.a ≤ low → DownIs base rs vs → Rises low vs p.r
      → map (said_by w) (map (λ (r : Clcw). r.value) rs) ≡ map (λ v. Some (v - p.a)) vs
  said_all half_most ends low [] [] above down up = refl
  said_all half_most ends low (r ∷ rs) (v ∷ vs) above down up =
      let high : v ≤ p.r = rises_to v p.r vs up.1 in
      let first : said_by w r.value ≡ Some (v - p.a) =
      said_is half_most ends r.value v down.0 (omega (arith, above, up.0)) high in
      ap (λ o. o ∷ map (said_by w) (map (λ (r : Clcw). r.value) rs)) first
      ∙ ap (λ os. Some (v - p.a) ∷ os) (said_all half_most ends v rs vs (omega (arith, above, up.0)) down.1 up.1)
  said_all half_most ends low _ _ above down up = elim down [ ]

  module _ (k : Sound c w) where
    abbrev l : Linked c d base w p g.front g.frames g.reports
    l = g.linked

    half_most : c.width / 2 ≤ 127
    half_most = omega (arith, k.ranges.width)

    module _ (m : ℕ) where
      abbrev lim : Limits
      lim = limits_of c

      abbrev old : List SegmentView
      old = take w.session.before w.spacecraft.accepted

      abbrev new : List SegmentView
      new = take p.r p.units

      begins : (rest : List (List ℕ)) × (assembled lim m (old ++ new) ≡ assembled lim m old ++ rest)
      begins = assembled_begins lim m old new

      delivered_is : delivered w m ≡ begins.0
      delivered_is =
          ap (λ (x : Config). drop (length (assembled (limits_of x) m old))
          (assembled (limits_of x) m w.spacecraft.accepted)) k.spacecraft.config
          ∙ ap (λ xs. drop (length (assembled lim m old)) (assembled lim m xs))
          (sym (take-append-drop w.session.before w.spacecraft.accepted) ∙ ap (λ xs. old ++ xs) l.accepted_is)
          ∙ ap (drop (length (assembled lim m old))) begins.1
          ∙ drop-append_seam (assembled lim m old) begins.0

      -- the accepted units yield what is delivered
      pub delivered_so : assembled lim m (old ++ new) ≡ assembled lim m old ++ delivered w m
      delivered_so = begins.1 ∙ ap (λ ps. assembled lim m old ++ ps) (sym delivered_is)

      whole : assembled lim m (old ++ p.units) ≡ assembled lim m old ++ submitted w m
      whole = ap (λ us. assembled lim m (old ++ us)) l.units_are
          ∙ all_given c m k.ranges.part.0 old w.session.submissions l.given

      in_order : IsBeginning (delivered w m) (submitted w m)
      in_order =
          let left : List SegmentView = drop p.r p.units in
          let further = assembled_begins lim m (old ++ new) left in
          let joined : old ++ p.units ≡ (old ++ new) ++ left =
          ap (λ us. old ++ us) (sym (take-append-drop p.r p.units)) ∙ sym (append_assoc old new left) in
          let both : assembled lim m old ++ submitted w m ≡ assembled lim m old ++ (begins.0 ++ further.0) =
          sym whole ∙ ap (assembled lim m) joined ∙ further.1 ∙ ap (λ ps. ps ++ further.0) begins.1
          ∙ append_assoc (assembled lim m old) begins.0 further.0 in (
            further.0,
            append_cancel_left (assembled lim m old) (submitted w m) (begins.0 ++ further.0) both
                ∙ ap (λ ps. ps ++ further.0) (sym delivered_is),
          )

      all_delivered : length p.units ≤ p.r → delivered w m ≡ submitted w m
      all_delivered most =
          let same : new ≡ p.units = take_all p.r p.units most in
          let both : assembled lim m old ++ begins.0 ≡ assembled lim m old ++ submitted w m =
          sym begins.1 ∙ ap (λ us. assembled lim m (old ++ us)) same ∙ whole in
          delivered_is ∙ append_cancel_left (assembled lim m old) begins.0 (submitted w m) both

    -- ---- the promises

    accepted_octets : accepted w ≡ map segment_octets (take p.r p.units)
    accepted_octets = ap (map segment_octets) l.accepted_is

    pub accepted_length : length (accepted w) ≡ p.r
    accepted_length =
        ap length accepted_octets
        ∙ length-map (take p.r p.units) segment_octets
        ∙ length-take-le p.r p.units (omega (arith, l.r_n, l.n_most))

    pub sent_length : length w.session.sent ≡ p.n
    sent_length =
        ap length l.sent_is ∙ length-map (take p.n p.units) segment_octets ∙ length-take-le p.n p.units l.n_most

    -- the first units that were sent were accepted
    first_accepted : (i : ℕ) → i ≤ p.r → take i w.session.sent ≡ take i (accepted w)
    first_accepted i most =
        let sent_i : take i w.session.sent ≡ map segment_octets (take i p.units) =
        ap (take i) l.sent_is
        ∙ take-map segment_octets i (take p.n p.units)
        ∙ ap (map segment_octets) (take-take i p.n p.units (omega (arith, most, l.r_n))) in
        let accepted_i : take i (accepted w) ≡ map segment_octets (take i p.units) =
        ap (take i) accepted_octets
        ∙ take-map segment_octets i (take p.r p.units)
        ∙ ap (map segment_octets) (take-take i p.r p.units most) in
        sent_i ∙ sym accepted_i

    pub were_accepted : (i : ℕ) → p.a + i ≤ p.r → WereAccepted w i
    were_accepted i most = rw l.acked_is (omega (arith, accepted_length, most), first_accepted (p.a + i) most)

    in_order_by : IsInOrder w
    in_order_by = record {
      in_order = λ m. in_order m;
      acknowledged = rw l.acked_is (first_accepted p.a l.a_r);
      counted = (
        omega (arith, l.acked_is, sent_length, l.a_r, l.r_n),
        omega (arith, l.acked_is, accepted_length, l.a_r),
      );
      complete = λ on nothing m. all_delivered m (all_accepted on nothing);
    }

    -- the records, what is in transit and the nodes' numbers are those of the plain link
    pub is_history : IsHistory w base p
    is_history =
        let own = sym k.ground_node.config in
        let stage = λ (settled : IsSettled w). settled_as early c d base w g settled in
        let told = reports_of c w g.reports k.ground_node.config l.reporting in
        record {
          units = l.units_are ∙ ap (λ (x : Config). units_of_all x w.session.submissions) own;
          sent = l.sent_is;
          accepted_so = accepted_octets;
          acknowledged = l.acked_is;
          order = (l.a_r, l.r_n, l.n_most);
          window = subst (λ (x : Config). p.n ≤ p.a + x.width / 2) own l.n_a;
          up = units_in c d base g.front w.up g.frames p.up l.carries l.up_is;
          near = subst (λ (x : Config). AllByRecursion (IsNear p (x.width / 2)) p.up) own
              (all_near (c.width / 2) p p.r p.up (omega arith) l.fits);
          down = λ settled.
              ap (map (λ (r : Clcw). r.value)) told ∙ values_in base g.reports p.down (stage settled).down_is;
          rises = l.rises;
          vr = λ settled. (stage settled).vr_is;
          ends = λ settled. ends_as;
          says = λ settled still.
              ap (λ (rs : List Clcw). map (said_by w) (map (λ (r : Clcw). r.value) rs)) told
              ∙ said_all half_most (ends_as still) p.a g.reports p.down (omega arith)
              (stage settled).down_is l.rises;
        }

pub is_in_order : (c : Config) (w : World) → Sound c w → InSession c w → IsInOrder w
is_in_order c w k s = in_session s (λ early g. in_order_by early c s.directive s.base w g k)

pub has_plain_history : (c : Config) (w : World) → Sound c w → InSession c w → HasPlainHistory w
has_plain_history c w k s = in_session s (λ early g.
    record { base = s.base; plain = g.plain; ran = g.ran; is = is_history early c s.directive s.base w g k })
