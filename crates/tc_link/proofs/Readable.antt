-- What the ground holds to be sent fits into frames. Each string of octets on the uplink is one of these frames,
-- and is read as such.
use Rattle.tc_link.proofs.Common.{◌≡◌, ◌≤◌, ℕ, zero, suc, true, List, [], ◌∷◌, length, Some, Ok, refl, subst, arith}
use Rattle.tc_link.proofs.Common.{slice_get, AllByRecursion, On, SegmentView, BodyView, Ad, Bd, Bc, Config, IsConfig}
use Rattle.tc_link.proofs.Common.{FitsFrame, frame_of, Bool, false, ◌++◌, drop, Option, None, Result, option_to_list}
use Rattle.tc_link.proofs.Common.{ap, sym, ◌∙◌, append_assoc, Clcw, segments_of, ahead_by, CopFault, Alert, Idle}
use Rattle.tc_link.proofs.Common.{Directive, InitUnlock, S1, S2, S3, S6, is_initiation, directive_step, units_of}
use Rattle.tc_link.proofs.Common.{pull_step, without_oldest_mark, FopState, FopOutcome, clcw_step, report_while_active}
use Rattle.tc_link.proofs.Common.{after_move_on, retransmits, after_new_value, tick_step, after_acknowledge}
use Rattle.tc_link.proofs.Common.{after_repeat, after_alert, after_stop, after_restart, heard_active, obeyed, begun}
use Rattle.tc_link.proofs.Common.{pulled_out, ticked, TmFault, GroundState, is_closed, unsent_segments, refill_step}
use Rattle.tc_link.proofs.Common.{with_fop, directive_outcome, submit_fault, after_submission, segments_on}
use Rattle.tc_link.proofs.Common.{segments_fit, closed_not, active_on, SetVs, obeying, submitting, ◌+◌, ◌%◌}
use Rattle.tc_link.proofs.Common.{if◌then◌else◌, Err, PulledUnit, frame_to_send, Event, AllReadable, World, world_step}
use Rattle.tc_link.proofs.Common.{world_after_pull, IsEvent, ◌<◌, map, cond_both, TcFault, segment_octets, FopMode}
use Rattle.tc_link.proofs.Common.{report_in, IsActive, is_kept, SpacecraftState, frame_outcome, body_outcome}
use Rattle.tc_link.proofs.Common.{is_own_frame, number_in, in_frame, world_after_directive, BeginsNoSession, accepted}
use Rattle.tc_link.proofs.Common.{oldest_marked}
use Rattle.tc_link.proofs.Common.{append-nil, length-append, length-map, map-append, drop-append-le, verdict_of}
use Rattle.tc_link.proofs.Common.{is_free, SpacecraftOutcome, WorldOutcome, KeepsSession, world_run}
use Rattle.std.proofs.lemmas.List.{nil_from_length}
use Rattle.nodes.specs.Spacecraft.{is_accepted}
use Rattle.nodes.specs.declared.received.Received.{Received}
use Rattle.std.proofs.lemmas.Bool.{lt-ltb, le-leb}
use Rattle.std.specs.Prelude.{flat_map}
use Rattle.tc_frame.specs.Layout.{body_fits, FrameView}
use Rattle.tc_frame.specs.Decoding as reading
use Rattle.tc_frame.specs.Encoding.{frame_fits, spelling, total_of}
use Rattle.tc_frame.proofs.Spelled.{frame_again, spelling_is}
use Rattle.tm_link.specs.Layout as telemetry
use Rattle.tm_link.specs.Decoding.{frame_at, is_length_wrong}
use Rattle.tm_link.specs.declared.fault.TmFault.TheVariants as faults
use Rattle.nodes.specs.Ground.{can_resume}
use Rattle.nodes.specs.declared.event.Event.TheVariants as events
use Rattle.simulated_link.specs.World.{directed, resumed}
use Rattle.simulated_link.proofs.Counted.{reported}
use Rattle.simulated_link.proofs.Unchanged.{ground_after, not_restarted, pulled, stepped, up_after}
use Rattle.tc_link.specs.Readable.{IsCommandOf, IsTelemetryOf}
use Rattle.tc_link.specs.Accepted.{AcceptsNoMore}
use Rattle.tc_link.specs.InTransit.{numbers_up}
use Rattle.tc_link.proofs.Sound.{taken_is, all_append, GroundNodeSteady, Sound, directive_sound, step_sound}
use Rattle.tc_link.proofs.Lists.{units-marked, units-drop, units-push, units-without, oldest_stands}
use Rattle.tc_link.proofs.Refilled.{refilled_keeps}
use Rattle.tc_link.proofs.Linked.{Carries, Reporting, carries_push}
use Rattle.tc_link.proofs.IdleStart.{HasReports}
use Rattle.nodes.specs.Spacecraft.{spacecraft_receive}
use Rattle.nodes.proofs.Arrivals.{bypass_same}
use Rattle.map_service.proofs.Groups.{behind-each}

-- What is put on the link is read back from it.

-- a body that fits into a frame
abbrev pub Goes : BodyView → Type 0
Goes (Ad n s) = FitsFrame s
Goes (Bd s) = FitsFrame s
Goes (Bc command) = Unit {0}

body_goes : (f : BodyView) → Goes f → body_fits f ≡ true
body_goes (Ad n s) h = rw (lt-ltb s.header.map 64 h.map, lt-ltb 0 (length s.payload) h.least) refl
body_goes (Bd s) h = rw (lt-ltb s.header.map 64 h.map, lt-ltb 0 (length s.payload) h.least) refl
body_goes (Bc command) h = grind arith

total_goes : (c : Config) (f : BodyView) → Goes f → total_of On (frame_of c f) ≤ 1024
total_goes c (Ad n s) h = omega (arith, h.most)
total_goes c (Bd s) h = omega (arith, h.most)
total_goes c (Bc command) h = grind arith

goes_fits : (c : Config) (f : BodyView) → IsConfig c → Goes f → frame_fits On (frame_of c f) ≡ true
goes_fits c f is h =
    rw (
      lt-ltb c.scid 1024 (omega (arith, is.scid)),
      lt-ltb c.vcid 64 (omega (arith, is.vcid)),
      body_goes f h,
      le-leb (total_of On (frame_of c f)) 1024 (total_goes c f h),
    )
    refl

pub reads_back : (c : Config) (f : BodyView) → IsConfig c → Goes f
    → reading.frame_at On (spelling On (frame_of c f)) ≡ Ok (frame_of c f)
reads_back c f is h =
    frame_again On (spelling On (frame_of c f)) (frame_of c f) (spelling_is On (frame_of c f) (goes_fits c f is h))

pub fits_at : (units : List SegmentView) (i : ℕ) (u : SegmentView) → AllByRecursion FitsFrame units
    → slice_get units i ≡ Some u → FitsFrame u
fits_at [] i u all e = absurd cc
fits_at (x ∷ xs) zero u all e = let same : x ≡ u = cc in subst FitsFrame same all.0
fits_at (x ∷ xs) (suc i) u all e = fits_at xs i u all.1 e

-- What the ground holds to be sent fits into frames, at every moment while its sender is on.

abbrev pub All : List SegmentView → Type 0
All us = AllByRecursion FitsFrame us

pub record Fit (f : FopState SegmentView) (pending : List SegmentView) : Type 0 where
  pub sent : is_closed f.state ≡ false → All (units_of f.sent)
  pub unsent : is_closed f.state ≡ false → All (option_to_list f.waiting ++ pending)

module _ (s : FopState SegmentView) (pending : List SegmentView) (k : Fit s pending) where
  abbrev Fits : {A : Type 0} → FopOutcome SegmentView A → Type 0
  Fits o = Fit o.after pending

  -- the sender is off
  off : (f : FopState SegmentView) → f.state ≡ S6 → Fit f pending
  off f is = record { sent = λ on. closed_not f.state is on; unsent = λ on. closed_not f.state is on }

  -- fewer are in the sent queue, or the same
  fewer : (f : FopState SegmentView) (n : ℕ) → (is_closed f.state ≡ false → is_closed s.state ≡ false)
      → units_of f.sent ≡ units_of (drop n s.sent) → f.waiting ≡ s.waiting → Fit f pending
  fewer f n on sent waiting = record {
    sent = λ running. subst All (sym (sent ∙ units-drop n s.sent))
        (behind-each FitsFrame n (units_of s.sent) (k.sent (on running)));
    unsent = λ running. rw waiting (k.unsent (on running));
  }

  same : (f : FopState SegmentView) → (is_closed f.state ≡ false → is_closed s.state ≡ false)
      → units_of f.sent ≡ units_of s.sent → f.waiting ≡ s.waiting → Fit f pending
  same f on sent waiting = fewer f 0 on sent waiting

  -- ---- a CLCW

  module _ (r : Clcw) (on : is_closed s.state ≡ false) where
    again : (repeats : Bool) → Fit (retransmits s repeats) pending
    again true = same (record (after_repeat s) { state = S2 }) (λ t. on) (units-marked s.sent) refl
    again false = same (record s { state = S2 }) (λ t. on) refl refl

    active : Fits (report_while_active s r)
    active = heard_active s r (λ o. Fits o) (record {
      locked = λ t. off (after_alert s) refl;
      outside = λ t. off (after_alert s) refl;
      wait_flag = λ none waiting. off (after_alert s) refl;
      asks_none = λ asking at. off (after_alert s) refl;
      same = k;
      ceases = λ none at were. off (after_alert s) refl;
      moves = λ inside. fewer (after_move_on (after_acknowledge s r.value)) (ahead_by r.value s.nn) (λ t. on) refl refl;
      others_over = λ inside asking one. off (after_alert (after_new_value s r.value)) refl;
      others_wait = λ inside asking. fewer (record (after_new_value s r.value) { state = S3 })
          (ahead_by r.value s.nn) (λ t. on) refl refl;
      others_again = λ inside asking. fewer (record (after_repeat (after_new_value s r.value)) { state = S2 })
          (ahead_by r.value s.nn) (λ t. on) (units-marked (drop (ahead_by r.value s.nn) s.sent)) refl;
      all_over = λ asking one. off (after_alert s) refl;
      all_wait = λ asking. same (record s { state = S3 }) (λ t. on) refl refl;
      all_again = λ asking. again;
    })

  pub heard_fits : (r : Clcw) → Fits (clcw_step s r)
  heard_fits r = reported s r (λ o. Fits o) (record {
    active = λ runs. active r (active_on s.state runs);
    alerted = λ is x cause. off (after_alert s) refl;
    checked = λ is confirms. same (record s { state = S1; ticks = None }) (λ t. rw is refl) refl refl;
    commanded = λ is confirms. same (record s { state = S1; ticks = None; control = Idle }) (λ t. rw is refl) refl refl;
    same = k;
  })

  -- ---- a tick

  pub tick_fits : Fits (tick_step s)
  tick_fits =
      let repeats = same (after_repeat (after_stop s)) (λ t. t) (units-marked s.sent) refl in
      ticked s (λ o. Fits o) (assumption (repeats, off (after_alert (after_stop s)) refl, k))

  -- ---- a pull

  pub moved : (u : SegmentView) → s.waiting ≡ Some u → is_closed s.state ≡ false → FitsFrame u × All pending
  moved u is on = let all : All (option_to_list (Some u) ++ pending) = rw is at (k.unsent on) in (all.0, all.1)

  pub marked_fits : (x : ℕ × SegmentView) → oldest_marked 0 s.sent ≡ Some x → is_closed s.state ≡ false → FitsFrame x.1
  marked_fits x is on =
      let stands = oldest_stands 0 s.sent x is in fits_at (units_of s.sent) stands.0 x.1 (k.sent on) stands.2

  pub pull_fits : Fits (pull_step s)
  pull_fits = pulled_out s (λ o. Fits o) (record {
    none = k;
    command = λ command is. assumption k;
    bypass = λ u us is. assumption k;
    again = λ active x is. same (record (after_restart s) { sent = without_oldest_mark s.sent }) (λ t. t)
        (units-without s.sent) refl;
    first = λ active u is room. record {
      sent = λ running. subst All (sym (units-push s.sent u))
          (all_append FitsFrame (units_of s.sent) (u ∷ []) (k.sent running) ((moved u is running).0, tt));
      unsent = λ running. (moved u is running).1;
    };
  })

-- ---- the ground

abbrev pub GroundFits : GroundState → Type 0
GroundFits s = Fit s.fop s.pending

pub refilled_fits : (s : GroundState) → GroundFits s → GroundFits (refill_step s)
refilled_fits s k = refilled_keeps GroundFits s (λ waiting pending on off. record {
  sent = k.sent;
  unsent = λ running. subst All (sym (on running)) (k.unsent running);
})

pub with_fits : (s : GroundState) (f : FopState SegmentView) → Fit f s.pending → GroundFits (with_fop s f)
with_fits s f k = refilled_fits (record s { fop = f }) k

module _ (c : Config) (s : GroundState) (g : GroundNodeSteady c s) (k : GroundFits s) where
  begun_fits : (d : Directive) → is_initiation d ≡ true → s.pending ≡ [] → Fit (begun s.fop d) s.pending
  begun_fits d is none =
      let unsent : (begun s.fop d).waiting ≡ None = grind arith in
      let sent : (begun s.fop d).sent ≡ [] = grind arith in
      record { sent = λ running. rw sent tt; unsent = λ running. rw (unsent, none) tt }

  abbrev Directed : Directive → FopOutcome SegmentView (Result (Option Alert) CopFault) → Type 0
  Directed d o = GroundFits (directive_outcome s d o).after

  pub directive_fits : (d : Directive) → Directed d (directive_step s.fop d)
  directive_fits = obeyed s.fop Directed (record {
    refused = λ d fault on. k;
    begins = λ d is off. with_fits (obeying s d) (begun s.fop d) (begun_fits d is (g.pending_none (rw off refl)));
    terminated = with_fits s (after_alert s.fop) (off s.fop s.pending k (after_alert s.fop) refl);
    numbers = λ x is. with_fits (obeying s (SetVs x)) (record s.fop { vs = x; nn = x }) (assumption k);
    sets = λ d n limit ticks plain most. with_fits (obeying s d)
        (record s.fop { window = n; limit = limit; timer = ticks }) (assumption k);
  })

  pub submission_fits : IsConfig c → (m : ℕ) (octets : List ℕ) → submit_fault s m octets ≡ None
      → GroundFits (after_submission s m octets)
  submission_fits ranges m octets is =
      let t = taken_is c s m octets g.config is in
      let new : All (segments_of c.part m octets) =
      segments_fit c.part m octets ranges.part.0 ranges.part.1 t.on_map in
      let cut : segments_on s m octets ≡ segments_of c.part m octets =
      ap (λ x. segments_of x.part m octets) g.config in
      let added : All (segments_on s m octets) = subst All (sym cut) new in
      refilled_fits (submitting s m octets) (record {
        sent = k.sent;
        unsent = λ running. subst All (append_assoc (option_to_list s.fop.waiting) s.pending (segments_on s m octets))
            (all_append FitsFrame (unsent_segments s) (segments_on s m octets) (k.unsent running) added);
      })

-- Each string in transit on the uplink is a frame of the ground, and what the ground holds to be sent fits
-- into frames.

pub record Carried (c : Config) (w : World) : Type 0 where
  pub frames : List BodyView
  pub carries : Carries c w.up frames
  pub fits : GroundFits w.ground_node

record Rest (c : Config) (bs : List (List ℕ)) : Type 0 where
  left : List BodyView
  carried : Carries c bs left

rest_carried : (c : Config) (b : List ℕ) (bs : List (List ℕ)) (fs : List BodyView) → Carries c (b ∷ bs) fs → Rest c bs
rest_carried c b bs [] h = elim h [ ]
rest_carried c b bs (f ∷ fs) h = record { left = fs; carried = h.1 }

module _ (c : Config) (w : World) (k : Sound c w) (g : Carried c w) where
  rest : (b : List ℕ) (bs : List (List ℕ)) → w.up ≡ b ∷ bs → Rest c bs
  rest b bs is = rest_carried c b bs g.frames (rw is at g.carries)

  -- ---- a frame is sent

  abbrev Pulls : FopOutcome SegmentView (PulledUnit SegmentView) → Type 0
  Pulls o = GroundFits (with_fop w.ground_node o.after) → Carried c
      (world_after_pull w (with_fop w.ground_node o.after) (frame_to_send w.ground_node.config o.answer)).after

  pushed : (f : BodyView) → Goes f
      → Carries c (w.up ++ spelling On (frame_of w.ground_node.config f) ∷ []) (g.frames ++ f ∷ [])
  pushed f goes =
      carries_push c (spelling On (frame_of w.ground_node.config f)) f w.up g.frames
      (rw k.ground_node.config (reads_back c f k.ranges goes)) g.carries

  sent_carried : Pulls (pull_step w.ground_node.fop)
  sent_carried =
      let s = w.ground_node.fop in
      pulled_out s Pulls (record {
        none = λ fits. record { frames = g.frames; carries = g.carries; fits = fits };
        command = λ command is fits. record {
          frames = g.frames ++ Bc command ∷ [];
          carries = pushed (Bc command) tt;
          fits = fits;
        };
        bypass = λ u us is fits.
            let fit : AllByRecursion FitsFrame (u ∷ us) = rw is at k.ground_node.fop.bypass_fits in
            record { frames = g.frames ++ Bd u ∷ []; carries = pushed (Bd u) fit.0; fits = fits };
        again = λ active x is fits.
            let fit : FitsFrame x.1 = marked_fits s w.ground_node.pending g.fits x is (active_on s.state active) in
            record {
              frames = g.frames ++ Ad ((s.nn + x.0) % 256) x.1 ∷ [];
              carries = pushed (Ad ((s.nn + x.0) % 256) x.1) fit;
              fits = fits;
            };
        first = λ active u is room fits.
            let fit : FitsFrame u =
            (moved s w.ground_node.pending g.fits u is (active_on s.state active)).0 in
            record { frames = g.frames ++ Ad s.vs u ∷ []; carries = pushed (Ad s.vs u) fit; fits = fits };
      })

  -- ---- all events

  ground_fits : (e : Event) → IsEvent e → GroundFits (world_step w e).after.ground_node
  ground_fits e fits =
      let s = w.ground_node in
      let set : (x : ℕ) → x < 256 → Sound c (directed w (SetVs x)) = λ x. directive_sound c w k (SetVs x) in
      ground_after w (λ t session. GroundFits t) e (record {
        same = g.fits;
        submits = submission_fits c s k.ground_node g.fits k.ranges;
        bypasses = λ m octets is none. assumption g.fits;
        directs = λ d is. directive_fits c s k.ground_node g.fits d;
        restarts = λ value is can. directive_fits c (directed w (SetVs value)).ground_node
            (set value (subst IsEvent is fits)).ground_node
            (directive_fits c s k.ground_node g.fits (SetVs value)) InitUnlock;
        ticks = λ is. with_fits s (tick_step s.fop).after (tick_fits s.fop s.pending g.fits);
        sends = λ is sent. with_fits s (pull_step s.fop).after (pull_fits s.fop s.pending g.fits);
        hears_none = λ told x packets. assumption g.fits;
        hears = λ told x packets r. refilled_fits _ (heard_fits s.fop s.pending g.fits r);
      })

  pub step_carried : (e : Event) → IsEvent e → Carried c (world_step w e).after
  step_carried events.Send fits =
      let s = w.ground_node in
      sent_carried (with_fits s (pull_step s.fop).after (pull_fits s.fop s.pending g.fits))
  step_carried e fits =
      let way = up_after w (Rest c) e (λ is. cc is) (record { left = g.frames; carried = g.carries }) rest in
      record { frames = way.left; carries = way.carried; fits = ground_fits e fits }

-- ---- so each can be read

length_right : (b : Bool) (rest : Result telemetry.FrameView TmFault) (f : telemetry.FrameView)
    → (if b then Err faults.Length else rest) ≡ Ok f → b ≡ false
length_right b rest f h = grind (arith, h)

size_of : (total : ℕ) (b : List ℕ) (f : telemetry.FrameView) → frame_at total b ≡ Ok f → length b ≡ total
unfolding frame_at
size_of total b f h =
    let right : is_length_wrong total (length b) ≡ false = length_right (is_length_wrong total (length b)) _ f h in
    grind (arith, right)

up_readable : (c : Config) (bs : List (List ℕ)) (fs : List BodyView) → Carries c bs fs
    → AllByRecursion (IsCommandOf c) bs
up_readable c [] fs h = tt
up_readable c (b ∷ bs) [] h = elim h [ ]
up_readable c (b ∷ bs) (f ∷ fs) h =
    (record { frame = frame_of c f; reads = h.0; scid = refl; vcid = refl }, up_readable c bs fs h.1)

down_readable : (c : Config) (bs : List (List ℕ)) (rs : List Clcw) → Reporting c bs rs
    → AllByRecursion (IsTelemetryOf c) bs
down_readable c [] rs h = tt
down_readable c (b ∷ bs) [] h = elim h [ ]
down_readable c (b ∷ bs) (r ∷ rs) h = (
  record {
    size = size_of c.frame_length b h.0.frame h.0.reads;
    frame = h.0.frame;
    reads = h.0.reads;
    scid = h.0.scid;
    vcid = h.0.vcid;
    report = r;
    word = h.0.word;
    own = h.0.own;
  },
  down_readable c bs rs h.1,
)

pub all_readable : (c : Config) (w : World) → Sound c w → Carried c w → HasReports c w.down → AllReadable w
all_readable c w k g t = record {
  one = k.spacecraft.config ∙ sym k.ground_node.config;
  up = subst (λ (x : Config). AllByRecursion (IsCommandOf x) w.up) (sym k.spacecraft.config)
      (up_readable c w.up g.frames g.carries);
  down = subst (λ (x : Config). AllByRecursion (IsTelemetryOf x) w.down) (sym k.ground_node.config)
      (down_readable c w.down t.reports t.reporting);
}

-- In S6, until a session begins, at most as many more segments are accepted as Type-AD frames are in transit on
-- the uplink.

-- ---- the Type-AD frames in transit

abbrev numbers_in : Result FrameView TcFault → List ℕ
numbers_in r = in_frame number_in r

abbrev numbers : List (List ℕ) → List ℕ
numbers bs = flat_map (λ octets. in_frame number_in (reading.frame_at On octets)) bs

push_same : (bs : List (List ℕ)) (b : List ℕ) → numbers_in (reading.frame_at On b) ≡ []
    → numbers (bs ++ b ∷ []) ≡ numbers bs
push_same [] b new = ap (λ (ns : List ℕ). ns ++ []) new
push_same (x ∷ xs) b new = ap (λ (ns : List ℕ). numbers_in (reading.frame_at On x) ++ ns) (push_same xs b new)

-- ---- from one world to another: what was accepted, and what may still be

pub record Fewer (old new : World) : Type 0 where
  pub more : List (List ℕ)
  pub after : accepted new ≡ accepted old ++ more
  pub most : length more + length (numbers_up new) ≤ length (numbers_up old)

pub still : (old new : World) → accepted new ≡ accepted old → length (numbers_up new) ≤ length (numbers_up old)
    → Fewer old new
still old new same fewer =
    record { more = []; after = same ∙ sym (append-nil (accepted old)); most = omega (arith, fewer) }

pub then_fewer : (a b c : World) → Fewer a b → Fewer b c → Fewer a c
then_fewer a b c one two = record {
  more = one.more ++ two.more;
  after = two.after ∙ ap (λ (xs : List (List ℕ)). xs ++ two.more) one.after
      ∙ append_assoc (accepted a) one.more two.more;
  most = omega (arith, length-append one.more two.more, one.most, two.most);
}

-- ---- one event

-- the ground's sender, with what is pending moved up
closed_with : (s : GroundState) (f : FopState SegmentView) → f.state ≡ S6 → (with_fop s f).fop.state ≡ S6
closed_with s f off = refilled_keeps (λ t. t.fop.state ≡ S6) (record s { fop = f }) (λ waiting pending on closed. off)

heard_in : (f : FopState SegmentView) (r : Clcw) (m : FopMode) → m ≡ S6 → f.state ≡ S6
    → (report_in f r m).after.state ≡ S6
heard_in f r m is off = rw is off

-- on board, a frame adds a segment to those accepted only if it is a Type-AD frame, and then at
-- most one
module _ (s : SpacecraftState) where
  abbrev Adds : List ℕ → List SegmentView → Type 0
  Adds ns accepted = (us : List SegmentView) × (accepted ≡ s.accepted ++ us) × (length us ≤ length ns)

  adds_none : (ns : List ℕ) (accepted : List SegmentView) → accepted ≡ s.accepted → Adds ns accepted
  adds_none ns accepted same = ([], same ∙ sym (append-nil s.accepted), omega arith)

  body_adds : (f : BodyView) → Adds (number_in f) (body_outcome s f).after.accepted
  body_adds (Ad n u) =
      cond_both (is_accepted (verdict_of s.farm n (is_free s))) _ _
      (λ (o : SpacecraftOutcome Received). Adds (n ∷ []) o.after.accepted) (λ t. (u ∷ [], refl, omega arith))
      (λ t. adds_none (n ∷ []) s.accepted refl)
  body_adds (Bd u) =
      adds_none [] (body_outcome s (Bd u)).after.accepted (bypass_same s u (is_kept s.config u))
  body_adds (Bc command) = adds_none [] s.accepted refl

  arrived_adds : (r : Result FrameView TcFault) → Adds (numbers_in r) (frame_outcome s r).after.accepted
  arrived_adds (Err fault) = adds_none [] s.accepted refl
  arrived_adds (Ok frame) =
      cond_both (is_own_frame s.config frame) (body_outcome s frame.body) _
      (λ (o : SpacecraftOutcome Received). Adds (number_in frame.body) o.after.accepted) (λ t. body_adds frame.body)
      (λ t. adds_none (number_in frame.body) s.accepted refl)

abbrev IsOff : World → Type 0
IsOff w = w.ground_node.fop.state ≡ S6

module _ (c : Config) (w : World) (k : Sound c w) (off : IsOff w) where
  abbrev s : FopState SegmentView
  s = w.ground_node.fop

  -- ---- the sender stays in S6, and a directive causes no segment to be accepted

  abbrev Same : World → Type 0
  Same new = accepted new ≡ accepted w

  abbrev ObeyedSo : Directive → FopOutcome SegmentView (Result (Option Alert) CopFault) → Type 0
  ObeyedSo d o = BeginsNoSession w (events.Directive d)
      → ((directive_outcome w.ground_node d o).after.fop.state ≡ S6)
      × Same (world_after_directive w d (directive_outcome w.ground_node d o)).after

  directive_so : (d : Directive) → ObeyedSo d (directive_step s d)
  directive_so = obeyed s ObeyedSo (record {
    refused = λ d fault on goes. (off, refl);
    begins = λ d is closed goes. closed_not s.state closed (goes is);
    terminated = λ goes. (closed_with w.ground_node (after_alert s) refl, refl);
    numbers = λ x is goes. (closed_with (obeying w.ground_node (SetVs x)) (record s { vs = x; nn = x }) off, refl);
    sets = λ d k n ticks plain most goes.
        let f : FopState SegmentView = record s { window = k; limit = n; timer = ticks } in
        rw plain (closed_with (record w.ground_node { fates = _ }) f off, refl);
  })

  pub closed_so : (e : Event) → BeginsNoSession w e → IsOff (world_step w e).after
  closed_so e goes = ground_after w (λ t session. t.fop.state ≡ S6) e (record {
    same = off;
    submits = λ m octets none. closed_with (submitting w.ground_node m octets) s off;
    bypasses = λ m octets is none. off;
    directs = λ d is. (directive_so d (subst (BeginsNoSession w) is goes)).0;
    restarts = λ value is can. not_restarted w e goes value is can;
    ticks = λ is. closed_with w.ground_node (tick_step s).after (ticked s (λ o. o.after.state ≡ S6) (assumption off));
    sends = λ is sent. closed_with w.ground_node (pull_step s).after (pulled_out s (λ o. o.after.state ≡ S6)
        (assumption off));
    hears_none = λ told x packets. off;
    hears = λ told x packets r. refilled_keeps (λ t. t.fop.state ≡ S6) _
        (λ waiting pending on closed. heard_in s r s.state off off);
  })

  -- ---- a frame is sent: it is not a Type-AD frame

  abbrev SendsSo : FopOutcome SegmentView (PulledUnit SegmentView) → Type 0
  SendsSo o = numbers_up (world_after_pull w (with_fop w.ground_node o.after)
      (frame_to_send w.ground_node.config o.answer)).after ≡ numbers_up w

  not_active : {A : Type 0} → IsActive w.ground_node.fop.state → A
  not_active active = closed_not w.ground_node.fop.state off (active_on w.ground_node.fop.state active)

  sent_none : (f : BodyView) → Goes f → number_in f ≡ []
      → numbers (w.up ++ spelling On (frame_of w.ground_node.config f) ∷ []) ≡ numbers_up w
  sent_none f goes none =
      let own : IsConfig w.ground_node.config = rw k.ground_node.config k.ranges in
      push_same w.up (spelling On (frame_of w.ground_node.config f))
      (ap numbers_in (reads_back w.ground_node.config f own goes) ∙ none)

  send_so : SendsSo (pull_step s)
  send_so = pulled_out s SendsSo (record {
    none = refl;
    command = λ command is. sent_none (Bc command) tt refl;
    bypass = λ u us is.
        let fit : AllByRecursion FitsFrame (u ∷ us) = rw is at k.ground_node.fop.bypass_fits in
        sent_none (Bd u) fit.0 refl;
    again = λ active x is. not_active active;
    first = λ active u is room. not_active active;
  })

  -- ---- the first frame in transit leaves the link, or arrives on board

  numbers_of : (b : List ℕ) (bs : List (List ℕ)) → w.up ≡ b ∷ bs
      → length (numbers_up w) ≡ length (numbers_in (reading.frame_at On b)) + length (numbers bs)
  numbers_of b bs is =
      ap (λ (way : List (List ℕ)). length (numbers way)) is
      ∙ length-append (numbers_in (reading.frame_at On b)) (numbers bs)

  arrived : (b : List ℕ) (bs : List (List ℕ)) → w.up ≡ b ∷ bs
      → Fewer w (record w { up = bs; spacecraft = (spacecraft_receive w.spacecraft b).after })
  arrived b bs is =
      let t = arrived_adds w.spacecraft (reading.frame_at On b) in
      record {
        more = map segment_octets t.0;
        after = ap (λ (xs : List SegmentView). map segment_octets (drop w.session.before xs)) t.1
            ∙ ap (map segment_octets) (drop-append-le w.session.before w.spacecraft.accepted t.0 k.before)
            ∙ map-append segment_octets (drop w.session.before w.spacecraft.accepted) t.0;
        most = omega (arith, numbers_of b bs is, length-map t.0 segment_octets, t.2);
      }

  -- ---- each event

  -- nothing is accepted, and what is in transit on the uplink stays
  stays : (new : World) → Same new → new.up ≡ w.up → Fewer w new
  stays new same up = still w new same (omega (arith, ap (λ (way : List (List ℕ)). length (numbers way)) up))

  other_fewer : (e : Event) → (e ≡ events.Send → ⊥) → BeginsNoSession w e → Fewer w (world_step w e).after
  other_fewer e other goes = stepped w (Fewer w) e (record {
    same = stays w refl refl;
    up_gone = λ b bs is. still w (record w { up = bs }) refl (omega (arith, numbers_of b bs is));
    down_gone = λ b bs is gone. stays _ refl refl;
    receives = λ is b bs first. arrived b bs first;
    reports = λ is. stays _ refl refl;
    takes = λ is left kept. stays _ refl refl;
    releases = λ is left free. stays _ refl refl;
    passes = λ is left. stays _ refl refl;
    queues = λ octets is. stays _ refl refl;
    submits = λ m octets none. stays _ refl refl;
    bypasses = λ m octets is none. stays _ refl refl;
    directs = λ d is. stays (directed w d) (directive_so d (subst (BeginsNoSession w) is goes)).1 refl;
    restarts = λ value is can. not_restarted w e goes value is can;
    ticks = λ is. stays _ refl refl;
    sends = λ is up sent. absurd (other is);
    hears_none = λ b bs is told x packets. stays _ refl refl;
    hears = λ b bs is told x packets r. stays _ refl refl;
  })

  pub step_fewer : (e : Event) → BeginsNoSession w e → Fewer w (world_step w e).after
  step_fewer events.Send goes =
      let same : Same (world_step w events.Send).after =
      pulled w (λ (o : WorldOutcome). Same o.after) (λ reply up sent silent. refl) in
      still w (world_step w events.Send).after same (omega (arith, ap (λ (ns : List ℕ). length ns) send_so))
  step_fewer e goes = other_fewer e (λ is. cc is) goes

-- ---- all events

run_fewer : (c : Config) (w : World) → Sound c w → IsOff w → (events : List Event) → AllByRecursion IsEvent events
    → KeepsSession w events → Fewer w (world_run w events)
run_fewer c w k off [] fits goes = still w w refl (omega arith)
run_fewer c w k off (e ∷ es) fits goes =
    let next = (world_step w e).after in
    then_fewer w next (world_run next es) (step_fewer c w k off e goes.0)
    (run_fewer c next (step_sound c w k e fits.0) (closed_so c w k off e goes.0) es fits.1 goes.1)

pub accepts_no_more : (c : Config) (w : World) → Sound c w → IsOff w → numbers_up w ≡ [] → AcceptsNoMore w
accepts_no_more c w k off none_up events fits goes =
    let t : Fewer w (world_run w events) = run_fewer c w k off events fits goes in
    let none : t.more ≡ [] = nil_from_length t.more (omega (arith, t.most, ap (λ (ns : List ℕ). length ns) none_up)) in
    t.after ∙ ap (λ (xs : List (List ℕ)). accepted w ++ xs) none ∙ append-nil (accepted w)
