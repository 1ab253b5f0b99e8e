-- Whatever a ground's sender does, it stays within the bounds of the configuration.
use Rattle.std.proofs.Common.{◌≡◌, true, false, Option, Some, None, refl, ◌≤◌, ◌+◌, ◌/◌, ℕ, List, [], ◌∷◌, ◌++◌, length}
use Rattle.std.proofs.Common.{ap, ◌∙◌, subst, arith, length-append, ◌⊎◌, inl, inr, drop, Bool}
use Rattle.std.specs.Prelude.{map, option_to_list, nat_lt, not, is_some}
use Rattle.std.specs.List.{AllByRecursion}
use Rattle.std.proofs.lemmas.Bool.{cond_both, ltb-false}
use Rattle.tc_frame.specs.declared.frame.SegmentFlags.TheVariants.{Alone}
use Rattle.tc_frame.specs.Layout.{SegmentView}
use Rattle.clcw.specs.declared.word.Clcw.{Clcw}
use Rattle.map_service.specs.Assembly.{is_open, is_too_long}
use Rattle.map_service.specs.Cutting.{IsPart, segments_of, segment_with, alone_segment}
use Rattle.map_service.proofs.Groups.{behind-each}
use Rattle.map_service.proofs.Parts.{all-append, segments-parts}
use Rattle.cop1.specs.declared.vocabulary.Directive.{Directive}
use Rattle.cop1.specs.declared.vocabulary.Directive.TheVariants.{InitWithoutCheck, InitWithCheck, InitUnlock, InitSetVr}
use Rattle.cop1.specs.FopDirective.{directive_step}
use Rattle.cop1.specs.FopPull.{pull_step}
use Rattle.cop1.specs.FopReport.{clcw_step, report_while_active, retransmits}
use Rattle.cop1.specs.FopTick.{tick_step}
use Rattle.cop1.specs.FopWords.{goes_on}
use Rattle.cop1.specs.Modulo.{ahead_by}
use Rattle.cop1.specs.Units.{FopState, FopOutcome, SentUnit, marked_unit, unmarked_unit, without_oldest_mark}
use Rattle.cop1.proofs.Cases.{obeyed, pulled_out, heard_active, ticked, begun}
use Rattle.nodes.specs.declared.config.Config.{Config}
use Rattle.nodes.specs.declared.fault.LinkFault.TheVariants.{ClosedMap, NotCommand, TooLong, QueueFull}
use Rattle.nodes.specs.CommandPackets.{are_commands}
use Rattle.nodes.specs.Parameters.{limits_of}
use Rattle.nodes.specs.Fates.{Fates, kept_after, counted_from, after_obeying}
use Rattle.nodes.specs.Ground.{GroundState, bypass_fault, after_bypass}
use Rattle.nodes.specs.GroundBounds.{AreShort, AreSentShort, IsBounded, IsSenderOf}
use Rattle.nodes.proofs.Owed.{reported}
use Rattle.nodes.proofs.Submissions.{passed, not_over}

-- ---- the sent queue

module _ (most : ℕ) where
  marked_short : (us : List (SentUnit SegmentView)) → AreSentShort most us → AreSentShort most (map marked_unit us)
  marked_short [] short = tt
  marked_short (u ∷ us) short = (short.0, marked_short us short.1)

  unmarked_short : (us : List (SentUnit SegmentView)) → AreSentShort most us
      → AreSentShort most (without_oldest_mark us)
  unmarked_short [] short = tt
  unmarked_short (u ∷ us) short =
      cond_both u.marked _ _ (AreSentShort most) (λ t. short) (λ t. (short.0, unmarked_short us short.1))

  left_short : (k : ℕ) (us : List (SentUnit SegmentView)) → AreSentShort most us → AreSentShort most (drop k us)
  left_short k us short = behind-each (λ (u : SentUnit SegmentView). length u.unit.payload ≤ most) k us short

  sent_with : (us : List (SentUnit SegmentView)) (s : SegmentView) → AreSentShort most us → length s.payload ≤ most
      → AreSentShort most (us ++ unmarked_unit s ∷ [])
  sent_with us s short fits =
      all-append (λ (u : SentUnit SegmentView). length u.unit.payload ≤ most) us (unmarked_unit s ∷ []) short (fits, tt)

  units_short : (us : List (SentUnit SegmentView)) → AreSentShort most us → AreShort most (map (λ u. u.unit) us)
  units_short [] short = tt
  units_short (u ∷ us) short = (short.0, units_short us short.1)

-- ---- the segments of packets

all_short : (part m : ℕ) (segments : List SegmentView) → AllByRecursion (IsPart part m) segments
    → AreShort part segments
all_short part m [] are = tt
all_short part m (s ∷ ss) are = (are.0.most, all_short part m ss are.1)

pub segments_short : (part m : ℕ) (octets : List ℕ) → 1 ≤ part → AreShort part (segments_of part m octets)
segments_short part m octets one =
    all_short part m (segments_of part m octets) (segments-parts part m octets one)

-- ---- the state after a step of the sender

-- the step keeps the bounds, and no more segments wait than before
pub record KeepsBounds (c : Config) (f g : FopState SegmentView) : Type 0 where
  pub sender : IsSenderOf c f → IsSenderOf c g
  pub fewer : length (option_to_list g.waiting) ≤ length (option_to_list f.waiting)

module _ (c : Config) (f : FopState SegmentView) where
  -- its room and its bypass queue are unchanged, and its wait queue is unchanged or empty
  leaves : (g : FopState SegmentView) → g.room ≡ f.room → g.bypass ≡ f.bypass
      → (g.waiting ≡ f.waiting) ⊎ (g.waiting ≡ None)
      → (IsSenderOf c f → AreSentShort c.part g.sent) → KeepsBounds c f g
  leaves g room past (inl same) sent = record {
    sender = λ is. record {
      room = room ∙ is.room;
      sent = sent is;
      waiting = rw same is.waiting;
      past = rw past is.past;
      past_parts = rw past is.past_parts;
      past_packets = rw past is.past_packets;
    };
    fewer = rw same (omega arith);
  }
  leaves g room past (inr none) sent = record {
    sender = λ is. record {
      room = room ∙ is.room;
      sent = sent is;
      waiting = rw none tt;
      past = rw past is.past;
      past_parts = rw past is.past_parts;
      past_packets = rw past is.past_packets;
    };
    fewer = rw none (omega arith);
  }

  -- the sent queue and the wait queue are empty
  ends : (g : FopState SegmentView) → g.room ≡ f.room → g.bypass ≡ f.bypass → g.waiting ≡ None → g.sent ≡ []
      → KeepsBounds c f g
  ends g room past none sent = leaves g room past (inr none) (λ is. rw sent tt)

  -- its queues are unchanged
  stays : (g : FopState SegmentView) → g.room ≡ f.room → g.bypass ≡ f.bypass → g.waiting ≡ f.waiting
      → g.sent ≡ f.sent → KeepsBounds c f g
  stays g room past waiting sent = leaves g room past (inl waiting) (λ is. rw sent is.sent)

  abbrev KeepsAll : {A : Type 0} → FopOutcome SegmentView A → Type 0
  KeepsAll o = KeepsBounds c f o.after

  pub pulled_bounded : KeepsAll (pull_step f)
  pulled_bounded = pulled_out f KeepsAll (record {
    none = stays _ refl refl refl refl;
    command = λ command is. stays _ refl refl refl refl;
    bypass = λ u us is. record {
      sender = λ of. record {
        room = of.room;
        sent = of.sent;
        waiting = of.waiting;
        past = omega (arith, ap length is, of.past);
        past_parts = (subst (AreShort c.part) is of.past_parts).1;
        past_packets = (subst (AreShort c.max_packet) is of.past_packets).1;
      };
      fewer = omega arith;
    };
    again = λ active x is. leaves _ refl refl (inl refl) (λ of. unmarked_short c.part f.sent of.sent);
    first = λ active u is room. leaves _ refl refl (inr refl)
        (λ of. sent_with c.part f.sent u of.sent
        (subst (λ (w : Option SegmentView). AreShort c.part (option_to_list w)) is of.waiting).0);
  })

  pub ticked_bounded : KeepsAll (tick_step f)
  ticked_bounded = ticked f KeepsAll (record {
    off = stays _ refl refl refl refl;
    runs = λ left. stays _ refl refl refl refl;
    stops = stays _ refl refl refl refl;
    repeats = λ active. leaves _ refl refl (inl refl) (λ of. marked_short c.part f.sent of.sent);
    counts = stays _ refl refl refl refl;
    commands = λ is. stays _ refl refl refl refl;
    gives_up = ends _ refl refl refl refl;
  })

  module _ (r : Clcw) where
    abbrev gone : ℕ
    gone = ahead_by r.value f.nn

    again_bounded : (again : Bool) → KeepsAll (goes_on (retransmits f again))
    again_bounded true = leaves _ refl refl (inl refl) (λ of. marked_short c.part f.sent of.sent)
    again_bounded false = stays _ refl refl refl refl

    active_bounded : KeepsAll (report_while_active f r)
    active_bounded = heard_active f r KeepsAll (record {
      locked = λ t. ends _ refl refl refl refl;
      outside = λ t. ends _ refl refl refl refl;
      wait_flag = λ none waiting. ends _ refl refl refl refl;
      asks_none = λ asking at. ends _ refl refl refl refl;
      same = stays _ refl refl refl refl;
      ceases = λ none at were. ends _ refl refl refl refl;
      moves = λ inside. leaves _ refl refl (inl refl) (λ of. left_short c.part gone f.sent of.sent);
      others_over = λ inside asking one. ends _ refl refl refl refl;
      others_wait = λ inside asking. leaves _ refl refl (inl refl) (λ of. left_short c.part gone f.sent of.sent);
      others_again = λ inside asking. leaves _ refl refl (inl refl)
          (λ of. marked_short c.part (drop gone f.sent) (left_short c.part gone f.sent of.sent));
      all_over = λ asking one. ends _ refl refl refl refl;
      all_wait = λ asking. stays _ refl refl refl refl;
      all_again = λ asking. again_bounded;
    })

    pub reported_bounded : KeepsAll (clcw_step f r)
    reported_bounded = reported f r KeepsAll (record {
      active = λ runs. active_bounded;
      alerted = λ is x cause. ends _ refl refl refl refl;
      checked = λ is confirms. stays _ refl refl refl refl;
      commanded = λ is confirms. stays _ refl refl refl refl;
      same = stays _ refl refl refl refl;
    })

  begun_bounded : (d : Directive) → KeepsBounds c f (begun f d)
  begun_bounded InitWithoutCheck = ends _ refl refl refl refl
  begun_bounded InitWithCheck = ends _ refl refl refl refl
  begun_bounded InitUnlock = ends _ refl refl refl refl
  begun_bounded (InitSetVr x) = ends _ refl refl refl refl
  begun_bounded _ = stays _ refl refl refl refl

  pub directed_bounded : (d : Directive) → KeepsAll (directive_step f d)
  directed_bounded = obeyed f (λ d o. KeepsAll o) (record {
    refused = λ d fault off. stays _ refl refl refl refl;
    begins = λ d begins is. begun_bounded d;
    terminated = ends _ refl refl refl refl;
    numbers = λ x is. stays _ refl refl refl refl;
    sets = λ d k n ticks plain most. stays _ refl refl refl refl;
  })

-- a bypass packet that is not refused
pub past_bounded : (s : GroundState) (m : ℕ) (octets : List ℕ) → bypass_fault s m octets ≡ None
    → IsSenderOf s.config s.fop → IsSenderOf s.config (after_bypass s m octets).fop
past_bounded s m octets h is =
    let open_map = passed (not (is_open (limits_of s.config) m)) ClosedMap _ h in
    let command = passed (not (are_commands false octets)) NotCommand _ open_map.1 in
    let packet = passed (is_too_long (limits_of s.config) octets) TooLong _ command.1 in
    let part = passed (not (is_some (alone_segment s.config.part m octets))) TooLong _ packet.1 in
    let places = passed (nat_lt s.config.queue_slots (length s.fop.bypass + 1)) QueueFull None part.1 in
    let past : List SegmentView = s.fop.bypass in
    let more : List SegmentView = segment_with Alone m octets ∷ [] in
    let short : length octets ≤ s.config.max_packet = ltb-false _ _ packet.0 in
    let fits : length octets ≤ s.config.part = ltb-false _ _ (not_over _ (segment_with Alone m octets) part.0) in
    let room : length past + 1 ≤ s.config.queue_slots = ltb-false _ _ places.0 in
    record {
      room = is.room;
      sent = is.sent;
      waiting = is.waiting;
      past = omega (arith, length-append past more, room);
      past_parts =
          all-append (λ (u : SegmentView). length u.payload ≤ s.config.part) past more is.past_parts (fits, tt);
      past_packets =
          all-append (λ (u : SegmentView). length u.payload ≤ s.config.max_packet) past more is.past_packets
          (short, tt);
    }

-- a directive leaves no more submissions
pub fewer_obeying : (fates : Fates) (d : Directive) → length (after_obeying fates d).left ≤ length fates.left
fewer_obeying fates d = counted (kept_after d) where
  counted : (counts : Option Bool) → length (counted_from counts fates).left ≤ length fates.left
  counted None = omega arith
  counted (Some kept) = omega arith

-- ---- what a ground keeps to

pub bounded : (s : GroundState) → length s.fop.sent ≤ s.fop.room → IsSenderOf s.config s.fop
    → length (option_to_list s.fop.waiting) + length s.pending ≤ s.config.queue_slots
    → AreShort s.config.part s.pending
    → length s.fates.left ≤ s.config.width / 2 + s.config.queue_slots → length s.extractor.part ≤ 65541
    → IsBounded s
bounded s sent sender unsent parts submissions begun = record {
  sent = omega (arith, sent, sender.room);
  unsent = omega (arith, unsent, length-append (option_to_list s.fop.waiting) s.pending);
  parts = all-append (λ (u : SegmentView). length u.payload ≤ s.config.part) (map (λ u. u.unit) s.fop.sent) _
      (units_short s.config.part s.fop.sent sender.sent)
      (all-append (λ (u : SegmentView). length u.payload ≤ s.config.part) (option_to_list s.fop.waiting) s.pending
      sender.waiting parts);
  past = sender.past;
  past_parts = sender.past_parts;
  past_packets = sender.past_packets;
  submissions = submissions;
  begun = begun;
}
