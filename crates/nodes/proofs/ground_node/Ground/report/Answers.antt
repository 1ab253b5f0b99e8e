use Rattle.std.proofs.Common.{◌≡◌, ◌<◌, ℕ, ◌+◌, ◌%◌, List, length, Result, Ok, ap, refl, sym, ◌∙◌, arith}
use Rattle.std.proofs.lemmas.Bool.{eq-eqb}
use Rattle.std.specs.Prelude.{◌^◌, ◌&&◌, not, Bool, Option}
use Rattle.clcw.specs.declared.word.Clcw.{Clcw}
use Rattle.clcw.specs.declared.fault.ClcwFault.{ClcwFault}
use Rattle.tc_frame.specs.Layout.{SegmentView}
use Rattle.cop1.specs.Modulo.{ahead_by}
use Rattle.cop1.specs.FopReport.{clcw_step}
use Rattle.cop1.specs.Units.{FopState, FopOutcome}
use Rattle.cop1.specs.declared.vocabulary.Alert.{Alert}
use Rattle.nodes.specs.Fates.{left_after, whole_within, shows_one}
use Rattle.nodes.specs.Ground.{GroundState, moved_by, report_outcome, after_report, refill_step}
use Rattle.nodes.specs.GroundFields.{state_of}
use Rattle.nodes.proofs.GroundBounds.{KeepsBounds, reported_bounded}
use Rattle.nodes.proofs.Owed.{moved_is, reported_holds, still_owed, fewer_left}
use Rattle.nodes.proofs.ground_node.Ground.report.Goals as goal

-- a CLCW that is used
used : (s : GroundState) (word : Clcw) (r : Result Clcw ClcwFault) → r ≡ Ok word → word.vcid ≡ s.config.vcid
    → after_report s (clcw_step s.fop word) ≡ (report_outcome s r).after
used s word r is own = rw (is, eq-eqb word.vcid s.config.vcid own) refl

module _ (c : goal.After-self-2-1) where
  abbrev t : GroundState
  t = state_of c.self.inside

  abbrev heard : FopOutcome SegmentView (Option Alert)
  heard = clcw_step t.fop c.in-Ok.word

  abbrev next : FopState SegmentView
  next = heard.after

  abbrev gone : ℕ
  gone = moved_by next.nn t.fop.nn

  octet : t.fop.nn < 256
  octet = omega (arith, c.nn-nn.ensures, c.nn-nn.type_inv)

  gone_is : ahead_by c.nn.result c.nn-nn.result ≡ gone
  gone_is =
      ap (λ (n : ℕ). ahead_by n c.nn-nn.result)
      (c.nn.ensures ∙ ap (λ (f : FopState SegmentView). f.nn) c.clcw-alert.ensures.after)
      ∙ ap (ahead_by next.nn) c.nn-nn.ensures ∙ moved_is next.nn t.fop.nn octet

  left_is : c.take_segments-whole.new.left.items ≡ left_after gone t.fates.left
  left_is = c.take_segments-whole.ensures.left ∙ ap (λ (k : ℕ). left_after k t.fates.left) gone_is

  whole_is : c.take_segments-whole.result ≡ whole_within gone t.fates.left
  whole_is = c.take_segments-whole.ensures.whole ∙ ap (λ (k : ℕ). whole_within k t.fates.left) gone_is

  kept_is : c.kept_beside-self-inside.result ≡ not (shows_one heard.answer) && t.fates.kept
  kept_is =
      c.kept_beside-self-inside.ensures
      ∙ ap (λ (a : Option Alert). not (shows_one a) && t.fates.kept) c.clcw-alert.ensures.alert

  abbrev with : FopState SegmentView → ℕ → List ℕ → Bool → GroundState
  with fop whole left kept = record t {
    fop = fop;
    fates = record { acknowledged = (t.fates.acknowledged + whole) % 2 ^ 64; left = left; kept = kept };
  }

  counted : with c.clcw-alert.new.self c.take_segments-whole.result c.take_segments-whole.new.left.items
      c.kept_beside-self-inside.result
      ≡ with next (whole_within gone t.fates.left) (left_after gone t.fates.left)
      (not (shows_one heard.answer) && t.fates.kept)
  counted =
      let left = c.take_segments-whole.new.left.items in
      let kept = c.kept_beside-self-inside.result in
      ap (λ (f : FopState SegmentView). with f c.take_segments-whole.result left kept) c.clcw-alert.ensures.after
      ∙ ap (λ (n : ℕ). with next n left kept) whole_is
      ∙ ap (λ (ns : List ℕ). with next (whole_within gone t.fates.left) ns kept) left_is
      ∙ ap (with next (whole_within gone t.fates.left) (left_after gone t.fates.left)) kept_is

pub invariant_of-self : goal.invariant_of-self
invariant_of-self c =
    let s = c.self.inside in
    let owed = still_owed s.fop (next c) s.pending.items s.left.items (gone c)
    (reported_holds s.fop (octet c) c.in-Ok.word) c.self.invariant.owed in
    let keeps : KeepsBounds s.config s.fop c.clcw-alert.new.self =
    rw c.clcw-alert.ensures.after (reported_bounded s.config s.fop c.in-Ok.word) in
    let fewer = (fewer_left (gone c) s.left.items).0 in
    record {
      config = c.self.invariant.config;
      room = c.self.invariant.room;
      packets = c.self.invariant.packets;
      owed = rw (c.clcw-alert.ensures.after, left_is c) owed;
      places = omega (arith, c.self.invariant.places, c.take_segments-whole.ensures.capacity);
      sender = keeps.sender c.self.invariant.sender;
      unsent = omega (arith, keeps.fewer, c.self.invariant.unsent);
      parts = c.self.invariant.parts;
      begun = c.self.invariant.begun;
      submissions = omega (arith, ap length (left_is c), fewer, c.self.invariant.submissions);
    }

pub returns-clause-after : goal.returns-clause-after
returns-clause-after c =
    c.refill.ensures ∙ ap refill_step (counted c.before.before)
    ∙ used (state_of c.self.inside) c.in-Ok.word c.args.word c.in-Ok.is (sym c.from.ensures ∙ c.if-from-self.false)
    ∙ ap (λ (s : GroundState). (report_outcome s c.args.word).after) c.self.view_is
