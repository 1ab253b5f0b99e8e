-- In a session that began by Unlock or Set V(R), or by CLCW check and is confirmed, no alert shows a broken
-- condition.
use Rattle.tc_link.proofs.Common.{◌≡◌, true, false, List, [], ◌∷◌, Option, Some, None, Result, refl, ap, sym, subst}
use Rattle.tc_link.proofs.Common.{◌∙◌, inl, inr, AllByRecursion, Directive, Alert, CopFault, FopOutcome, SegmentView}
use Rattle.tc_link.proofs.Common.{Config, World, Event, world_step, is_closed, is_initiation, closed_not, obeyed}
use Rattle.tc_link.proofs.Common.{directive_step, directive_outcome, BeginsNoSession, IsIdle, IsChecking, directive_of}
use Rattle.tc_link.proofs.Common.{option_map, Opening, ◌⊎◌}
use Rattle.std.specs.Prelude.{◌≢◌}
use Rattle.cop1.specs.declared.vocabulary.Directive.TheVariants.{InitWithCheck}
use Rattle.cop1.specs.declared.vocabulary.Alert.TheVariants.{Lockout, NnR, Clcw as ClcwAlert, Synch}
use Rattle.nodes.specs.Fates.{shows_one}
use Rattle.simulated_link.specs.World.{session_after_directive}
use Rattle.simulated_link.proofs.Unchanged.{ground_after, not_restarted}
use Rattle.tc_link.specs.AnyPast.{LinkStep, Happens, IsLinkStep, link_step}
use Rattle.tc_link.specs.Beside.{LeavesSession, SessionLasts, ShowsNothing, ShowsNone}
use Rattle.tc_link.specs.FalseAlarms.{alert_in, HasCause, IsUnderCheck}
use Rattle.tc_link.specs.Resumed.{ShowsNoneByItself}
use Rattle.tc_link.proofs.Beside.{beside_so}
use Rattle.tc_link.proofs.Invariant.{Holding}
use Rattle.tc_link.proofs.AnyPast.{past_holds, link_step_holds, still_idle, still_opening}
use Rattle.tc_link.proofs.Promised.{promised_of_so}

-- ---- an alert with its cause

module _ (w : World) (e : Event) (free : IsUnderCheck w → ⊥) where
  cause_shows : (o : Option Alert) → ((alert : Alert) → o ≡ Some alert → HasCause w e alert) → shows_one o ≡ false
  cause_shows None cause = refl
  cause_shows (Some Lockout) cause = absurd (free (cause Lockout refl).0)
  cause_shows (Some NnR) cause = absurd (free (cause NnR refl).0)
  cause_shows (Some ClcwAlert) cause = elim (cause ClcwAlert refl) [ ]
  cause_shows (Some Synch) cause = absurd (free (cause Synch refl).0)
  cause_shows (Some _) cause = refl

-- ---- a session that is confirmed stays so

module _ (w : World) (is : w.session.confirmed ≡ true) where
  abbrev StaysBy : Directive → FopOutcome SegmentView (Result (Option Alert) CopFault) → Type 0
  StaysBy d o = (is_initiation d ≡ true → is_closed w.ground_node.fop.state ≡ false)
      → (session_after_directive w d (directive_outcome w.ground_node d o).answer).confirmed ≡ true

  directive_stays : (d : Directive) → StaysBy d (directive_step w.ground_node.fop d)
  directive_stays = obeyed w.ground_node.fop StaysBy (record {
    refused = λ d fault on goes. is;
    begins = λ d begins off goes. closed_not w.ground_node.fop.state off (goes begins);
    terminated = λ goes. is;
    numbers = λ x off goes. is;
    sets = λ d k n ticks plain most goes. rw plain is;
  })

  event_stays : (e : Event) → BeginsNoSession w e → (world_step w e).after.session.confirmed ≡ true
  event_stays e goes = ground_after w (λ t session. session.confirmed ≡ true) e (record {
    same = is;
    submits = λ m octets none. is;
    bypasses = λ m octets at none. is;
    directs = λ d at. directive_stays d (subst (BeginsNoSession w) at goes);
    restarts = λ value at can. not_restarted w e goes value at can;
    ticks = λ at. is;
    sends = λ at sent. is;
    hears_none = λ told x packets. rw is refl;
    hears = λ told x packets r. rw is refl;
  })

  step_stays : (s : LinkStep) → LeavesSession w s → (link_step w s).session.confirmed ≡ true
  step_stays s goes = beside_so w (λ (x : World). x.session.confirmed ≡ true) s goes (record {
    happens = λ e at goes. event_stays e goes;
    same = is;
    takes = λ x packets. is;
    passes = λ u held. is;
  })

-- ---- all steps

-- the session is no longer under check
abbrev IsFree : World → Type 0
IsFree w = (directive_of w ≢ Some InitWithCheck) ⊎ (w.session.confirmed ≡ true)

free_of : (w : World) → IsFree w → IsUnderCheck w → ⊥
free_of w (inl other) under = other under.0
free_of w (inr is) under = absurd (cc (is, under.1))

module _ (c : Config) where
  nothing_shown : (w : World) → Holding c w → IsIdle w → IsChecking (directive_of w) → IsFree w → (s : LinkStep)
      → IsLinkStep s → ShowsNothing w s
  nothing_shown w h idle checking free (Happens e) fits =
      cause_shows w e (free_of w free) (alert_in (world_step w e).answer)
      ((promised_of_so c w h e fits idle).no_false_alarm checking).alerts
  nothing_shown w h idle checking free _ fits = tt

  shows_none : (steps : List LinkStep) (w : World) → Holding c w → IsIdle w → IsChecking (directive_of w) → IsFree w
      → SessionLasts w steps → AllByRecursion IsLinkStep steps → ShowsNone w steps
  shows_none [] w h idle checking free lasts fits = tt
  shows_none (s ∷ steps) w h idle checking free lasts fits =
      let next : World = link_step w s in
      let same : directive_of next ≡ directive_of w =
      ap (λ (o : Option Opening). option_map (λ (o : Opening). o.directive) o) (still_opening w s lasts.0) in
      let freed : IsFree next = elim free [
        | inl other ↦ inl (λ now. other (sym same ∙ now))
        | inr is ↦ inr (step_stays w is s lasts.0)
      ] in (
        nothing_shown w h idle checking free s fits.0,
        shows_none steps next (link_step_holds c w h s fits.0) (still_idle w s idle lasts.0)
            (subst IsChecking (sym same) checking) freed lasts.1 fits.1,
      )

pub shows_none_by_itself : ShowsNoneByItself
shows_none_by_itself w since r idle checking free lasts fits =
    shows_none r.config since w (past_holds w r) idle checking free lasts fits
