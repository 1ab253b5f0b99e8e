-- `pull` calls `next`, lends what the sender then holds for as long as it was lent itself, and calls `show`. Assumes
-- `Logic`.
use mathlib.Core.Path.{◌≡◌, refl, ◌∙◌}
use Prim.Native.Nat.{ℕ}
use mathlib.Core.Option.{none}
use Rattle.std.specs.Prelude.{⊤}
use mathlib.Core.List.{List, [], ◌∷◌}
use seplogic.Ra.Ura.{Ura}
use base.Fraction.{full_share}
use base.Share
use base.FractionLaws.{common}
use base.Logic.{SProp, ent, sep, emp, ex, wand, wand_i, apply∗, id⊢, guard}
use base.Fml.{Lft, GName, Share, Fml, ftrue, fsep, fdead, flft, fres, fbor}
use mir.Syntax.{Fn, Dict, Args, a_type, dcons, dnil, erased, named}
use mir.MapTy.{inst_fn}
use mir.Val.{Val, vptr}
use prog.Memory.{Memory}
use prog.Routine.{Routine}
use prog.Wp.{WpFn, Tables}
use sound.WpLaws.{fm_of, WpFn-mono}
use contract.Monad.{Fun, fact, fact_i}
use contract.BorrowLft.{◌⊑◌, ⊑_refl, ⊑_trans, meet_⊑_left, meet_⊑_right}
use contract.Lifetimes.{AllOutlive}
use contract.Running.{tables, tables_of}
use types.Logic.{Logic, sem}
use types.Kit.{‵, raw, ◌⊛◌, some, later, given, check, ◌$◌, ◌∵◌, !, qed, by, move, keep, use0, use1, use2, use3, drop}
use types.Kit.{split, split3, join, pick, show as shows_it, learn, fsplit, fjoin, fpack, feq_i, suffices, frame, group}
use types.Kit.{await, updating, now as at_once, done}
use types.Tokens.{lft_new, lft_end, lft-common}
use types.Run.{stop, of_opd, addr, and_then, no_more, returns, enter}
use types.ByLocal.{alloc_all, pass_all, free_all, look_at, get, through, sets, lands_as}
use types.SemTy.{Body as Borrowed}
use denote.Exit.{no}
use denote.RattleType.{RattleType, owns}
use denote.Memory.{mem}
use denote.Ref.{MutBor, MutRef, Bor, ShrRef, mut_vals, mut_Tells}
use denote.Signature.{plain, mut_ref_to, named_lft}
use denote.Steps.{nothing, peeks}
use denote.Shares.{Shares-less}
use denote.Laws.{Is, shows}
use denote.Follow.{such_by, follows_by}
use denote.Lend.{LentAgain, lends_again, comes_back}
use denote.Param.{param, bounded}
use denote.Param.Laws.{Laws, param_laws}
use denote.Triple.Call.{calls_at}
use denote.Triple.Clauses.{Clauses, Ended, Lasts, lasts, closing}
use denote.Triple.Entry.{on_entry}
use denote.Triple.Spec.{Meets, triple_of}
use denote.Triple.Statement.{Contract, Triple}
use denote.Triple.Table.{entered}
use denote.Triple.Walked.{says, Stays, stay_dropped, walk_of, ends_at, walked, Goes-spent_ref, walk_Meets}
use borrow.Rule.Reshare.{ref_Share}
use borrow.Table.Owned as owned
use Rattle.cop1.specs.Units.{FopState}
use Rattle.cop1.specs.UnitsNext.{units_of, seen_at, pulled_view, IsPlaced}
use Rattle.cop1.specs.UnitsStep.{fop_step, Pull}
use Rattle.cop1.specs.UnitsLent.{EndsAs}
use Rattle.cop1.specs.declared.fop.pull.Next.{Next}
use Rattle.cop1.specs.contracts.fop.Fop as fop-type
use Rattle.cop1.specs.contracts.fop.pull.Next as next-type
use Rattle.cop1.specs.contracts.fop.pull.Pulled as pulled-type
use Rattle.cop1.specs.contracts.fop.Fop.next as N
use Rattle.cop1.specs.contracts.fop.Fop.show as S
use Rattle.cop1.specs.contracts.fop.Fop.pull as F
use Rattle.cop1.specs.contracts.fop.Fop.next.Key.{name as #next}
use Rattle.cop1.specs.contracts.fop.Fop.show.Key.{name as #show}
use Rattle.cop1.specs.contracts.fop.Fop.pull.Key.{name as #self}
use Rattle.cop1.proofs.fop.Fop.TheLaws as fop-laws
use Rattle.cop1.proofs.fop.pull.Next.TheLaws as next-laws
use Rattle.cop1.proofs.fop.pull.Pulled.TheLaws as pulled-laws
use Rattle.cop1.proofs.fop.Fop.next.Met as next-met
use Rattle.cop1.proofs.fop.Fop.show.Met as show-met
use Rattle.cop1.proofs.fop.Fop.pull.Statement as stated
use Rattle.cop1.proofs.fop.Fop.pull.Code as code

module _ (X : RattleType) (LX : Laws X) (d : Dict) where
  abbrev args : Args
  args = bounded (a_type ∷ []) (X, tt) (dcons d dnil)

  abbrev fn' : Fn
  fn' = inst_fn args code.function

  -- a unit, a sender of units, and what it returns
  abbrev U : RattleType
  U = param 0 X

  abbrev R : RattleType
  R = fop-type.the_row U

  abbrev Nx : RattleType
  Nx = next-type.the_row U

  abbrev end : Ended
  end = F.ended X d

  abbrev clauses : {M : Type 1} {𝓤 : Ura M} (𝓛 : Logic 𝓤) → (Memory → SProp 𝓤) → (Routine → Fun 𝓤) → Clauses 𝓤 end
  clauses 𝓛 = F.clauses X d 𝓛

  abbrev stayed : Stays end.signature.params end.kept
  stayed = (stay_dropped (mut_ref_to (0 ∷ []) tt (plain (λ _. R))) no, tt)

module _ {M : Type 1} {𝓤 : Ura M} (𝓛 : Logic 𝓤) (ρ : Lft) (q : Share) where
  open 𝓛 use {H, A}

  abbrev Ends : ℕ → Share → SProp 𝓤
  Ends a s = wand 𝓤 (A.lft (a ∷ ρ) s) (H.⇛ (sep 𝓤 (A.dead (a ∷ ρ)) (A.lft ρ q)))

  abbrev Begun : ℕ × Share → SProp 𝓤
  Begun p = sep 𝓤 (A.lft (p.0 ∷ ρ) p.1) (Ends p.0 p.1)

  -- a new lifetime inside ρ, with its token, and the way to end it
  begins : ent 𝓤 (A.lft ρ q) (H.⇛ (ex 𝓤 Begun))
  begins =
      qed 𝓛 (‵ (flft ρ q) ∷ []) ∵ updating ! $ lft_new ! tt (λ a.
      let s : Share = (common full_share q).0 in
      let Back : SProp 𝓤 = wand 𝓤 (A.lft (a ∷ ρ) s) (sep 𝓤 (A.lft (a ∷ []) full_share) (A.lft ρ q)) in
      use2 𝓛 (‵ (flft (a ∷ ρ) s) ⊛ raw Back) (lft-common 𝓛 (a ∷ []) ρ full_share q) $ split ! $ move ! (1 ∷ []) $
      use1 𝓛 (raw (Ends a s)) (wand_i 𝓤 Back (A.lft (a ∷ ρ) s) _
      (qed 𝓛 (raw Back ∷ ‵ (flft (a ∷ ρ) s) ∷ []) ∵ updating ! $ move ! (1 ∷ 0 ∷ []) $
      use2 𝓛 (‵ (flft (a ∷ []) full_share) ⊛ ‵ (flft ρ q))
      (apply∗ 𝓤 (A.lft (a ∷ ρ) s) (sep 𝓤 (A.lft (a ∷ []) full_share) (A.lft ρ q))) $ split ! $ lft_end ! tt $
      use1 𝓛 (‵ (fdead (a ∷ ρ))) (𝓛.lfts.dead-incl (a ∷ ρ) (a ∷ []) (meet_⊑_left (a ∷ []) ρ)) $ at_once ! $ done !)) $
      at_once ! $ shows_it ! Begun (a, s) $ move ! (1 ∷ 0 ∷ []) $ done !)

module _ (X : RattleType) (LX : Laws X) (d : Dict) {M : Type 1} {𝓤 : Ura M} (𝓛 : Logic 𝓤) (at_mem : Memory → SProp 𝓤)
    (run : Routine → Fun 𝓤) where
  open 𝓛 use {H, A}

  abbrev Row : RattleType
  Row = R X LX d

  abbrev Got : RattleType
  Got = Nx X LX d

  abbrev State : Type 0
  State = FopState X.Denot

  abbrev lent : Lft → ℕ → ℕ → GName → State → Fml
  lent κ rb ro δ s =
      (MutRef (named 0) κ Row).own_val (record { ref_ptr = (rb, ro); ghost_name = δ; now = s }) (vptr rb ro ∷ [])

  abbrev AtNext : Contract 𝓤
  AtNext = triple_of 𝓛 (N.signature X) (N.spec X d 𝓛 at_mem run)

  -- what `next` states of the sender and of its answer
  abbrev Told : State → Next X.Denot → State → Type 0
  Told s x s' =
      (s' ≡ (fop_step s Pull).after) × (seen_at (units_of s'.sent) x ≡ (fop_step s Pull).answer)
      × IsPlaced (units_of s'.sent) x

  module _ (κ : Lft) (t : Share) (rb ro : ℕ) (δ : GName) (s : State) where
    abbrev at_next : AtNext.Ghost
    at_next = (
      (
        (κ, (κ, tt)),
        (Share.left t, (Share.right t, tt)),
        (⊑_refl κ, tt),
        (record { ref_ptr = (rb, ro); ghost_name = δ; now = s }, tt),
        (vptr rb ro ∷ [], tt),
      ),
      tt,
    )

    next_goes : κ ⊑ X.lives → ent 𝓤 (sep 𝓤 (A.lft κ t) (sem 𝓛 (lent κ rb ro δ s))) (AtNext.pre at_next)
    next_goes le =
        qed 𝓛 (‵ (flft κ t) ∷ ‵ (lent κ rb ro δ s) ∷ []) ∵ use0 𝓛 (raw (fact 𝓤 (κ ⊑ X.lives)))
        (fact_i 𝓤 (κ ⊑ X.lives) (emp 𝓤) le) $
        nothing ! $ move ! (1 ∷ 0 ∷ []) $ join ! $ nothing ! $ move ! (3 ∷ 0 ∷ []) $ fjoin ! $ nothing !
        $ move ! (3 ∷ []) $
        use1 𝓛 (‵ (flft κ (Share.left t)) ⊛ ‵ (flft κ (Share.right t))) (𝓛.lfts.lft_split κ t) $ split ! $
        move ! (1 ∷ 2 ∷ []) $ join ! $ move ! (1 ∷ 0 ∷ []) $ join ! $ join ! $ join ! $ done !

    abbrev Gave : Val → Next X.Denot × State → SProp 𝓤
    Gave v p = guard 𝓤 (Told s p.0 p.1) (sep 𝓤 (A.lft κ t)
        (sep 𝓤 (A.res δ (Row.coded.code p.1)) (sem 𝓛 (Got.own_val p.0 (v ∷ [])))))

    next_gives : (v : Val) → ent 𝓤 (AtNext.post at_next v) (H.⇛ (ex 𝓤 (Gave v)))
    next_gives v =
        qed 𝓛 (raw (AtNext.post at_next v) ∷ []) ∵ updating ! $
        use1 𝓛 (later (some (λ (x : Next X.Denot).
        ((‵ (flft κ (Share.left t)) ⊛ ‵ (flft κ (Share.right t)) ⊛ ‵ ftrue) ⊛ ‵ (Got.own_val x (v ∷ [])))
        ⊛ some (λ (ws : State
        × Unit {0}). ‵ (fsep (fsep (fres δ (Row.coded.code ws.0)) (fbor κ (Borrowed (mem Row) rb ro δ))) ftrue)
        ⊛ given (ws.0 ≡ (fop_step s Pull).after) (‵ ftrue) ⊛ given
        (seen_at (units_of ws.0.sent) x ≡ (fop_step s Pull).answer) (‵ ftrue) ⊛ given
        (IsPlaced (units_of ws.0.sent) x) (‵ ftrue))))) (id⊢ 𝓤 _) $ await ! tt $ pick ! (λ x.
        split ! $ move ! (1 ∷ [])
        $ pick ! (λ ws. split ! $ fsplit ! $ fsplit ! $ move ! (1 ∷ []) $ drop ! $ move ! (2 ∷ []) $
        split3 ! $ learn ! (λ after. drop ! $ learn ! (λ answer. drop ! $ learn ! (λ placed. drop ! $
        -- [the final state of the sender; nothing; the tokens and the answer]
        move ! (2 ∷ []) $ split ! $ split3 ! $ use2 𝓛 (‵ (flft κ t)) (𝓛.lfts.lft_join κ t) $
        at_once ! $ shows_it ! (Gave v) (x, ws.0) $ check ! (after, answer, placed) $ keep ! (0 ∷ 3 ∷ 2 ∷ [])
        $ done !)))))

  abbrev AtShow : Contract 𝓤
  AtShow = triple_of 𝓛 (S.signature X) (S.spec X d 𝓛 at_mem run)

  module _ (κ κT : Lft) (q qT : Share) (bd : AllOutlive 2 (S.signature X).outlives (κ, (κT, tt))) (rb ro : ℕ)
      (s : State) (x : Next X.Denot) (v : Val) where
    abbrev self_shr : Bor State
    self_shr = record { ref_ptr = (rb, ro); now = s }

    abbrev shared : Fml
    shared = (ShrRef (named 0) κ Row).own_val self_shr (vptr rb ro ∷ [])

    abbrev Out : RattleType
    Out = pulled-type.the_row (named_lft 2 0 tt (κ, (κT, tt))) (U X LX d) (U X LX d)

    abbrev at_show : AtShow.Ghost
    at_show = (((κ, (κT, tt)), (q, (qT, tt)), bd, (self_shr, (x, tt)), (vptr rb ro ∷ [], (v ∷ [], tt))), tt)

    show_goes : κT ⊑ X.lives → IsPlaced (units_of s.sent) x
        → ent 𝓤 (sep 𝓤 (A.lft κ q) (sep 𝓤 (A.lft κT qT) (sep 𝓤 (sem 𝓛 shared) (sem 𝓛 (Got.own_val x (v ∷ []))))))
        (AtShow.pre at_show)
    show_goes le placed =
        qed 𝓛 (‵ (flft κ q) ∷ ‵ (flft κT qT) ∷ ‵ shared ∷ ‵ (Got.own_val x (v ∷ [])) ∷ []) ∵
        use0 𝓛 (raw (fact 𝓤 (IsPlaced (units_of s.sent) x))) (fact_i 𝓤 (IsPlaced (units_of s.sent) x) (emp 𝓤) placed) $
        use0 𝓛 (raw (fact 𝓤 (κT ⊑ X.lives))) (fact_i 𝓤 (κT ⊑ X.lives) (emp 𝓤) le) $ join ! $
        -- [what it requires; the tokens; the reference; the answer]
        nothing ! $ move ! (5 ∷ 0 ∷ []) $ fjoin ! $ move ! (4 ∷ 0 ∷ []) $ fjoin ! $
        nothing ! $ move ! (4 ∷ 0 ∷ []) $ join ! $ move ! (3 ∷ 0 ∷ []) $ join ! $ join ! $ join ! $ done !

    abbrev Shown : Val → Out.Denot → SProp 𝓤
    Shown w y = guard 𝓤 (pulled_view y ≡ seen_at (units_of s.sent) x)
        (sep 𝓤 (A.lft κ q) (sep 𝓤 (A.lft κT qT) (sem 𝓛 (Out.own_val y (w ∷ [])))))

    show_gives : (w : Val) → ent 𝓤 (AtShow.post at_show w) (H.⇛ (ex 𝓤 (Shown w)))
    show_gives w =
        qed 𝓛 (raw (AtShow.post at_show w) ∷ []) ∵ updating ! $
        use1 𝓛 (later (some (λ (y : Out.Denot). ((‵ (flft κ q) ⊛ ‵ (flft κT qT) ⊛ ‵ ftrue) ⊛ ‵ (Out.own_val y (w ∷ [])))
        ⊛ some (λ (ws : Lasts (S.ended X d) at_show.0.0 at_show.0.3). ‵ (lasts (S.ended X d) at_show.0.0 at_show.0.3 ws)
        ⊛ given (pulled_view y ≡ seen_at (units_of s.sent) x) (‵ ftrue))))) (id⊢ 𝓤 _) $ await ! tt $ pick ! (λ y.
        split ! $ move ! (1 ∷ []) $ pick ! (λ ws. split ! $ drop ! $ learn ! (λ is. drop ! $ split ! $ split3 ! $
        at_once ! $ shows_it ! (Shown w) y $ check ! is $ keep ! (0 ∷ 1 ∷ 3 ∷ []) $ done !)))

  -- the final state of the sender
  ends : (γ : GName) (rb ro : ℕ) (s after s' : State) → s' ≡ after
      → ent 𝓤 (A.res γ (Row.coded.code s')) (sem 𝓛
      (EndsAs (U X LX d) (record { ref_ptr = (rb, ro); ghost_name = γ; now = s }) after))
  unfolding such_by follows_by
  ends γ rb ro s after s' is =
      qed 𝓛 (‵ (fres γ (Row.coded.code s')) ∷ []) ∵
      fpack ! ((f : (State → State) × State) × (State → ⊤) × (f.1 ≡ after))
      (λ f. follows_by State State Row.coded.code Row.coded.code γ none f.0.0 f.0.1) ((λ _. s', s'), λ _. tt, is)
      $ done !

  module _ (𝓣 : Tables 𝓤 H) (next_met : Triple 𝓤 (𝓣.C (#next (args X LX d))) AtNext)
      (show_met : Triple 𝓤 (𝓣.C (#show (args X LX d))) AtShow)
      (κ κT : Lft) (q qT : Share) (bd : AllOutlive 2 (end X LX d).signature.outlives (κ, (κT, tt))) (le : κT ⊑ X.lives)
      (rb ro : ℕ) (γ : GName) (s : State) where
    abbrev self : MutBor State
    self = record { ref_ptr = (rb, ro); ghost_name = γ; now = s }

    abbrev walk_to : Contract 𝓤
    walk_to = walk_of 𝓛 (end X LX d) (stayed X LX d) (clauses X LX d 𝓛 at_mem run)

    abbrev bound : walk_to.Ghost
    bound = (((κ, (κT, tt)), (q, (qT, tt)), bd, (self, tt), (vptr rb ro ∷ [], tt)), tt)

    walk : ent 𝓤 (on_entry 𝓛 (end X LX d).signature (κ, (κT, tt)) (q, (qT, tt)) (self, tt) (vptr rb ro ∷ [], tt))
        (WpFn 𝓤 H 𝓣.C 𝓣.Λ (fn' X LX d) (vptr rb ro ∷ []) (walk_to.post bound))
    walk =
        qed 𝓛 ((‵ (flft κ q) ⊛ ‵ (flft κT qT) ⊛ ‵ ftrue)
        ∷ ‵ (owns (MutRef (named 0) κ Row ∷ []) (self, tt) (vptr rb ro ∷ [], tt)) ∷ []) ∵ enter ! 𝓣.C 𝓣.Λ
        (fn' X LX d) (vptr rb ro ∷ []) _ $
        alloc_all ! (λ l. pass_all ! refl ((tt, tt), tt) $ split3 ! $ move ! (3 ∷ []) $ fsplit ! $
        -- [the reference; nothing; its token; the units' token; nothing]
        sets ! (addr ! (through ! refl (stop !))) refl (tt, tt) $
        move ! (3 ∷ [])
        $ use1 𝓛 (later (some (λ (p : ℕ × Share). ‵ (flft (p.0 ∷ κT) p.1) ⊛ raw (Ends 𝓛 κT qT p.0 p.1))))
        (begins 𝓛 κT qT) $ await ! tt $ pick ! (λ p. split ! $
        let κ₁ : Lft = p.0 ∷ κT in
        move ! (2 ∷ 4 ∷ [])
        $ use2 𝓛 (later (some (λ (δ : GName). ‵ (lent κ₁ rb ro δ s) ⊛ ‵ (LentAgain Row κ κ₁ q γ rb ro δ s))))
        (lends_again 𝓛 Row (named 0) κ κ₁ q γ rb ro (named 0) s) $ await ! tt $ pick ! (λ δ. split ! $
        -- [the loan; what the lender keeps; the new token; the way to end it; nothing; nothing]
        move ! (2 ∷ 0 ∷ [])
        $ use2 𝓛 (raw (AtNext.pre (at_next κ₁ p.1 rb ro δ s)))
        (next_goes κ₁ p.1 rb ro δ s (⊑_trans κ₁ κT X.lives (meet_⊑_right (p.0 ∷ []) κT) le)) $
        calls_at ! (fm_of 𝓤 H 𝓛.laws 𝓣) AtNext next_met (at_next κ₁ p.1 rb ro δ s) (and_then ! (get ! refl) (no_more !))
        (λ v.
        use1 𝓛 (later (some (λ (r : Next X.Denot × State). given (Told s r.0 r.1)
        (‵ (flft κ₁ p.1) ⊛ ‵ (fres δ (Row.coded.code r.1)) ⊛ ‵ (Got.own_val r.0 (v ∷ []))))))
        (next_gives κ₁ p.1 rb ro δ s v) $ await ! tt $ pick ! (λ r. learn ! (λ told.
        split3 ! $ move ! (2 ∷ []) $ peeks ! Got (Is Got) (shows 𝓛 Got) r.0 (v ∷ []) (λ is.
        let good = (((next-laws.the_row_laws (U X LX d) (param_laws 0 X LX)).lawful 𝓛).typed r.0 (v ∷ []) is).0 in
        lands_as ! refl refl good $
        -- [the answer; the new token; what the loan ends as; what the lender keeps; the way to end it]
        move ! (1 ∷ 4 ∷ []) $ use2 𝓛 (later (‵ (fdead κ₁) ⊛ ‵ (flft κT qT))) (apply∗ 𝓤 (A.lft κ₁ p.1) _) $ await ! tt
        $ split ! $
        move ! (0 ∷ 4 ∷ 3 ∷ [])
        $ use3 𝓛 (later (‵ (lent κ rb ro γ r.1) ⊛ ‵ (flft κ q))) (comes_back 𝓛 Row (named 0) κ κ₁ q γ rb ro δ s r.1)
        $ await ! tt $ split ! $
        -- [the reference; its token; the units' token; the answer]
        sets ! (addr ! (through ! refl (stop !))) refl (tt, tt) $ fsplit ! $ drop ! $
        let s' : State = r.1 in
        let laws = fop-laws.the_row_laws (U X LX d) (param_laws 0 X LX) in
        let shares = Shares-less 𝓛 Row Row.lives κ (fop-laws.the_within (U X LX d) κ (⊑_trans κ κT X.lives bd.0 le))
        (laws.shares 𝓛) in
        use2 𝓛 (later (‵ ((owned.ShrRef erased κ Row).own_val (self_shr κ κT q qT bd rb ro s' r.0 v)) ⊛ ‵
        (fres γ (Row.coded.code s')) ⊛ ‵ (flft κ q))) (ref_Share 𝓛 Row rb ro γ s' laws.shr_laws κ q shares)
        $ await ! tt $ split3 ! $
        feq_i ! (List Val) (vptr rb ro ∷ []) (vptr rb ro ∷ []) refl $ fjoin ! $
        -- [the shared reference; the final state of the sender; its token; the units' token; the answer]
        sets ! (of_opd ! (get ! refl)) refl good $
        move ! (2 ∷ 3 ∷ 0 ∷ 4 ∷ []) $ group ! 4
        $ use1 𝓛 (raw (AtShow.pre (at_show κ κT q qT bd rb ro s' r.0 v)))
        (show_goes κ κT q qT bd rb ro s' r.0 v le told.2) $
        calls_at ! (fm_of 𝓤 H 𝓛.laws 𝓣) AtShow show_met (at_show κ κT q qT bd rb ro s' r.0 v)
        (and_then ! (get ! refl) (and_then ! (get ! refl) (no_more !))) (λ w.
        let Given : RattleType = Out κ κT q qT bd rb ro s' r.0 v in
        use1 𝓛 (later (some (λ (y : Given.Denot). given (pulled_view y ≡ seen_at (units_of s'.sent) r.0)
        (‵ (flft κ q) ⊛ ‵ (flft κT qT) ⊛ ‵ (Given.own_val y (w ∷ [])))))) (show_gives κ κT q qT bd rb ro s' r.0 v w)
        $ await ! tt $ pick ! (λ y. learn ! (λ seen.
        split3 ! $ move ! (2 ∷ []) $ peeks ! Given (Is Given) (shows 𝓛 Given) y (w ∷ []) (λ so.
        let fits = (((pulled-laws.the_row_laws (named_lft 2 0 tt (κ, (κT, tt))) (U X LX d) (U X LX d)
        (param_laws 0 X LX) (param_laws 0 X LX)).lawful 𝓛).typed y (w ∷ []) so).0 in
        lands_as ! refl refl fits $ returns ! (look_at ! 0 refl) $ free_all ! refl $
        -- [the answer; the token; the units' token; the final state of the sender]
        move ! (3 ∷ [])
        $ use1 𝓛 (‵ (EndsAs (U X LX d) self (fop_step s Pull).after))
        (ends γ rb ro s (fop_step s Pull).after s' told.0) $ keep ! (1 ∷ 2 ∷ 3 ∷ 0 ∷ []) $
        suffices ! _ (ends_at 𝓛 (end X LX d) (stayed X LX d) (clauses X LX d 𝓛 at_mem run) bound w y (tt, tt) (tt, tt))
        $
        nothing ! $ nothing ! $ fjoin ! $ join ! $ nothing ! $ move ! (3 ∷ 0 ∷ []) $ join ! $ move ! (2 ∷ 0 ∷ [])
        $ join ! $ join ! $ frame ! $ says ! (seen ∙ told.1) $ done !)))))))))))

  meets : (𝓣 : Tables 𝓤 H) → Triple 𝓤 (𝓣.C (#next (args X LX d))) AtNext → Triple 𝓤 (𝓣.C (#show (args X LX d))) AtShow
      → Meets 𝓛 (end X LX d).signature (WpFn 𝓤 H 𝓣.C 𝓣.Λ (fn' X LX d))
      (closing 𝓛 (end X LX d) (clauses X LX d 𝓛 at_mem run))
  meets 𝓣 next_met show_met =
      let c = clauses X LX d 𝓛 at_mem run in
      walk_Meets 𝓛 (end X LX d) (stayed X LX d) (Goes-spent_ref 𝓛 2 (0 ∷ []) tt (plain (λ _. Row)), tt) c
      (WpFn 𝓤 H 𝓣.C 𝓣.Λ (fn' X LX d)) (WpFn-mono 𝓤 H 𝓛.laws 𝓣 (fn' X LX d))
      (walked 𝓛 (end X LX d) (stayed X LX d) c (WpFn 𝓤 H 𝓣.C 𝓣.Λ (fn' X LX d)) (λ κs. (mut_vals, tt))
      (λ κs. (mut_Tells (named 0) κs.0 Row, tt))
      (λ κs qs bounds a g are.
      let On : SProp 𝓤 = on_entry 𝓛 (end X LX d).signature κs qs a (mut_vals a.0, tt) in
      qed 𝓛 (raw On ∷ (given (κs.1.0 ⊑ X.lives) (‵ ftrue) ⊛ ‵ ftrue) ∷ []) ∵ move ! (1 ∷ []) $ split !
      $ learn ! (λ le. drop ! $ drop ! $
      by ! (walk 𝓣 next_met show_met κs.0 κs.1.0 qs.0 qs.1.0 bounds le a.0.ref_ptr.0 a.0.ref_ptr.1 a.0.ghost_name
      a.0.now))))

pub pull_spec : {M : Type 1} → stated.statement M
unfolding tables_of
pull_spec 𝓤 𝓛 𝓜 𝓡 wired Y LY d met =
    let 𝓣 : Tables 𝓤 𝓛.H = tables_of 𝓤 𝓛.H 𝓜 (tables 𝓤 𝓛.H 𝓜 𝓡 𝓡.env) in
    entered 𝓤 𝓛.H (triple_of 𝓛 (end Y LY d).signature (F.spec Y d 𝓛 𝓜.mem 𝓡.returns)) 𝓣.C 𝓣.Λ (#self (args Y LY d))
    (fn' Y LY d) (code.unfolded 𝓤 𝓛.H 𝓜 𝓡 wired (Y, tt) d)
    (meets Y LY d 𝓛 𝓜.mem 𝓡.returns 𝓣
    (next-met.met 𝓤 𝓛 𝓜 𝓡 (code.calls-cop1::fop::Fop::next 𝓡.env wired) Y LY d met)
    (show-met.met 𝓤 𝓛 𝓜 𝓡 (code.calls-cop1::fop::Fop::show 𝓡.env wired) Y LY d met))
