-- The machine values of a box and of a `Kept`. Assumes `Logic`.
use Rattle.std.proofs.Common.{◌≡◌, ℕ, List, [], ◌∷◌, ◌++◌, refl, sym, ◌∙◌, subst}
use mathlib.Core.Bool.{Bool, true, false, ◌&&◌}
use lib.Dec.{T, lit<}
use seplogic.Ra.Ura.{Ura}
use mir.Syntax.{Ty, ty_ptr, impl, tnil, dnil}
use mir.Raw.{raw as bare}
use mir.Val.{Val, vstruct, vcons, vnil, of_list, has_ty, WT}
use base.Logic.{never, via, fst∗, snd∗, guard_i}
use types.Logic.{Logic, sem}
use contract.Monad.{fact_use}
use types.Kit.{Item, Goal, Seq, Step, step, ‵, given, ◌$◌, move, drop, use1, learn, rewrite, fsplit, fjoin, fpick}
use types.Kit.{fpack, feq_i, feq_l}
use denote.RattleType.{RattleType, Valss}
use denote.Builtin.{RawPtr}
use denote.Memory.{lone}
use denote.RawPtr.{Ptr, block_ptr, null_ptr, ptr_val, in_a_block, Testable}
use denote.Steps.{nothing}
use denote.Param.{layout}
use denote.Param.Laws.{Laws}
use denote.Struct.Struct.{within}
use denote.Struct.Owning.{shape}
use Rattle.std.specs.Prelude.{Option, Some, None, is_some}
use Rattle.std.specs.declared.alloc.Allocator.{Ghosts}
use Rattle.std.proofs.alloc.Calls.{Al, handle_tells}
use Rattle.std.proofs.cell.Inside.{Good}
use Rattle.std.proofs.BoxSteps.Form.{Bx, D, B, word, box_typed}
use Rattle.std.proofs.BoxSteps.Steps.{box_out, box_in}
use Rattle.std.specs.Box.Ownership.{box_owns}
use Rattle.std.specs.Ptr.{points_to}
use Rattle.std.specs.declared.alloc.Global.{Global}
use Rattle.std.specs.contracts.impls.GlobalAllocator.TheImpl.{ghosts}
use Rattle.std.proofs.GlobalToken.{dealloc_token-Testable}
use Rattle.kept.specs.KeptBox.{kept_owns}
use Rattle.kept.specs.contracts.Kept as kept

abbrev pub both : Val → Val → Val
both v w = vstruct (vcons v (vcons w vnil))

pub both_tt : (x y : Bool) → T x → T y → T (x && (y && true))
both_tt true true s t = tt
both_tt true false s t = absurd t
both_tt false y s t = absurd s

pub ptr_good : (p : Ptr) → Good ty_ptr (ptr_val p)
ptr_good (block_ptr b o) = (tt, tt)
ptr_good null_ptr = (tt, record { fits = lit< tt })

-- what is owned of a box is one machine value, of its type
module _ (E : Bx) {M : Type 1} {𝓤 : Ura M} {𝓛 : Logic 𝓤} {K : Type 0} {Γ : List (Item 𝓤)} {G : Goal 𝓤 𝓛.H} where
  pub box_tells : K → (d : D E) (vs : List Val) → ((w : Val) → vs ≡ w ∷ [] → Good (layout (B E)) w
      → Seq K 𝓛 (‵ ((B E).own_val d (w ∷ [])) ∷ Γ) G)
      → Seq K 𝓛 (‵ ((B E).own_val d vs) ∷ Γ) G
  box_tells t d vs k = box_out E t d vs (λ b o h e ws fits. box_in E t d b o d.value e refl $
      k (word E h b o) ws (box_typed E h b o fits))

module _ (R Z : RattleType) (L : Laws Z) (g : Ghosts Z.Denot) where
  abbrev pub Kept : RattleType
  Kept = kept.the_row R Z g

  abbrev handle : Al
  handle = record { row = Z; laws = L; g = g; d = impl [] tnil dnil; drops = impl [] tnil dnil }

  pub kept_good : (p : Ptr) (h : Val) → Good (layout Z) h
      → T (has_ty ty_ptr (ptr_val p) && (has_ty (layout Z) h && true)) × WT (both (ptr_val p) h)
  kept_good p h fits =
      let at = ptr_good p in
      (both_tt (has_ty ty_ptr (ptr_val p)) (has_ty (layout Z) h) at.0 fits.0, (at.1, (fits.1, tt)))

  module _ {M : Type 1} {𝓤 : Ura M} {𝓛 : Logic 𝓤} {K : Type 0} {Γ : List (Item 𝓤)} {G : Goal 𝓤 𝓛.H} where
    -- [what is kept; the handle]
    pub kept_opens : K → (d : Kept.Denot) (vs : List Val)
        → ((h : Val) → vs ≡ both (ptr_val d.at) h ∷ [] → Good (layout Z) h
        → Seq K 𝓛 (‵ (kept_owns (g.dealloc_token d.alloc) R d.at d.value) ∷ ‵ (Z.own_val d.alloc (h ∷ [])) ∷ Γ) G)
        → Seq K 𝓛 (‵ (Kept.own_val d vs) ∷ Γ) G
    kept_opens t d vs k =
        fsplit t $ fpick t (λ vss. fsplit t $ feq_l t (λ ev. fsplit t $ feq_l t (λ ep. fsplit t $
        handle_tells handle t d.alloc vss.1.0 (λ h eh fits. move t (1 ∷ []) $ drop t $ move t (1 ∷ []) $
        k h (ev ∙ (λ i. vstruct (of_list (ep i ++ (eh i ++ []))) ∷ [])) fits))))

    pub kept_closes : K → (p : Ptr) (h : Val) (a : Z.Denot) (m : Option R.Denot)
        → Step K 𝓛 (‵ (Kept.own_val (record { at = p; alloc = a; value = m }) (both (ptr_val p) h ∷ [])) ∷ Γ) G
        (‵ (kept_owns (g.dealloc_token a) R p m) ∷ ‵ (Z.own_val a (h ∷ [])) ∷ Γ) G
    kept_closes t p h a m = step (λ s. let w : Val = both (ptr_val p) h in
        nothing t $ move t (2 ∷ 0 ∷ []) $ fjoin t $ feq_i t (List Val) (ptr_val p ∷ []) (ptr_val p ∷ []) refl $
        fjoin t $
        feq_i t (List Val) (w ∷ []) (w ∷ []) refl $ fjoin t $
        fpack t (Valss (RawPtr ∷ Z ∷ [])) (within (shape (kept.the_type R Z g)) (p, (a, tt)) (w ∷ []))
        (ptr_val p ∷ [], (h ∷ [], tt)) $ fjoin t $ s)

module _ {M : Type 1} {𝓤 : Ura M} {𝓛 : Logic 𝓤} {K : Type 0} {Γ : List (Item 𝓤)} {G : Goal 𝓤 𝓛.H} where
  pub some_kept : K → (holds : Ty → Ptr → base.Fml.Fml) (R : RattleType) (p : Ptr) (m : Option R.Denot)
      → is_some m ≡ true → ((x : R.Denot) → m ≡ Some x → Seq K 𝓛 (‵ (box_owns holds R p x) ∷ Γ) G)
      → Seq K 𝓛 (‵ (kept_owns holds R p m) ∷ Γ) G
  some_kept t holds R p (Some x) is k = k x refl
  some_kept t holds R p None is k = absurd (subst T (sym is) tt)

  -- nothing is kept at null, and a box elsewhere; either may be compared with null
  pub kept_or : K → (a : Global) (R : RattleType) (p : Ptr) (m : Option R.Denot)
      → (p ≡ null_ptr → m ≡ None → Seq K 𝓛 Γ G)
      → ((b o : ℕ) (x : R.Denot) → p ≡ block_ptr b o → m ≡ Some x → Testable p →
      Seq K 𝓛 (‵ (box_owns (ghosts.dealloc_token a) R p x) ∷ Γ) G)
      → Seq K 𝓛 (‵ (kept_owns (ghosts.dealloc_token a) R p m) ∷ Γ) G
  kept_or t a R p None empty full = feq_l t (λ e. empty e refl)
  kept_or t a R p (Some x) empty full = let holds = ghosts.dealloc_token a in let whole = box_owns holds R p x in
      use1 𝓛 (given (Testable p) (‵ whole)) (fact_use 𝓤 (Testable p) (via 𝓤 _ (snd∗ 𝓤 (sem 𝓛 (points_to R p x))
      (sem 𝓛 (holds (bare (lone R.mir)) p)))
      (dealloc_token-Testable 𝓛 a (bare (lone R.mir)) p)) (guard_i 𝓤 (Testable p) (sem 𝓛 whole))) $ learn t (λ may.
      in_a_block t p (λ q. box_owns holds R q x) (fst∗ 𝓤 (never 𝓤) (sem 𝓛 (holds (bare (lone R.mir)) null_ptr)))
      (λ b o e.
      rewrite t 0 (λ (q : Ptr). ‵ (box_owns holds R q x)) (sym e) refl $ full b o x e refl may))
