-- Functions that make a struct of ghost fields only, and do nothing else. A proof states what the struct is,
-- and each function meets the clauses that hold of this struct. Assumes `Logic`.
use Rattle.std.proofs.Common.{List, [], ◌∷◌, refl}
use Rattle.std.proofs.raw_atomic.Walks.{proved, leaves}
use Prim.Native.Nat.{ℕ}
use seplogic.Ra.Ura.{Ura}
use mir.Syntax.{Callee, Fn, Sym, named, imm, Ty, ty_struct, ty_ref, tnil, Local, local, value_local, place, aggregate}
use mir.Syntax.{assign, seq, return}
use mir.Val.{Val, vstruct, vnil}
use base.Logic.{SProp, ent, id⊢, emp}
use base.Fml.{Fml, ftrue, fsep}
use prog.Model.{Model}
use prog.Wp.{Closed}
use contract.Lifetimes.{Lfts, Outlives}
use contract.Running.{Running, MachineTables, tables}
use types.Logic.{Logic, sem}
use types.Kit.{‵, raw, ◌⊛◌, ◌$◌, ◌∵◌, !, qed, use0, move, keep, split, fjoin, fpack, feq_i, suffices, done}
use types.Part.{agg}
use types.Run.{enter, returns, no_more}
use types.ByLocal.{alloc_all, pass_all, free_all, look_at, sets}
use denote.Exit.{yes}
use denote.RattleType.{RattleType, Valss, owns}
use denote.Ref.{shr_vals, shr_Tells}
use denote.Signature.{Slot, shr_ref_to, type_at, types_at}
use denote.Steps.{nothing}
use denote.Struct.Struct.{Struct, within}
use denote.Triple.Clauses.{Clauses, Ended, Lasts, at_exit, closing}
use denote.Triple.Entry.{Args, Res, alive}
use denote.Triple.Spec.{Meets}
use denote.Triple.Walked.{Stays, Fit, has_of, stay_dropped, walk_of, Goes-dropped}

abbrev none : Val
none = vstruct vnil

abbrev fieldless : RattleType
fieldless = Struct (record { name = []; args = []; types = []; fields = [] })

-- the code of a function of k parameters
abbrev making : ℕ → List (ℕ × ℕ) → Sym → ℕ → List Local → Fn
making n os ν k params = record {
  lifetimes = n;
  outlives = os;
  ty_params = [];
  givens = 0;
  params = k;
  locals = local (ty_struct ν tnil) value_local ∷ params;
  body = seq (assign (place 0 []) (aggregate [])) return;
}

abbrev reference : ℕ → Ty → Local
reference j τ = local (ty_ref (named j) imm τ) value_local

-- what is stated of a function with no parameters, and of one with two references
abbrev of_none : Slot 0 → Ended
of_none r = record {
  signature = record { lifetimes = 0; outlives = []; params = []; result = r };
  kept = tt;
}

abbrev of_two : List (Outlives 3) → Slot 3 → Slot 3 → Slot 3 → Ended
of_two os s t r = record {
  signature = record {
    lifetimes = 3;
    outlives = os;
    params = shr_ref_to (0 ∷ []) tt s ∷ shr_ref_to (1 ∷ []) tt t ∷ [];
    result = r;
  };
  kept = (yes, (yes, tt));
}

module _ {M : Type 1} {𝓤 : Ura M} (𝓛 : Logic 𝓤) where
  open 𝓛 use {H}

  -- what such a struct owns needs nothing
  pub owned : ent 𝓤 (emp 𝓤) (sem 𝓛 (fsep (fieldless.own_val tt (none ∷ [])) ftrue))
  owned =
      qed 𝓛 [] ∵ nothing ! $ nothing ! $ feq_i ! (List Val) (none ∷ []) (none ∷ []) refl $ fjoin ! $
      fpack ! (Valss []) (within (record { name = []; args = []; types = []; fields = [] }) tt (none ∷ [])) tt $
      fjoin ! $ done !

  -- from what holds at the call: what the call leaves, if the struct is as stated
  module _ (T : Ended) (hs : Stays T.signature.params T.kept) (c : Clauses 𝓤 T) (y : (walk_of 𝓛 T hs c).Ghost) where
    abbrev has : (ws : Lasts T y.0.0 y.0.3) → Fml
    has ws = has_of y.0.0 T.signature.params T.kept hs y.0.3 ws y.0.4

    abbrev own : Res T.signature y.0.0 → Fml
    own told = (type_at T.signature.result y.0.0).own_val told (none ∷ [])

    abbrev says : Res T.signature y.0.0 → Lasts T y.0.0 y.0.3 → SProp 𝓤
    says told ws = (c y.0.0 y.0.3).ensures y.1 told (at_exit T y.0.0 y.0.3 ws)

    ends : (told : Res T.signature y.0.0) (ws : Lasts T y.0.0 y.0.3) → Fit T hs y.0.0 y.0.3 ws
        → ent 𝓤 (emp 𝓤) (sem 𝓛 (has ws)) → ent 𝓤 (emp 𝓤) (sem 𝓛 (own told)) → ent 𝓤 (emp 𝓤) (says told ws)
        → ent 𝓤 ((walk_of 𝓛 T hs c).pre y) ((walk_of 𝓛 T hs c).post y none)
    ends told ws fit had owned holds =
        qed 𝓛 ((raw (alive 𝓛 T.signature y.0.0 y.0.1) ⊛ ‵ (owns (types_at T.signature.params y.0.0) y.0.3 y.0.4))
        ∷ raw ((c y.0.0 y.0.3).requires y.1) ∷ []) ∵
        suffices ! _ (leaves 𝓛 T hs c y none told ws fit) $ keep ! (0 ∷ []) $ split ! $ keep ! (0 ∷ []) $
        use0 𝓛 (raw (says told ws)) holds $ use0 𝓛 (‵ (own told)) owned $ use0 𝓛 (‵ (has ws)) had $
        move ! (3 ∷ []) $ done !

  module _ (𝓜 : Model 𝓤 H) (𝓡 : Running 𝓤 H 𝓜) where
    abbrev 𝓣 : MachineTables 𝓤 H 𝓜
    𝓣 = tables 𝓤 H 𝓜 𝓡 𝓡.env

    -- a function with no parameters
    pub makes : {k : Callee} (ν : Sym) (r : Slot 0) (c : Clauses 𝓤 (of_none r)) (told : Res (of_none r).signature tt)
        → ent 𝓤 (emp 𝓤) (sem 𝓛 ((type_at r tt).own_val told (none ∷ [])))
        → ((g : (c tt tt).ghost) → ent 𝓤 (emp 𝓤) ((c tt tt).ensures g told tt))
        → Closed 𝓤 H 𝓣.C 𝓣.Λ k (making 0 [] ν 0 [])
        → Meets 𝓛 (of_none r).signature (𝓣.C k) (closing 𝓛 (of_none r) c)
    makes {k} ν r c told is holds closed =
        let T = of_none r in
        proved 𝓛 T tt c 𝓜 𝓡 tt k (making 0 [] ν 0 []) closed (λ κs. tt) (λ κs. tt) (λ κs qs bounds a g are.
        let y : (walk_of 𝓛 T tt c).Ghost = ((κs, qs, bounds, a, tt), g) in
        qed 𝓛 (raw ((walk_of 𝓛 T tt c).pre y) ∷ []) ∵
        enter ! _ _ _ _ _ $ alloc_all ! (λ l. pass_all ! refl tt $
        sets ! (agg ! (no_more !)) refl (tt, tt) $ returns ! (look_at ! 0 refl) $ free_all ! refl $
        suffices ! _ (ends T tt c y told tt tt (id⊢ 𝓤 (emp 𝓤)) is (holds g)) $ done !))

    -- a function with two references
    pub makes_from : {k : Callee} (ν : Sym) (σ τ : Ty) (bounds : List (ℕ × ℕ)) {os : List (Outlives 3)} (s t r : Slot 3)
        (c : Clauses 𝓤 (of_two os s t r))
        (told : (κs : Lfts 3) (a : Args (of_two os s t r).signature κs) → Res (of_two os s t r).signature κs)
        → ((κs : Lfts 3) (a : Args (of_two os s t r).signature κs)
        → ent 𝓤 (emp 𝓤) (sem 𝓛 ((type_at r κs).own_val (told κs a) (none ∷ []))))
        → ((κs : Lfts 3) (a : Args (of_two os s t r).signature κs) (g : (c κs a).ghost)
        → ent 𝓤 (emp 𝓤) ((c κs a).ensures g (told κs a) (at_exit (of_two os s t r) κs a (tt, (tt, tt)))))
        → Closed 𝓤 H 𝓣.C 𝓣.Λ k (making 3 bounds ν 2 (reference 0 σ ∷ reference 1 τ ∷ []))
        → Meets 𝓛 (of_two os s t r).signature (𝓣.C k) (closing 𝓛 (of_two os s t r) c)
    makes_from {k} ν σ τ bounds {os} s t r c told is holds closed =
        let T = of_two os s t r in
        let s' = shr_ref_to (0 ∷ []) tt s in
        let t' = shr_ref_to (1 ∷ []) tt t in
        let hs : Stays T.signature.params T.kept = (stay_dropped s' yes, (stay_dropped t' yes, tt)) in
        proved 𝓛 T hs c 𝓜 𝓡
        (Goes-dropped 𝓛 3 s' yes (λ κs x f. refl), (Goes-dropped 𝓛 3 t' yes (λ κs x f. refl), tt))
        k (making 3 bounds ν 2 (reference 0 σ ∷ reference 1 τ ∷ [])) closed (λ κs. (shr_vals, (shr_vals, tt)))
        (λ κs. (shr_Tells (named 0) κs.0 (type_at s κs), (shr_Tells (named 1) κs.1.0 (type_at t κs), tt)))
        (λ κs qs bounds a g are.
        let y : (walk_of 𝓛 T hs c).Ghost = ((κs, qs, bounds, a, (shr_vals a.0, (shr_vals a.1.0, tt))), g) in
        let no_part = qed 𝓛 [] ∵ nothing ! $ nothing ! $ fjoin ! $ nothing ! $ fjoin ! $ done ! in
        qed 𝓛 (raw ((walk_of 𝓛 T hs c).pre y) ∷ []) ∵
        enter ! _ _ _ _ _ $ alloc_all ! (λ l. pass_all ! refl ((tt, tt), ((tt, tt), tt)) $
        sets ! (agg ! (no_more !)) refl (tt, tt) $ returns ! (look_at ! 0 refl) $ free_all ! refl $
        suffices ! _ (ends T hs c y (told κs a) (tt, (tt, tt)) (tt, (tt, tt)) no_part (is κs a) (holds κs a g)) $
        done !))
