-- `end` discards null.
use Rattle.std.proofs.Common.{◌≡◌, List, [], ◌∷◌, ◌++◌, refl, sym, subst}
use mir.Syntax.{a_type}
use mir.Val.{Val, vunit}
use mir.MapTy.{inst_fn}
use base.Logic.{SProp, ent, emp, id⊢}
use prog.Wp.{WpFn}
use types.Kit.{‵, raw, ◌⊛◌, ◌$◌, ◌∵◌, !, qed, by, move, keep, drop, split, fsplit, fjoin, feq_i, suffices}
use types.Run.{of_opd, unit_lit, returns, enter}
use types.ByLocal.{alloc_all, pass_all, free_all, look_at, sets}
use contract.Running.{tables}
use denote.Exit.{no}
use denote.RattleType.{RattleType, owns}
use denote.Signature.{types_at, plain}
use denote.Param.{param, layouts}
use denote.RawPtr.{ptr_val}
use denote.Steps.{nothing}
use denote.Triple.Entry.{alive}
use denote.Triple.Walked.{Stays, stay_dropped, walk_of, Goes-dropped}
use Rattle.std.specs.contracts.alloc.Global as heap
use Rattle.std.proofs.alloc.Global.TheLaws as heap_laws
use Rattle.std.specs.contracts.impls.GlobalAllocator.TheImpl.{ghosts}
use Rattle.std.proofs.raw_atomic.Walks.{proved_at, leaves}
use Rattle.kept.proofs.Values.{both, kept_good, Kept, kept_opens}
use Rattle.kept.specs.contracts.Kept+T+Global.end as f
use Rattle.kept.proofs.Kept+T+Global.end.Statement.{statement}
use Rattle.kept.proofs.Kept+T+Global.end.Code as code

pub end_spec : {M : Type 1} → statement M
end_spec 𝓤 𝓛 𝓜 𝓡 wired T L =
    let H = 𝓛.H in let 𝓣 = tables 𝓤 H 𝓜 𝓡 𝓡.env in let R : RattleType = param 0 T in
    let Z : RattleType = heap.the_row in let LZ = heap_laws.the_row_laws in
    let Kr : RattleType = Kept R Z LZ ghosts in let En = f.ended T in let c = f.clauses T 𝓛 𝓜.mem 𝓡.returns in
    let at = layouts (a_type ∷ []) (T, tt) in let fn = inst_fn at code.function in
    let hs : Stays En.signature.params En.kept = (stay_dropped (plain (λ _. Kr)) no, tt) in
    proved_at 𝓛 En hs c 𝓜 𝓡 (Goes-dropped 𝓛 1 (plain (λ _. Kr)) no (λ κs x w. refl), tt) (f.Key.name at) fn
    (code.unfolded 𝓤 H 𝓜 𝓡 wired (T, tt)) (λ z are.
    let κs = z.0.0 in let qs = z.0.1 in let v = z.0.3.0 in let p = v.at in
    let Post : Val → SProp 𝓤 = (walk_of 𝓛 En hs c).post z in
    let Run : List Val → SProp 𝓤 = λ ws. WpFn 𝓤 H 𝓣.C 𝓣.Λ fn ws Post in
    qed 𝓛 ((raw (alive 𝓛 En.signature κs qs) ⊛
    ‵ (owns (types_at En.signature.params κs) z.0.3 z.0.4)) ∷ raw ((c κs z.0.3).requires z.1) ∷ []) ∵
    split ! $ move ! (1 ∷ []) $ fsplit ! $ kept_opens R Z LZ ghosts ! v z.0.4.0 (λ h ws fits.
    let w : Val = both (ptr_val p) h in let typed = kept_good R Z LZ ghosts p h fits in
    drop ! $ drop ! $ suffices ! (Run (w ∷ [])) (subst (λ (us : List Val). ent 𝓤 (Run (w ∷ [])) (Run us))
    (sym (λ i. ws i ++ [])) (id⊢ 𝓤 (Run (w ∷ [])))) $
    enter ! 𝓣.C 𝓣.Λ fn (w ∷ []) Post $ alloc_all ! (λ l. pass_all ! refl (typed, tt) $
    sets ! (of_opd ! (unit_lit !)) refl (tt, tt) $ nothing ! $
    feq_i ! (List Val) (vunit ∷ []) (vunit ∷ []) refl $ nothing ! $ nothing ! $ fjoin ! $
    returns ! (look_at ! 0 refl) $ free_all ! refl $ keep ! (4 ∷ 0 ∷ 1 ∷ 2 ∷ []) $
    by ! (leaves 𝓛 En hs c z vunit tt (tt, tt) (tt, tt)))))
