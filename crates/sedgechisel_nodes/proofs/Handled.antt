-- A handle is only a pointer, which represents a box that is kept or none: `of` and `into_kept` of
-- every handle. Assumes `Logic`.
use Prim.Native.Nat.{suc}
use Rattle.std.proofs.Common.{◌≡◌, ℕ, List, [], ◌∷◌, ◌++◌, refl, sym, subst}
use seplogic.Ra.Ura.{Ura}
use mir.Syntax.{Callee, Fn, Local, local, value_local, ty_ptr, Body, assign, aggregate, seq, return, rv_opd, copy}
use mir.Syntax.{place, field}
use mir.Val.{Val, vstruct, vcons, vnil, of_list, has_ty}
use base.Fml.{Fml, fsep}
use base.Logic.{SProp, ent, emp, id⊢}
use prog.Model.{Model}
use prog.Wp.{WpFn, Closed}
use types.Logic.{Logic}
use types.Kit.{Item, Goal, Seq, Step, step, ‵, raw, ◌⊛◌, ◌$◌, ◌∵◌, !, qed, by, move, keep, drop, split, fsplit, fsplit3}
use types.Kit.{fjoin, fpick, fpack, feq_i, feq_l, suffices, use0, rewrite}
use types.Run.{stop, fld, of_opd, no_more, and_then, returns, enter}
use types.ByLocal.{alloc_all, pass_all, free_all, look_at, get, get_in, sets}
use types.Part.{agg, sub, whole}
use contract.Monad.{fact, fact_i}
use contract.Running.{Running, MachineTables, tables}
use denote.Builtin.{RawPtr}
use denote.Exit.{Kept as Exits, yes, under, hidden}
use denote.Param.{layout}
use denote.RattleType.{RattleType, Valss, owns}
use denote.RawPtr.{Ptr, ptr_val}
use denote.Signature.{types_at, plain}
use denote.Steps.{nothing}
use denote.Struct.Field.{RawPtr-field, rows}
use denote.Struct.Owning.{Owning, row, shape}
use denote.Struct.Struct.{Struct, within, exits_of}
use denote.Struct.Values.{intos}
use denote.Triple.Clauses.{Ended, Clauses, closing}
use denote.Triple.Entry.{alive}
use denote.Triple.Spec.{Meets}
use denote.Triple.Walked.{Stays, stay_dropped, walk_of, Goes-dropped}
use Rattle.std.specs.Prelude.{Option}
use Rattle.std.specs.contracts.impls.GlobalAllocator.TheImpl.{ghosts}
use Rattle.std.proofs.cell.Inside.{Good, one}
use Rattle.std.proofs.raw_atomic.Walks.{proved_at, leaves}
use Rattle.std.proofs.ResultValues.{and_tt}
use Rattle.kept.specs.KeptBox.{kept_owns, heap_token}
use Rattle.kept.proofs.Values.{both, both_tt, ptr_good, kept_good, Kept, kept_opens, kept_closes}
use Rattle.std.specs.contracts.alloc.Global as heap
use Rattle.std.proofs.alloc.Global.TheLaws as heap_laws
use Rattle.nodes.specs.contracts.ground_node.Ground as ground_node
use Rattle.nodes.specs.contracts.spacecraft.Spacecraft as spacecraft_node
use Rattle.commander.specs.contracts.commander.Commander as commander_node
use Rattle.sedgechisel_nodes.specs.contracts.sim.link.Link as link
use Rattle.sedgechisel_nodes.specs.contracts.handles.GroundHandle as ground_handle
use Rattle.sedgechisel_nodes.specs.contracts.handles.SpacecraftHandle as spacecraft_handle
use Rattle.sedgechisel_nodes.specs.contracts.handles.SimHandle as link_handle
use Rattle.sedgechisel_nodes.specs.contracts.commanding.CommanderHandle as commander_handle

-- a handle's type: what it keeps, and its values as a pointer and what is kept there
pub record Handled : Type 2 where
  pub node : RattleType
  pub type : Owning
  pub parts : type.D → Ptr × Option node.Denot
  pub make : Ptr × Option node.Denot → type.D
  pub made : (x : Ptr × Option node.Denot) → parts (make x) ≡ x

abbrev pub handled : (node : RattleType) (T : Owning) (parts : T.D → Ptr × Option node.Denot)
    (make : Ptr × Option node.Denot → T.D) → ((x : Ptr × Option node.Denot) → parts (make x) ≡ x) → Handled
handled node T parts make made = record { node = node; type = T; parts = parts; make = make; made = made }

abbrev Z : RattleType
Z = heap.the_row

abbrev alone : Val → Val
alone v = vstruct (vcons v vnil)

module _ (h : Handled) where
  -- one pointer, which owns what is kept there
  abbrev pub the_type : Owning
  the_type = record h.type {
    args = [];
    types = [];
    parts = RawPtr-field ∷ [];
    as_values = λ d. ((h.parts d).0, tt);
    heap = λ d. kept_owns heap_token h.node (h.parts d).0 (h.parts d).1;
    exit =
        λ k. hidden
        (under (λ d. intos (RawPtr-field ∷ []) ((h.parts d).0, tt)) (exits_of k (rows (RawPtr-field ∷ []))));
  }

  abbrev pub Hr : RattleType
  Hr = row the_type

  abbrev pub Kr : RattleType
  Kr = Kept h.node Z heap_laws.the_row_laws ghosts

  -- the pointer is copied out of parameter 1, and cast
  abbrev cast : (at : ℕ) → Body → Body
  cast at rest = seq (assign (place at []) (rv_opd (copy (place 1 (field 0 ∷ [])))))
      (seq (assign (place (suc at) []) (rv_opd (copy (place at [])))) rest)

  abbrev value : RattleType → Local
  value T = local (layout T) value_local

  abbrev function_of : (params : ℕ) → List Local → Body → Fn
  function_of params locals body = record {
    lifetimes = 0;
    outlives = [];
    ty_params = [];
    givens = 0;
    params = params;
    locals = locals ++ (value RawPtr ∷ value RawPtr ∷ []);
    body = body;
  }

  abbrev pub of_function : Fn
  of_function = function_of 1 (value Hr ∷ value Kr ∷ [])
      (cast 2 (seq (assign (place 0 []) (aggregate (copy (place 3 []) ∷ []))) return))

  abbrev pub into_function : Fn
  into_function = function_of 2 (value Kr ∷ value Hr ∷ value Z ∷ [])
      (cast 3 (seq (assign (place 0 []) (aggregate (copy (place 4 []) ∷ copy (place 2 []) ∷ []))) return))

  -- what a value's parts own
  abbrev held : Ptr × Option h.node.Denot → List Val → Fml
  held x vs = fsep ((Struct (shape the_type)).own_val (x.0, tt) vs) (kept_owns heap_token h.node x.0 x.1)

  module _ {M : Type 1} {𝓤 : Ura M} {𝓛 : Logic 𝓤} {K : Type 0} {Γ : List (Item 𝓤)} {G : Goal 𝓤 𝓛.H} where
    handle_open : K → (d : h.type.D) (vs : List Val) → (vs ≡ alone (ptr_val (h.parts d).0) ∷ []
        → Seq K 𝓛 (‵ (kept_owns heap_token h.node (h.parts d).0 (h.parts d).1) ∷ Γ) G)
        → Seq K 𝓛 (‵ (Hr.own_val d vs) ∷ Γ) G
    handle_open t d vs k =
        fsplit t $ fpick t (λ vss. fsplit t $ feq_l t (λ ev. fsplit t $ feq_l t (λ ep. drop t $
        k (subst (λ (ps : List Val). vs ≡ vstruct (of_list (ps ++ [])) ∷ []) ep ev))))

    handle_in : K → (p : Ptr) (m : Option h.node.Denot) → Step K 𝓛
        (‵ (Hr.own_val (h.make (p, m)) (alone (ptr_val p) ∷ [])) ∷ Γ) G (‵ (kept_owns heap_token h.node p m) ∷ Γ) G
    handle_in t p m = step (λ s. let v : Val = alone (ptr_val p) in
        nothing t $ feq_i t (List Val) (ptr_val p ∷ []) (ptr_val p ∷ []) refl $ fjoin t $
        feq_i t (List Val) (v ∷ []) (v ∷ []) refl $ fjoin t $
        fpack t (Valss (RawPtr ∷ [])) (within (shape the_type) (p, tt) (v ∷ [])) (ptr_val p ∷ [], tt) $
        fjoin t $ rewrite t 0 (λ (x : Ptr × Option h.node.Denot). ‵ (held x (v ∷ []))) (sym (h.made (p, m))) refl $ s)

  abbrev pub of_ended : Exits → Ended
  of_ended k = record {
    signature = record {
      lifetimes = 0;
      outlives = [];
      params = plain (λ κs. Kr) ∷ [];
      result = plain (λ κs. Hr);
    };
    kept = (k, tt);
  }

  abbrev pub into_ended : Ended
  into_ended = record {
    signature = record {
      lifetimes = 0;
      outlives = [];
      params = plain (λ κs. Hr) ∷ plain (λ κs. Z) ∷ [];
      result = plain (λ κs. Kr);
    };
    kept = (yes, (yes, tt));
  }

  module _ {M : Type 1} (𝓤 : Ura M) (𝓛 : Logic 𝓤) where
    open 𝓛 use {H}

    abbrev pub of_clauses : (k : Exits) → Clauses 𝓤 (of_ended k)
    of_clauses k = λ κs a. record {
      ghost = Unit {0};
      requires = λ g. emp 𝓤;
      ensures = λ g r e. fact 𝓤 ((h.parts r).1 ≡ a.0.value);
    }

    abbrev pub into_clauses : Clauses 𝓤 into_ended
    into_clauses = λ κs a. record {
      ghost = Unit {0};
      requires = λ g. emp 𝓤;
      ensures = λ g r e. fact 𝓤 (r.value ≡ (h.parts a.0).1);
    }

    module _ (𝓜 : Model 𝓤 H) (𝓡 : Running 𝓤 H 𝓜) (name : Callee) where
      abbrev 𝓣 : MachineTables 𝓤 H 𝓜
      𝓣 = tables 𝓤 H 𝓜 𝓡 𝓡.env

      -- the function of this name, whose code this is, meets these clauses
      abbrev MeetsBy : Fn → (En : Ended) → Clauses 𝓤 En → Type 2
      MeetsBy fn En c = Closed 𝓤 H 𝓣.C 𝓣.Λ name fn → Meets 𝓛 En.signature (𝓣.C name) (closing 𝓛 En c)

      -- `of` keeps only the pointer
      pub of_meets : (k : Exits) → MeetsBy of_function (of_ended k) (of_clauses k)
      of_meets k closed =
          let L = heap_laws.the_row_laws in let En = of_ended k in let c = of_clauses k in let fn = of_function in
          let hs : Stays En.signature.params En.kept = (stay_dropped (plain (λ _. Kr)) k, tt) in
          proved_at 𝓛 En hs c 𝓜 𝓡 (Goes-dropped 𝓛 0 (plain (λ _. Kr)) k (λ κs x f. refl), tt) name fn closed
          (λ z are.
          let κs = z.0.0 in let qs = z.0.1 in let Post : Val → SProp 𝓤 = (walk_of 𝓛 En hs c).post z in
          let Run : List Val → SProp 𝓤 = λ ws. WpFn 𝓤 H 𝓣.C 𝓣.Λ fn ws Post in
          let v = z.0.3.0 in let d = h.make (v.at, v.value) in let Told : Type 0 = (h.parts d).1 ≡ v.value in
          qed 𝓛 ((raw (alive 𝓛 En.signature κs qs) ⊛
          ‵ (owns (types_at En.signature.params κs) z.0.3 z.0.4)) ∷ raw ((c κs z.0.3).requires z.1) ∷ []) ∵ split ! $
          move ! (1 ∷ []) $ fsplit ! $ kept_opens h.node Z L ghosts ! v z.0.4.0 (λ a ws ga.
          let w : Val = both (ptr_val v.at) a in let made : Val = alone (ptr_val v.at) in let gp = ptr_good v.at in
          let was : Good (layout Kr) w =
          (both_tt (has_ty ty_ptr (ptr_val v.at)) (has_ty (layout Z) a) gp.0 ga.0, (gp.1, (ga.1, tt))) in
          let good : Good (layout Hr) made = (and_tt (has_ty ty_ptr (ptr_val v.at)) gp.0, (gp.1, tt)) in
          keep ! (3 ∷ 0 ∷ 1 ∷ []) $ suffices ! (Run (w ∷ [])) (subst (λ (us : List Val). ent 𝓤 (Run (w ∷ []))
          (Run (us ++ []))) (sym ws) (id⊢ 𝓤 (Run (w ∷ [])))) $
          enter ! 𝓣.C 𝓣.Λ fn (w ∷ []) Post $ alloc_all ! (λ l. pass_all ! refl (was, tt) $
          sets ! (of_opd ! (get_in ! (fld ! refl (stop !)) (sub ! 0 refl (whole !)))) refl gp $
          sets ! (of_opd ! (get ! refl)) refl gp $ sets ! (agg ! (and_then ! (get ! refl) (no_more !))) refl good $
          move ! (1 ∷ []) $ handle_in ! v.at v.value $
          use0 𝓛 (raw (fact 𝓤 Told)) (fact_i 𝓤 Told (emp 𝓤) (λ i. (h.made (v.at, v.value) i).1)) $
          nothing ! $ nothing ! $ fjoin ! $
          returns ! (look_at ! 0 refl) $ free_all ! refl $ keep ! (3 ∷ 0 ∷ 2 ∷ 1 ∷ []) $
          by ! (leaves 𝓛 En hs c z made d (tt, tt) (tt, tt)))))

      -- `into_kept` adds the allocator to the pointer
      pub into_meets : MeetsBy into_function into_ended into_clauses
      into_meets closed =
          let L = heap_laws.the_row_laws in let En = into_ended in let c = into_clauses in let fn = into_function in
          let hs : Stays En.signature.params En.kept =
          (stay_dropped (plain (λ _. Hr)) yes, (stay_dropped (plain (λ _. Z)) yes, tt)) in
          proved_at 𝓛 En hs c 𝓜 𝓡 (
            Goes-dropped 𝓛 0 (plain (λ _. Hr)) yes (λ k x f. refl),
            (Goes-dropped 𝓛 0 (plain (λ _. Z)) yes (λ k x f. refl), tt),
          )
          name fn closed (λ z are.
          let κs = z.0.0 in let qs = z.0.1 in let Post : Val → SProp 𝓤 = (walk_of 𝓛 En hs c).post z in
          let Run : List Val → SProp 𝓤 = λ ws. WpFn 𝓤 H 𝓣.C 𝓣.Λ fn ws Post in
          let d = z.0.3.0 in let p = (h.parts d).0 in let m = (h.parts d).1 in let a = z.0.3.1.0 in
          let Told : Type 0 = m ≡ m in
          let g = one (layout Z) z.0.4.1.0 ((L.lawful 𝓛).typed a z.0.4.1.0 are.1.0) in
          qed 𝓛 ((raw (alive 𝓛 En.signature κs qs) ⊛
          ‵ (owns (types_at En.signature.params κs) z.0.3 z.0.4)) ∷ raw ((c κs z.0.3).requires z.1) ∷ []) ∵ split ! $
          move ! (1 ∷ []) $ fsplit3 ! $
          rewrite ! 1 (λ (us : List Val). ‵ (Z.own_val a us)) g.1 refl $ handle_open ! d z.0.4.0 (λ ws.
          -- [what is kept; the allocator; nothing; the tokens]
          let w : Val = alone (ptr_val p) in let made : Val = both (ptr_val p) g.0 in let gp = ptr_good p in
          let was : Good (layout Hr) w = (and_tt (has_ty ty_ptr (ptr_val p)) gp.0, (gp.1, tt)) in
          let good = kept_good h.node Z L ghosts p g.0 g.2 in
          keep ! (3 ∷ 0 ∷ 1 ∷ []) $ suffices ! (Run (w ∷ g.0 ∷ [])) (subst (λ (us : List Val).
          ent 𝓤 (Run (w ∷ g.0 ∷ [])) (Run us)) (sym (λ i. ws i ++ (g.1 i ++ []))) (id⊢ 𝓤 (Run (w ∷ g.0 ∷ [])))) $
          enter ! 𝓣.C 𝓣.Λ fn (w ∷ g.0 ∷ []) Post $ alloc_all ! (λ l. pass_all ! refl (was, (g.2, tt)) $
          sets ! (of_opd ! (get_in ! (fld ! refl (stop !)) (sub ! 0 refl (whole !)))) refl gp $
          sets ! (of_opd ! (get ! refl)) refl gp $
          sets ! (agg ! (and_then ! (get ! refl) (and_then ! (get ! refl) (no_more !)))) refl good $
          move ! (1 ∷ 2 ∷ []) $ kept_closes h.node Z L ghosts ! p g.0 a m $
          use0 𝓛 (raw (fact 𝓤 Told)) (fact_i 𝓤 Told (emp 𝓤) refl) $
          nothing ! $ nothing ! $ fjoin ! $ nothing ! $ fjoin ! $
          returns ! (look_at ! 0 refl) $ free_all ! refl $ keep ! (3 ∷ 0 ∷ 2 ∷ 1 ∷ []) $
          by ! (leaves 𝓛 En hs c z made (record { at = p; alloc = a; value = m }) (tt, (tt, tt)) (tt, (tt, tt))))))

-- The handles of the ground, of the spacecraft, of the simulated link and of the commander.

abbrev pub of_ground : Handled
of_ground = handled ground_node.the_row ground_handle.the_type
    (λ d. (d.at, d.value)) (λ x. record { at = x.0; value = x.1 }) (λ x. refl)

abbrev pub of_spacecraft : Handled
of_spacecraft = handled spacecraft_node.the_row spacecraft_handle.the_type
    (λ d. (d.at, d.value)) (λ x. record { at = x.0; value = x.1 }) (λ x. refl)

abbrev pub of_link : Handled
of_link = handled link.the_row link_handle.the_type
    (λ d. (d.at, d.value)) (λ x. record { at = x.0; value = x.1 }) (λ x. refl)

abbrev pub of_commander : Handled
of_commander = handled commander_node.the_row commander_handle.the_type
    (λ d. (d.at, d.value)) (λ x. record { at = x.0; value = x.1 }) (λ x. refl)
