-- Lemmas on calls that run an event, and on frames in transit.
use Rattle.simulated_link.proofs.Common.{◌≡◌, ◌≢◌, ◌≤◌, ◌<◌, ℕ, List, [], ◌∷◌, length, drop, refl, ap, sym, ◌∙◌, arith}
use Rattle.simulated_link.proofs.Common.{subst, Result, Ok, Err, octets_of, Event, SimFault, World, world_step}
use Rattle.std.proofs.Common.{IfErr, IfOk, IsOkUnless, slice_index_or, Vec, Global}
use Rattle.simulated_link.specs.declared.fault.SimFault.TheVariants.{Memory}
use Rattle.simulated_link.specs.declared.reply.Reply.{Reply}
use Rattle.simulated_link.specs.declared.world.World.TheInside.{Inside}
use Rattle.simulated_link.specs.Events.{LetsHappen, TakesNone}
use Rattle.simulated_link.specs.Replies.{ReplyView, reply_view}
use Rattle.simulated_link.specs.WorldFields.{world_of}

-- ---- the frames in transit in one direction

pub none_there : (way : List (Vec ℕ Global)) → length way ≤ 0 → octets_of way ≡ []
none_there [] le = refl
none_there (v ∷ vs) le = absurd (omega arith)

-- these octets are those of the first frame in transit
abbrev pub IsFirst : List ℕ → List (Vec ℕ Global) → Type 0
IsFirst octets way = octets_of way ≡ octets ∷ octets_of (drop 1 way)

pub first_there : (way : List (Vec ℕ Global)) (v : Vec ℕ Global) (octets : List ℕ) → 0 < length way
    → v ≡ slice_index_or way 0 v → octets ≡ v.items → IsFirst octets way
first_there [] v octets lt is same = absurd (omega arith)
first_there (x ∷ xs) v octets lt is same =
    ap (λ (o : List ℕ). o ∷ octets_of xs) (sym (same ∙ ap (λ (y : Vec ℕ Global). y.items) is))

-- ---- an event, where `now` is the world of these fields

abbrev lack : Result Reply SimFault
lack = Err Memory

lacking : (a : Result ReplyView SimFault) → IsOkUnless a Memory
    → IfErr a (λ e. lack ≡ Err e) × IfOk a (λ _. IsOkUnless lack Memory)
lacking (Ok reply) other = (tt, refl)
lacking (Err fault) other = (ap Err (sym other), tt)

module _ (s : Inside) (now : World) (view_is : world_of s ≡ now) (event : Event) where
  -- the event happens
  pub happens : (reply : Reply) (new : World) → (world_step (world_of s) event).answer ≡ Ok (reply_view reply)
      → new ≡ (world_step (world_of s) event).after → LetsHappen event now new (Ok reply)
  happens reply new answer after =
      subst (λ (w : World). LetsHappen event w new (Ok reply)) view_is (record {
        reply = answer;
        after = after;
        err = tt;
        refused = rw answer tt;
        memory = rw answer tt;
        none = λ none is. cc is;
      })

  -- memory runs out, and the event takes some
  pub lacks : (new : World) → new ≡ now → IsOkUnless (world_step (world_of s) event).answer Memory
      → (TakesNone (world_of s) event → ⊥) → LetsHappen event now new (Err Memory)
  lacks new same other takes =
      let so = lacking (world_step (world_of s) event).answer other in
      let none : TakesNone (world_of s) event → lack ≢ Err Memory = λ none. absurd (takes none) in
      subst (λ (w : World). LetsHappen event now w lack) (sym same)
      (subst (λ (w : World). LetsHappen event w w lack) view_is (assumption (so, none)))
