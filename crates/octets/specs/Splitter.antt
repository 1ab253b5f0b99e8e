-- What a splitter contains, and what it returns.
use Rattle.std.specs.Prelude.{◌≡◌, ◌≤◌, ◌<◌, ◌-◌, ◌++◌, ◌↔◌, ℕ, List, [], length, take, drop}
use Rattle.std.specs.Prelude.{Option, Some, None, IsNone, Result, Ok, Err, IsOk, IsErr, IfErr, OnOk}
use Rattle.std.specs.Prelude.{OnErr}
use Rattle.std.specs.Borrow.{Bor}
use Rattle.octets.specs.declared.splitter.Splitter.{Splitter}
use Rattle.octets.specs.declared.wire.Wire as wire

-- the octets that were fed and not yet returned, and the fault of a refused extent, once one was
-- met
pub record Held (F : Type 0) : Type 0 where
  pub octets : List ℕ
  pub failure : Option F

abbrev pub held : {W F : Type 0} {layout : wire.Ghosts W F} → Splitter W F layout → Held F
held s = record { octets = drop s.start s.octets.items; failure = s.failed }

-- before anything is fed
abbrev pub nothing_held : {F : Type 0} → Held F
nothing_held = record { octets = []; failure = None }

-- the answer and the effect of a call that takes more octets; the only fault is out of memory, and
-- it changes nothing
pub record IsFed {T F : Type 0} (octets : List ℕ) (memory : F) (old new : Held F)
    (answer : Result T F) : Type 0 where
  pub ok : OnOk answer (new.octets ≡ old.octets ++ octets)
  pub err : OnErr answer (new.octets ≡ old.octets)
  pub fault : IfErr answer (λ e. e ≡ memory)
  pub failure : new.failure ≡ old.failure
  pub none : octets ≡ [] → IsOk answer

-- the answer of a call that checks whether the stream may end: the fault means that octets are
-- left, and that none of their extents was refused
pub record IsFinished {T F : Type 0} (cut_short : F) (h : Held F) (answer : Result T F)
    : Type 0 where
  pub truncated : IsErr answer ↔ ((0 < length h.octets) × IsNone h.failure)
  pub fault : IfErr answer (λ e. e ≡ cut_short)

-- the octets that are held after an answer
abbrev pub rest_after : {F : Type 0} → Option (Result (List ℕ) F) → List ℕ → List ℕ
rest_after None octets = octets
rest_after (Some (Err e)) octets = octets
rest_after (Some (Ok r)) octets = drop (length r) octets

-- the fault after an answer
abbrev pub failure_after : {F : Type 0} → Option (Result (List ℕ) F) → Option F → Option F
failure_after None f = f
failure_after (Some (Err e)) f = Some e
failure_after (Some (Ok r)) f = f

abbrev pub held_after : {F : Type 0} → Option (Result (List ℕ) F) → Held F → Held F
held_after answer h = record {
  octets = rest_after answer h.octets;
  failure = failure_after answer h.failure;
}

-- an answer without the place of its octets in memory
abbrev pub answer_view : {F : Type 0} → Option (Result (Bor (List ℕ)) F)
    → Option (Result (List ℕ) F)
answer_view None = None
answer_view (Some (Err e)) = Some (Err e)
answer_view (Some (Ok r)) = Some (Ok r.now)

-- the same, if the fault is lent too
abbrev pub lent_view : {F : Type 0} → Option (Result (Bor (List ℕ)) (Bor F))
    → Option (Result (List ℕ) F)
lent_view None = None
lent_view (Some (Err e)) = Some (Err e.now)
lent_view (Some (Ok r)) = Some (Ok r.now)

-- the same, if the octets are those between two places
abbrev pub place_view : {F : Type 0} → List ℕ → Option (Result (ℕ × ℕ) F)
    → Option (Result (List ℕ) F)
place_view octets None = None
place_view octets (Some (Err e)) = Some (Err e)
place_view octets (Some (Ok p)) = Some (Ok (take (p.1 - p.0) (drop p.0 octets)))

abbrev pub IsWithin : {F : Type 0} → List ℕ → Option (Result (ℕ × ℕ) F) → Type 0
IsWithin octets None = Unit {0}
IsWithin octets (Some (Err e)) = Unit {0}
IsWithin octets (Some (Ok p)) = (p.0 ≤ p.1) × (p.1 ≤ length octets)
