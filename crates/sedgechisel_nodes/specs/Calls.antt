-- What calls answer and write, and what is taken out into the caller's room.
use Rattle.std.specs.Prelude.{◌≡◌, ◌≢◌, ℕ, ◌⊎◌, Option, Some, None, option_map, IfSome, List, ◌++◌}
use Rattle.std.specs.Prelude.{drop, length, nat_lt, if◌then◌else◌}
use Rattle.std.specs.Option.{unwrap_or}
use Rattle.nodes.specs.declared.config.Config.{Config}
use Rattle.nodes.specs.Parameters.{IsConfig}
use Rattle.nodes.specs.Packets.{PacketOn}

-- The return value and the final state of calls, whatever the handle holds.

-- the handle holds nothing
abbrev pub closed : ℕ
closed = 255

-- what opening returns, and what the handle holds before and after it: 254 if a number is out of
-- range, otherwise 0, or 6 if memory ran out
pub record IsOpenedAs {S : Type 0} (InRange : Type 0) (made : S) (old new : Option S) (answer : ℕ)
    : Type 0 where
  pub sound : InRange → (answer ≡ 0) ⊎ (answer ≡ 6)
  pub unsound : (InRange → ⊥) → answer ≡ 254
  pub opened : answer ≡ 0 → new ≡ Some made
  pub unchanged : answer ≢ 0 → new ≡ old

-- the same for what is built only from parameters
abbrev pub IsOpened : {S : Type 0} → Config → (Config → S) → Option S → Option S → ℕ → Type 0
IsOpened c opened_by old new answer = IsOpenedAs (IsConfig c) (opened_by c) old new answer

-- a value is written if there is one; the answer is 253 if there is none
abbrev pub IsWritten : {V : Type 0} → Option V → ℕ → V → V → Type 0
IsWritten None answer v v' = (answer ≡ 253) × (v' ≡ v)
IsWritten (Some w) answer v v' = (answer ≡ 0) × (v' ≡ w)

-- the return value and the output of a call that reads from what the handle holds; the call changes
-- nothing in it
pub record IsRead {S V : Type 0} (read : S → Option V) (old new : Option S) (answer : ℕ) (v v' : V)
    : Type 0 where
  pub none : old ≡ None → (answer ≡ closed) × (v' ≡ v)
  pub answer_is : IfSome old (λ s. IsWritten (read s) answer v v')
  pub unchanged : new ≡ old

-- the return value and the output of a call that takes a step if there is a value to write
pub record IsTold {S V : Type 0} (said : S → Option V) (after : S → S) (old new : Option S)
    (answer : ℕ) (v v' : V) : Type 0 where
  pub none : old ≡ None → answer ≡ closed
  pub answer_is : IfSome old (λ s. IsWritten (said s) answer v v')
  pub after_is : answer ≡ 0 → new ≡ option_map after old
  pub unchanged : answer ≢ 0 → (new ≡ old) × (v' ≡ v)

-- the return value and the output of a call that takes a step of what the handle holds: 0, or 6 if
-- memory ran out in a step that needs some
pub record IsStep {S V : Type 0} (TakesNone : S → Type 0) (after : S → S) (said : S → V)
    (old new : Option S) (answer : ℕ) (v v' : V) : Type 0 where
  pub none : old ≡ None → answer ≡ closed
  pub answer_is : IfSome old (λ s. (answer ≡ 0) ⊎ (answer ≡ 6))
  pub takes_none : IfSome old (λ s. TakesNone s → answer ≡ 0)
  pub after_is : answer ≡ 0 → new ≡ option_map after old
  pub said_is : answer ≡ 0 → IfSome old (λ s. v' ≡ said s)
  pub unchanged : answer ≢ 0 → (new ≡ old) × (v' ≡ v)

-- What is written to the caller's buffer.

-- the answer if this many octets are next, or none: 252 if the buffer is too short, otherwise 0
abbrev pub room_answer : Option ℕ → ℕ → ℕ
room_answer None room = 0
room_answer (Some count) room = if nat_lt room count then 252 else 0

-- the answer to taking the octets that are next, if any
abbrev pub next_answer : Option (List ℕ) → ℕ → ℕ
next_answer octets room = room_answer (option_map length octets) room

-- the answer to taking an entry: 253 if it does not exist
abbrev pub entry_answer : Option (List ℕ) → ℕ → ℕ
entry_answer None room = 253
entry_answer (Some octets) room = room_answer (Some (length octets)) room

-- how many octets are next, 0 for none
abbrev pub count_of : Option (List ℕ) → ℕ
count_of None = 0
count_of (Some octets) = length octets

-- octets are written: their number, and the octets at the beginning of the buffer; if there are
-- none, only the number 0
abbrev pub IsHandedOut : Option (List ℕ) → ℕ → List ℕ → List ℕ → Type 0
IsHandedOut None count out out' = (count ≡ 0) × (out' ≡ out)
IsHandedOut (Some octets) count out out' =
    (count ≡ length octets) × (out' ≡ octets ++ drop (length octets) out)

-- the return value and the output of a call that writes octets of what the handle holds
pub record IsHanding {S : Type 0} (answer_of : Option (List ℕ) → ℕ → ℕ)
    (octets : S → Option (List ℕ)) (old : Option S) (answer count count' : ℕ) (out out' : List ℕ)
    : Type 0 where
  pub none : old ≡ None → answer ≡ closed
  pub answer_is : IfSome old (λ s. answer ≡ answer_of (octets s) (length out))
  pub handed_out : answer ≡ 0 → IfSome old (λ s. IsHandedOut (octets s) count' out out')
  pub unwritten : answer ≢ 0 → (count' ≡ count) × (out' ≡ out)

-- the return value and the output of a call that sends a frame of what the handle holds, if there
-- is one: the size of the frame, the buffer with the frame over its beginning, and what the handle
-- holds afterwards
pub record IsSent {S : Type 0} (size : S → Option ℕ) (over : S → List ℕ → List ℕ) (after : S → S)
    (old new : Option S) (answer count count' : ℕ) (out out' : List ℕ) : Type 0 where
  pub none : old ≡ None → answer ≡ closed
  pub answer_is : IfSome old (λ s. answer ≡ room_answer (size s) (length out))
  pub after_is : answer ≡ 0 → new ≡ option_map after old
  pub counted : answer ≡ 0 → IfSome old (λ s. count' ≡ unwrap_or (size s) 0)
  pub frame : answer ≡ 0 → IfSome old (λ s. out' ≡ over s out)
  pub unchanged : answer ≢ 0 → (new ≡ old) × (count' ≡ count) × (out' ≡ out)

abbrev pub octets_on : Option PacketOn → Option (List ℕ)
octets_on packet = option_map (λ p. p.octets) packet

-- the MAP is written if there is a packet
abbrev pub map_left : Option PacketOn → ℕ → ℕ
map_left None on_map = on_map
map_left (Some p) on_map = p.on_map
