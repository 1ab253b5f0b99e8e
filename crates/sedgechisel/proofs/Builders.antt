-- A builder of telemetry frames, with its packets in the caller's memory.
use Rattle.std.proofs.Common.{◌≡◌, ◌≤◌, ◌<◌, ℕ, ◌+◌, ◌-◌, min, Bool, true, false, List, [], ◌∷◌, ◌++◌, length}
use Rattle.std.proofs.Common.{take, drop, map, Option, Some, None, Ok, refl, sym, ap, subst, ◌∙◌, arith, inl, inr}
use Rattle.std.proofs.Common.{◌⊎◌, length-take, length-drop, length-append}
use Rattle.std.specs.Prelude.{◌==◌, ◌%◌, ◌||◌, nat_le, IfOk}
use Rattle.std.specs.List.{concat}
use Rattle.std.proofs.lemmas.Bool.Decides.{nat_tests}
use Rattle.std.proofs.lemmas.Bool.{and_parts, le-leb, le-ltb, leb-true, eqb-true, cases_lt}
use Rattle.std.proofs.lemmas.Grind.{common_steps}
use Rattle.std.proofs.lemmas.List.{drop_all, drop-drop, drop-append-le, map-append, drop-take, nil_from_length}
use Rattle.octets.proofs.Streams.{records_of-append, rest_of-append}
use Rattle.space_packet.specs.Laws.{extent_has_header}
use Rattle.space_packet.specs.Packets.{first_packet, packets_in, rest_in, is_packet}
use Rattle.space_packet.specs.Decoding.{extent_at}
use Rattle.space_packet.proofs.WholePackets.{one_more, one_more-by_len, no_more}
use Rattle.map_service.proofs.Groups.{all_of, packets-split}
use Rattle.map_service.proofs.Passage.{one-from}
use Rattle.tm_link.specs.Builder.{BuilderState, builder_fits, new_builder, is_to_send, after_queue, left_after}
use Rattle.tm_link.specs.Builder.{idle_after, after_send, with_next_count, build_step}
use Rattle.tm_link.proofs.Spelled.{passed_within, passed_beyond}
use Rattle.sedgechisel.specs.declared.telemetry_builder.KeptBuilder.{KeptBuilder}
use Rattle.sedgechisel.specs.Builders.{queued_at, built_at, pending_of, whole_of, has_numbers, is_builder, state_of}
use Rattle.sedgechisel.specs.Builders.{builder_described, are_whole, can_send}

-- ---- the numbers

pub record HasNumbers (b : KeptBuilder) (room : ℕ) : Type 0 where
  pub fits : builder_fits b.scid b.vcid b.length ≡ true
  pub idle_left : b.idle_left ≤ 6
  pub within : b.from + b.count ≤ room
  pub begun : b.begun ≤ b.count

pub numbers_are : (b : KeptBuilder) (room : ℕ) → has_numbers b room ≡ true → HasNumbers b room
numbers_are b room h = grind (arith, common_steps, h)

pub numbers_hold : (b : KeptBuilder) (room : ℕ) → HasNumbers b room → has_numbers b room ≡ true
numbers_hold b room h = grind (arith, common_steps, h)

-- octets that end with a packet
none_left : (xs : List ℕ) → (length xs == 0) ≡ true → xs ≡ []
none_left xs h = nil_from_length xs (eqb-true (length xs) 0 h)

pub described_by : (b : KeptBuilder) (memory : List ℕ) → HasNumbers b (length memory)
    → rest_in (whole_of b memory) ≡ [] → builder_described b memory ≡ Ok (state_of b memory)
described_by b memory h none = rw (numbers_hold b (length memory) h, none) refl

pub record IsBuilder (b : KeptBuilder) (memory : List ℕ) : Type 0 where
  pub numbers : HasNumbers b (length memory)
  pub none : rest_in (whole_of b memory) ≡ []

pub builder_is : (b : KeptBuilder) (memory : List ℕ) → is_builder b memory ≡ true → IsBuilder b memory
builder_is b memory h = grind (arith, common_steps, nil_from_length, h)

-- ---- a new builder

abbrev opened : ℕ → ℕ → ℕ → KeptBuilder
opened scid vcid total =
    record { from = 0; count = 0; begun = 0; scid = scid; length = total; vcid = vcid; next_count = 0; idle_left = 0 }

pub open_described : (scid vcid total : ℕ) (memory : List ℕ) → builder_fits scid vcid total ≡ true
    → builder_described (opened scid vcid total) memory ≡ Ok (new_builder scid vcid total)
open_described scid vcid total memory fits =
    let nothing = no_more [] refl in
    rw (fits, le-leb 0 (length memory) (omega arith), le-leb 0 (length memory - 0) (omega arith), nothing.0, nothing.1)
    refl

-- ---- a packet that is queued

queued_whole : (whole packet : List ℕ) → rest_in whole ≡ [] → is_packet packet ≡ true
    → (packets_in (whole ++ packet) ≡ packets_in whole ++ packet ∷ []) × (rest_in (whole ++ packet) ≡ [])
queued_whole whole packet none is =
    let one = one-from packet is in (
      rw (records_of-append 6 extent_at (omega arith) extent_has_header whole packet, none, one.1) refl,
      rw (rest_of-append 6 extent_at (omega arith) extent_has_header whole packet, none, one.0) refl,
    )

long_pending : (b : KeptBuilder) (memory : List ℕ) → HasNumbers b (length memory)
    → length (pending_of b memory) ≡ b.count
long_pending b memory is =
    omega (arith, is.within, length-take b.count (drop b.from memory), length-drop b.from memory)

queue_at : (b : KeptBuilder) (from : ℕ) (packet memory after : List ℕ) → IsBuilder b memory
    → is_to_send packet ≡ true
    → take (b.count + length packet) (drop from after) ≡ pending_of b memory ++ packet
    → from + (b.count + length packet) ≤ length after
    → builder_described (record b { from = from; count = b.count + length packet }) after
    ≡ Ok (after_queue (state_of b memory) packet)
queue_at b from packet memory after is send pending within =
    let new : KeptBuilder = record b { from = from; count = b.count + length packet } in
    let s : BuilderState = state_of b memory in
    let long : length (pending_of b memory) ≡ b.count = long_pending b memory is.numbers in
    let whole : whole_of new after ≡ whole_of b memory ++ packet =
    ap (drop b.begun) pending
    ∙ drop-append-le b.begun (pending_of b memory) packet (omega (arith, long, is.numbers.begun)) in
    let queued = queued_whole (whole_of b memory) packet is.none (and_parts _ _ send).0 in
    let numbers : HasNumbers new (length after) = record {
      fits = is.numbers.fits;
      idle_left = is.numbers.idle_left;
      within = within;
      begun = omega (arith, is.numbers.begun);
    } in
    let sizes : map length (packets_in (whole_of new after)) ≡ (after_queue s packet).sizes =
    ap (λ (xs : List ℕ). map length (packets_in xs)) whole ∙ ap (map length) queued.0
    ∙ map-append length (packets_in (whole_of b memory)) (packet ∷ []) in
    described_by new after numbers (ap rest_in whole ∙ queued.1)
    ∙ rw (sizes, pending) refl

pub queue_described : (b new : KeptBuilder) (packet memory after : List ℕ) → is_builder b memory ≡ true
    → is_to_send packet ≡ true
    → new ≡ record b { from = new.from; count = b.count + length packet }
    → pending_of new after ≡ pending_of b memory ++ packet
    → new.from + new.count ≤ length after
    → builder_described new after ≡ Ok (after_queue (state_of b memory) packet)
queue_described b new packet memory after is send same pending within =
    let count : new.count ≡ b.count + length packet = ap (λ (k : KeptBuilder). k.count) same in
    subst (λ (k : KeptBuilder). builder_described k after ≡ Ok (after_queue (state_of b memory) packet)) (sym same)
    (queue_at b new.from packet memory after (builder_is b memory is) send
    (ap (λ (n : ℕ). take n (drop new.from after)) (sym count) ∙ pending) (omega (arith, count, within)))

-- ---- octets that are sent

-- what is left of the packet that is begun then is at the beginning of these octets, followed by packets of these
-- sizes, and then by the other octets
record IsLeft (left : ℕ × List ℕ) (octets behind : List ℕ) : Type 0 where
  within : left.0 ≤ length octets
  rest : rest_in (drop left.0 octets) ≡ behind
  sizes : map length (packets_in (drop left.0 octets)) ≡ left.1

record IsFirst (p : List ℕ) (ps : List (List ℕ)) (whole : List ℕ) : Type 0 where
  within : length p ≤ length whole
  packets : packets_in (drop (length p) whole) ≡ ps
  rest : rest_in (drop (length p) whole) ≡ rest_in whole

first_by : (whole p : List ℕ) (ps : List (List ℕ)) (o : Option (List ℕ)) → first_packet whole ≡ o
    → packets_in whole ≡ p ∷ ps → IsFirst p ps whole
first_by whole p ps None e is = absurd (let no = (no_more whole e).0 in cc)
first_by whole p ps (Some q) e is =
    let more = one_more whole q e in
    let same : q ≡ p = cc in
    let behind : packets_in (drop (length q) whole) ≡ ps = cc in
    let all : whole ≡ (p ++ concat ps) ++ rest_in whole =
    (packets-split whole).whole ∙ ap (λ (qs : List (List ℕ)). concat qs ++ rest_in whole) is in
    record {
      within =
          omega (arith, ap length all, length-append (p ++ concat ps) (rest_in whole), length-append p (concat ps));
      packets = ap (λ (xs : List ℕ). packets_in (drop (length xs) whole)) (sym same) ∙ behind;
      rest = ap (λ (xs : List ℕ). rest_in (drop (length xs) whole)) (sym same) ∙ sym more.1;
    }

-- no packet follows what was begun
left_none : (begun room : ℕ) (pending : List ℕ) → begun ≤ length pending → packets_in (drop begun pending) ≡ []
    → rest_in (drop begun pending) ≡ []
    → IsLeft (begun - room, []) (drop room pending) []
left_none begun room pending le is none =
    let nothing : drop begun pending ≡ [] = all_of (drop begun pending) none ∙ ap concat is in
    let gone = drop_all (begun - room) (drop room pending) in
    grind (arith, gone, no_more [] refl, ap length nothing, length-drop begun pending, length-drop room pending)

-- no more was sent than was begun
left_within : (begun room : ℕ) (pending behind : List ℕ) (sizes : List ℕ) → begun ≤ length pending → room ≤ begun
    → map length (packets_in (drop begun pending)) ≡ sizes → rest_in (drop begun pending) ≡ behind
    → IsLeft (begun - room, sizes) (drop room pending) behind
left_within begun room pending behind sizes le few is rest =
    grind (arith, drop-drop (begun - room) room pending, length-drop room pending, le, few, is, rest)

-- the packets have as many octets as are sent, or nothing follows them
abbrev Reach : List ℕ → List (List ℕ) → ℕ → ℕ → Type 0
Reach behind packets begun room = (behind ≡ []) ⊎ (room ≤ begun + length (concat packets))

reach_further : (behind p : List ℕ) (ps : List (List ℕ)) (begun room : ℕ) → begun < room
    → Reach behind (p ∷ ps) begun room → Reach behind ps (length p) (room - begun)
reach_further behind p ps begun room lt (inl none) = inl none
reach_further behind p ps begun room lt (inr le) = inr (omega (arith, le, length-append p (concat ps)))

left_end : (begun room : ℕ) (pending behind : List ℕ) → begun < room → begun ≤ length pending
    → packets_in (drop begun pending) ≡ [] → rest_in (drop begun pending) ≡ behind → Reach behind [] begun room
    → IsLeft (begun - room, []) (drop room pending) behind
left_end begun room pending behind lt le is rest reach =
    grind (arith, left_none begun room pending le is, lt, rest, reach)

left_of : (packets : List (List ℕ)) (begun room : ℕ) (pending behind : List ℕ) → begun ≤ length pending
    → packets_in (drop begun pending) ≡ packets → rest_in (drop begun pending) ≡ behind
    → Reach behind packets begun room
    → IsLeft (left_after room begun (map length packets)) (drop room pending) behind
left_of [] begun room pending behind le is rest reach =
    elim (cases_lt begun room) [
      | inl lt ↦ left_end begun room pending behind lt le is rest reach
      | inr few ↦ left_within begun room pending behind [] le few (ap (map length) is) rest
    ]
left_of (p ∷ ps) begun room pending behind le is rest reach =
    elim (cases_lt begun room) [
      | inl lt ↦
          let whole : List ℕ = drop begun pending in
          let first : IsFirst p ps whole = first_by whole p ps (first_packet whole) refl is in
          let ahead : begun + (room - begun) ≡ room = omega arith in
          let same : drop (room - begun) whole ≡ drop room pending =
          drop-drop (room - begun) begun pending ∙ ap (λ (n : ℕ). drop n pending) ahead in
          rw (passed_beyond room begun (length p) (map length ps) lt, ← same)
          (left_of ps (length p) (room - begun) whole behind first.within first.packets (first.rest ∙ rest)
          (reach_further behind p ps begun room lt reach))
      | inr few ↦
          rw (passed_within room begun (map length (p ∷ ps)) few)
          (left_within begun room pending behind (map length (p ∷ ps)) le few (ap (map length) is) rest)
    ]

reach_by : (behind : List ℕ) (packets : List (List ℕ)) (begun room : ℕ) (none : Bool) → (length behind == 0) ≡ none
    → none || nat_le room (begun + length (concat packets)) ≡ true → Reach behind packets begun room
reach_by behind packets begun room true is h = inl (none_left behind is)
reach_by behind packets begun room false is h = inr (leb-true room (begun + length (concat packets)) h)

-- the packet that was begun is passed, and the next one begins
pub passed_one : (rest : List ℕ) (left room n : ℕ) → left < room → Some (take n rest) ≡ first_packet rest
    → n ≤ length rest
    → left_after room left (map length (packets_in rest))
    ≡ left_after (room - left) n (map length (packets_in (drop n rest)))
passed_one rest left room n lt first within =
    let long : length (take n rest) ≡ n = omega (arith, length-take n rest) in
    let sizes : List ℕ = map length (packets_in (drop n rest)) in
    rw ((one_more-by_len rest n first within).0, passed_beyond room left (length (take n rest)) sizes lt, long) refl

pub passed_none : (rest : List ℕ) (left room : ℕ) → left < room → first_packet rest ≡ None
    → (left_after room left (map length (packets_in rest))).0 ≡ 0
passed_none rest left room lt none =
    let gone : left - room ≡ 0 = omega arith in
    ap (λ (ps : List (List ℕ)). (left_after room left (map length ps)).0) (no_more rest none).0 ∙ gone

pub passed_all : (rest : List ℕ) (left room : ℕ) → room ≤ left
    → (left_after room left (map length (packets_in rest))).0 ≡ left - room
passed_all rest left room le =
    ap (λ (r : ℕ × List ℕ). r.0) (passed_within room left (map length (packets_in rest)) le)

-- the octets that are left, if this many of the memory's were passed
passed_octets : (count room from : ℕ) (memory : List ℕ)
    → take (count - min room count) (drop (from + min room count) memory) ≡ drop room (take count (drop from memory))
passed_octets count room from memory =
    let past = drop_all room (take count (drop from memory)) in
    grind (
      arith,
      past,
      length-take count (drop from memory),
      drop-drop room from memory,
      drop-take room (count - room) (drop from memory),
    )

-- a builder after a data field
abbrev sent_by : KeptBuilder → ℕ → ℕ → ℕ → ℕ → KeptBuilder
sent_by b room begun passed idle =
    record b { from = b.from + passed; count = b.count - passed; begun = begun; idle_left = idle }

pub sends : (b : KeptBuilder) (memory : List ℕ) → can_send b memory ≡ true
    → HasNumbers b (length memory)
    × (are_whole (whole_of b memory) b.begun (b.length - 12 - b.idle_left) ≡ true)
sends b memory h =
    let both = and_parts (has_numbers b (length memory)) _ h in (numbers_are b (length memory) both.0, both.1)

sent_pending : (b : KeptBuilder) (memory : List ℕ) (room begun passed idle : ℕ) → passed ≡ min room b.count
    → pending_of (sent_by b room begun passed idle) memory ≡ drop room (pending_of b memory)
sent_pending b memory room begun passed idle is = rw is (passed_octets b.count room b.from memory)

sent_whole : (b : KeptBuilder) (memory : List ℕ) (room begun passed idle : ℕ) (sizes : List ℕ)
    → passed ≡ min room b.count → begun ≡ (left_after room b.begun sizes).0
    → whole_of (sent_by b room begun passed idle) memory
    ≡ drop (left_after room b.begun sizes).0 (drop room (pending_of b memory))
sent_whole b memory room begun passed idle sizes passed-is begun-is =
    rw (sent_pending b memory room begun passed idle passed-is, begun-is) refl

sent_left : (b : KeptBuilder) (memory : List ℕ) (room : ℕ) → HasNumbers b (length memory)
    → are_whole (whole_of b memory) b.begun room ≡ true
    → IsLeft (left_after room b.begun (map length (packets_in (whole_of b memory)))) (drop room (pending_of b memory))
    (rest_in (whole_of b memory))
sent_left b memory room numbers whole =
    let long : length (pending_of b memory) ≡ b.count = long_pending b memory numbers in
    left_of (packets_in (whole_of b memory)) b.begun room (pending_of b memory) (rest_in (whole_of b memory))
    (omega (arith, long, numbers.begun)) refl refl
    (reach_by (rest_in (whole_of b memory)) (packets_in (whole_of b memory)) b.begun room _ refl whole)

pub send_state : (b : KeptBuilder) (memory : List ℕ) (room begun passed idle size : ℕ) → HasNumbers b (length memory)
    → are_whole (whole_of b memory) b.begun room ≡ true
    → room ≡ size - b.idle_left → passed ≡ min room b.count
    → begun ≡ (left_after room b.begun (map length (packets_in (whole_of b memory)))).0
    → idle ≡ idle_after size b.idle_left b.count
    → state_of (sent_by b room begun passed idle) memory ≡ after_send (state_of b memory) size
send_state b memory room begun passed idle size numbers whole room-is passed-is begun-is idle-is =
    let sizes : List ℕ = map length (packets_in (whole_of b memory)) in
    let left = sent_left b memory room numbers whole in
    rw (
      sent_whole b memory room begun passed idle sizes passed-is begun-is,
      left.sizes,
      sent_pending b memory room begun passed idle passed-is,
      begun-is,
      idle-is ∙ ap (idle_after size b.idle_left) (sym (long_pending b memory numbers)),
      room-is,
    ) refl

pub send_described : (b : KeptBuilder) (memory : List ℕ) (room begun passed idle size : ℕ) → is_builder b memory ≡ true
    → room ≡ size - b.idle_left → passed ≡ min room b.count
    → begun ≡ (left_after room b.begun (map length (packets_in (whole_of b memory)))).0
    → idle ≡ idle_after size b.idle_left b.count → idle ≤ 6
    → builder_described (sent_by b room begun passed idle) memory ≡ Ok (after_send (state_of b memory) size)
send_described b memory room begun passed idle size is room-is passed-is begun-is idle-is small =
    let new : KeptBuilder = sent_by b room begun passed idle in
    let old : IsBuilder b memory = builder_is b memory is in
    let sizes : List ℕ = map length (packets_in (whole_of b memory)) in
    let whole : are_whole (whole_of b memory) b.begun room ≡ true = rw old.none refl in
    let left = sent_left b memory room old.numbers whole in
    let numbers : HasNumbers new (length memory) = record {
      fits = old.numbers.fits;
      idle_left = small;
      within = omega (arith, old.numbers.within, passed-is);
      begun = omega (
        arith,
        left.within,
        begun-is,
        passed-is,
        long_pending b memory old.numbers,
        length-drop room (pending_of b memory),
      );
    } in
    described_by new memory numbers
    (ap rest_in (sent_whole b memory room begun passed idle sizes passed-is begun-is) ∙ left.rest ∙ old.none)
    ∙ ap (λ (t : BuilderState). Ok t)
    (send_state b memory room begun passed idle size old.numbers whole room-is passed-is begun-is idle-is)

-- ---- whole packets as far as a frame reaches

-- the packet that was begun is passed, and the next one is whole
pub whole_one : (rest : List ℕ) (left room n : ℕ) → left < room → Some (take n rest) ≡ first_packet rest
    → n ≤ length rest
    → are_whole (drop n rest) n (room - left) ≡ are_whole rest left room
whole_one rest left room n lt first within =
    let one = one_more-by_len rest n first within in
    let behind : List ℕ = concat (packets_in (drop n rest)) in
    let count : length (concat (packets_in rest)) ≡ n + length behind =
    omega (
      arith,
      ap (λ (ps : List (List ℕ)). length (concat ps)) one.0,
      length-append (take n rest) behind,
      length-take n rest,
    ) in
    rw (count, one.1) (grind (arith, nat_tests, lt))

pub whole_none : (rest : List ℕ) (left room : ℕ) → left < room → first_packet rest ≡ None
    → are_whole rest left room ≡ (length rest == 0)
whole_none rest left room lt none = let no = no_more rest none in rw (no.1, no.0) (grind (arith, nat_tests, lt))

pub whole_all : (rest : List ℕ) (left room : ℕ) → room ≤ left → are_whole rest left room ≡ true
whole_all rest left room le = grind (arith, nat_tests, le)

-- ---- the next frame's count

pub counted : (b : KeptBuilder) (memory : List ℕ) (s : BuilderState) → builder_described b memory ≡ Ok s
    → builder_described (record b { next_count = (b.next_count + 1) % 256 }) memory ≡ Ok (with_next_count s)
counted b memory s h = grind (arith, h)

-- ---- what a call answers

pub queue_taken : (b : KeptBuilder) (packet memory : List ℕ) (new : KeptBuilder) (after : List ℕ)
    → has_numbers b (length memory) ≡ true → is_to_send packet ≡ true → b.count + length packet ≤ length memory
    → builder_described new after ≡ Ok (after_queue (state_of b memory) packet)
    → IfOk (queued_at b packet memory) (λ s. builder_described new after ≡ Ok s)
queue_taken b packet memory new after is send room h = rw (is, send, le-ltb _ _ room) h

pub build_taken : (b : KeptBuilder) (ocf memory : List ℕ) (room : ℕ) → can_send b memory ≡ true
    → (length ocf == 4) ≡ true → b.length ≤ room
    → built_at b ocf memory room ≡ Ok (build_step (state_of b memory) ocf)
build_taken b ocf memory room is four long = rw (is, four, le-ltb _ _ long) refl
