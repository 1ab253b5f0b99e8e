-- The stream of packets that frames carry, and the packets that arrive with some of the frames
-- (CCSDS 132.0-B-3, 4.1.4 and 4.2.2).
use Rattle.std.specs.Prelude.{◌≡◌, ◌<◌, ℕ, ◌+◌, ◌%◌, List, [], ◌∷◌, ◌++◌, length, take, drop, map}
use Rattle.std.specs.Prelude.{replicate, Bool, true, false, ◌&&◌, ◌==◌, if◌then◌else◌}
use Rattle.std.specs.List.{AllByRecursion, concat, list_all}
use Rattle.octets.specs.Records.{IsRecord}
use Rattle.space_packet.specs.Decoding.{extent_at}
use Rattle.tm_link.specs.Extractor.{without_idle}
use Rattle.tm_link.specs.Layout.{FrameView}
use Rattle.tm_link.specs.declared.frame.Pointer.{Pointer}
use Rattle.tm_link.specs.declared.frame.Pointer.TheVariants.{At, NoStart, OnlyIdle}

-- ---- places in the stream of these packets, idle ones among them

-- a packet starts at this place
abbrev pub IsStart : List (List ℕ) → ℕ → Type 0
IsStart all place =
    (before after : List (List ℕ)) × (p : List ℕ) × (all ≡ before ++ p ∷ after)
    × (length (concat before) ≡ place)

-- the octets before this place end at a packet's end
abbrev pub IsEnd : List (List ℕ) → ℕ → Type 0
IsEnd all place =
    (before after : List (List ℕ)) × (all ≡ before ++ after) × (length (concat before) ≡ place)

-- ---- the frames

-- the part of the stream that a frame carries
abbrev pub carried_by : Pointer → List ℕ → List ℕ
carried_by OnlyIdle payload = []
carried_by NoStart payload = payload
carried_by (At p) payload = payload

abbrev pub slice_of : FrameView → List ℕ
slice_of f = carried_by f.pointer f.payload

abbrev pub carried_octets : List FrameView → List ℕ
carried_octets frames = concat (map slice_of frames)

-- no packet starts within the first n octets from this place on
abbrev pub HasNoStart : List (List ℕ) → ℕ → ℕ → Type 0
HasNoStart all place n = (q : ℕ) → q < n → IsStart all (place + q) → ⊥

-- the pointer of a frame whose slice begins at this place is the first place in the slice where a
-- packet starts
abbrev pub IsPointed : List (List ℕ) → ℕ → Pointer → ℕ → Type 0
IsPointed all place OnlyIdle size = IsEnd all place
IsPointed all place NoStart size = HasNoStart all place size
IsPointed all place (At p) size = (p < size) × IsStart all (place + p) × HasNoStart all place p

-- The frames lay out the stream of the packets, except for the rest.
pub record IsLaidOut (packets : List (List ℕ)) (frames : List FrameView) (rest : List ℕ) : Type 0
  where
    -- the packets of the stream, with idle packets before, between and after them
    pub all : List (List ℕ)
    pub each : AllByRecursion (IsRecord 6 extent_at) all
    pub sent : without_idle all ≡ packets
    pub stream : carried_octets frames ++ rest ≡ concat all
    pub pointers : (before after : List FrameView) (f : FrameView) → frames ≡ before ++ f ∷ after
        → IsPointed all (length (carried_octets before)) f.pointer (length f.payload)
    pub counts : (before after : List FrameView) (f g : FrameView)
        → frames ≡ before ++ f ∷ g ∷ after
        → g.vc_count ≡ (f.vc_count + 1) % 256

-- ---- the packets that arrive

-- for each octet of the stream, whether it arrived, if some of the frames arrived
abbrev pub marks_of : List FrameView → List Bool → List Bool
marks_of [] chosen = []
marks_of (f ∷ frames) [] = []
marks_of (f ∷ frames) (c ∷ chosen) = replicate (length (slice_of f)) c ++ marks_of frames chosen

-- all of the next n octets arrived
abbrev pub are_received : ℕ → List Bool → Bool
are_received n marks = (length (take n marks) == n) && list_all (λ m. m) (take n marks)

-- the packets whose octets all arrived, idle ones among them
abbrev pub complete_packets : List (List ℕ) → List Bool → List (List ℕ)
complete_packets [] marks = []
complete_packets (p ∷ ps) marks =
    if are_received (length p) marks then p
    ∷ complete_packets ps (drop (length p) marks) else complete_packets ps (drop (length p) marks)

-- the packets whose octets all lie in the slices of the frames that arrived, in order
abbrev pub arrived_packets : List (List ℕ) → List FrameView → List Bool → List (List ℕ)
arrived_packets all frames chosen = without_idle (complete_packets all (marks_of frames chosen))

-- the frames that arrived
abbrev pub choice : List FrameView → List Bool → List FrameView
choice [] chosen = []
choice (f ∷ frames) [] = []
choice (f ∷ frames) (c ∷ chosen) = if c then f ∷ choice frames chosen else choice frames chosen

-- fewer than 256 frames are left out between two that arrived
abbrev pub IsClose : List Bool → Type 0
IsClose chosen =
    (before after : List Bool) (n : ℕ)
    → chosen ≡ before ++ true ∷ (replicate n false ++ true ∷ after) → n < 256
