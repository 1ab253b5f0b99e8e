-- A sequence of frames that an extractor takes, some of the frames of a stream.
use Rattle.std.specs.Prelude.{◌≡◌, ◌<◌, ℕ, List, [], ◌∷◌, ◌++◌, length, Bool, true}
use Rattle.std.specs.List.{AllByRecursion}
use Rattle.tm_link.specs.Extractor.{ExtractorState, new_extractor, extract_step}
use Rattle.tm_link.specs.Layout.{FrameView}
use Rattle.tm_link.specs.Stream.{IsLaidOut, IsClose, choice, arrived_packets}

-- a frame's count is an octet, and its data field is not empty
pub record IsInRange (f : FrameView) : Type 0 where
  pub count : f.vc_count < 256
  pub some : 0 < length f.payload

-- the packets that are delivered, in order
abbrev pub all_extracted : ExtractorState → List FrameView → List (List ℕ)
all_extracted s [] = []
all_extracted s (f ∷ frames) =
    (extract_step s f).packets ++ all_extracted (extract_step s f).after frames

-- the state of the extractor after these frames
abbrev pub state_after : ExtractorState → List FrameView → ExtractorState
state_after s [] = s
state_after s (f ∷ frames) = state_after (extract_step s f).after frames

-- The flags choose some of the frames before this frame. Fewer than 256 frames are left out between
-- two that are chosen, and between the last chosen one and this one. The chosen frames led a new
-- extractor to this state.
pub record LeadsTo (s : ExtractorState) (f : FrameView) (frames : List FrameView)
    (chosen : List Bool) : Type 0 where
  pub before : List FrameView
  pub after : List FrameView
  pub parts : frames ≡ before ++ f ∷ after
  pub counted : length chosen ≡ length before
  pub close : IsClose (chosen ++ true ∷ [])
  pub state : s ≡ state_after new_extractor (choice frames chosen)

-- With this frame, what arrives is what arrived without it, followed by these packets. This holds
-- for every stream and every choice.
abbrev pub IsGain : ExtractorState → FrameView → List (List ℕ) → Type 0
IsGain s f given =
    (packets : List (List ℕ)) (frames : List FrameView) (rest : List ℕ)
    (laid : IsLaidOut packets frames rest) (chosen : List Bool)
    → AllByRecursion IsInRange frames → LeadsTo s f frames chosen
    → arrived_packets laid.all frames (chosen ++ true ∷ [])
    ≡ arrived_packets laid.all frames chosen ++ given

-- the list of packets has grown by exactly what the frame gains
abbrev pub HasGained : ExtractorState → FrameView → List (List ℕ) → List (List ℕ) → Type 0
HasGained s f old new = (given : List (List ℕ)) × (new ≡ old ++ given) × IsGain s f given
