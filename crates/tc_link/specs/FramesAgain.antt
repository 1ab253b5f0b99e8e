-- Octets that reach the spacecraft again at once, for example when each CLTU is sent twice in a
-- row.
use Rattle.std.specs.Prelude.{◌≡◌, ℕ, List, ◌∷◌, replicate, Result, Ok, Err, if◌then◌else◌}
use Rattle.tc_frame.specs.declared.fault.TcFault.{TcFault}
use Rattle.tc_frame.specs.declared.frame.Check.TheVariants.{On}
use Rattle.tc_frame.specs.Layout.{BodyView, Ad, Bd, Bc, FrameView}
use Rattle.tc_frame.specs.Decoding.{frame_at}
use Rattle.cop1.specs.declared.farm.Verdict.TheVariants.{Behind, Discarded}
use Rattle.cop1.specs.Farm.{BdArrives}
use Rattle.nodes.specs.Spacecraft.{SpacecraftState, Receive, spacecraft_step, receive_bypass_step}
use Rattle.nodes.specs.Spacecraft.{after_farm, is_own_frame}
use Rattle.nodes.specs.declared.event.Event.TheVariants as events
use Rattle.nodes.specs.declared.received.Received.{Received}
use Rattle.nodes.specs.declared.received.Received.TheVariants as received_cases
use Rattle.simulated_link.specs.World.{World, world_step}
use Rattle.tc_link.specs.AnyPast.{Receives}
use Rattle.tc_link.specs.Beside.{HasOctetPast, LeavesSession, SessionLasts}

-- the spacecraft once octets have reached it
abbrev pub once_received : SpacecraftState → List ℕ → SpacecraftState
once_received s octets = (spacecraft_step s (Receive octets)).after

-- What a frame does when it is repeated at once. A Type-AD frame does nothing. A Type-B frame is
-- counted again by FARM-B, and the packet of a Type-BD frame is kept again if it was kept.
abbrev pub again_by : SpacecraftState → BodyView → SpacecraftState
again_by s (Ad n segment) = s
again_by s (Bd segment) = (receive_bypass_step s segment).after
again_by s (Bc command) = after_farm s BdArrives

-- octets that do not form a frame, and a frame for another receiver, do nothing
abbrev pub received_again : SpacecraftState → Result FrameView TcFault → SpacecraftState
received_again s (Err fault) = s
received_again s (Ok frame) = if is_own_frame s.config frame then again_by s frame.body else s

-- After any past, octets that are repeated at once do this, and nothing else.
abbrev pub EachComesAgain : Type 0
EachComesAgain =
    (w : World) (octets : List ℕ) → HasOctetPast w
    → let once : SpacecraftState = once_received w.spacecraft octets in
    once_received once octets ≡ received_again once (frame_at On octets)

-- So a session continues, however often the frame that has just arrived is repeated.
abbrev pub EachGoesOnAgain : Type 0
EachGoesOnAgain =
    (w : World) (octets : List ℕ) (way : List (List ℕ)) (more : ℕ) → HasOctetPast w
    → w.up ≡ octets ∷ way
    → SessionLasts (world_step w events.UpDeliver).after (replicate more (Receives octets))

-- A session also continues with repeated octets while the receiver has not changed since they came.
-- Meanwhile CLCWs may be made, and packets may be taken if the receiver does not wait.
abbrev pub EachGoesOnUnchanged : Type 0
EachGoesOnUnchanged =
    (w v : World) (octets : List ℕ) → HasOctetPast w
    → v.spacecraft.config ≡ w.spacecraft.config
    → v.spacecraft.farm ≡ (once_received w.spacecraft octets).farm
    → LeavesSession v (Receives octets)

-- the answer states that the octets do not form a frame, or form one for another receiver, a
-- Type-BD frame, or a Type-AD frame that is Behind or Discarded
abbrev pub IsAnsweredLeft : Received → Type 0
IsAnsweredLeft (received_cases.Invalid fault) = Unit {0}
IsAnsweredLeft received_cases.Foreign = Unit {0}
IsAnsweredLeft (received_cases.Bypass kept) = Unit {0}
IsAnsweredLeft (received_cases.Sequence n Behind ready dropped) = Unit {0}
IsAnsweredLeft (received_cases.Sequence n Discarded ready dropped) = Unit {0}
IsAnsweredLeft _ = ⊥

-- So a session continues with octets that are answered so.
abbrev pub EachIsAnswered : Type 0
EachIsAnswered =
    (w : World) (octets : List ℕ)
    → IsAnsweredLeft (spacecraft_step w.spacecraft (Receive octets)).answer
    → LeavesSession w (Receives octets)
