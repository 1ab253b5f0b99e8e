-- What silence does: if no frame is sent on the uplink for a round trip, the link is idle.
use Rattle.std.specs.Prelude.{◌≡◌, ◌≤◌, ◌+◌, ℕ, List, [], ◌∷◌, length, true, false}
use Rattle.std.specs.List.{AllByRecursion}
use Rattle.nodes.specs.declared.event.Event.{Event}
use Rattle.nodes.specs.declared.event.Event.TheVariants as events
use Rattle.tc_link.specs.AnyPast.{LinkStep, Happens, Receives, NewSpacecraft}
use Rattle.tc_link.specs.AnyPast.{IsLinkStep, HasAnyPast, link_step, link_run}
use Rattle.tc_link.specs.Telemetry.{came_by}
use Rattle.simulated_link.specs.World.{World, world_step, is_idle}

-- A step keeps silence: the ground sends no frame, and no octets from outside reach the spacecraft.
-- The spacecraft is not replaced, and no packet is taken from it while its wait flag is set.
abbrev pub IsSilent : World → LinkStep → Type 0
IsSilent w (Happens events.Send) = ⊥
IsSilent w (Happens events.Take) = w.spacecraft.farm.wait ≡ false
IsSilent w (Receives octets) = ⊥
IsSilent w (NewSpacecraft kept) = ⊥
IsSilent w _ = Unit {0}

-- each of these steps keeps silence
abbrev pub KeepsSilence : World → List LinkStep → Type 0
KeepsSilence w [] = Unit {0}
KeepsSilence w (step ∷ more) = IsSilent w step × KeepsSilence (link_step w step) more

-- how many frames a step removes from the downlink: one that arrives, is lost or is damaged
abbrev pub gone_at : World → Event → ℕ
gone_at w event = length (came_by event (world_step w event).answer)

abbrev pub gone_by : World → LinkStep → ℕ
gone_by w (Happens event) = gone_at w event
gone_by w _ = 0

-- how many frames these steps remove
abbrev pub gone_down : World → List LinkStep → ℕ
gone_down w [] = 0
gone_down w (step ∷ more) = gone_by w step + gone_down (link_step w step) more

-- After any past, nothing is in transit on the uplink, and silence is kept. Once as many frames
-- have arrived, or been lost or damaged, as were in transit on the downlink at first, the link is
-- idle.
abbrev pub SilenceIsIdle : Type 0
SilenceIsIdle =
    (w : World) (steps : List LinkStep) → HasAnyPast w → AllByRecursion IsLinkStep steps → w.up ≡ []
    → KeepsSilence w steps → length w.down ≤ gone_down w steps → is_idle (link_run w steps) ≡ true
