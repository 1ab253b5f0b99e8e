-- The answers to events, and which events take no memory.
use Rattle.std.specs.Prelude.{◌≡◌, ◌≢◌, ℕ, List, [], ◌∷◌, false, Result, Ok, Err, IsSome}
use Rattle.std.specs.Prelude.{IfOk, IfErr, OnOk, OnErr, IsOkUnless}
use Rattle.tc_frame.specs.declared.frame.Check.TheVariants.{On}
use Rattle.tc_frame.specs.Decoding as command
use Rattle.tm_link.specs.Builder.{is_to_send}
use Rattle.tm_link.specs.Decoding as telemetry
use Rattle.nodes.specs.declared.event.Event.{Event}
use Rattle.nodes.specs.declared.event.Event.TheVariants as events
use Rattle.nodes.specs.Ground.{submit_fault, bypass_fault, FinishesNothing}
use Rattle.nodes.specs.Spacecraft.{HandsNothingOn}
use Rattle.simulated_link.specs.declared.fault.SimFault.{SimFault}
use Rattle.simulated_link.specs.declared.fault.SimFault.TheVariants.{Memory}
use Rattle.simulated_link.specs.declared.reply.Reply.{Reply}
use Rattle.simulated_link.specs.Replies.{reply_view}
use Rattle.simulated_link.specs.World.{World, world_step}

-- the world answers the event with this reply
abbrev pub IsReplyTo : World → Event → Reply → Type 0
IsReplyTo w event reply = (world_step w event).answer ≡ Ok (reply_view reply)

-- a statement about the first octets in transit; it holds if there are none
abbrev pub IfFirst : List (List ℕ) → (List ℕ → Type 0) → Type 0
IfFirst [] P = Unit {0}
IfFirst (octets ∷ more) P = P octets

-- An event takes no memory. Packets are refused, a frame's data are not passed on, a telemetry
-- frame finishes no packet, or nothing is to be stored.
abbrev pub TakesNone : World → Event → Type 0
TakesNone w (events.Submit m octets) = IsSome (submit_fault w.ground_node m octets.now)
TakesNone w (events.Bypass m octets) = IsSome (bypass_fault w.ground_node m octets.now)
TakesNone w events.Send = ⊥
TakesNone w events.UpDeliver =
    IfFirst w.up (λ octets. HandsNothingOn w.spacecraft (command.frame_at On octets))
TakesNone w events.Report = ⊥
TakesNone w events.DownDeliver =
    IfFirst w.down (λ octets. FinishesNothing w.ground_node
    (telemetry.frame_at w.ground_node.config.frame_length octets))
TakesNone w (events.Telemetry octets) = is_to_send octets.now ≡ false
TakesNone w _ = Unit {0}

-- The result of a call that runs an event, and the world before and after it. Either the event has
-- happened, or it is refused, or memory ran out. In the last two cases nothing has changed.
pub record LetsHappen (event : Event) (old new : World) (result : Result Reply SimFault) : Type 0
  where
    pub reply : IfOk result (IsReplyTo old event)
    pub after : OnOk result (new ≡ (world_step old event).after)
    pub err : OnErr result (new ≡ old)
    pub refused : IfErr (world_step old event).answer (λ e. result ≡ Err e)
    pub memory : IfOk (world_step old event).answer (λ _. IsOkUnless result Memory)
    pub none : TakesNone old event → result ≢ Err Memory
