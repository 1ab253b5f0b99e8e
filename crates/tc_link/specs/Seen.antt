-- What a program sees of a link, and nothing else: the events of a run, and the answer to each.
use Rattle.std.specs.Prelude.{◌≡◌, ◌==◌, ◌≢◌, ◌&&◌, ℕ, suc, ◌+◌, ◌-◌, List, [], ◌∷◌, ◌++◌, length}
use Rattle.std.specs.Prelude.{drop, flat_map, ◌<◌, ◌^◌}
use Rattle.std.specs.Prelude.{Bool, true, false, if◌then◌else◌, Option, Some, None, Result, Ok}
use Rattle.std.specs.List.{AllByRecursion}
use Rattle.octets.specs.Beginning.{IsBeginning}
use Rattle.map_service.specs.Packets.{packets_in}
use Rattle.cop1.specs.FopDirective.{is_initiation}
use Rattle.cop1.specs.declared.vocabulary.Directive.{Directive}
use Rattle.cop1.specs.declared.vocabulary.Directive.TheVariants.{InitWithoutCheck}
use Rattle.nodes.specs.declared.config.Config.{Config}
use Rattle.nodes.specs.Packets.{PacketOn, packet_on, put_on_map}
use Rattle.nodes.specs.Parameters.{IsConfig}
use Rattle.nodes.specs.declared.event.Event.{Event}
use Rattle.nodes.specs.declared.event.Event.TheVariants as events
use Rattle.simulated_link.specs.declared.fault.SimFault.{SimFault}
use Rattle.simulated_link.specs.Replies.{ReplyView, Done, Sent, Reported, Packet, Resumed}
use Rattle.simulated_link.specs.World.{new_world, run_answers}
use Rattle.tc_link.specs.Reached.{IsEvent}

-- The submissions of a session, in order. They follow the first `from` submissions of those that
-- are wanted.
pub record Part : Type 0 where
  pub from : ℕ
  pub submissions : List PacketOn

-- what a program knows from the events so far and their answers
pub record Seen : Type 0 where
  -- the sessions before this one, and this one
  pub before : List Part
  pub session : Part
  -- the packets that were taken on board
  pub taken : List PacketOn
  -- how many frames are in transit on the uplink, and how many on the downlink
  pub up : ℕ
  pub down : ℕ
  -- how many frames in transit on the downlink were sent before the last frame left the uplink, or
  -- before the last packet was taken
  pub old : ℕ
  -- the value of the last CLCW, if this CLCW was made after the last frame had left the uplink
  pub made : Option ℕ
  -- each session began after silence, by CLCW check, Unlock, Set V(R) or `resume`
  pub idle : Bool
  -- each session except the first was resumed with the value in `made`
  pub resumed : Bool

-- before any event
abbrev pub nothing_seen : Seen
nothing_seen = record {
  before = [];
  session = record { from = 0; submissions = [] };
  taken = [];
  up = 0;
  down = 0;
  old = 0;
  made = None;
  idle = true;
  resumed = true;
}

-- Whether there is silence. No frame is then in transit on the uplink. Each frame in transit on the
-- downlink was sent after the last frame had left the uplink, and after the last packet was taken.
abbrev pub is_silent : Seen → Bool
is_silent s = (s.up == 0) && (s.old == 0)

-- A session begins, whose submissions follow the first `from` wanted ones. `idle` is false for an
-- initiation without CLCW check. `resumed` is true for the first session, and for one that is
-- resumed with the value in `made`.
abbrev pub begins : Seen → ℕ → (idle resumed : Bool) → Seen
begins s from idle resumed = record s {
  before = s.before ++ s.session ∷ [];
  session = record { from = from; submissions = [] };
  idle = s.idle && (idle && is_silent s);
  resumed = s.resumed && resumed;
}

-- whether an initiation is CLCW check, Unlock or Set V(R)
abbrev pub has_check : Directive → Bool
has_check InitWithoutCheck = false
has_check directive = true

-- whether the session that begins is the first, the only one that need not be a resumption
abbrev pub is_first : Seen → Bool
is_first s = length s.before == 0

-- whether the value is the one in `made`
abbrev pub is_made : Option ℕ → ℕ → Bool
is_made None value = false
is_made (Some made) value = made == value

-- A frame leaves the uplink. All frames now in transit on the downlink were sent before.
abbrev pub gone_up : Seen → Seen
gone_up s = record s { up = s.up - 1; old = s.down }

-- a frame leaves the downlink
abbrev pub gone_down : Seen → Seen
gone_down s = record s { down = s.down - 1; old = s.old - 1 }

-- What a program knows after one more event, from its answer. A refused event changes nothing.
abbrev pub seen_step : Seen → Event → Result ReplyView SimFault → Seen
seen_step s (events.Submit m octets) (Ok Done) = record s {
  session = record s.session {
    submissions = s.session.submissions ++ packet_on m octets.now ∷ [];
  };
}
seen_step s (events.Directive directive) (Ok Done) =
    if is_initiation directive then begins s 0 (has_check directive) (is_first s) else s
seen_step s (events.Resume value) (Ok (Resumed whole)) =
    begins s (s.session.from + whole) true (is_made s.made value)
seen_step s events.Send (Ok (Sent octets)) = record s { up = suc s.up; made = None }
seen_step s events.UpDeliver (Ok reply) = gone_up s
seen_step s events.UpLose (Ok reply) = gone_up s
seen_step s (events.UpDamage octets) (Ok reply) = gone_up s
seen_step s events.Report (Ok (Reported report)) = record s {
  down = suc s.down;
  made = if s.up == 0 then Some report.value else None;
}
seen_step s events.DownDeliver (Ok reply) = gone_down s
seen_step s events.DownLose (Ok reply) = gone_down s
seen_step s (events.DownDamage octets) (Ok reply) = gone_down s
seen_step s events.DownClcw (Ok reply) = gone_down s
seen_step s events.Take (Ok (Packet packet)) =
    record s { taken = s.taken ++ packet ∷ []; old = s.down }
seen_step s event answer = s

-- the same after several events
abbrev pub seen_from : Seen → List Event → List (Result ReplyView SimFault) → Seen
seen_from s (event ∷ more) (answer ∷ answers) = seen_from (seen_step s event answer) more answers
seen_from s _ _ = s

abbrev pub seen : List Event → List (Result ReplyView SimFault) → Seen
seen events answers = seen_from nothing_seen events answers

-- ---- what is promised

-- the packets of these submissions, each with its MAP; without blocking, a submission is one packet
abbrev pub all_packets : List PacketOn → List PacketOn
all_packets = flat_map (λ (p : PacketOn). put_on_map p.on_map (packets_in p.octets))

-- `delivered` consists of one list for each of these parts, joined in order. Each such list is a
-- prefix of the packets of its part.
abbrev pub ArePrefixes : List PacketOn → List Part → Type 0
ArePrefixes delivered [] = delivered ≡ []
ArePrefixes delivered (part ∷ parts) =
    (some others : List PacketOn) × (delivered ≡ some ++ others)
    × IsBeginning some (all_packets part.submissions) × ArePrefixes others parts

-- What was taken is a prefix of `delivered`. This list joins what the sessions delivered, in order.
-- Each session delivered a prefix of the packets that it submitted.
abbrev pub IsSeenInOrder : Seen → Type 0
IsSeenInOrder s =
    (delivered : List PacketOn) × ArePrefixes delivered (s.before ++ s.session ∷ [])
    × IsBeginning s.taken delivered

-- the session submits what is wanted next: a prefix of `wanted` after its first `from` submissions
abbrev pub IsWanted : List PacketOn → Part → Type 0
IsWanted wanted part = IsBeginning part.submissions (drop part.from wanted)

-- What was taken is a prefix of what is wanted, on two conditions. Each session submits what is
-- wanted next. Each session except the first was resumed with the value in `made`.
abbrev pub IsSeenOnce : List PacketOn → Seen → Type 0
IsSeenOnce wanted s =
    AllByRecursion (IsWanted wanted) (s.before ++ s.session ∷ []) → s.resumed ≡ true
    → IsBeginning s.taken wanted

-- If each session began after silence, `IsSeenInOrder` holds of every run's answers, and
-- `IsSeenOnce` of runs without blocking.
abbrev pub IsPromisedOfSeen : ℕ → Seen → Type 0
IsPromisedOfSeen blocking s =
    s.idle ≡ true
    → IsSeenInOrder s
    × (blocking ≢ 1 → (wanted : List PacketOn) → length wanted < 2 ^ 64 → IsSeenOnce wanted s)

-- This holds for every configuration in its ranges, for any events and the answers of the link.
abbrev pub EachIsSeen : Type 0
EachIsSeen =
    (c : Config) (events : List Event) → IsConfig c → AllByRecursion IsEvent events
    → IsPromisedOfSeen c.blocking (seen events (run_answers (new_world c) events))
