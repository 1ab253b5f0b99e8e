-- What a program sees of a link on which it submits packets in blocks.
use Rattle.std.specs.Prelude.{◌≡◌, ◌<◌, ◌^◌, ℕ, List, [], ◌∷◌, ◌++◌, length, true}
use Rattle.std.specs.List.{AllByRecursion}
use Rattle.octets.specs.Beginning.{IsBeginning}
use Rattle.nodes.specs.declared.config.Config.{Config}
use Rattle.nodes.specs.declared.event.Event.{Event}
use Rattle.nodes.specs.Packets.{PacketOn}
use Rattle.nodes.specs.Parameters.{IsConfig}
use Rattle.simulated_link.specs.World.{new_world, run_answers}
use Rattle.tc_link.specs.Reached.{IsEvent}
use Rattle.tc_link.specs.Seen.{Seen, IsWanted, all_packets, seen}
use Rattle.tc_link.specs.Whole.{IsOneGroup}

-- What was taken is a prefix of the packets that are wanted, with blocking too. The conditions are
-- as follows. Each session began after silence, and submitted what is wanted next. Each session
-- except the first was resumed with the value in `made` of `Seen`. Each wanted submission is one
-- packet, or packets that fit into one segment together.
abbrev pub IsSeenInBlocks : ℕ → Seen → Type 0
IsSeenInBlocks part s =
    s.idle ≡ true → (wanted : List PacketOn) → length wanted < 2 ^ 64
    → AllByRecursion (IsOneGroup part) wanted
    → AllByRecursion (IsWanted wanted) (s.before ++ s.session ∷ []) → s.resumed ≡ true
    → IsBeginning s.taken (all_packets wanted)

-- This holds for every configuration in its ranges, for any events and the answers of the link.
abbrev pub EachBlockIsSeen : Type 0
EachBlockIsSeen =
    (c : Config) (events : List Event) → IsConfig c → AllByRecursion IsEvent events
    → IsSeenInBlocks c.part (seen events (run_answers (new_world c) events))
