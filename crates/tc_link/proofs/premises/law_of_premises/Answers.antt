use Rattle.std.specs.Prelude.{◌≡◌, ◌≢◌, ◌==◌, ℕ, List, false, sum}
use Rattle.std.proofs.Common.{refl, ap}
use Rattle.std.proofs.lemmas.Bool.{eq-eqb}
use Rattle.octets.specs.Check.{check_of, remainder}
use Rattle.octets.specs.Records.{records_of, rest_of}
use Rattle.space_packet.specs.Decoding.{extent_at, packet_at}
use Rattle.clcw.specs.Decoding.{clcw_at}
use Rattle.tc_frame.specs.Decoding as tc
use Rattle.map_service.specs.Cutting.{groups_of, pieces_of}
use Rattle.tm_link.specs.Decoding as tm
use Rattle.nodes.proofs.InRange.{config_is}
use Rattle.tc_link.specs.Needed.{long, long_later, mixed}
use Rattle.tc_link.proofs.premises.law_of_premises.Goals as goal

differs : (xs ys : List ℕ) → (sum xs == sum ys) ≡ false → xs ≢ ys
differs xs ys other is = absurd (cc (other, eq-eqb (sum xs) (sum ys) (ap sum is)))

-- the runs, computed
runs : goal.returns-clause-frame × goal.returns-clause-report × goal.returns-clause-up × goal.returns-clause-down
    × goal.returns-clause-number × goal.returns-clause-sender × goal.returns-clause-restart
    × goal.returns-clause-ground_restart × goal.returns-clause-maps × goal.returns-clause-blocks
    × goal.returns-clause-window × goal.returns-clause-outage × goal.returns-clause-never_submitted
unfolding tc.frame_at tc.body_at tc.command_at tc.segment_at tm.frame_at check_of remainder clcw_at records_of rest_of
    extent_at packet_at groups_of pieces_of
runs = (
  λ c. record { active = refl; nothing = refl; start = refl; submitted = refl; delivered = refl },
  λ c. record { active = refl; nothing = refl; start = refl; submitted = refl; delivered = refl },
  λ c. record { active = refl; nothing = refl; start = refl; submitted = refl; delivered = refl },
  λ c. record { active = refl; nothing = refl; start = refl; submitted = refl; delivered = refl },
  λ c. record { active = refl; nothing = refl; start = refl; submitted = refl; delivered = refl },
  λ c. record { active = refl; nothing = refl; start = refl; submitted = refl; delivered = refl },
  λ c. record { active = refl; nothing = refl; start = refl; submitted = refl; delivered = refl },
  λ c. record { active = refl; nothing = refl; start = refl; submitted = refl; delivered = refl },
  λ c. record { active = refl; nothing = refl; start = refl; submitted = refl; delivered = refl },
  λ c. record { active = refl; nothing = refl; start = refl; submitted = refl; delivered = refl },
  λ c. record { idle = refl; directive = refl; locked = refl },
  λ c. refl,
  λ c. (
    record { active = refl; nothing = refl; start = refl; submitted = refl; delivered = refl },
    (differs long mixed refl, (differs long_later mixed refl, tt)),
  ),
)

pub returns-clause-frame : goal.returns-clause-frame
returns-clause-frame = runs.0

pub returns-clause-report : goal.returns-clause-report
returns-clause-report = runs.1

pub returns-clause-up : goal.returns-clause-up
returns-clause-up = runs.2

pub returns-clause-down : goal.returns-clause-down
returns-clause-down = runs.3

pub returns-clause-number : goal.returns-clause-number
returns-clause-number = runs.4

pub returns-clause-sender : goal.returns-clause-sender
returns-clause-sender = runs.5

pub returns-clause-restart : goal.returns-clause-restart
returns-clause-restart = runs.6

pub returns-clause-ground_restart : goal.returns-clause-ground_restart
returns-clause-ground_restart = runs.7

pub returns-clause-maps : goal.returns-clause-maps
returns-clause-maps = runs.8

pub returns-clause-blocks : goal.returns-clause-blocks
returns-clause-blocks = runs.9

pub returns-clause-window : goal.returns-clause-window
returns-clause-window = runs.10

pub returns-clause-outage : goal.returns-clause-outage
returns-clause-outage = runs.11

pub returns-clause-never_submitted : goal.returns-clause-never_submitted
returns-clause-never_submitted = runs.12

-- and what a program sees
pub returns-clause-value : goal.returns-clause-value
unfolding tc.frame_at tc.body_at tc.command_at tc.segment_at tm.frame_at check_of remainder clcw_at records_of rest_of
    extent_at packet_at groups_of pieces_of
returns-clause-value c = record { idle = refl; parts = refl; taken = refl }

pub returns-clause-old_value : goal.returns-clause-old_value
unfolding tc.frame_at tc.body_at tc.command_at tc.segment_at tm.frame_at check_of remainder clcw_at records_of rest_of
    extent_at packet_at groups_of pieces_of
returns-clause-old_value c = record { idle = refl; parts = refl; taken = refl }

pub returns-clause-ranges : goal.returns-clause-ranges
returns-clause-ranges c = (config_is _ refl, config_is _ refl, config_is _ refl, config_is _ refl)
