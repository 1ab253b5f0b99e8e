-- What a program sees of telemetry is what the downlink's history shows.
use Rattle.tc_link.proofs.Common.{◌≡◌, List, [], ◌∷◌, ◌++◌, refl, sym, subst}
use Rattle.tc_link.specs.Telemetry.{Downlink, DownlinkStep, Happens, TakeTelemetry, AreSomeOf, none, one, without}
use Rattle.tc_link.specs.Telemetry.{new_downlink, downlink_step, downlink_run}
use Rattle.tc_link.specs.SeenTelemetry.{SeenTelemetry, telemetry_seen_from, downlink_answers, IsTelemetrySeen}
use Rattle.tc_link.specs.SeenTelemetry.{TelemetryIsSeen}
use Rattle.tc_link.proofs.Telemetry.{comes_down}

abbrev seen_of : Downlink → SeenTelemetry
seen_of d = record { queued = d.queued; came = d.came; taken = d.taken }

seen_is : (steps : List DownlinkStep) (d : Downlink)
    → telemetry_seen_from (seen_of d) steps (downlink_answers d steps) ≡ seen_of (downlink_run d steps)
seen_is [] d = refl
seen_is (Happens event ∷ more) d = seen_is more (downlink_step d (Happens event))
seen_is (TakeTelemetry ∷ more) d = seen_is more (downlink_step d TakeTelemetry)

-- the empty list is some of any list
none_of : {P : Type 0} (all : List P) → AreSomeOf [] all
none_of [] = none
none_of (p ∷ all) = without (none_of all)

first_of_some : {P : Type 0} {some all : List P} → AreSomeOf some all → (first others : List P)
    → some ≡ first ++ others → AreSomeOf first all
first_of_some none [] others is = none
first_of_some none (q ∷ first) others is = absurd cc
first_of_some (one {p} {some} {all} h) [] others is = none_of (p ∷ all)
first_of_some (one {p} {some} {all} h) (q ∷ first) others is =
    let head : p ≡ q = cc in
    let tail : some ≡ first ++ others = cc in
    subst (λ x. AreSomeOf (x ∷ first) (p ∷ all)) head (one (first_of_some h first others tail))
first_of_some (without {p} {some} {all} h) first others is = without (first_of_some h first others is)

pub telemetry_is_seen : TelemetryIsSeen
telemetry_is_seen c steps ranges are =
    let now : Downlink = downlink_run (new_downlink c) steps in
    subst IsTelemetrySeen (sym (seen_is steps (new_downlink c)))
    (λ close. first_of_some ((comes_down c steps ranges are).in_order close) now.taken
    now.world.ground_node.telemetry refl)
