use Rattle.tc_link.proofs.Gaps.{each_gap_is_loss}
use Rattle.tc_link.proofs.SeenTelemetry.{telemetry_is_seen}
use Rattle.tc_link.proofs.Telemetry.{comes_down, runs_as_the_link}
use Rattle.tc_link.proofs.telemetry_law.law_of_telemetry.Goals as goal

pub returns-clause-in_order : goal.returns-clause-in_order
returns-clause-in_order c = comes_down

pub returns-clause-runs : goal.returns-clause-runs
returns-clause-runs c = runs_as_the_link

pub returns-clause-seen : goal.returns-clause-seen
returns-clause-seen c = telemetry_is_seen

pub returns-clause-gap : goal.returns-clause-gap
returns-clause-gap c = each_gap_is_loss
