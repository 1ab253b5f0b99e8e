use Rattle.tc_link.proofs.AnyPast.{holds_after_any_past, each_goes_on_as_kept, reports_do_as_frames, runs_as_events}
use Rattle.tc_link.proofs.laws.law_of_any_past.Goals as goal

pub returns-clause-promised : goal.returns-clause-promised
returns-clause-promised c = holds_after_any_past

pub returns-clause-runs : goal.returns-clause-runs
returns-clause-runs c = runs_as_events

pub returns-clause-reports : goal.returns-clause-reports
returns-clause-reports c = reports_do_as_frames

pub returns-clause-restarts : goal.returns-clause-restarts
returns-clause-restarts c = each_goes_on_as_kept
