use Rattle.std.proofs.Common.{◌++◌, codes, decimal, refl, take}
use Rattle.listings.proofs.Digits.{joined}
use Rattle.listings.specs.ReportLines.{report_line}
use Rattle.listings.proofs.reports.put_numbered.Goals as goal

pub returns-clause-put : goal.returns-clause-put
returns-clause-put c =
    joined (take c.args.at c.args.room.now) (decimal c.args.index.now) (codes " " ++ report_line c.args.word.now)
    c.put-next.ensures.put
    (joined (take c.put-next.result c.put-next.new.room) (codes " ") (report_line c.args.word.now)
    c.put_word-next.ensures.put c.put_report.ensures.put refl) refl
