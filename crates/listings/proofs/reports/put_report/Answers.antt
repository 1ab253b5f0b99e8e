use Rattle.std.proofs.Common.{◌++◌, codes, decimal, refl, take}
use Rattle.listings.proofs.Digits.{joined}
use Rattle.listings.specs.ReportLines.{receiver_text}
use Rattle.listings.proofs.reports.put_report.Goals as goal

pub returns-clause-put : goal.returns-clause-put
returns-clause-put c =
    joined (take c.args.at c.args.room.now) (codes "report vcid=" ++ decimal c.args.word.now.vcid)
    (receiver_text c.args.word.now) c.put_field-next.ensures.put c.put_receiver.ensures.put refl
