use Rattle.simulated_link.proofs.Common.{◌∙◌, replicate, spacecraft_step, Report}
use Rattle.tm_link.specs.Encoding.{spelling}
use Rattle.simulated_link.proofs.Lists.{front_is}
use Rattle.simulated_link.proofs.down_frame.put_report.Goals as goal

pub returns-clause-frame : goal.returns-clause-frame
returns-clause-frame c =
    c.copy_front.ensures
    ∙ front_is c.report-size.result c.report-size.new.out
    (spelling (spacecraft_step c.args.spacecraft.now Report).answer) (replicate 2048 0) c.report-size.ensures.frame
    (c.report-size.array_long) c.report-size.ensures.spells.most
