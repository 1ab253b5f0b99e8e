use Rattle.std.proofs.lemmas.Result.{IfOk-weaker}
use Rattle.command_line.proofs.GivenWords.{words_give}
use Rattle.command_line.proofs.help.Described.given.Goals as goal

pub returns : goal.returns
returns c =
    IfOk-weaker c.try_get_matches_from.result _ _ (
    words_give c.args.self.command c.in_ok-arguments.arguments.items c.in_ok-bare.bare c.in_ok-command.command
    c.in_ok-arguments.ensures c.in_ok-bare.ensures c.in_ok-command.ensures
    ) c.try_get_matches_from.ensures.parsed
