use Rattle.command_line.specs.Arguments.{file_of, options_of}
use Rattle.command_line.proofs.GivenWords.{last_given}
use Rattle.command_line.proofs.help.Described.options.Goals as goal

pub file-requires : goal.file-requires
file-requires c =
    last_given c.in_ok-given.given (options_of c.args.self.command) (file_of c.args.self.command) c.in_ok-given.ensures
