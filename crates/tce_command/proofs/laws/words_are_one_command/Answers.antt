use Rattle.tce_command.proofs.Commands.{one_command}
use Rattle.tce_command.proofs.laws.words_are_one_command.Goals as goal

pub returns : goal.returns
returns c = one_command
