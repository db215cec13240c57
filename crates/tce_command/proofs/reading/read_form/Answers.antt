use Rattle.tce_command.proofs.Commands.{narrow_word, wide_word, other_word}
use Rattle.tce_command.proofs.reading.read_form.Goals as goal

pub returns-in-text : goal.returns-in-text
returns-in-text c = narrow_word c.args.word.now c.in-text.is

pub returns-in-text-2 : goal.returns-in-text-2
returns-in-text-2 c = wide_word c.args.word.now c.in-text-2.is

pub returns-in_default : goal.returns-in_default
returns-in_default c = other_word c.args.word.now c.in_default.not-text c.in_default.not-text-2
