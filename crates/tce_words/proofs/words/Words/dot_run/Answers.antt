use Rattle.std.proofs.Common.{rules}
use Rattle.tce_base.specs.Word.{wrapping_add}
use Rattle.tce_words.proofs.words.Words.dot_run.Goals as goal

pub returns : goal.returns
unfolding wrapping_add
returns c = search rules
