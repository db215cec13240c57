use Rattle.std.proofs.Common.{rules}
use Rattle.tce_base.specs.Word.{word_bytes}
use Rattle.tce_array.proofs.head.push_word.Goals as goal

pub returns-clause-items : goal.returns-clause-items
unfolding word_bytes
returns-clause-items c = search rules
