use Rattle.tce_tree.proofs.Values.{value-lt}
use Rattle.tce_tree.proofs.laws.value_is_word.Goals as goal

pub returns : goal.returns
returns c = value-lt
