use Rattle.tce_array.proofs.Writes.{writes_change}
use Rattle.tce_array.proofs.laws.writes_change_their_words.Goals as goal

pub returns : goal.returns
returns c = writes_change
