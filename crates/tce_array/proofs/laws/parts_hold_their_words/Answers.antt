use Rattle.tce_array.proofs.Writes.{word_of_part}
use Rattle.tce_array.proofs.laws.parts_hold_their_words.Goals as goal

pub returns : goal.returns
returns c = word_of_part
