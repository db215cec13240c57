use Rattle.tce_base.proofs.WordBytes.{bytes_of_word}
use Rattle.tce_base.proofs.eight_bytes_are_a_word.Goals as goal

pub returns : goal.returns
returns c = bytes_of_word
