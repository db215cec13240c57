use Rattle.tce_base.proofs.WordBytes.{word_of_word_bytes}
use Rattle.tce_base.proofs.bytes_keep_words.Goals as goal

pub returns : goal.returns
returns c = word_of_word_bytes
