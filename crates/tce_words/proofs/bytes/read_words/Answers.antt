use Rattle.std.proofs.Common.{arith}
use Rattle.tce_base.specs.Word.{word_of_bytes}
use Rattle.tce_words.proofs.bytes.read_words.Goals as goal

pub returns : goal.returns
unfolding word_of_bytes
returns c = λ k lt. c.read_u64_into.ensures k (omega arith)
