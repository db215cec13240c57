use Rattle.std.proofs.Common.{arith}
use Rattle.tce_words.proofs.runs.count.Goals as goal

pub returns-clause-words : goal.returns-clause-words
returns-clause-words c k = omega (arith, c.type_inv.words k)
