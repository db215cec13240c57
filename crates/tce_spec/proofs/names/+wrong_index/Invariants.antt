use Rattle.std.proofs.Common.{length}
use Rattle.tce_spec.proofs.names.+wrong_index.Given as goal

abbrev pub decreases-wrong_index : goal.decreases-wrong_index
decreases-wrong_index l = length l.indexes.now
