use Rattle.tce_tools.proofs.Sums.{sum_none, sum_more}
use Rattle.tce_tools.proofs.sum.sum_of.Goals as goal

pub loop-word-init : goal.loop-word-init
loop-word-init c = sum_none

pub loop-word-preserved : goal.loop-word-preserved
loop-word-preserved c = sum_more c.args.words.now c.loop-word.word-index c.loop-word.total c.loop-word-test.true c.loop-word.invariant
