use Rattle.std.proofs.Common.{length}
use Rattle.tce_block.specs.Places.{word_place}
use Rattle.tce_block.specs.StrideSteps.{sum_lens, sum_out_steps, operand_steps}
use Rattle.tce_block.specs.Turns.{IsMade, grown}
use Rattle.tce_block.proofs.Folds.{turns_before}
use Rattle.tce_block.proofs.sums.+grow_below.Given as goal

abbrev pub decreases-grow_below : goal.decreases-grow_below
decreases-grow_below l = length l.loops.now

abbrev pub invariant-loop-x : goal.invariant-loop-x
invariant-loop-x l = IsMade (grown l.fn.words (word_place l.operand (operand_steps l.loops))) (word_place l.out (sum_out_steps l.loops)) (turns_before (sum_lens l.rest) l.x) l.fn.words l.words
