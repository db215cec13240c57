use Rattle.std.proofs.Common.{length}
use Rattle.tce_base.specs.Word.{wrapping_mul}
use Rattle.tce_block.specs.Places.{word_place}
use Rattle.tce_block.specs.StrideSteps.{sum_lens, sum_out_steps}
use Rattle.tce_block.specs.Turns.{IsMade}
use Rattle.tce_block.proofs.Folds.{turns_before}
use Rattle.tce_exec.proofs.scaling.+scale_below.Given as goal

abbrev pub decreases-scale_below : goal.decreases-scale_below
decreases-scale_below l = length l.loops.now

abbrev pub invariant-loop-x : goal.invariant-loop-x
invariant-loop-x l = IsMade (λ w xs. wrapping_mul l.factor w) (word_place l.out (sum_out_steps l.loops)) (turns_before (sum_lens l.rest) l.x) l.fn.words l.words
