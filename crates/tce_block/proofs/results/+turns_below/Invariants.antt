use Rattle.std.proofs.Common.{length}
use Rattle.tce_block.specs.Places.{word_place}
use Rattle.tce_block.specs.StrideSteps.{lens, out_steps, left_steps, right_steps}
use Rattle.tce_block.specs.Turns.{IsMade, turned}
use Rattle.tce_block.proofs.Folds.{turns_before}
use Rattle.tce_block.proofs.results.+turns_below.Given as goal

abbrev pub decreases-turns_below : goal.decreases-turns_below
decreases-turns_below l = length l.loops.now

abbrev pub invariant-loop-x : goal.invariant-loop-x
invariant-loop-x l = IsMade (turned l.turn l.fn.words (word_place l.left (left_steps l.loops)) (word_place l.right (right_steps l.loops))) (word_place l.out (out_steps l.loops)) (turns_before (lens l.rest) l.x) l.fn.words l.words
