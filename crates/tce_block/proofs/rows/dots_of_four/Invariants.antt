use Rattle.std.proofs.Common.{[], ◌∷◌}
use Rattle.tce_block.specs.declared.loops.Turn.TheVariants.{Grow}
use Rattle.tce_block.specs.Places.{word_place}
use Rattle.tce_block.specs.Turns.{IsMade, turned}
use Rattle.tce_block.proofs.Folds.{turns_before}
use Rattle.tce_block.proofs.rows.dots_of_four.Given as goal

abbrev pub invariant-loop-x : goal.invariant-loop-x
invariant-loop-x l = IsMade (turned Grow l.fn.words (word_place l.left (l.outer.left ∷ l.along.left ∷ [])) (word_place l.right (l.outer.right ∷ l.along.right ∷ []))) (word_place l.out (l.outer.out ∷ l.along.out ∷ [])) (turns_before (l.along.len ∷ []) l.x) l.fn.words l.words
