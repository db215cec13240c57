use Rattle.std.proofs.Common.{[], ◌∷◌}
use Rattle.tce_block.specs.Places.{word_place}
use Rattle.tce_block.specs.Turns.{IsMade, turned}
use Rattle.tce_block.proofs.Folds.{turns_before}
use Rattle.tce_block.proofs.runs.turn_by_turn.Given as goal

abbrev pub invariant-loop-x : goal.invariant-loop-x
invariant-loop-x l = IsMade (turned l.turn l.fn.words (word_place l.left (l.along.left ∷ [])) (word_place l.right (l.along.right ∷ []))) (word_place l.out (l.along.out ∷ [])) (turns_before [] l.x) l.fn.words l.words
