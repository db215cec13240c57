use Rattle.std.proofs.Common.{[], ◌∷◌}
use Rattle.tce_base.specs.Word.{wrapping_mul}
use Rattle.tce_block.specs.Places.{word_place}
use Rattle.tce_block.specs.Turns.{IsMade}
use Rattle.tce_block.proofs.Folds.{turns_before}
use Rattle.tce_exec.proofs.scaling.scale_along.Given as goal

abbrev pub invariant-loop-x : goal.invariant-loop-x
invariant-loop-x l = IsMade (λ w xs. wrapping_mul l.factor w) (word_place l.out (l.along.out ∷ [])) (turns_before [] l.x) l.fn.words l.words
