use Rattle.std.proofs.Common.{◌≡◌, [], ◌∷◌}
use Rattle.std.specs.List.{range_with_len, fold}
use Rattle.tce_block.specs.Places.{word_place}
use Rattle.tce_block.specs.Turns.{grown_by_products}
use Rattle.tce_block.proofs.runs.grown_along.Given as goal

abbrev pub invariant-loop-x : goal.invariant-loop-x
invariant-loop-x l = l.total ≡ fold (λ w x. grown_by_products l.words (word_place l.left (l.along.left ∷ [])) (word_place l.right (l.along.right ∷ [])) w (x ∷ [])) l.word (range_with_len 0 l.x)
