use Rattle.std.proofs.Common.{sym, subst, [], ◌∷◌}
use Rattle.tce_space.specs.Box.{places}
use Rattle.tce_block.specs.Places.{word_place}
use Rattle.tce_block.specs.Turns.{IsMade, turned}
use Rattle.tce_block.proofs.runs.turn_short.Goals as goal

pub returns-in-Grow : goal.returns-in-Grow
returns-in-Grow c =
    let old = c.args.words.now in let along = c.args.along in
    subst (λ turn. IsMade (turned turn old (word_place c.args.left (along.left ∷ [])) (word_place c.args.right (along.right ∷ []))) (word_place c.args.out (along.out ∷ [])) (places (along.len ∷ [])) old c.grow_short.new.words)
    (sym c.in-Grow.is) c.grow_short.ensures
