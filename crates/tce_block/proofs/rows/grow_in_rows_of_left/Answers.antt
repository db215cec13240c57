use Rattle.std.proofs.Common.{[], ◌∷◌}
use Rattle.tce_space.specs.Box.{places}
use Rattle.tce_block.specs.Places.{word_place}
use Rattle.tce_block.proofs.AddedRows.{made_swapped}
use Rattle.tce_block.proofs.rows.grow_in_rows_of_left.Goals as goal

pub returns-then-is_scaled : goal.returns-then-is_scaled
returns-then-is_scaled c =
    let rows = c.args.rows.outer in let along = c.args.rows.along in
    made_swapped (word_place c.args.right (rows.right ∷ along.right ∷ [])) (word_place c.args.left (rows.left ∷ along.left ∷ [])) (word_place c.args.out (rows.out ∷ along.out ∷ []))
    (places (rows.len ∷ along.len ∷ [])) c.args.words.now c.grow_by_scaled_rows.new.words c.grow_by_scaled_rows.ensures

pub grow_by_scaled_rows-requires-clause-run : goal.grow_by_scaled_rows-requires-clause-run
grow_by_scaled_rows-requires-clause-run c =
    let run = c.requires.run in
    record { positive = run.positive; out_within = run.out_within; left_within = run.right_within; right_within = run.left_within; left_apart = run.right_apart; right_apart = run.left_apart }
