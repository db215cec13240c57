use Rattle.std.proofs.Common.{[], ◌∷◌, length, refl, arith}
use Rattle.tce_block.specs.declared.loops.Turn.TheVariants.{Grow}
use Rattle.tce_block.proofs.Outer.{turn_rest, turn_bases, turn_turns_more}
use Rattle.tce_block.proofs.rows.rows_of_four.Goals as goal

pub overflow_mul-x : goal.overflow_mul-x
overflow_mul-x c =
    let fit = c.requires.run in
    let bases = turn_bases (length c.args.words.now) c.args.rows.outer (c.args.rows.along ∷ []) (c.args.rows.outer ∷ c.args.rows.along ∷ []) c.args.out c.args.left c.args.right c.loop-x.x refl fit c.loop-x-test.true in
    omega (arith, bases.0, c.requires.limit)

pub overflow_add-out : goal.overflow_add-out
overflow_add-out c =
    let fit = c.requires.run in
    let bases = turn_bases (length c.args.words.now) c.args.rows.outer (c.args.rows.along ∷ []) (c.args.rows.outer ∷ c.args.rows.along ∷ []) c.args.out c.args.left c.args.right c.loop-x.x refl fit c.loop-x-test.true in
    omega (arith, bases.0, c.requires.limit)

pub overflow_mul-x-in-loop-x : goal.overflow_mul-x-in-loop-x
overflow_mul-x-in-loop-x c =
    let fit = c.requires.run in
    let bases = turn_bases (length c.args.words.now) c.args.rows.outer (c.args.rows.along ∷ []) (c.args.rows.outer ∷ c.args.rows.along ∷ []) c.args.out c.args.left c.args.right c.loop-x.x refl fit c.loop-x-test.true in
    omega (arith, bases.1, c.requires.limit)

pub overflow_add-left : goal.overflow_add-left
overflow_add-left c =
    let fit = c.requires.run in
    let bases = turn_bases (length c.args.words.now) c.args.rows.outer (c.args.rows.along ∷ []) (c.args.rows.outer ∷ c.args.rows.along ∷ []) c.args.out c.args.left c.args.right c.loop-x.x refl fit c.loop-x-test.true in
    omega (arith, bases.1, c.requires.limit)

pub overflow_mul-x-in-loop-x-2 : goal.overflow_mul-x-in-loop-x-2
overflow_mul-x-in-loop-x-2 c =
    let fit = c.requires.run in
    let bases = turn_bases (length c.args.words.now) c.args.rows.outer (c.args.rows.along ∷ []) (c.args.rows.outer ∷ c.args.rows.along ∷ []) c.args.out c.args.left c.args.right c.loop-x.x refl fit c.loop-x-test.true in
    omega (arith, bases.2, c.requires.limit)

pub overflow_add-right : goal.overflow_add-right
overflow_add-right c =
    let fit = c.requires.run in
    let bases = turn_bases (length c.args.words.now) c.args.rows.outer (c.args.rows.along ∷ []) (c.args.rows.outer ∷ c.args.rows.along ∷ []) c.args.out c.args.left c.args.right c.loop-x.x refl fit c.loop-x-test.true in
    omega (arith, bases.2, c.requires.limit)

pub grow_four-requires-clause-run : goal.grow_four-requires-clause-run
grow_four-requires-clause-run c =
    let fit = c.requires.run in
    let inner = turn_rest (length c.args.words.now) (length c.loop-x.words) c.args.rows.outer (c.args.rows.along ∷ []) (c.args.rows.outer ∷ c.args.rows.along ∷ []) c.args.out c.args.left c.args.right c.loop-x.x refl fit c.loop-x.invariant.same_length c.loop-x-test.true in
    inner

pub loop-x-preserved : goal.loop-x-preserved
loop-x-preserved c =
    let fit = c.requires.run in
    turn_turns_more Grow c.args.rows.outer (c.args.rows.along ∷ []) (c.args.rows.outer ∷ c.args.rows.along ∷ []) c.args.out c.args.left c.args.right c.loop-x.x c.args.words.now c.loop-x.words c.grow_four.new.words
    refl fit c.loop-x-test.true c.loop-x.invariant c.grow_four.ensures
