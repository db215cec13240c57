use Rattle.std.proofs.Common.{[], ◌∷◌, length, refl, arith}
use Rattle.tce_block.proofs.Outer.{turn_bases, turn_turns_more}
use Rattle.tce_block.proofs.runs.turn_by_turn.Goals as goal

pub overflow_mul-x : goal.overflow_mul-x
overflow_mul-x c =
    let fit = c.requires.run in
    let bases = turn_bases (length c.args.words.now) c.args.along [] (c.args.along ∷ []) c.args.out c.args.left c.args.right c.loop-x.x refl fit c.loop-x-test.true in
    omega (arith, bases.0, c.requires.limit)

pub overflow_add-out : goal.overflow_add-out
overflow_add-out c =
    let fit = c.requires.run in
    let bases = turn_bases (length c.args.words.now) c.args.along [] (c.args.along ∷ []) c.args.out c.args.left c.args.right c.loop-x.x refl fit c.loop-x-test.true in
    omega (arith, bases.0, c.requires.limit)

pub overflow_mul-x-in-loop-x : goal.overflow_mul-x-in-loop-x
overflow_mul-x-in-loop-x c =
    let fit = c.requires.run in
    let bases = turn_bases (length c.args.words.now) c.args.along [] (c.args.along ∷ []) c.args.out c.args.left c.args.right c.loop-x.x refl fit c.loop-x-test.true in
    omega (arith, bases.1, c.requires.limit)

pub overflow_add-left : goal.overflow_add-left
overflow_add-left c =
    let fit = c.requires.run in
    let bases = turn_bases (length c.args.words.now) c.args.along [] (c.args.along ∷ []) c.args.out c.args.left c.args.right c.loop-x.x refl fit c.loop-x-test.true in
    omega (arith, bases.1, c.requires.limit)

pub overflow_mul-x-in-loop-x-2 : goal.overflow_mul-x-in-loop-x-2
overflow_mul-x-in-loop-x-2 c =
    let fit = c.requires.run in
    let bases = turn_bases (length c.args.words.now) c.args.along [] (c.args.along ∷ []) c.args.out c.args.left c.args.right c.loop-x.x refl fit c.loop-x-test.true in
    omega (arith, bases.2, c.requires.limit)

pub overflow_add-right : goal.overflow_add-right
overflow_add-right c =
    let fit = c.requires.run in
    let bases = turn_bases (length c.args.words.now) c.args.along [] (c.args.along ∷ []) c.args.out c.args.left c.args.right c.loop-x.x refl fit c.loop-x-test.true in
    omega (arith, bases.2, c.requires.limit)

pub turn_once-requires-clause-out : goal.turn_once-requires-clause-out
turn_once-requires-clause-out c =
    let fit = c.requires.run in
    let bases = turn_bases (length c.args.words.now) c.args.along [] (c.args.along ∷ []) c.args.out c.args.left c.args.right c.loop-x.x refl fit c.loop-x-test.true in
    omega (arith, bases.0, c.loop-x.invariant.same_length)

pub turn_once-requires-clause-left : goal.turn_once-requires-clause-left
turn_once-requires-clause-left c =
    let fit = c.requires.run in
    let bases = turn_bases (length c.args.words.now) c.args.along [] (c.args.along ∷ []) c.args.out c.args.left c.args.right c.loop-x.x refl fit c.loop-x-test.true in
    omega (arith, bases.1, c.loop-x.invariant.same_length)

pub turn_once-requires-clause-right : goal.turn_once-requires-clause-right
turn_once-requires-clause-right c =
    let fit = c.requires.run in
    let bases = turn_bases (length c.args.words.now) c.args.along [] (c.args.along ∷ []) c.args.out c.args.left c.args.right c.loop-x.x refl fit c.loop-x-test.true in
    omega (arith, bases.2, c.loop-x.invariant.same_length)

pub loop-x-preserved : goal.loop-x-preserved
loop-x-preserved c =
    let fit = c.requires.run in
    turn_turns_more c.args.turn c.args.along [] (c.args.along ∷ []) c.args.out c.args.left c.args.right c.loop-x.x c.args.words.now c.loop-x.words c.turn_once.new.words
    refl fit c.loop-x-test.true c.loop-x.invariant c.turn_once.ensures
