use Rattle.std.proofs.Common.{length, arith}
use Rattle.tce_block.proofs.FourWords.{four_turns, four_within}
use Rattle.tce_block.proofs.rows.grow_four.Goals as goal

pub turn_once-requires-clause-out : goal.turn_once-requires-clause-out
turn_once-requires-clause-out c =
    let within = four_within c.args._along (length c.args.words.now) c.args.out c.args.left c.args.right 0 c.requires.run c.requires.four c.requires.scaled (omega arith) in
    omega (arith, within.0)

pub turn_once-requires-clause-left : goal.turn_once-requires-clause-left
turn_once-requires-clause-left c =
    let within = four_within c.args._along (length c.args.words.now) c.args.out c.args.left c.args.right 0 c.requires.run c.requires.four c.requires.scaled (omega arith) in
    omega (arith, within.1)

pub turn_once-requires-clause-right : goal.turn_once-requires-clause-right
turn_once-requires-clause-right c =
    let within = four_within c.args._along (length c.args.words.now) c.args.out c.args.left c.args.right 0 c.requires.run c.requires.four c.requires.scaled (omega arith) in
    omega (arith, within.2)

pub overflow_add-out : goal.overflow_add-out
overflow_add-out c =
    let within = four_within c.args._along (length c.args.words.now) c.args.out c.args.left c.args.right 1 c.requires.run c.requires.four c.requires.scaled (omega arith) in
    omega (arith, within.0, c.requires.limit)

pub overflow_add-right : goal.overflow_add-right
overflow_add-right c =
    let within = four_within c.args._along (length c.args.words.now) c.args.out c.args.left c.args.right 1 c.requires.run c.requires.four c.requires.scaled (omega arith) in
    omega (arith, within.2, c.requires.limit)

pub turn_once-requires-2-clause-out : goal.turn_once-requires-2-clause-out
turn_once-requires-2-clause-out c =
    let within = four_within c.args._along (length c.args.words.now) c.args.out c.args.left c.args.right 1 c.requires.run c.requires.four c.requires.scaled (omega arith) in
    omega (arith, within.0, c.turn_once.ensures.same_length)

pub turn_once-requires-2-clause-left : goal.turn_once-requires-2-clause-left
turn_once-requires-2-clause-left c =
    let within = four_within c.args._along (length c.args.words.now) c.args.out c.args.left c.args.right 1 c.requires.run c.requires.four c.requires.scaled (omega arith) in
    omega (arith, within.1, c.turn_once.ensures.same_length)

pub turn_once-requires-2-clause-right : goal.turn_once-requires-2-clause-right
turn_once-requires-2-clause-right c =
    let within = four_within c.args._along (length c.args.words.now) c.args.out c.args.left c.args.right 1 c.requires.run c.requires.four c.requires.scaled (omega arith) in
    omega (arith, within.2, c.turn_once.ensures.same_length)

pub overflow_add-out-2 : goal.overflow_add-out-2
overflow_add-out-2 c =
    let within = four_within c.args._along (length c.args.words.now) c.args.out c.args.left c.args.right 2 c.requires.run c.requires.four c.requires.scaled (omega arith) in
    omega (arith, within.0, c.requires.limit)

pub overflow_add-right-2 : goal.overflow_add-right-2
overflow_add-right-2 c =
    let within = four_within c.args._along (length c.args.words.now) c.args.out c.args.left c.args.right 2 c.requires.run c.requires.four c.requires.scaled (omega arith) in
    omega (arith, within.2, c.requires.limit)

pub turn_once-requires-3-clause-out : goal.turn_once-requires-3-clause-out
turn_once-requires-3-clause-out c =
    let within = four_within c.args._along (length c.args.words.now) c.args.out c.args.left c.args.right 2 c.requires.run c.requires.four c.requires.scaled (omega arith) in
    omega (arith, within.0, c.turn_once.ensures.same_length, c.turn_once-2.ensures.same_length)

pub turn_once-requires-3-clause-left : goal.turn_once-requires-3-clause-left
turn_once-requires-3-clause-left c =
    let within = four_within c.args._along (length c.args.words.now) c.args.out c.args.left c.args.right 2 c.requires.run c.requires.four c.requires.scaled (omega arith) in
    omega (arith, within.1, c.turn_once.ensures.same_length, c.turn_once-2.ensures.same_length)

pub turn_once-requires-3-clause-right : goal.turn_once-requires-3-clause-right
turn_once-requires-3-clause-right c =
    let within = four_within c.args._along (length c.args.words.now) c.args.out c.args.left c.args.right 2 c.requires.run c.requires.four c.requires.scaled (omega arith) in
    omega (arith, within.2, c.turn_once.ensures.same_length, c.turn_once-2.ensures.same_length)

pub overflow_add-out-3 : goal.overflow_add-out-3
overflow_add-out-3 c =
    let within = four_within c.args._along (length c.args.words.now) c.args.out c.args.left c.args.right 3 c.requires.run c.requires.four c.requires.scaled (omega arith) in
    omega (arith, within.0, c.requires.limit)

pub overflow_add-right-3 : goal.overflow_add-right-3
overflow_add-right-3 c =
    let within = four_within c.args._along (length c.args.words.now) c.args.out c.args.left c.args.right 3 c.requires.run c.requires.four c.requires.scaled (omega arith) in
    omega (arith, within.2, c.requires.limit)

pub turn_once-requires-4-clause-out : goal.turn_once-requires-4-clause-out
turn_once-requires-4-clause-out c =
    let within = four_within c.args._along (length c.args.words.now) c.args.out c.args.left c.args.right 3 c.requires.run c.requires.four c.requires.scaled (omega arith) in
    omega (arith, within.0, c.turn_once.ensures.same_length, c.turn_once-2.ensures.same_length, c.turn_once-3.ensures.same_length)

pub turn_once-requires-4-clause-left : goal.turn_once-requires-4-clause-left
turn_once-requires-4-clause-left c =
    let within = four_within c.args._along (length c.args.words.now) c.args.out c.args.left c.args.right 3 c.requires.run c.requires.four c.requires.scaled (omega arith) in
    omega (arith, within.1, c.turn_once.ensures.same_length, c.turn_once-2.ensures.same_length, c.turn_once-3.ensures.same_length)

pub turn_once-requires-4-clause-right : goal.turn_once-requires-4-clause-right
turn_once-requires-4-clause-right c =
    let within = four_within c.args._along (length c.args.words.now) c.args.out c.args.left c.args.right 3 c.requires.run c.requires.four c.requires.scaled (omega arith) in
    omega (arith, within.2, c.turn_once.ensures.same_length, c.turn_once-2.ensures.same_length, c.turn_once-3.ensures.same_length)

pub returns : goal.returns
returns c =
    four_turns c.args._along c.args.out c.args.left c.args.right c.args.words.now c.turn_once.new.words c.turn_once-2.new.words c.turn_once-3.new.words c.turn_once-4.new.words
    c.requires.run c.requires.four c.requires.scaled c.turn_once.ensures c.turn_once-2.ensures c.turn_once-3.ensures c.turn_once-4.ensures
