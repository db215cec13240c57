use Rattle.std.proofs.Common.{◌≡◌, ◌-◌, [], ◌∷◌, length, get_or, take, drop, subst, ap, arith}
use Rattle.tce_block.specs.declared.loops.SumLoop.{SumLoop}
use Rattle.tce_block.specs.Places.{word_place, AreWithin}
use Rattle.tce_block.specs.StrideSteps.{sum_lens, sum_out_steps, operand_steps}
use Rattle.tce_block.specs.Running.{CanSum}
use Rattle.tce_block.proofs.Outer.{no_loop, one_loop, more_loops, sum_rest, sum_bases, sum_turns_more}
use Rattle.tce_block.proofs.sums.+grow_below.Goals as goal

pub grow_once-requires-clause-out : goal.grow_once-requires-clause-out
grow_once-requires-clause-out t c =
    let inside : AreWithin (length c.args.words.now) [] (word_place c.args.out []) =
    subst (λ ls. AreWithin (length c.args.words.now) (sum_lens ls) (word_place c.args.out (sum_out_steps ls))) (no_loop c.args.loops.now c.in-empty.len_below) c.requires.run.out_within in
    omega (arith, inside [] tt)

pub grow_once-requires-clause-operand : goal.grow_once-requires-clause-operand
grow_once-requires-clause-operand t c =
    let inside : AreWithin (length c.args.words.now) [] (word_place c.args.operand []) =
    subst (λ ls. AreWithin (length c.args.words.now) (sum_lens ls) (word_place c.args.operand (operand_steps ls))) (no_loop c.args.loops.now c.in-empty.len_below) c.requires.run.operand_within in
    omega (arith, inside [] tt)

pub grow_along-requires : goal.grow_along-requires
grow_along-requires t c =
    let none : SumLoop = record { len = 0; out = 0; operand = 0 } in
    record { run = subst (λ ls. CanSum (length c.args.words.now) ls c.args.out c.args.operand) (one_loop none c.args.loops.now c.in-len1.len_at_least c.in-len1.len_below) c.requires.run }

pub overflow_mul-x : goal.overflow_mul-x
overflow_mul-x t c =
    let none : SumLoop = record { len = 0; out = 0; operand = 0 } in
    let loops = c.args.loops.now in
    let fit = c.requires.run in
    let bases = sum_bases (length c.args.words.now) (get_or loops 0 none) (take (length loops - 1) (drop 1 loops)) loops c.args.out c.args.operand c.loop-x.x (more_loops none loops (omega arith)) fit c.loop-x-test.true in
    omega (arith, bases.0, c.requires.limit)

pub overflow_add-out : goal.overflow_add-out
overflow_add-out t c =
    let none : SumLoop = record { len = 0; out = 0; operand = 0 } in
    let loops = c.args.loops.now in
    let fit = c.requires.run in
    let bases = sum_bases (length c.args.words.now) (get_or loops 0 none) (take (length loops - 1) (drop 1 loops)) loops c.args.out c.args.operand c.loop-x.x (more_loops none loops (omega arith)) fit c.loop-x-test.true in
    omega (arith, bases.0, c.requires.limit)

pub overflow_mul-x-in-loop-x : goal.overflow_mul-x-in-loop-x
overflow_mul-x-in-loop-x t c =
    let none : SumLoop = record { len = 0; out = 0; operand = 0 } in
    let loops = c.args.loops.now in
    let fit = c.requires.run in
    let bases = sum_bases (length c.args.words.now) (get_or loops 0 none) (take (length loops - 1) (drop 1 loops)) loops c.args.out c.args.operand c.loop-x.x (more_loops none loops (omega arith)) fit c.loop-x-test.true in
    omega (arith, bases.1, c.requires.limit)

pub overflow_add-operand : goal.overflow_add-operand
overflow_add-operand t c =
    let none : SumLoop = record { len = 0; out = 0; operand = 0 } in
    let loops = c.args.loops.now in
    let fit = c.requires.run in
    let bases = sum_bases (length c.args.words.now) (get_or loops 0 none) (take (length loops - 1) (drop 1 loops)) loops c.args.out c.args.operand c.loop-x.x (more_loops none loops (omega arith)) fit c.loop-x-test.true in
    omega (arith, bases.1, c.requires.limit)

pub grow_below-requires : goal.grow_below-requires
grow_below-requires t c =
    let none : SumLoop = record { len = 0; out = 0; operand = 0 } in
    let loops = c.args.loops.now in
    let fit = c.requires.run in
    let rest = take (length loops - 1) (drop 1 loops) in
    let is : loops ≡ get_or loops 0 none ∷ rest = more_loops none loops (omega arith) in
    let inner = sum_rest (length c.args.words.now) (length c.loop-x.words) (get_or loops 0 none) rest loops c.args.out c.args.operand c.loop-x.x is fit c.loop-x.invariant.same_length c.loop-x-test.true in
    (omega (arith, ap length is, c.decreases), (omega (arith, c.requires.limit, c.loop-x.invariant.same_length), inner))

pub loop-x-preserved : goal.loop-x-preserved
loop-x-preserved t c =
    let none : SumLoop = record { len = 0; out = 0; operand = 0 } in
    let loops = c.args.loops.now in
    let fit = c.requires.run in
    sum_turns_more (get_or loops 0 none) (take (length loops - 1) (drop 1 loops)) loops c.args.out c.args.operand c.loop-x.x c.args.words.now c.loop-x.words c.grow_below.new.words
    (more_loops none loops (omega arith)) fit c.loop-x-test.true c.loop-x.invariant c.grow_below.ensures
