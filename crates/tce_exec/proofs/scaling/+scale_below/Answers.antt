use Rattle.std.proofs.Common.{◌≡◌, ◌-◌, [], ◌∷◌, length, get_or, take, drop, subst, ap, arith}
use Rattle.tce_block.specs.declared.loops.SumLoop.{SumLoop}
use Rattle.tce_block.specs.Places.{word_place, AreWithin}
use Rattle.tce_block.specs.StrideSteps.{sum_lens, sum_out_steps}
use Rattle.tce_block.proofs.Outer.{no_loop, one_loop, more_loops}
use Rattle.tce_exec.proofs.ScaledLoops.{CanScale, scale_rest, scale_base, scaled_more}
use Rattle.tce_exec.proofs.scaling.+scale_below.Goals as goal

pub scale_once-requires : goal.scale_once-requires
scale_once-requires t c =
    let inside : AreWithin (length c.args.words.now) [] (word_place c.args.out []) =
    subst (λ ls. AreWithin (length c.args.words.now) (sum_lens ls) (word_place c.args.out (sum_out_steps ls))) (no_loop c.args.loops.now c.in-empty.len_below) c.requires.out in
    omega (arith, inside [] tt)

pub scale_along-requires : goal.scale_along-requires
scale_along-requires t c =
    let none : SumLoop = record { len = 0; out = 0; operand = 0 } in
    let fit : CanScale (length c.args.words.now) c.args.loops.now c.args.out = record { positive = c.requires.positive; within = c.requires.out } in
    let one = subst (λ ls. CanScale (length c.args.words.now) ls c.args.out) (one_loop none c.args.loops.now c.in-len1.len_at_least c.in-len1.len_below) fit in
    record { limit = c.requires.limit; positive = one.positive; out = one.within }

pub overflow_mul-x : goal.overflow_mul-x
overflow_mul-x t c =
    let none : SumLoop = record { len = 0; out = 0; operand = 0 } in
    let loops = c.args.loops.now in
    let low = scale_base (length c.args.words.now) (get_or loops 0 none) (take (length loops - 1) (drop 1 loops)) loops c.args.out c.loop-x.x (more_loops none loops (omega arith)) (record { positive = c.requires.positive; within = c.requires.out }) c.loop-x-test.true in
    omega (arith, low, c.requires.limit)

pub overflow_add-out : goal.overflow_add-out
overflow_add-out t c =
    let none : SumLoop = record { len = 0; out = 0; operand = 0 } in
    let loops = c.args.loops.now in
    let low = scale_base (length c.args.words.now) (get_or loops 0 none) (take (length loops - 1) (drop 1 loops)) loops c.args.out c.loop-x.x (more_loops none loops (omega arith)) (record { positive = c.requires.positive; within = c.requires.out }) c.loop-x-test.true in
    omega (arith, low, c.requires.limit)

pub scale_below-requires : goal.scale_below-requires
scale_below-requires t c =
    let none : SumLoop = record { len = 0; out = 0; operand = 0 } in
    let loops = c.args.loops.now in
    let rest = take (length loops - 1) (drop 1 loops) in
    let is : loops ≡ get_or loops 0 none ∷ rest = more_loops none loops (omega arith) in
    let inner = scale_rest (length c.args.words.now) (length c.loop-x.words) (get_or loops 0 none) rest loops c.args.out c.loop-x.x is (record { positive = c.requires.positive; within = c.requires.out }) c.loop-x.invariant.same_length c.loop-x-test.true in
    (omega (arith, ap length is, c.decreases), (omega (arith, c.requires.limit, c.loop-x.invariant.same_length), (inner.positive, inner.within)))

pub loop-x-preserved : goal.loop-x-preserved
loop-x-preserved t c =
    let none : SumLoop = record { len = 0; out = 0; operand = 0 } in
    let loops = c.args.loops.now in
    scaled_more c.args.factor (get_or loops 0 none) (take (length loops - 1) (drop 1 loops)) loops c.args.out c.loop-x.x c.args.words.now c.loop-x.words c.scale_below.new.words
    (more_loops none loops (omega arith)) c.loop-x.invariant c.scale_below.ensures
