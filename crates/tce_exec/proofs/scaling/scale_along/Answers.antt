use Rattle.std.proofs.Common.{[], ◌∷◌, length, refl, arith}
use Rattle.tce_exec.proofs.ScaledLoops.{scale_base, scaled_more}
use Rattle.tce_exec.proofs.scaling.scale_along.Goals as goal

pub overflow_mul-x : goal.overflow_mul-x
overflow_mul-x c =
    let low = scale_base (length c.args.words.now) c.args.along [] (c.args.along ∷ []) c.args.out c.loop-x.x refl (record { positive = c.requires.positive; within = c.requires.out }) c.loop-x-test.true in
    omega (arith, low, c.requires.limit)

pub overflow_add-out : goal.overflow_add-out
overflow_add-out c =
    let low = scale_base (length c.args.words.now) c.args.along [] (c.args.along ∷ []) c.args.out c.loop-x.x refl (record { positive = c.requires.positive; within = c.requires.out }) c.loop-x-test.true in
    omega (arith, low, c.requires.limit)

pub scale_once-requires : goal.scale_once-requires
scale_once-requires c =
    let low = scale_base (length c.args.words.now) c.args.along [] (c.args.along ∷ []) c.args.out c.loop-x.x refl (record { positive = c.requires.positive; within = c.requires.out }) c.loop-x-test.true in
    omega (arith, low, c.loop-x.invariant.same_length)

pub loop-x-preserved : goal.loop-x-preserved
loop-x-preserved c =
    scaled_more c.args.factor c.args.along [] (c.args.along ∷ []) c.args.out c.loop-x.x c.args.words.now c.loop-x.words c.scale_once.new.words refl c.loop-x.invariant c.scale_once.ensures
