use Rattle.std.proofs.Common.{arith}
use Rattle.tce_space.specs.Box.{place}
use Rattle.tce_space.proofs.Boxes.{placed_step, placed_le, placed_end, place-lt}
use Rattle.tce_space.proofs.row_major.place.Goals as goal

pub overflow_mul-place : goal.overflow_mul-place
overflow_mul-place c =
    let next = placed_le _ _ _ _ (placed_step c.args.extents.now c.args.coords.now c.loop-d.d c.loop-d.place (place c.args.extents.now c.args.coords.now) c.loop-d-test.true c.loop-d.invariant) in
    omega (arith, next, place-lt c.args.extents.now c.args.coords.now c.requires.inside, c.requires.fits)

pub overflow_add-place : goal.overflow_add-place
overflow_add-place c =
    let next = placed_le _ _ _ _ (placed_step c.args.extents.now c.args.coords.now c.loop-d.d c.loop-d.place (place c.args.extents.now c.args.coords.now) c.loop-d-test.true c.loop-d.invariant) in
    omega (arith, next, place-lt c.args.extents.now c.args.coords.now c.requires.inside, c.requires.fits)

pub loop-d-preserved : goal.loop-d-preserved
loop-d-preserved c = placed_step c.args.extents.now c.args.coords.now c.loop-d.d c.loop-d.place (place c.args.extents.now c.args.coords.now) c.loop-d-test.true c.loop-d.invariant

pub returns-clause-place : goal.returns-clause-place
returns-clause-place c = placed_end c.args.extents.now c.args.coords.now c.loop-d.d c.loop-d.place (place c.args.extents.now c.args.coords.now) c.loop-d-test.false c.loop-d.invariant

pub returns-clause-within : goal.returns-clause-within
returns-clause-within c = omega (arith, returns-clause-place c, place-lt c.args.extents.now c.args.coords.now c.requires.inside)
