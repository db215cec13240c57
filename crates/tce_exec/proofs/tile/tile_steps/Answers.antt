use Rattle.std.proofs.Common.{◌-◌, ◌≤◌, length, ap, arith}
use Rattle.tce_exec.proofs.TileSteps.{steps_fit, one_in_front}
use Rattle.tce_exec.proofs.tile.tile_steps.Goals as goal

pub overflow_add-steps : goal.overflow_add-steps
overflow_add-steps c =
    let fit = steps_fit c.args.shape.now _ c.args.indexes.now _ c.loop-d.d _ _ c.edges-edges.ensures.limits c.edges-edges.ensures.items c.requires.each c.loop-d-test.true c.loop-d.auto.d
    (c.requires.known (c.loop-d.d - 1) 0 (omega (arith, c.loop-d-test.true, c.loop-d.auto.d))) c.loop-d.invariant in
    omega (arith, fit.0)

pub overflow_mul-behind : goal.overflow_mul-behind
overflow_mul-behind c =
    let fit = steps_fit c.args.shape.now _ c.args.indexes.now _ c.loop-d.d _ 0 c.edges-edges.ensures.limits c.edges-edges.ensures.items c.requires.each c.loop-d-test.true c.loop-d.auto.d
    (omega arith) c.loop-d.invariant in
    omega (arith, fit.1)

pub loop-d-preserved : goal.loop-d-preserved
loop-d-preserved c =
    let low : c.loop-d.d ≤ length c.edges-edges.result.now = omega (arith, ap length c.edges-edges.ensures.items, c.edges-edges.ensures.limits.same_rank, c.requires.each, c.loop-d.auto.d) in
    one_in_front c.edges-edges.result.now c.args.indexes.now c.loop-d.steps c.loop-d.d c.loop-d.behind c.loop-d-test.true low c.loop-d.auto.d
    (c.requires.known (c.loop-d.d - 1) 0 (omega (arith, c.loop-d-test.true, c.loop-d.auto.d))) c.loop-d.invariant

pub returns-clause-limits : goal.returns-clause-limits
returns-clause-limits c = c.edges-edges.ensures.limits
