use Rattle.std.proofs.Common.{◌<◌, ◌+◌, length, sum_by, subst, sym, ap, arith}
use Rattle.std.specs.List.{All}
use Rattle.tce_exec.specs.Nests.{advanced}
use Rattle.tce_exec.specs.declared.nest.Axis.{Axis}
use Rattle.tce_exec.proofs.Kept.{IsCall, advanced_below, some_axes}
use Rattle.tce_exec.proofs.block_loops.fill_puts.Goals as goal

pub fill_moving_loops-sequence-requires-clause-some : goal.fill_moving_loops-sequence-requires-clause-some
fill_moving_loops-sequence-requires-clause-some c =
    subst (All (λ (x : Axis). 0 < x.len)) (sym c.as_slice-axes.ensures.value) (some_axes c.args._loops.now.indexes.now c.args._loops.now.lens.now c.args.sequence.now.axes.items c.requires.loops c.requires.nest)

pub fill_moving_loops-sequence-requires-clause-left : goal.fill_moving_loops-sequence-requires-clause-left
fill_moving_loops-sequence-requires-clause-left c =
    let call : IsCall c.args._loops.now.indexes.now c.args._loops.now.lens.now c.args.out.now c.args.sequence.now.axes.items = record { loops = c.requires.loops; nest = c.requires.nest } in
    let low : c.args.operands.now.left.now.first + sum_by (advanced c.args.out.now c.args.operands.now.left.now) c.args.sequence.now.axes.items < length c.args.words.now =
    advanced_below c.args._loops.now.indexes.now c.args._loops.now.lens.now c.args.out.now c.args.operands.now.left.now c.args.sequence.now.axes.items (length c.args.words.now) call c.requires.left in
    omega (arith, low, c.len-count.ensures.limit, ap (sum_by (advanced c.args.out.now c.args.operands.now.left.now)) c.as_slice-axes.ensures.value)

pub fill_moving_loops-sequence-requires-clause-right : goal.fill_moving_loops-sequence-requires-clause-right
fill_moving_loops-sequence-requires-clause-right c =
    let call : IsCall c.args._loops.now.indexes.now c.args._loops.now.lens.now c.args.out.now c.args.sequence.now.axes.items = record { loops = c.requires.loops; nest = c.requires.nest } in
    let low : c.args.operands.now.right.now.first + sum_by (advanced c.args.out.now c.args.operands.now.right.now) c.args.sequence.now.axes.items < length c.args.words.now =
    advanced_below c.args._loops.now.indexes.now c.args._loops.now.lens.now c.args.out.now c.args.operands.now.right.now c.args.sequence.now.axes.items (length c.args.words.now) call c.requires.right in
    omega (arith, low, c.len-count.ensures.limit, ap (sum_by (advanced c.args.out.now c.args.operands.now.right.now)) c.as_slice-axes.ensures.value)
