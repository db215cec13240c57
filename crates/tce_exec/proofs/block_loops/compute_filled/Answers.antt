use Rattle.std.proofs.Common.{◌<◌, ◌+◌, length, sum_by, arith}
use Rattle.tce_exec.specs.Nests.{advanced}
use Rattle.tce_exec.proofs.Kept.{IsCall, advanced_below, positive_kept, out_within, left_within, right_within, left_apart, right_apart, runs_kept, made_kept}
use Rattle.tce_exec.proofs.block_loops.compute_filled.Goals as goal

pub overflow_add-operands : goal.overflow_add-operands
overflow_add-operands c =
    let call : IsCall c.args._loops.now.indexes.now c.args._loops.now.lens.now c.args.out.now c.args.sequence.now.axes.items = record { loops = c.requires.loops; nest = c.requires.nest } in
    let low : c.args.operands.now.left.now.first + sum_by (advanced c.args.out.now c.args.operands.now.left.now) c.args.sequence.now.axes.items < length c.args.words.now =
    advanced_below c.args._loops.now.indexes.now c.args._loops.now.lens.now c.args.out.now c.args.operands.now.left.now c.args.sequence.now.axes.items (length c.args.words.now) call c.requires.left in
    omega (arith, low, c.len-count.ensures.limit, c.requires.puts.left_is)

pub overflow_add-operands-2 : goal.overflow_add-operands-2
overflow_add-operands-2 c =
    let call : IsCall c.args._loops.now.indexes.now c.args._loops.now.lens.now c.args.out.now c.args.sequence.now.axes.items = record { loops = c.requires.loops; nest = c.requires.nest } in
    let low : c.args.operands.now.right.now.first + sum_by (advanced c.args.out.now c.args.operands.now.right.now) c.args.sequence.now.axes.items < length c.args.words.now =
    advanced_below c.args._loops.now.indexes.now c.args._loops.now.lens.now c.args.out.now c.args.operands.now.right.now c.args.sequence.now.axes.items (length c.args.words.now) call c.requires.right in
    omega (arith, low, c.len-count.ensures.limit, c.requires.puts.right_is)

pub compute-requires-clause-positive : goal.compute-requires-clause-positive
compute-requires-clause-positive c =
    let call : IsCall c.args._loops.now.indexes.now c.args._loops.now.lens.now c.args.out.now c.args.sequence.now.axes.items = record { loops = c.requires.loops; nest = c.requires.nest } in
    let runs = runs_kept c.args.out.now c.args.operands.now.left.now c.args.operands.now.right.now c.args.sequence.now c.requires.puts in
    positive_kept c.args._loops.now.indexes.now c.args._loops.now.lens.now c.args.out.now c.args.operands.now.left.now c.args.operands.now.right.now c.args.sequence.now.axes.items _ _ _ call runs

pub compute-requires-clause-out : goal.compute-requires-clause-out
compute-requires-clause-out c =
    let call : IsCall c.args._loops.now.indexes.now c.args._loops.now.lens.now c.args.out.now c.args.sequence.now.axes.items = record { loops = c.requires.loops; nest = c.requires.nest } in
    let runs = runs_kept c.args.out.now c.args.operands.now.left.now c.args.operands.now.right.now c.args.sequence.now c.requires.puts in
    out_within c.args._loops.now.indexes.now c.args._loops.now.lens.now c.args.out.now c.args.operands.now.left.now c.args.operands.now.right.now c.args.sequence.now.axes.items _ _ _ (length c.args.words.now) call runs c.requires.out

pub compute-requires-clause-left : goal.compute-requires-clause-left
compute-requires-clause-left c =
    let call : IsCall c.args._loops.now.indexes.now c.args._loops.now.lens.now c.args.out.now c.args.sequence.now.axes.items = record { loops = c.requires.loops; nest = c.requires.nest } in
    let runs = runs_kept c.args.out.now c.args.operands.now.left.now c.args.operands.now.right.now c.args.sequence.now c.requires.puts in
    left_within c.args._loops.now.indexes.now c.args._loops.now.lens.now c.args.out.now c.args.operands.now.left.now c.args.operands.now.right.now c.args.sequence.now.axes.items _ _ _ (length c.args.words.now) call runs c.requires.left

pub compute-requires-clause-right : goal.compute-requires-clause-right
compute-requires-clause-right c =
    let call : IsCall c.args._loops.now.indexes.now c.args._loops.now.lens.now c.args.out.now c.args.sequence.now.axes.items = record { loops = c.requires.loops; nest = c.requires.nest } in
    let runs = runs_kept c.args.out.now c.args.operands.now.left.now c.args.operands.now.right.now c.args.sequence.now c.requires.puts in
    right_within c.args._loops.now.indexes.now c.args._loops.now.lens.now c.args.out.now c.args.operands.now.left.now c.args.operands.now.right.now c.args.sequence.now.axes.items _ _ _ (length c.args.words.now) call runs c.requires.right

pub compute-requires-clause-apart_from_left : goal.compute-requires-clause-apart_from_left
compute-requires-clause-apart_from_left c =
    let call : IsCall c.args._loops.now.indexes.now c.args._loops.now.lens.now c.args.out.now c.args.sequence.now.axes.items = record { loops = c.requires.loops; nest = c.requires.nest } in
    let runs = runs_kept c.args.out.now c.args.operands.now.left.now c.args.operands.now.right.now c.args.sequence.now c.requires.puts in
    left_apart c.args._loops.now.indexes.now c.args._loops.now.lens.now c.args.out.now c.args.operands.now.left.now c.args.operands.now.right.now c.args.sequence.now.axes.items _ _ _ call runs c.requires.apart_from_left

pub compute-requires-clause-apart_from_right : goal.compute-requires-clause-apart_from_right
compute-requires-clause-apart_from_right c =
    let call : IsCall c.args._loops.now.indexes.now c.args._loops.now.lens.now c.args.out.now c.args.sequence.now.axes.items = record { loops = c.requires.loops; nest = c.requires.nest } in
    let runs = runs_kept c.args.out.now c.args.operands.now.left.now c.args.operands.now.right.now c.args.sequence.now c.requires.puts in
    right_apart c.args._loops.now.indexes.now c.args._loops.now.lens.now c.args.out.now c.args.operands.now.left.now c.args.operands.now.right.now c.args.sequence.now.axes.items _ _ _ call runs c.requires.apart_from_right

pub returns : goal.returns
returns c =
    let call : IsCall c.args._loops.now.indexes.now c.args._loops.now.lens.now c.args.out.now c.args.sequence.now.axes.items = record { loops = c.requires.loops; nest = c.requires.nest } in
    let runs = runs_kept c.args.out.now c.args.operands.now.left.now c.args.operands.now.right.now c.args.sequence.now c.requires.puts in
    made_kept c.args.operation c.args._loops.now.indexes.now c.args._loops.now.lens.now c.args.out.now c.args.operands.now.left.now c.args.operands.now.right.now c.args.sequence.now.axes.items _ _ _ c.args.words.now c.compute.new.words call runs c.compute.ensures
