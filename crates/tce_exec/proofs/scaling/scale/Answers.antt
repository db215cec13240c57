use Rattle.std.proofs.Common.{List, length, take}
use Rattle.tce_base.specs.Word.{wrapping_mul}
use Rattle.tce_block.specs.StrideSteps.{sum_lens, sum_out_steps}
use Rattle.tce_block.specs.declared.loops.SumLoop.{SumLoop}
use Rattle.tce_exec.specs.Nests.{sum_loop}
use Rattle.tce_exec.proofs.LoopCalls.{AreSumLoops, sum_loops_are, positive_nest, within_nest, made_by_one}
use Rattle.tce_exec.proofs.Nests.{loops_in_front}
use Rattle.tce_exec.proofs.scaling.scale.Goals as goal

pub scale_below-requires-clause-positive : goal.scale_below-requires-clause-positive
scale_below-requires-clause-positive c =
    let loops : List SumLoop = take c.len-count.result c.fill_sum_loops.new.loops in
    let are : AreSumLoops c.args.loops.now.indexes.now c.args.loops.now.lens.now c.args.out.now c.args.out.now loops =
    sum_loops_are c.args.loops.now.indexes.now c.args.loops.now.lens.now c.args.out.now c.args.out.now c.begin.new.self.axes.items loops c.begin.ensures.nest
    (loops_in_front (sum_loop c.args.out.now c.args.out.now) c.begin.new.self.axes.items c.as_slice.result.now c.fill_sum_loops.new.loops c.len-count.result c.as_slice.ensures.value c.len-count.ensures.value c.fill_sum_loops.ensures) in
    positive_nest c.args.loops.now.indexes.now c.args.loops.now.lens.now are.inner (sum_lens loops) c.requires.loops are.same are.numbers

pub scale_below-requires-clause-out : goal.scale_below-requires-clause-out
scale_below-requires-clause-out c =
    let loops : List SumLoop = take c.len-count.result c.fill_sum_loops.new.loops in
    let are : AreSumLoops c.args.loops.now.indexes.now c.args.loops.now.lens.now c.args.out.now c.args.out.now loops =
    sum_loops_are c.args.loops.now.indexes.now c.args.loops.now.lens.now c.args.out.now c.args.out.now c.begin.new.self.axes.items loops c.begin.ensures.nest
    (loops_in_front (sum_loop c.args.out.now c.args.out.now) c.begin.new.self.axes.items c.as_slice.result.now c.fill_sum_loops.new.loops c.len-count.result c.as_slice.ensures.value c.len-count.ensures.value c.fill_sum_loops.ensures) in
    within_nest c.args.loops.now.indexes.now c.args.loops.now.lens.now are.inner (sum_lens loops) (sum_out_steps loops) c.args.out.now (length c.args.words.now) c.requires.loops are.same are.numbers are.outs c.requires.out

pub returns-clause-made : goal.returns-clause-made
returns-clause-made c =
    let loops : List SumLoop = take c.len-count.result c.fill_sum_loops.new.loops in
    let are : AreSumLoops c.args.loops.now.indexes.now c.args.loops.now.lens.now c.args.out.now c.args.out.now loops =
    sum_loops_are c.args.loops.now.indexes.now c.args.loops.now.lens.now c.args.out.now c.args.out.now c.begin.new.self.axes.items loops c.begin.ensures.nest
    (loops_in_front (sum_loop c.args.out.now c.args.out.now) c.begin.new.self.axes.items c.as_slice.result.now c.fill_sum_loops.new.loops c.len-count.result c.as_slice.ensures.value c.len-count.ensures.value c.fill_sum_loops.ensures) in
    made_by_one (λ place w xs. wrapping_mul c.args.factor w) c.args.loops.now.indexes.now c.args.loops.now.lens.now c.args.out.now c.args.out.now loops c.args.words.now c.scale_below.new.words are c.scale_below.ensures
