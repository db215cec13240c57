use Rattle.std.proofs.Common.{refl, List, length, take}
use Rattle.tce_block.specs.StrideSteps.{lens, out_steps, left_steps, right_steps}
use Rattle.tce_block.specs.Turns.{grown_by_products}
use Rattle.tce_block.specs.declared.loops.Loop.{Loop}
use Rattle.tce_exec.specs.Nests.{pair_loop}
use Rattle.tce_exec.proofs.LoopCalls.{ArePairLoops, pair_loops_are, positive_nest, within_nest, apart_nest, made_by_two}
use Rattle.tce_exec.proofs.Nests.{loops_in_front}
use Rattle.tce_exec.proofs.block_loops.grow_filled.Goals as goal

pub grow_by_products-requires-clause-positive : goal.grow_by_products-requires-clause-positive
grow_by_products-requires-clause-positive c =
    let loops : List Loop = take c.len-count.result c.args.sequence.now.pairs in
    let are : ArePairLoops c.args._loops.now.indexes.now c.args._loops.now.lens.now c.args.out.now c.args.operands.now.left.now c.args.operands.now.right.now loops =
    pair_loops_are c.args._loops.now.indexes.now c.args._loops.now.lens.now c.args.out.now c.args.operands.now.left.now c.args.operands.now.right.now c.args.sequence.now.axes.items loops c.requires.nest
    (loops_in_front (pair_loop c.args.out.now c.args.operands.now.left.now c.args.operands.now.right.now) c.args.sequence.now.axes.items c.args.sequence.now.axes.items c.args.sequence.now.pairs c.len-count.result refl c.len-count.ensures.value c.requires.products) in
    positive_nest c.args._loops.now.indexes.now c.args._loops.now.lens.now are.inner (lens loops) c.requires.loops are.same are.numbers

pub grow_by_products-requires-clause-out : goal.grow_by_products-requires-clause-out
grow_by_products-requires-clause-out c =
    let loops : List Loop = take c.len-count.result c.args.sequence.now.pairs in
    let are : ArePairLoops c.args._loops.now.indexes.now c.args._loops.now.lens.now c.args.out.now c.args.operands.now.left.now c.args.operands.now.right.now loops =
    pair_loops_are c.args._loops.now.indexes.now c.args._loops.now.lens.now c.args.out.now c.args.operands.now.left.now c.args.operands.now.right.now c.args.sequence.now.axes.items loops c.requires.nest
    (loops_in_front (pair_loop c.args.out.now c.args.operands.now.left.now c.args.operands.now.right.now) c.args.sequence.now.axes.items c.args.sequence.now.axes.items c.args.sequence.now.pairs c.len-count.result refl c.len-count.ensures.value c.requires.products) in
    within_nest c.args._loops.now.indexes.now c.args._loops.now.lens.now are.inner (lens loops) (out_steps loops) c.args.out.now (length c.args.words.now) c.requires.loops are.same are.numbers are.outs c.requires.out

pub grow_by_products-requires-clause-left : goal.grow_by_products-requires-clause-left
grow_by_products-requires-clause-left c =
    let loops : List Loop = take c.len-count.result c.args.sequence.now.pairs in
    let are : ArePairLoops c.args._loops.now.indexes.now c.args._loops.now.lens.now c.args.out.now c.args.operands.now.left.now c.args.operands.now.right.now loops =
    pair_loops_are c.args._loops.now.indexes.now c.args._loops.now.lens.now c.args.out.now c.args.operands.now.left.now c.args.operands.now.right.now c.args.sequence.now.axes.items loops c.requires.nest
    (loops_in_front (pair_loop c.args.out.now c.args.operands.now.left.now c.args.operands.now.right.now) c.args.sequence.now.axes.items c.args.sequence.now.axes.items c.args.sequence.now.pairs c.len-count.result refl c.len-count.ensures.value c.requires.products) in
    within_nest c.args._loops.now.indexes.now c.args._loops.now.lens.now are.inner (lens loops) (left_steps loops) c.args.operands.now.left.now (length c.args.words.now) c.requires.loops are.same are.numbers are.lefts c.requires.left

pub grow_by_products-requires-clause-right : goal.grow_by_products-requires-clause-right
grow_by_products-requires-clause-right c =
    let loops : List Loop = take c.len-count.result c.args.sequence.now.pairs in
    let are : ArePairLoops c.args._loops.now.indexes.now c.args._loops.now.lens.now c.args.out.now c.args.operands.now.left.now c.args.operands.now.right.now loops =
    pair_loops_are c.args._loops.now.indexes.now c.args._loops.now.lens.now c.args.out.now c.args.operands.now.left.now c.args.operands.now.right.now c.args.sequence.now.axes.items loops c.requires.nest
    (loops_in_front (pair_loop c.args.out.now c.args.operands.now.left.now c.args.operands.now.right.now) c.args.sequence.now.axes.items c.args.sequence.now.axes.items c.args.sequence.now.pairs c.len-count.result refl c.len-count.ensures.value c.requires.products) in
    within_nest c.args._loops.now.indexes.now c.args._loops.now.lens.now are.inner (lens loops) (right_steps loops) c.args.operands.now.right.now (length c.args.words.now) c.requires.loops are.same are.numbers are.rights c.requires.right

pub grow_by_products-requires-clause-apart_from_left : goal.grow_by_products-requires-clause-apart_from_left
grow_by_products-requires-clause-apart_from_left c =
    let loops : List Loop = take c.len-count.result c.args.sequence.now.pairs in
    let are : ArePairLoops c.args._loops.now.indexes.now c.args._loops.now.lens.now c.args.out.now c.args.operands.now.left.now c.args.operands.now.right.now loops =
    pair_loops_are c.args._loops.now.indexes.now c.args._loops.now.lens.now c.args.out.now c.args.operands.now.left.now c.args.operands.now.right.now c.args.sequence.now.axes.items loops c.requires.nest
    (loops_in_front (pair_loop c.args.out.now c.args.operands.now.left.now c.args.operands.now.right.now) c.args.sequence.now.axes.items c.args.sequence.now.axes.items c.args.sequence.now.pairs c.len-count.result refl c.len-count.ensures.value c.requires.products) in
    apart_nest c.args._loops.now.indexes.now c.args._loops.now.lens.now are.inner (lens loops) (out_steps loops) (left_steps loops) c.args.out.now c.args.operands.now.left.now c.requires.loops are.same are.numbers are.outs are.lefts c.requires.apart_from_left

pub grow_by_products-requires-clause-apart_from_right : goal.grow_by_products-requires-clause-apart_from_right
grow_by_products-requires-clause-apart_from_right c =
    let loops : List Loop = take c.len-count.result c.args.sequence.now.pairs in
    let are : ArePairLoops c.args._loops.now.indexes.now c.args._loops.now.lens.now c.args.out.now c.args.operands.now.left.now c.args.operands.now.right.now loops =
    pair_loops_are c.args._loops.now.indexes.now c.args._loops.now.lens.now c.args.out.now c.args.operands.now.left.now c.args.operands.now.right.now c.args.sequence.now.axes.items loops c.requires.nest
    (loops_in_front (pair_loop c.args.out.now c.args.operands.now.left.now c.args.operands.now.right.now) c.args.sequence.now.axes.items c.args.sequence.now.axes.items c.args.sequence.now.pairs c.len-count.result refl c.len-count.ensures.value c.requires.products) in
    apart_nest c.args._loops.now.indexes.now c.args._loops.now.lens.now are.inner (lens loops) (out_steps loops) (right_steps loops) c.args.out.now c.args.operands.now.right.now c.requires.loops are.same are.numbers are.outs are.rights c.requires.apart_from_right

pub returns : goal.returns
returns c =
    let loops : List Loop = take c.len-count.result c.args.sequence.now.pairs in
    let are : ArePairLoops c.args._loops.now.indexes.now c.args._loops.now.lens.now c.args.out.now c.args.operands.now.left.now c.args.operands.now.right.now loops =
    pair_loops_are c.args._loops.now.indexes.now c.args._loops.now.lens.now c.args.out.now c.args.operands.now.left.now c.args.operands.now.right.now c.args.sequence.now.axes.items loops c.requires.nest
    (loops_in_front (pair_loop c.args.out.now c.args.operands.now.left.now c.args.operands.now.right.now) c.args.sequence.now.axes.items c.args.sequence.now.axes.items c.args.sequence.now.pairs c.len-count.result refl c.len-count.ensures.value c.requires.products) in
    made_by_two (grown_by_products c.args.words.now) c.args._loops.now.indexes.now c.args._loops.now.lens.now c.args.out.now c.args.operands.now.left.now c.args.operands.now.right.now loops c.args.words.now c.grow_by_products.new.words are c.grow_by_products.ensures
