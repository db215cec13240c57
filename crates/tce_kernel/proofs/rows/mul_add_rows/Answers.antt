use Rattle.std.proofs.Common.{◌*◌, arith}
use Rattle.tce_kernel.proofs.RowBlocks.{block_done, word_done, all_done}
use Rattle.tce_kernel.proofs.rows.mul_add_rows.Goals as goal

pub loop-block-preserved : goal.loop-block-preserved
loop-block-preserved c =
    block_done c.args.out.now c.args.factors.now c.args.factor_step c.args.rows.now c.args.row_step c.args.count c.requires.rows
    (32 * c.loop-block.block) 32 _ _ c.loop-block.out c.grow_wide.new.out c.loop-block.invariant (omega arith) (omega arith) (omega arith) c.grow_wide.ensures

pub loop-block-2-preserved : goal.loop-block-2-preserved
loop-block-2-preserved c =
    block_done c.args.out.now c.args.factors.now c.args.factor_step c.args.rows.now c.args.row_step c.args.count c.requires.rows
    (8 * c.loop-block-2.block) 8 _ _ c.loop-block-2.out c.grow_lanes.new.out c.loop-block-2.invariant (omega arith) (omega arith) (omega arith) c.grow_lanes.ensures

pub loop-at-preserved : goal.loop-at-preserved
loop-at-preserved c =
    word_done c.args.out.now c.args.factors.now c.args.factor_step c.args.rows.now c.args.row_step c.args.count c.requires.rows
    c.loop-at.at c.grown.result c.loop-at.out c.loop-at.invariant (omega arith) c.grown.ensures

pub returns : goal.returns
returns c =
    all_done c.args.out.now c.args.factors.now c.args.factor_step c.args.rows.now c.args.row_step c.args.count c.requires.rows
    c.loop-at.at c.loop-at.out c.loop-at.invariant (omega arith)
