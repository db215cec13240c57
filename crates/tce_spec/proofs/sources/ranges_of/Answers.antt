use Rattle.std.proofs.Common.{◌∙◌, ℕ, arith}
use Rattle.tce_space.specs.IndexSet.{members}
use Rattle.tce_space.specs.Space.{index_at}
use Rattle.tce_tree.specs.ContractionTree.{node_dims}
use Rattle.tce_spec.proofs.PieceNames.{index_declared}
use Rattle.tce_spec.proofs.Taken.{mapped_more, mapped_all}
use Rattle.tce_spec.proofs.sources.ranges_of.Goals as goal

pub range_of-requires : goal.range_of-requires
range_of-requires c =
    index_declared c.args.space.now c.args.tree.now c.args.v c.loop-index.index-index c.as_slice-index-items.result.now c.index_count-indexes.ensures.limits.index_limit c.requires.measured.declared c.requires.inside
    (c.as_slice-index-items.ensures.value ∙ c.dims_of-dims.ensures) c.loop-index-test.true

pub loop-index-preserved : goal.loop-index-preserved
loop-index-preserved c =
    mapped_more (λ (i : ℕ). (index_at c.args.space.now i).of_range) c.as_slice-index-items.result.now (members (node_dims c.args.tree.now c.args.v)) c.loop-index.index-index c.loop-index.ranges.items
    c.push.new.self.items c.range_of.result (c.as_slice-index-items.ensures.value ∙ c.dims_of-dims.ensures) c.loop-index-test.true c.loop-index.invariant c.range_of.ensures.range c.push.ensures.items

pub returns : goal.returns
returns c =
    mapped_all (λ (i : ℕ). (index_at c.args.space.now i).of_range) c.as_slice-index-items.result.now (members (node_dims c.args.tree.now c.args.v)) c.loop-index.ranges.items c.loop-index.index-index
    (c.as_slice-index-items.ensures.value ∙ c.dims_of-dims.ensures) (omega (arith, c.loop-index-test.false)) c.loop-index.invariant
