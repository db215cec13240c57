use Rattle.std.proofs.Common.{◌∙◌, ap, arith}
use Rattle.tce_space.specs.IndexSet.{members}
use Rattle.tce_tree.specs.ContractionTree.{node_dims}
use Rattle.tce_spec.proofs.PieceParts.{rank_room}
use Rattle.tce_spec.proofs.Taken.{taken_more, taken_all}
use Rattle.tce_spec.proofs.sources.dims_of.Goals as goal

pub push-requires : goal.push-requires
push-requires c = (
  omega arith,
  rank_room c.loop-index.dims.items c.as_slice-index-items.result.now c.loop-index.index-index (node_dims c.args.tree.now c.args.v) c.loop-index.invariant c.loop-index-test.true
      (c.as_slice-index-items.ensures.value ∙ c.members_of-all.ensures ∙ ap members c.dims.ensures) c.requires.rank,
)

pub loop-index-preserved : goal.loop-index-preserved
loop-index-preserved c =
    taken_more c.as_slice-index-items.result.now (members (node_dims c.args.tree.now c.args.v)) c.loop-index.index-index c.loop-index.dims.items c.push.new.self.items
    (c.as_slice-index-items.ensures.value ∙ c.members_of-all.ensures ∙ ap members c.dims.ensures) c.loop-index-test.true c.loop-index.invariant c.push.ensures.items

pub returns : goal.returns
returns c =
    taken_all c.as_slice-index-items.result.now (members (node_dims c.args.tree.now c.args.v)) c.loop-index.dims.items c.loop-index.index-index
    (c.as_slice-index-items.ensures.value ∙ c.members_of-all.ensures ∙ ap members c.dims.ensures) (omega (arith, c.loop-index-test.false)) c.loop-index.invariant
