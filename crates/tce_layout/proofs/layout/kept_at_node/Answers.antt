use Rattle.std.proofs.Common.{ap₂, ◌∙◌}
use Rattle.tce_space.specs.IndexSet.{minus}
use Rattle.tce_tree.specs.Fusion.{kept_dims}
use Rattle.tce_layout.proofs.layout.kept_at_node.Goals as goal

pub returns : goal.returns
unfolding kept_dims
returns c = c.minus.ensures.value ∙ ap₂ minus c.dims.ensures c.fused_at_node.ensures
