use Rattle.std.proofs.Common.{◌-◌}
use Rattle.tce_tree.specs.ContractionTree.{operations}
use Rattle.tce_spill.proofs.cutting.+root_over.Given as goal

abbrev pub decreases-root_over : goal.decreases-root_over
decreases-root_over l = operations l.spec.now.tree - l.v
