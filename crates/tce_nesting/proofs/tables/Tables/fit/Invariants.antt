use Rattle.std.proofs.Common.{ℕ, ◌<◌, All}
use Rattle.tce_tree.specs.ContractionTree.{node_dims}
use Rattle.tce_fusion.specs.Row.{rows_at}
use Rattle.tce_nesting.specs.Plan.{RowFits}
use Rattle.tce_nesting.proofs.tables.Tables.fit.Given as goal

abbrev pub invariant-loop-v : goal.invariant-loop-v
invariant-loop-v l = (k : ℕ) → k < l.v → All (RowFits (node_dims l.tree k)) (rows_at l.self k)
