-- Laws of node lines.
use Rattle.std.specs.Prelude.{ℕ, ◌<◌}
use Rattle.tce_space.specs.Space.{IndexSpace}
use Rattle.tce_tree.specs.ContractionTree.{ContractionTree, operations}
use Rattle.tce_nesting.specs.Plan.{PlanFits}
use Rattle.tce_nesting.specs.declared.plan.Plan.{Plan}
use Rattle.tce_report.specs.NodeLine.{Says, stated, said_of, node_line}

-- the line that is written of a node says what the plan says of it
abbrev pub WrittenLinesSayThePlan : Type 0
WrittenLinesSayThePlan =
    (space : IndexSpace) (tree : ContractionTree) (plan : Plan) (v : ℕ) → PlanFits tree plan → v < operations tree
    → Says space tree v (node_line space tree (stated plan) v) (said_of (stated plan) v)
