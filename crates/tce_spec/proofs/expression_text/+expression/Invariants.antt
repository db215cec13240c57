use Rattle.std.proofs.Common.{◌+◌, ◌*◌}
use Rattle.tce_tree.specs.ContractionTree.{operations}
use Rattle.tce_tree.specs.Expr.{tree_of}
use Rattle.tce_spec.proofs.expression_text.+expression.Given as goal

abbrev pub decreases-push_expr : goal.decreases-push_expr
decreases-push_expr l = 3 * operations (tree_of l.expr.now)

abbrev pub decreases-push_binary : goal.decreases-push_binary
decreases-push_binary l = 3 * operations (tree_of l.left.now) + 3 * operations (tree_of l.right.now) + 2

abbrev pub decreases-push_operand : goal.decreases-push_operand
decreases-push_operand l = 3 * operations (tree_of l.expr.now) + 1
