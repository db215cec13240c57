-- Steps from rows of the operands of a node.
use Rattle.std.specs.Prelude.{◌≡◌, ℕ, ◌+◌}
use Rattle.tce_fusion.specs.Relation.{above}
use Rattle.tce_fusion.specs.Row.{Row}
use Rattle.tce_nesting.specs.Classes.{IsJoinOf, restricted}
use Rattle.tce_nesting.specs.declared.choice.Choice.{Choice}

-- the row of both operand rows together: their classes joined on the loops, and the sum of their costs
pub record IsRowJoin (loops : ℕ) (left right row : Row) : Type 0 where
  pub classes : IsJoinOf loops (above left.classes) (above right.classes) row.classes
  pub cost : row.cost ≡ left.cost + right.cost

-- the row that is left of a joined one where the choice's set is fused
pub record IsRestricted (joined : Row) (choice : Choice) (row : Row) : Type 0 where
  pub classes : row.classes ≡ restricted joined.classes choice.fused
  pub cost : row.cost ≡ joined.cost + choice.size
