-- What the functions of a node rest on, and which pairs of rows they tell of.
use Rattle.std.specs.Prelude.{ℕ, ◌+◌, ◌<◌, ◌≤◌, List}
use Rattle.std.specs.List.{All}
use Rattle.tce_space.specs.Limits.{cost_limit, max_volume}
use Rattle.tce_tree.specs.ContractionTree.{operations, node_loops}
use Rattle.tce_fusion.specs.Row.{Row, rows_joined}
use Rattle.tce_fusion.specs.Cover.{StepsCovered}
use Rattle.tce_nesting.specs.Choices.{AreChoices}
use Rattle.tce_nesting.specs.Ends.{IsTopOf}
use Rattle.tce_nesting.specs.Stretches.{AreStretches}
use Rattle.tce_nesting.specs.declared.runs.Run.{Run}
use Rattle.tce_check.specs.Joint.{IsBound, IsJointOf}
use Rattle.tce_check.specs.Reach.{IsReach}
use Rattle.tce_check.specs.Verdict.{WhereJoined, IsLeastUncovered}
use Rattle.tce_check.specs.declared.steps.Node.{Node}

-- the choices are those of the node, none keeps more than an array, the bound and the reaches are of the rows, and the stretches are of the choices
pub record IsReady (node : Node) : Type 0 where
  pub inside : node.number < operations node.tree.now
  pub choices : AreChoices node.space.now node.tree.now node.number node.choices.now
  pub sizes : All (λ choice. choice.size ≤ max_volume) node.choices.now
  pub bound : IsBound node.outer node.rows.now node.bound
  pub stretches : AreStretches node.choices.now node.stretches.now
  pub reaches : All (IsReach node.space.now node.tree.now node.outer node.number node.rows.now) node.kept.now.reaches.now

-- some row of the node stands for each step from two rows
abbrev pub PairCovered : Node → Row → Row → Type 0
PairCovered node = WhereJoined node.tree.now node.number (StepsCovered node.space.now node.tree.now node.outer node.number node.rows.now)

-- from this sum of costs on, some row of the node stands for each step from the left row
abbrev pub IsReachOf : Node → Row → ℕ → Type 0
IsReachOf node left reach =
    (right : Row) → right.cost < cost_limit → reach ≤ left.cost + right.cost → StepsCovered node.space.now node.tree.now node.outer node.number node.rows.now left right

-- so it is from each two rows that have these tops where they are joined
abbrev pub IsReachWith : Node → List ℕ → ℕ → Type 0
IsReachWith node tops reach =
    (left right : Row) → All (IsTopOf (node_loops node.tree.now node.number) (rows_joined left right)) tops → left.cost < cost_limit → right.cost < cost_limit
    → reach ≤ left.cost + right.cost → StepsCovered node.space.now node.tree.now node.outer node.number node.rows.now left right

-- some row of the node stands for each step from two rows with this join
abbrev pub JointCovered : Node → Row → Type 0
JointCovered node joint =
    (left right : Row) → IsJointOf (node_loops node.tree.now node.number) left right joint → left.cost < cost_limit → right.cost < cost_limit
    → StepsCovered node.space.now node.tree.now node.outer node.number node.rows.now left right

-- some row of the node stands for each step from the left row and one that costs no less than the run
abbrev pub IsDear : Node → Row → Run → Type 0
IsDear node left run =
    (right : Row) → right.cost < cost_limit → run.cost ≤ right.cost → StepsCovered node.space.now node.tree.now node.outer node.number node.rows.now left right

-- each of the rows costs less than the limit
abbrev pub AreBelowLimit : List Row → Type 0
AreBelowLimit rows = All (λ row. row.cost < cost_limit) rows

-- of the steps from two rows, this is the one of the least set for which no row of the node stands
abbrev pub IsFailing : Node → ℕ → Row → Row → Row → Type 0
IsFailing node = IsLeastUncovered node.space.now node.tree.now node.outer node.number node.rows.now
