-- Tables that cover: a row stands for each step from rows of the operands.
use Rattle.std.specs.Prelude.{◌≡◌, ℕ, ◌+◌, ◌-◌, ◌≤◌, Option, List, [], ◌∷◌}
use Rattle.std.specs.List.{All, AllPairs, Any}
use Rattle.std.specs.declared.option.Option.TheVariants.{Some, None}
use Rattle.tce_space.specs.IndexSet.{IsWithin}
use Rattle.tce_space.specs.Space.{IndexSpace}
use Rattle.tce_tree.specs.ContractionTree.{ContractionTree, operations, node_dims, node_loops, parent}
use Rattle.tce_tree.specs.FlatTree.{left_of, right_of}
use Rattle.tce_tree.specs.declared.node.Operand.{Operand}
use Rattle.tce_tree.specs.declared.node.Operand.TheVariants.{Leaf, Constant, Node}
use Rattle.tce_fusion.specs.Relation.{HasNoConflict, Allows}
use Rattle.tce_fusion.specs.Row.{Row, AreApart, leaf_row, rows_at, rows_joined, StandsForStep}

-- the rows of an operand
abbrev pub operand_rows : List (List Row) → Operand → List Row
operand_rows tables (Leaf reference) = leaf_row ∷ []
operand_rows tables (Constant number) = leaf_row ∷ []
operand_rows tables (Node v) = rows_at tables v

-- a sum joins its operand's rows with that of a leaf
abbrev pub right_operand_rows : List (List Row) → Option Operand → List Row
right_operand_rows tables None = leaf_row ∷ []
right_operand_rows tables (Some operand) = operand_rows tables operand

-- the rows of the operands of node `v`
abbrev pub left_rows : ContractionTree → List (List Row) → ℕ → List Row
left_rows tree tables v = operand_rows tables (left_of tree v)

abbrev pub right_rows : ContractionTree → List (List Row) → ℕ → List Row
right_rows tree tables v = right_operand_rows tables (right_of tree v)

-- something holds for each row of the left operand of node `v` with each of the right one, where they have no conflict
abbrev pub ForEachJoin : ContractionTree → List (List Row) → ℕ → (Row → Row → Type 0) → Type 0
ForEachJoin tree tables v P =
    All (λ left. All (λ right. HasNoConflict (node_loops tree v) (rows_joined left right) → P left right) (right_rows tree tables v)) (left_rows tree tables v)

-- whatever allowed set is fused at node `v`, a row stands for the step from these two
abbrev pub StepsCovered : IndexSpace → ContractionTree → ℕ → ℕ → List Row → Row → Row → Type 0
StepsCovered space tree outer v rows left right =
    (fused : ℕ) → IsWithin fused (node_dims tree v) → Allows (node_loops tree v) (rows_joined left right) fused
    → Any (StandsForStep space tree outer v left right fused) rows

-- the rows of node `v`, whose parent has the loops `outer`, cover the steps from those of its operands
abbrev pub NodeCovered : IndexSpace → ContractionTree → List (List Row) → ℕ → ℕ → Type 0
NodeCovered space tree tables outer v = ForEachJoin tree tables v (StepsCovered space tree outer v (rows_at tables v))

-- the rows of each node but the root do, with the loops of its parent
abbrev pub NodesCovered : IndexSpace → ContractionTree → List (List Row) → Type 0
NodesCovered space tree tables = (v p : ℕ) → parent tree v ≡ Some p → NodeCovered space tree tables (node_loops tree p) v

-- the total is at most each sum of costs at the root
abbrev pub RootBelow : ContractionTree → List (List Row) → ℕ → Type 0
RootBelow tree tables total = ForEachJoin tree tables (operations tree - 1) (λ left right. total ≤ left.cost + right.cost)

-- the tables and the total cover all fusions
pub record Covers (space : IndexSpace) (tree : ContractionTree) (tables : List (List Row)) (total : ℕ) : Type 0 where
  pub nodes : NodesCovered space tree tables
  pub root : RootBelow tree tables total

-- at each node but the root no row stands for another
abbrev pub ArePruned : ContractionTree → List (List Row) → Type 0
ArePruned tree tables = (v p : ℕ) → parent tree v ≡ Some p → AllPairs (AreApart (node_loops tree p)) (rows_at tables v)
