-- The first step that no row stands for, and the first sum at the root below a total.
use Rattle.std.specs.Prelude.{◌≡◌, ◌⊎◌, ℕ, ◌+◌, ◌-◌, ◌<◌, ◌≤◌, List, length, slice_index_or}
use Rattle.std.specs.List.{Any}
use Rattle.tce_space.specs.IndexSet.{IsWithin}
use Rattle.tce_space.specs.Space.{IndexSpace}
use Rattle.tce_tree.specs.ContractionTree.{ContractionTree, operations, node_dims, node_loops}
use Rattle.tce_fusion.specs.Relation.{HasNoConflict, Allows}
use Rattle.tce_fusion.specs.Row.{Row, leaf_row, rows_at, rows_joined, StandsForStep}
use Rattle.tce_fusion.specs.Cover.{left_rows, right_rows}

-- the rows at two places of the operands' lists at node `v` join without conflict
pub record AreJoined (tree : ContractionTree) (tables : List (List Row)) (v left_place right_place : ℕ) (left right : Row) : Type 0 where
  pub left_inside : left_place < length (left_rows tree tables v)
  pub right_inside : right_place < length (right_rows tree tables v)
  pub left_is : slice_index_or (left_rows tree tables v) left_place leaf_row ≡ left
  pub right_is : slice_index_or (right_rows tree tables v) right_place leaf_row ≡ right
  pub quiet : HasNoConflict (node_loops tree v) (rows_joined left right)

-- no row of node `v` stands for their step where this set is fused, which is allowed
pub record IsBareStep (space : IndexSpace) (tree : ContractionTree) (tables : List (List Row)) (outer v left_place right_place : ℕ) (left right : Row) (fused : ℕ) : Type 0 where
  pub joined : AreJoined tree tables v left_place right_place left right
  pub within : IsWithin fused (node_dims tree v)
  pub allowed : Allows (node_loops tree v) (rows_joined left right) fused
  pub bare : Any (StandsForStep space tree outer v left right fused) (rows_at tables v) → ⊥

-- pairs of places go by the left one first
abbrev pub PairPrecedes : ℕ → ℕ → ℕ → ℕ → Type 0
PairPrecedes left right other_left other_right = (left < other_left) ⊎ ((left ≡ other_left) × (right < other_right))

-- no earlier pair has such a step, nor has this pair one with a lesser set
pub record IsFirstBareStep (space : IndexSpace) (tree : ContractionTree) (tables : List (List Row)) (outer v : ℕ) (left right : Row) (fused : ℕ) : Type 0 where
  pub left_place : ℕ
  pub right_place : ℕ
  pub is : IsBareStep space tree tables outer v left_place right_place left right fused
  pub first : (l r : ℕ) (x y : Row) (s : ℕ) → PairPrecedes l r left_place right_place ⊎ ((l ≡ left_place) × (r ≡ right_place) × (s < fused))
      → IsBareStep space tree tables outer v l r x y s → ⊥

-- the first pair of rows of the root's operands whose costs add up to this sum, which is below the total
pub record IsFirstBelow (tree : ContractionTree) (tables : List (List Row)) (total n : ℕ) : Type 0 where
  pub left_place : ℕ
  pub right_place : ℕ
  pub left : Row
  pub right : Row
  pub joined : AreJoined tree tables (operations tree - 1) left_place right_place left right
  pub sum_is : left.cost + right.cost ≡ n
  pub below : n < total
  pub first : (l r : ℕ) (x y : Row) → PairPrecedes l r left_place right_place → AreJoined tree tables (operations tree - 1) l r x y → total ≤ x.cost + y.cost
