-- Rows, which are states as tables keep them, and the states for which they stand.
use Rattle.std.specs.Prelude.{◌≡◌, ℕ, ◌+◌, ◌≤◌, List, [], slice_index_or}
use Rattle.tce_space.specs.IndexSet.{minus, IsWithin}
use Rattle.tce_space.specs.Space.{IndexSpace, volume_of}
use Rattle.tce_tree.specs.ContractionTree.{ContractionTree, node_dims, node_loops}
use Rattle.tce_fusion.specs.Relation.{Relation, above, joined, HasNoConflict, Allows, cut, IsCoarser}

-- disjoint sets of indexes that have members, outermost first, and a cost
pub record Row : Type 0 where
  pub classes : List ℕ
  pub cost : ℕ

-- the one state of a tensor or a constant
abbrev pub leaf_row : Row
leaf_row = record { classes = []; cost = 0 }

-- the rows of node `v`, where there is a list of them for each node but the root
abbrev pub rows_at : List (List Row) → ℕ → List Row
rows_at tables v = slice_index_or tables v []

-- a row stands for a state where it is coarser on the loops of the parent, and costs no more
pub record StandsFor (outer : ℕ) (relation : Relation) (limit : ℕ) (row : Row) : Type 0 where
  pub coarser : IsCoarser outer (above row.classes) relation
  pub cheap : row.cost ≤ limit

-- neither of two rows stands for the other
abbrev pub AreApart : ℕ → Row → Row → Type 0
AreApart outer x y = (StandsFor outer (above x.classes) x.cost y → ⊥) × (StandsFor outer (above y.classes) y.cost x → ⊥)

-- the relations of two operand rows, joined
abbrev pub rows_joined : Row → Row → Relation
rows_joined left right = joined (above left.classes) (above right.classes)

-- the relation and the cost of the step at node `v` from two operand rows, where a set is fused
abbrev pub step_relation : Row → Row → ℕ → Relation
step_relation left right fused = cut fused (rows_joined left right)

abbrev pub step_cost : IndexSpace → ContractionTree → ℕ → Row → Row → ℕ → ℕ
step_cost space tree v left right fused = left.cost + right.cost + volume_of space (minus (node_dims tree v) fused)

-- a row stands for this step
abbrev pub StandsForStep : IndexSpace → ContractionTree → ℕ → ℕ → Row → Row → ℕ → Row → Type 0
StandsForStep space tree outer v left right fused row = StandsFor outer (step_relation left right fused) (step_cost space tree v left right fused) row

-- the row is this step: the operand rows have no conflict, the set is allowed, and the row has the step's relation and cost
pub record IsStepRow (space : IndexSpace) (tree : ContractionTree) (v : ℕ) (left right : Row) (fused : ℕ) (row : Row) : Type 0 where
  pub quiet : HasNoConflict (node_loops tree v) (rows_joined left right)
  pub within : IsWithin fused (node_dims tree v)
  pub allowed : Allows (node_loops tree v) (rows_joined left right) fused
  pub relation_is : (i j : ℕ) → above row.classes i j ≡ step_relation left right fused i j
  pub cost_is : row.cost ≡ step_cost space tree v left right fused
