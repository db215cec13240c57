-- The sets that may be fused at a node, as a list, and which of their steps some row stands for.
use Rattle.std.specs.Prelude.{◌≡◌, ℕ, ◌+◌, ◌<◌, ◌≤◌, List, length, slice_index_or}
use Rattle.std.specs.List.{All, AllPairs, AllWithin, Any}
use Rattle.tce_space.specs.IndexSet.{IsWithin, minus}
use Rattle.tce_space.specs.Space.{IndexSpace, volume_of}
use Rattle.tce_tree.specs.ContractionTree.{ContractionTree, node_dims}
use Rattle.tce_fusion.specs.Relation.{HasNoConflict, Allows}
use Rattle.tce_fusion.specs.Row.{Row, StandsFor, rows_joined, step_relation}

-- a set to fuse at a node, and the elements that the node then keeps
pub record Choice : Type 0 where
  pub fused : ℕ
  pub size : ℕ

-- each set within the dims of node `v`, ascending, with the size that it leaves
pub record AreChoices (space : IndexSpace) (tree : ContractionTree) (v : ℕ) (choices : List Choice) : Type 0 where
  pub sound : All (λ c. IsWithin c.fused (node_dims tree v) × (c.size ≡ volume_of space (minus (node_dims tree v) c.fused))) choices
  pub complete : (fused : ℕ) → IsWithin fused (node_dims tree v) → Any (λ c. c.fused ≡ fused) choices
  pub ascending : AllPairs (λ c d. c.fused < d.fused) choices

-- where the choice is allowed, some row stands for its step
abbrev pub ChoiceCovered : ℕ → ℕ → Row → Row → List Row → Choice → Type 0
ChoiceCovered loops outer left right rows choice =
    Allows loops (rows_joined left right) choice.fused
    → Any (StandsFor outer (step_relation left right choice.fused) (left.cost + right.cost + choice.size)) rows

-- so it is for each choice, where the operand rows have no conflict
abbrev pub PairCovered : ℕ → ℕ → List Choice → List Row → Row → Row → Type 0
PairCovered loops outer choices rows left right =
    HasNoConflict loops (rows_joined left right) → All (ChoiceCovered loops outer left right rows) choices

-- and for each two rows of the operands
abbrev pub PairsCovered : ℕ → ℕ → List Choice → List Row → List Row → List Row → Type 0
PairsCovered loops outer choices rows lefts rights = All (λ left. All (PairCovered loops outer choices rows left) rights) lefts

-- the choice at this place is the first whose step from two operand rows no row stands for
pub record IsFirstUncovered (loops outer : ℕ) (choices : List Choice) (rows : List Row) (left right : Row) (choice : Choice) : Type 0 where
  pub place : ℕ
  pub inside : place < length choices
  pub choice_is : slice_index_or choices place choice ≡ choice
  pub earlier : AllWithin (ChoiceCovered loops outer left right rows) choices 0 place
  pub quiet : HasNoConflict loops (rows_joined left right)
  pub allowed : Allows loops (rows_joined left right) choice.fused
  pub bare : Any (StandsFor outer (step_relation left right choice.fused) (left.cost + right.cost + choice.size)) rows → ⊥

-- the first two rows of the operands, left rows first, of which some choice's step is not stood for, and the first such choice
pub record IsFirstUncoveredPair (loops outer : ℕ) (choices : List Choice) (rows lefts rights : List Row) (left right : Row) (choice : Choice) : Type 0 where
  pub left_place : ℕ
  pub right_place : ℕ
  pub left_inside : left_place < length lefts
  pub right_inside : right_place < length rights
  pub left_is : slice_index_or lefts left_place left ≡ left
  pub right_is : slice_index_or rights right_place right ≡ right
  pub earlier_lefts : AllWithin (λ l. All (PairCovered loops outer choices rows l) rights) lefts 0 left_place
  pub earlier_rights : AllWithin (PairCovered loops outer choices rows left) rights 0 right_place
  pub first : IsFirstUncovered loops outer choices rows left right choice

-- the total is at most the sum of two rows' costs, where they have no conflict
abbrev pub IsBelow : ℕ → ℕ → Row → Row → Type 0
IsBelow loops total left right = HasNoConflict loops (rows_joined left right) → total ≤ left.cost + right.cost

-- the first two rows, left rows first, without conflict whose costs add up to less
pub record IsFirstLowPair (loops total : ℕ) (lefts rights : List Row) (left right : Row) : Type 0 where
  pub left_place : ℕ
  pub right_place : ℕ
  pub left_inside : left_place < length lefts
  pub right_inside : right_place < length rights
  pub left_is : slice_index_or lefts left_place left ≡ left
  pub right_is : slice_index_or rights right_place right ≡ right
  pub earlier_lefts : AllWithin (λ l. All (IsBelow loops total l) rights) lefts 0 left_place
  pub earlier_rights : AllWithin (IsBelow loops total left) rights 0 right_place
  pub quiet : HasNoConflict loops (rows_joined left right)
  pub low : left.cost + right.cost < total
