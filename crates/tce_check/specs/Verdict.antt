-- Which verdict on a plan is right.
use Rattle.std.specs.Prelude.{◌≡◌, ℕ, ◌+◌, ◌-◌, ◌<◌, ◌≤◌, List, slice_index}
use Rattle.std.specs.List.{Any}
use Rattle.std.specs.declared.option.Option.TheVariants.{Some}
use Rattle.tce_space.specs.IndexSet.{IsWithin}
use Rattle.tce_space.specs.Space.{IndexSpace}
use Rattle.tce_tree.specs.ContractionTree.{ContractionTree, operations, node_dims, node_loops, parent}
use Rattle.tce_tree.specs.Fusion.{Carries}
use Rattle.tce_tree.specs.Orders.{lists_of, LeadsUp}
use Rattle.tce_fusion.specs.Scope.{IsLegal, IsIllegalAt}
use Rattle.tce_tree.specs.Memory.{size_at, memory}
use Rattle.tce_fusion.specs.Relation.{HasNoConflict, Allows}
use Rattle.tce_fusion.specs.Row.{Row, rows_at, rows_joined, StandsForStep, IsStepRow}
use Rattle.tce_fusion.specs.Cover.{left_rows, right_rows, StepsCovered, NodeCovered, NodesCovered, RootBelow}
use Rattle.tce_fusion.specs.StateClasses.{IsNesting}
use Rattle.tce_nesting.specs.declared.plan.Plan.{Plan}
use Rattle.tce_check.specs.First.{IsFirst, FirstPair}
use Rattle.tce_check.specs.declared.verdict.Verdict.{Verdict}
use Rattle.tce_check.specs.declared.verdict.Verdict.TheVariants.{Accepted, NotLegal, OrderWrong, SizeWrong, TotalWrong, NotCovered, BelowTotal}

-- the size that is stated of node `v` is the computed one
abbrev pub HasSize : IndexSpace → ContractionTree → Plan → ℕ → Type 0
HasSize space tree plan v = slice_index plan.sizes.items v ≡ size_at space tree plan.fusion.0.items v

-- the rules in order, each with those before it: the fusion is legal, the orders carry it, the sizes of all nodes but the root
-- and the memory are the computed ones, the tables cover the steps, and no sum at the root is below the memory
abbrev pub IsLegalPlan : ContractionTree → Plan → Type 0
IsLegalPlan tree plan = IsLegal tree plan.fusion.0.items

abbrev pub IsOrdered : ContractionTree → Plan → Type 0
IsOrdered tree plan = IsLegalPlan tree plan × Carries tree plan.fusion.0.items (lists_of plan.orders.0.items)

abbrev pub IsSized : IndexSpace → ContractionTree → Plan → Type 0
IsSized space tree plan = IsOrdered tree plan × ((v : ℕ) → v < operations tree - 1 → HasSize space tree plan v)

abbrev pub IsTotalled : IndexSpace → ContractionTree → Plan → Type 0
IsTotalled space tree plan = IsSized space tree plan × (plan.memory ≡ memory space tree plan.fusion.0.items)

abbrev pub IsCovered : IndexSpace → ContractionTree → Plan → Type 0
IsCovered space tree plan = IsTotalled space tree plan × NodesCovered space tree plan.tables

abbrev pub IsAccepted : IndexSpace → ContractionTree → Plan → Type 0
IsAccepted space tree plan = IsCovered space tree plan × RootBelow tree plan.tables plan.memory

-- something holds of two rows of the operands of node `v` that have no conflict
abbrev pub WhereJoined : ContractionTree → ℕ → (Row → Row → Type 0) → Row → Row → Type 0
WhereJoined tree v P left right = HasNoConflict (node_loops tree v) (rows_joined left right) → P left right

-- a row of node `v` stands for the step from two rows, if the set may be fused
abbrev pub StepCovered : IndexSpace → ContractionTree → ℕ → ℕ → List Row → Row → Row → ℕ → Type 0
StepCovered space tree outer v rows left right fused =
    IsWithin fused (node_dims tree v) → Allows (node_loops tree v) (rows_joined left right) fused → Any (StandsForStep space tree outer v left right fused) rows

-- of the steps from two rows, this is the one of the least set for which no row of node `v` stands
pub record IsLeastUncovered (space : IndexSpace) (tree : ContractionTree) (outer v : ℕ) (rows : List Row) (fused : ℕ) (step left right : Row) : Type 0 where
  pub is : IsStepRow space tree v left right fused step
  pub nesting : IsNesting step.classes
  pub uncovered : ¬ Any (StandsForStep space tree outer v left right fused) rows
  pub lesser : (set : ℕ) → set < fused → StepCovered space tree outer v rows left right set

-- the rows of node `v` cover the steps from those of its operands, if it is not the root
abbrev pub CoversAt : IndexSpace → ContractionTree → List (List Row) → ℕ → Type 0
CoversAt space tree tables v = (p : ℕ) → parent tree v ≡ Some p → NodeCovered space tree tables (node_loops tree p) v

-- this is the first step at node `v` for which none of its rows stands
pub record FailsAt (space : IndexSpace) (tree : ContractionTree) (tables : List (List Row)) (fused : ℕ) (step : Row) (v : ℕ) : Type 0 where
  pub above : ℕ
  pub parent_is : parent tree v ≡ Some above
  pub first : FirstPair (WhereJoined tree v (StepsCovered space tree (node_loops tree above) v (rows_at tables v)))
      (IsLeastUncovered space tree (node_loops tree above) v (rows_at tables v) fused step)
      (left_rows tree tables v) (right_rows tree tables v)

-- two rows without conflict whose sum is below the total
pub record IsBelow (tree : ContractionTree) (v total sum : ℕ) (left right : Row) : Type 0 where
  pub quiet : HasNoConflict (node_loops tree v) (rows_joined left right)
  pub sum_is : sum ≡ left.cost + right.cost
  pub below : sum < total

-- this is the first sum at the root that is below the total
abbrev pub FirstBelow : ContractionTree → List (List Row) → ℕ → ℕ → Type 0
FirstBelow tree tables total sum =
    FirstPair (WhereJoined tree (operations tree - 1) (λ left right. total ≤ left.cost + right.cost)) (IsBelow tree (operations tree - 1) total sum)
    (left_rows tree tables (operations tree - 1)) (right_rows tree tables (operations tree - 1))

-- the verdict is the right one: that of the first rule which the plan breaks, at the first place
abbrev pub IsVerdict : IndexSpace → ContractionTree → Plan → Verdict → Type 0
IsVerdict space tree plan Accepted = IsAccepted space tree plan
IsVerdict space tree plan (NotLegal v) =
    IsFirst (operations tree) (λ w. ¬ IsIllegalAt tree plan.fusion.0.items w) (IsIllegalAt tree plan.fusion.0.items) v
IsVerdict space tree plan (OrderWrong v) =
    IsLegalPlan tree plan
    × IsFirst (operations tree - 1) (LeadsUp tree plan.fusion.0.items (lists_of plan.orders.0.items)) (λ w. ¬ LeadsUp tree plan.fusion.0.items (lists_of plan.orders.0.items) w) v
IsVerdict space tree plan (SizeWrong v size) =
    IsOrdered tree plan
    × IsFirst (operations tree - 1) (HasSize space tree plan) (λ w. (size ≡ size_at space tree plan.fusion.0.items w) × ¬ HasSize space tree plan w) v
IsVerdict space tree plan (TotalWrong total) =
    IsSized space tree plan × (total ≡ memory space tree plan.fusion.0.items) × ¬ (plan.memory ≡ total)
IsVerdict space tree plan (NotCovered v fused classes cost) =
    IsTotalled space tree plan
    × IsFirst (operations tree - 1) (CoversAt space tree plan.tables) (FailsAt space tree plan.tables fused (record { classes = classes; cost = cost })) v
IsVerdict space tree plan (BelowTotal sum) = IsCovered space tree plan × FirstBelow tree plan.tables plan.memory sum
