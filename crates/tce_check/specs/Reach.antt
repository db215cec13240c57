-- From which costs on rows with one class stand for all steps from rows that together put a part of the loops above the others.
use Rattle.std.specs.Prelude.{◌≡◌, ◌⊎◌, ℕ, ◌+◌, ◌-◌, ◌^◌, ◌<◌, ◌≤◌, List, [], ◌∷◌, Contains, Option}
use Rattle.std.specs.List.{All, Any}
use Rattle.tce_space.specs.IndexSet.{IsWithin}
use Rattle.tce_space.specs.Limits.{cost_limit}
use Rattle.tce_space.specs.Space.{IndexSpace}
use Rattle.tce_tree.specs.ContractionTree.{ContractionTree, node_loops}
use Rattle.tce_fusion.specs.Relation.{above, IsCoarser}
use Rattle.tce_fusion.specs.Row.{Row, StandsFor, rows_joined}
use Rattle.tce_fusion.specs.Cover.{StepsCovered}
use Rattle.tce_nesting.specs.Ends.{IsTopOf, DoCross}
use Rattle.tce_nesting.specs.declared.choice.Choice.{Choice}
use Rattle.tce_check.specs.Joint.{IsBound}
use Rattle.tce_check.specs.declared.parts.PartCost.{PartCost}

-- the greatest number, which is no cost of a step
abbrev pub IsNoCost : PartCost → Type 0
IsNoCost entry = entry.cost ≡ 2 ^ 128 - 1

-- a cost that is kept with the part, or the greatest number
abbrev pub IsCostOf : List PartCost → ℕ → ℕ → Type 0
IsCostOf costs part cost = (cost ≡ 2 ^ 128 - 1) ⊎ Contains costs (record { part = part; cost = cost })

-- a row of that cost stands for the nesting with the part alone; the greatest number says nothing
abbrev pub IsFloor : ℕ → List Row → ℕ → ℕ → Type 0
IsFloor outer rows part cost = cost < 2 ^ 128 - 1 → Any (StandsFor outer (above (part ∷ [])) cost) rows

abbrev pub AreFloors : ℕ → List Row → List PartCost → Type 0
AreFloors outer rows floors = All (λ floor. IsFloor outer rows floor.part floor.cost) floors

-- the floor, or the cost of a row that is coarser than the nesting with its part alone
abbrev pub IsLowered : ℕ → Row → PartCost → PartCost → Type 0
IsLowered outer row floor next =
    (next ≡ floor) ⊎ ((next ≡ record { part = floor.part; cost = row.cost }) × IsCoarser outer (above row.classes) (above (floor.part ∷ [])))

-- these are floors wherever the bound is one
abbrev pub AreBoundFloors : Option ℕ → List PartCost → Type 0
AreBoundFloors bound floors = (outer : ℕ) (rows : List Row) → IsBound outer rows bound → AreFloors outer rows floors

-- the cost with the choice's size is a floor of the lesser of the choice's set and the part, or neither is within the other
abbrev pub ReachesChoice : ℕ → List Row → PartCost → Choice → Type 0
ReachesChoice outer rows reach choice =
    (IsWithin choice.fused reach.part × IsFloor outer rows choice.fused (reach.cost + choice.size))
    ⊎ (IsWithin reach.part choice.fused × IsFloor outer rows reach.part (reach.cost + choice.size))
    ⊎ DoCross choice.fused reach.part

-- so it is of each choice, by floors of whatever rows
abbrev pub ReachesAll : List PartCost → List Choice → PartCost → Type 0
ReachesAll floors choices reach = (outer : ℕ) (rows : List Row) → AreFloors outer rows floors → All (ReachesChoice outer rows reach) choices

-- so it is of each choice, if it is a cost
abbrev pub IsReached : ℕ → List Row → List Choice → PartCost → Type 0
IsReached outer rows choices reach = IsNoCost reach ⊎ All (ReachesChoice outer rows reach) choices

-- from this sum of costs on, a row of the node stands for each step from rows that have the part as a top where they are joined
abbrev pub IsReach : IndexSpace → ContractionTree → ℕ → ℕ → List Row → PartCost → Type 0
IsReach space tree outer v rows reach =
    (left right : Row) → IsTopOf (node_loops tree v) (rows_joined left right) reach.part → left.cost < cost_limit → right.cost < cost_limit
    → reach.cost ≤ left.cost + right.cost → StepsCovered space tree outer v rows left right
