-- Candidates of a node, and which steps from those of its operands they cover.
use Rattle.std.specs.Prelude.{◌≡◌, ◌⊎◌, ℕ, ◌+◌, ◌<◌, ◌≤◌, List, [], ◌∷◌, ◌++◌, length}
use Rattle.std.specs.List.{All, Any, Contains}
use Rattle.tce_space.specs.Limits.{cost_limit, max_loops, max_nodes}
use Rattle.tce_space.specs.IndexSet.{IsWithin, count}
use Rattle.tce_fusion.specs.Relation.{Relation, above, HasNoConflict}
use Rattle.tce_fusion.specs.Row.{Row, StandsFor, rows_joined}
use Rattle.tce_nesting.specs.Classes.{AllowsSet, restricted}
use Rattle.tce_nesting.specs.Plan.{LiesWithin}
use Rattle.tce_nesting.specs.declared.choice.Choice.{Choice}
use Rattle.tce_search.specs.Steps.{IsRowJoin, IsRestricted}
use Rattle.tce_search.specs.declared.candidate.Candidate.{Candidate}

-- the candidate's row stands for a state
abbrev pub Stands : ℕ → Relation → ℕ → Candidate → Type 0
Stands outer relation limit candidate = StandsFor outer relation limit candidate.row

-- some candidate stands for each state for which one of the old ones does
abbrev pub StandForAll : ℕ → List Candidate → List Candidate → Type 0
StandForAll outer old new = (relation : Relation) (limit : ℕ) → Any (Stands outer relation limit) old → Any (Stands outer relation limit) new

-- neither candidate stands for the other's state
abbrev pub AreApart : ℕ → Candidate → Candidate → Type 0
AreApart outer x y = (Stands outer (above x.row.classes) x.row.cost y → ⊥) × (Stands outer (above y.row.classes) y.row.cost x → ⊥)

-- where the joined row allows the choice's set, some candidate stands for what it leaves
abbrev pub ChoiceCovered : ℕ → Row → List Candidate → Choice → Type 0
ChoiceCovered outer joined table choice =
    AllowsSet (above joined.classes) choice.fused
    → Any (Stands outer (above (restricted joined.classes choice.fused)) (joined.cost + choice.size)) table

-- where two operand rows have no conflict, each choice of their join is covered
pub record IsCoveredJoin (loops outer : ℕ) (choices : List Choice) (table : List Candidate) (left right : Candidate) : Type 0 where
  pub joined : Row
  pub joins : IsRowJoin loops left.row right.row joined
  pub each : All (ChoiceCovered outer joined table) choices

abbrev pub PairCovered : ℕ → ℕ → List Choice → List Candidate → Candidate → Candidate → Type 0
PairCovered loops outer choices table left right =
    HasNoConflict loops (rows_joined left.row right.row) → IsCoveredJoin loops outer choices table left right

-- what is left of a joined row where the choice's set is fused, with the sets of both operands and this one
pub record IsStep (joined : Row) (left right : Candidate) (choice : Choice) (candidate : Candidate) : Type 0 where
  pub allowed : AllowsSet (above joined.classes) choice.fused
  pub row : IsRestricted joined choice candidate.row
  pub sets : candidate.sets.items ≡ left.sets.items ++ (right.sets.items ++ choice.fused ∷ [])

-- a step from two operand rows without conflict, with one of the choices
pub record IsStepOf (loops : ℕ) (choices : List Choice) (left right candidate : Candidate) : Type 0 where
  pub joined : Row
  pub choice : Choice
  pub quiet : HasNoConflict loops (rows_joined left.row right.row)
  pub joins : IsRowJoin loops left.row right.row joined
  pub chosen : Contains choices choice
  pub step : IsStep joined left right choice candidate

-- a step from some two of the operands' candidates
pub record IsReached (loops : ℕ) (choices : List Choice) (lefts rights : List Candidate) (candidate : Candidate) : Type 0 where
  pub left : Candidate
  pub right : Candidate
  pub from_left : Contains lefts left
  pub from_right : Contains rights right
  pub step : IsStepOf loops choices left right candidate

-- such a step that costs less than a limit
pub record IsReachedBelow (limit loops : ℕ) (choices : List Choice) (lefts rights : List Candidate) (candidate : Candidate) : Type 0 where
  pub reached : IsReached loops choices lefts rights candidate
  pub cheap : candidate.row.cost < limit

-- the candidate at a limit, which stands for each state that costs no less: it puts no index above another, and has no sets
abbrev pub limit_candidate : ℕ → Candidate
limit_candidate limit = record { row = record { classes = []; cost = limit }; sets = record { items = [] } }

-- the row's cost is within the limit of a plan's numbers
abbrev pub IsLimited : Candidate → Type 0
IsLimited candidate = candidate.row.cost < cost_limit

-- so is the size of the choice
abbrev pub IsSmall : Choice → Type 0
IsSmall choice = choice.size < cost_limit

-- the sets of two candidates leave room for one more
abbrev pub LeavesRoom : Candidate → Candidate → Type 0
LeavesRoom left right = length left.sets.items + length right.sets.items < max_nodes

-- so do those of each two candidates of the operands
abbrev pub HaveRoom : List Candidate → List Candidate → Type 0
HaveRoom lefts rights = All (λ left. All (LeavesRoom left) rights) lefts

-- the rows of the operands' candidates can be joined on the loops: there are at most ten of these, each row fits a plan, and the sets leave room
pub record AreOperands (loops : ℕ) (lefts rights : List Candidate) : Type 0 where
  pub few : count loops ≤ max_loops
  pub limited_left : All IsLimited lefts
  pub limited_right : All IsLimited rights
  pub room : HaveRoom lefts rights

-- a candidate without sets that costs at least so much, and whose classes lie within the choice's set
pub record IsBoundOf (least : ℕ) (choice : Choice) (candidate : Candidate) : Type 0 where
  pub sets : candidate.sets.items ≡ []
  pub high : least ≤ candidate.row.cost
  pub within : (dims : ℕ) → IsWithin choice.fused dims → All (LiesWithin dims) candidate.row.classes

-- a candidate without sets that costs at least so much and fits a plan, and whose classes lie within what all choices lie within
pub record IsBound (least : ℕ) (choices : List Choice) (candidate : Candidate) : Type 0 where
  pub sets : candidate.sets.items ≡ []
  pub high : least ≤ candidate.row.cost
  pub cheap : IsLimited candidate
  pub within : (dims : ℕ) → All (λ choice. IsWithin choice.fused dims) choices → All (LiesWithin dims) candidate.row.classes

-- a step from some two of the operands' candidates that fits a plan, or such a candidate without sets
abbrev pub IsReachedOrBound : ℕ → ℕ → List Choice → List Candidate → List Candidate → Candidate → Type 0
IsReachedOrBound least loops choices lefts rights candidate =
    IsReachedBelow cost_limit loops choices lefts rights candidate ⊎ IsBound least choices candidate
