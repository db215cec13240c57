-- What two candidates of a node's operands are together, and which of it candidates stand for.
use Rattle.std.specs.Prelude.{◌≡◌, ◌⊎◌, ℕ, ◌+◌, ◌<◌, ◌≤◌, ◌^◌, List, [], ◌∷◌, ◌++◌, length, slice_index_or}
use Rattle.std.specs.List.{All, AllPairs, AllWithin, Any, Contains}
use Rattle.tce_space.specs.Limits.{max_loops, max_nodes}
use Rattle.tce_space.specs.IndexSet.{count}
use Rattle.tce_fusion.specs.Relation.{above, HasNoConflict}
use Rattle.tce_fusion.specs.Row.{rows_joined}
use Rattle.tce_nesting.specs.Classes.{AllowsSet, restricted}
use Rattle.tce_nesting.specs.declared.choice.Choice.{Choice}
use Rattle.tce_nesting.specs.declared.stretches.Stretch.{Stretch}
use Rattle.tce_nesting.specs.Stretches.{IsStretch}
use Rattle.tce_search.specs.Steps.{IsRowJoin, IsRestricted}
use Rattle.tce_search.specs.declared.candidate.Candidate.{Candidate}
use Rattle.tce_search.specs.Candidates.{Stands, StandForAll, IsBoundOf, IsLimited, LeavesRoom}
use Rattle.tce_search.specs.Groups.{Listed, LeavesOpen}
use Rattle.tce_search.specs.Ends.{KnowsRuns}
use Rattle.tce_search.specs.declared.starts.Rights.{Rights}
use Rattle.tce_search.specs.declared.table.Choosing.{Choosing}

-- the joined row of two candidates without conflict, with the sets of both
pub record IsJoin (loops : ℕ) (left right candidate : Candidate) : Type 0 where
  pub quiet : HasNoConflict loops (rows_joined left.row right.row)
  pub joins : IsRowJoin loops left.row right.row candidate.row
  pub sets : candidate.sets.items ≡ left.sets.items ++ right.sets.items

-- so joined, and it costs less than a limit
pub record IsJoinBelow (limit loops : ℕ) (left right candidate : Candidate) : Type 0 where
  pub join : IsJoin loops left right candidate
  pub cheap : candidate.row.cost < limit

-- of some two of the operands' candidates
pub record IsSomeJoinBelow (limit loops : ℕ) (lefts rights : List Candidate) (candidate : Candidate) : Type 0 where
  pub left : Candidate
  pub right : Candidate
  pub from_left : Contains lefts left
  pub from_right : Contains rights right
  pub join : IsJoinBelow limit loops left right candidate

-- where two candidates have no conflict and together cost less than a limit, some candidate is coarser on the loops than both together, and costs no more
abbrev pub JoinCovered : ℕ → ℕ → List Candidate → Candidate → Candidate → Type 0
JoinCovered limit loops joins left right =
    HasNoConflict loops (rows_joined left.row right.row) → left.row.cost + right.row.cost < limit
    → Any (Stands loops (rows_joined left.row right.row) (left.row.cost + right.row.cost)) joins

-- a candidate can be joined with each of the right ones, whose runs are known
pub record AreJoinable (loops : ℕ) (left : Candidate) (rights : Rights) : Type 0 where
  pub few : count loops ≤ max_loops
  pub limited_left : IsLimited left
  pub limited_rights : All IsLimited rights.candidates.now
  pub room : All (LeavesRoom left) rights.candidates.now
  pub known : KnowsRuns loops rights

-- what the candidate and those of the right ones from a place on up to another one are together is covered
abbrev pub RunCovered : ℕ → List Candidate → Candidate → Rights → ℕ → ℕ → Type 0
RunCovered loops joins left rights from until = AllWithin (JoinCovered rights.limit loops joins left) rights.candidates.now from until

-- so is what it and each of them are
abbrev pub AllCovered : ℕ → List Candidate → Candidate → Rights → Type 0
AllCovered loops joins left rights = All (JoinCovered rights.limit loops joins left) rights.candidates.now

-- the new candidates stand for each state for which old ones do; where no old one stands for a later one's state, no new one does
pub record Grows (old new : Listed) : Type 0 where
  pub outer : new.outer ≡ old.outer
  pub others : StandForAll old.outer old.candidates new.candidates
  pub later : AllPairs (LeavesOpen old.outer) old.candidates → AllPairs (LeavesOpen old.outer) new.candidates

-- a list has grown by what the candidate and some of the right ones are together, and by nothing for which one before stands
pub record HasGrownBy (left : Candidate) (rights : Rights) (old new : Listed) : Type 0 where
  pub outer : new.outer ≡ old.outer
  pub others : StandForAll old.outer old.candidates new.candidates
  pub later : AllPairs (LeavesOpen old.outer) old.candidates → AllPairs (LeavesOpen old.outer) new.candidates
  pub origin : All (λ x. Contains old.candidates x ⊎ Any (λ right. IsJoinBelow rights.limit old.outer left right x) rights.candidates.now) new.candidates

-- what is left of a joined candidate where the choice's set is fused, with its sets and this one
pub record IsStepFrom (join : Candidate) (choice : Choice) (candidate : Candidate) : Type 0 where
  pub allowed : AllowsSet (above join.row.classes) choice.fused
  pub row : IsRestricted join.row choice candidate.row
  pub sets : candidate.sets.items ≡ join.sets.items ++ choice.fused ∷ []

-- or it has no sets, and its classes lie within the choice's set
abbrev pub IsStepOrBound : ℕ → Candidate → Choice → Candidate → Type 0
IsStepOrBound least join choice candidate = IsStepFrom join choice candidate ⊎ IsBoundOf least choice candidate

-- the candidate stands for what is left of a joined one where the choice's set is fused
abbrev pub StandsForStep : Candidate → Choice → Candidate → Type 0
StandsForStep join choice candidate = (outer : ℕ) → Stands outer (above (restricted join.row.classes choice.fused)) (join.row.cost + choice.size) candidate

-- such a step, or what stands for it, that costs less than the limit
abbrev pub IsNewStep : Choosing → Candidate → Choice → Candidate → Type 0
IsNewStep choosing join choice candidate = IsStepOrBound choosing.limits.least join choice candidate × (candidate.row.cost < choosing.limit)

-- with one of the choices
pub record IsSomeStepFrom (choosing : Choosing) (join candidate : Candidate) : Type 0 where
  pub choice : Choice
  pub chosen : Contains choosing.choices.now choice
  pub step : IsNewStep choosing join choice candidate

-- the candidate's cost is within twice the limit of a plan's numbers, and its sets leave room for one more
abbrev pub HasNext : Candidate → Type 0
HasNext join = (join.row.cost < 2 ^ 97) × (length join.sets.items < max_nodes)

-- each of the first choices has a stretch at its place
abbrev pub KnowsStretches : List Choice → List Stretch → Type 0
KnowsStretches choices stretches = (k : ℕ) (s : Stretch) → k < length choices → k < 1024 → IsStretch choices k (slice_index_or stretches k s)
