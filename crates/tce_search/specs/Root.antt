-- Fusions of the whole tree that candidates of the root's operands make.
use Rattle.std.specs.Prelude.{◌≡◌, ℕ, ◌+◌, ◌≤◌, Option, List}
use Rattle.std.specs.List.{All, Contains}
use Rattle.std.specs.declared.option.Option.TheVariants.{Some, None}
use Rattle.tce_space.specs.IndexSet.{empty}
use Rattle.tce_fusion.specs.Relation.{HasNoConflict}
use Rattle.tce_fusion.specs.Row.{rows_joined}
use Rattle.tce_fusion.specs.Reached.{sets_of_step}
use Rattle.tce_search.specs.declared.candidate.Candidate.{Candidate}
use Rattle.tce_search.specs.declared.root.WholeFusion.{WholeFusion}

-- the sets of both candidates, which have no conflict, and nothing fused at the root; the memory is the sum of their costs
pub record IsMadeOf (loops : ℕ) (left right : Candidate) (whole : WholeFusion) : Type 0 where
  pub quiet : HasNoConflict loops (rows_joined left.row right.row)
  pub sets_are : whole.sets.items ≡ sets_of_step left.sets.items right.sets.items empty
  pub memory_is : whole.memory ≡ left.row.cost + right.row.cost

-- some two candidates make it
pub record IsMadeOfSome (loops : ℕ) (lefts rights : List Candidate) (whole : WholeFusion) : Type 0 where
  pub left : Candidate
  pub right : Candidate
  pub from_left : Contains lefts left
  pub from_right : Contains rights right
  pub made : IsMadeOf loops left right whole

-- there is a fusion, with at most this memory
abbrev pub IsAtMost : Option WholeFusion → ℕ → Type 0
IsAtMost None limit = ⊥
IsAtMost (Some whole) limit = whole.memory ≤ limit

-- there is one with at most the memory that two candidates make, where they have no conflict
abbrev pub IsBound : ℕ → Option WholeFusion → Candidate → Candidate → Type 0
IsBound loops best left right = HasNoConflict loops (rows_joined left.row right.row) → IsAtMost best (left.row.cost + right.row.cost)

-- and so it is for each two
abbrev pub IsBoundOfAll : ℕ → Option WholeFusion → List Candidate → List Candidate → Type 0
IsBoundOfAll loops best lefts rights = All (λ left. All (IsBound loops best left) rights) lefts
