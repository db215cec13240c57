-- Plans of the pieces of a cut tree, without the rows that show them to be least.
use Rattle.std.specs.Prelude.{◌≡◌, ℕ, ◌<◌, ◌≤◌, IsTrue, IsSomeAnd, Option, Some, None, List, [], length, replicate, slice_index_or}
use Rattle.tce_space.specs.IndexSet.{has}
use Rattle.tce_space.specs.Space.{IndexSpace}
use Rattle.tce_tree.specs.ContractionTree.{ContractionTree, operations}
use Rattle.tce_nesting.specs.declared.plan.Plan.{Plan}
use Rattle.tce_search.specs.LeastPlan.{IsLeastPlan}
use Rattle.tce_spec.specs.Pieces.{Cuts, piece, is_root}
use Rattle.tce_spec.specs.Specification.{Specification}
use Rattle.tce_spec.specs.PieceSpecification.{piece_of}
use Rattle.tce_spill.specs.Parts.{FitsMemory}
use Rattle.tce_spill.specs.InTurn.{AreDecided}
use Rattle.tce_spill.specs.declared.planned.PlannedCuts.{PlannedCuts}

-- the same plan with no rows
pub record IsWithoutRows (whole plan : Plan) : Type 0 where
  pub fusion : plan.fusion ≡ whole.fusion
  pub orders : plan.orders ≡ whole.orders
  pub sizes : plan.sizes ≡ whole.sizes
  pub memory : plan.memory ≡ whole.memory
  pub tables : plan.tables ≡ replicate (length whole.tables) []

-- a least plan but for its rows
pub record IsLeastButRows (space : IndexSpace) (tree : ContractionTree) (plan : Plan) : Type 0 where
  pub whole : Plan
  pub least : IsLeastPlan space tree whole
  pub bare : IsWithoutRows whole plan

-- such a plan of the specification of a piece
abbrev pub IsPlanOfPiece : Specification → Cuts → ℕ → Plan → Type 0
IsPlanOfPiece s cut v plan = IsLeastButRows (piece_of s cut v).declarations.space (piece_of s cut v).tree plan

-- no fusion of the piece is within the limit
abbrev pub IsAbove : Specification → Cuts → ℕ → ℕ → Type 0
IsAbove s cut v limit = FitsMemory s.declarations.space (piece s.tree cut v) limit → ⊥

-- where node `v` is a root, there is a plan of its piece
abbrev pub IsPlanned : Specification → Cuts → ℕ → Option Plan → Type 0
IsPlanned s cut v found = IsTrue (is_root s.tree cut v) → IsSomeAnd found (IsPlanOfPiece s cut v)

-- in the place of node `v` stands a plan of its piece
pub record HasPlan (s : Specification) (cut : Cuts) (plans : List (Option Plan)) (v : ℕ) : Type 0 where
  pub plan : Plan
  pub here : slice_index_or plans v None ≡ Some plan
  pub is_plan : IsPlanOfPiece s cut v plan

-- so it is for the roots among the first nodes, that many of them, and for the roots from a node on
abbrev pub HavePlansBelow : Specification → Cuts → List (Option Plan) → ℕ → Type 0
HavePlansBelow s cut plans n = (v : ℕ) → v < n → IsTrue (is_root s.tree cut v) → HasPlan s cut plans v

abbrev pub HavePlansFrom : Specification → Cuts → List (Option Plan) → ℕ → Type 0
HavePlansFrom s cut plans n = (v : ℕ) → n ≤ v → v < operations s.tree → IsTrue (is_root s.tree cut v) → HasPlan s cut plans v

-- and for all
abbrev pub HavePlans : Specification → Cuts → List (Option Plan) → Type 0
HavePlans s cut plans = HavePlansBelow s cut plans (operations s.tree)

-- the cuts when it is the turn of node `n`, with a plan of each piece
pub record ArePlanned (s : Specification) (limit : ℕ) (planned : PlannedCuts) (n : ℕ) : Type 0 where
  pub decided : AreDecided s.declarations.space s.tree limit (has planned.nodes) n
  pub count : length planned.plans.items ≡ operations s.tree
  pub plans : HavePlans s (has planned.nodes) planned.plans.items
