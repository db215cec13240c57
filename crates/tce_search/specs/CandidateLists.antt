-- Lists of candidates, one for each node so far by its number, and what the search keeps of them.
use Rattle.std.specs.Prelude.{◌≡◌, ◌⊎◌, ℕ, ◌<◌, ◌≤◌, Option, List, [], ◌∷◌, ◌++◌, map, length, slice_index_or}
use Rattle.std.specs.List.{All, AllPairs}
use Rattle.std.specs.declared.option.Option.TheVariants.{Some, None}
use Rattle.tce_space.specs.Limits.{cost_limit}
use Rattle.tce_space.specs.Space.{IndexSpace}
use Rattle.tce_tree.specs.ContractionTree.{ContractionTree, operations, node, node_dims, node_loops, parent}
use Rattle.tce_tree.specs.FlatTree.{left_of, right_of}
use Rattle.tce_tree.specs.declared.node.Operand.{Operand}
use Rattle.tce_tree.specs.declared.node.Operand.TheVariants.{Leaf, Constant, Node}
use Rattle.tce_fusion.specs.Row.{Row, leaf_row, AreApart}
use Rattle.tce_fusion.specs.Cover.{NodeCovered}
use Rattle.tce_nesting.specs.Plan.{LiesWithin}
use Rattle.tce_search.specs.declared.candidate.Candidate.{Candidate}
use Rattle.tce_search.specs.declared.limits.Limits.{Limits}
use Rattle.tce_search.specs.Candidates.{IsLimited}
use Rattle.tce_search.specs.Laws.{rows_of}
use Rattle.tce_search.specs.Reached.{IsStateOf}

-- the candidates of node `v`
abbrev pub candidates_at : List (List Candidate) → ℕ → List Candidate
candidates_at found v = slice_index_or found v []

-- the states of all candidates
abbrev pub tables_of : List (List Candidate) → List (List Row)
tables_of found = map rows_of found

-- the one candidate of a tensor or a constant
abbrev pub leaf_candidate : Candidate
leaf_candidate = record { row = leaf_row; sets = record { items = [] } }

-- the candidates of an operand; a sum has a leaf on the right
abbrev pub operand_candidates : List (List Candidate) → Operand → List Candidate
operand_candidates found (Leaf reference) = leaf_candidate ∷ []
operand_candidates found (Constant number) = leaf_candidate ∷ []
operand_candidates found (Node v) = candidates_at found v

abbrev pub right_operand_candidates : List (List Candidate) → Option Operand → List Candidate
right_operand_candidates found None = leaf_candidate ∷ []
right_operand_candidates found (Some operand) = operand_candidates found operand

-- the candidates of the operands of node `v`
abbrev pub left_candidates : ContractionTree → List (List Candidate) → ℕ → List Candidate
left_candidates tree found v = operand_candidates found (left_of tree v)

abbrev pub right_candidates : ContractionTree → List (List Candidate) → ℕ → List Candidate
right_candidates tree found v = right_operand_candidates found (right_of tree v)

-- no state, but a row that only bounds states: it has fewer sets than the tree has operations, and costs at least so much
pub record IsNoState (tree : ContractionTree) (least : ℕ) (candidate : Candidate) : Type 0 where
  pub fewer : length candidate.sets.items < operations tree
  pub high : least ≤ candidate.row.cost

-- a state of the tree, or such a row; its cost fits a plan
pub record IsKept (space : IndexSpace) (tree : ContractionTree) (least : ℕ) (candidate : Candidate) : Type 0 where
  pub limited : IsLimited candidate
  pub kind : IsStateOf space tree candidate ⊎ IsNoState tree least candidate

-- the classes lie within the dims
abbrev pub HasClassesWithin : ℕ → Candidate → Type 0
HasClassesWithin dims candidate = All (LiesWithin dims) candidate.row.classes

-- the candidates of node `v` are states of its subtree or bound some; they cover the steps from those of its operands, and none stands for another
pub record AreCandidates (space : IndexSpace) (tree : ContractionTree) (least : ℕ) (found : List (List Candidate)) (v : ℕ) : Type 0 where
  pub kept : All (IsKept space (node tree v) least) (candidates_at found v)
  pub classes : All (HasClassesWithin (node_dims tree v)) (candidates_at found v)
  pub covered : (p : ℕ) → parent tree v ≡ Some p → NodeCovered space tree (tables_of found) (node_loops tree p) v
  pub apart : (p : ℕ) → parent tree v ≡ Some p → AllPairs (AreApart (node_loops tree p)) (rows_of (candidates_at found v))

-- the candidates of the first nodes, and what each costs at least that is no state
pub record Searched : Type 0 where
  pub least : ℕ
  pub lists : List (List Candidate)

-- with those of one more node
abbrev pub with_next : Searched → List Candidate → Searched
with_next found candidates = record { least = found.least; lists = found.lists ++ candidates ∷ [] }

-- each node that has a list has states or rows that bound some
abbrev pub AreKept : IndexSpace → ContractionTree → Searched → Type 0
AreKept space tree found = (v : ℕ) → v < length found.lists → All (IsKept space (node tree v) found.least) (candidates_at found.lists v)

-- and they are all that are needed
abbrev pub AreFound : IndexSpace → ContractionTree → Searched → Type 0
AreFound space tree found = (v : ℕ) → v < length found.lists → AreCandidates space tree found.least found.lists v

-- the limits are within a plan's numbers, and what they bound costs at least so much
pub record AreLow (least : ℕ) (limits : Limits) : Type 0 where
  pub target : limits.target < cost_limit
  pub floor : limits.least < cost_limit
  pub high : least ≤ limits.least
