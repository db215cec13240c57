-- Candidates that are states of fusions of their subtrees.
use Rattle.std.specs.Prelude.{◌≡◌, ℕ, ◌<◌, true, List, []}
use Rattle.tce_space.specs.Space.{IndexSpace}
use Rattle.tce_tree.specs.ContractionTree.{ContractionTree, is_leaf, left_tree, right_tree, operations, node, node_loops}
use Rattle.tce_fusion.specs.Reached as states
use Rattle.tce_fusion.specs.Row.{leaf_row}
use Rattle.tce_nesting.specs.declared.choice.Choice.{Choice}
use Rattle.tce_nesting.specs.Choices.{AreChoices}
use Rattle.tce_search.specs.declared.candidate.Candidate.{Candidate}
use Rattle.tce_search.specs.Candidates.{IsStepOf}

-- the candidate's sets are a fusion of the tree, below its root and above it, and its row is the state under it
abbrev pub IsStateOf : IndexSpace → ContractionTree → Candidate → Type 0
IsStateOf space tree candidate = states.IsStateOf space tree candidate.sets.items candidate.row

-- the candidate without classes, cost and sets is the state of a tensor and of a constant
abbrev pub LeavesHaveStates : Type 0
LeavesHaveStates =
    (space : IndexSpace) (tree : ContractionTree) (candidate : Candidate) → is_leaf tree ≡ true → candidate.row ≡ leaf_row → candidate.sets.items ≡ []
    → IsStateOf space tree candidate

-- a step from states of the operands of a node is a state of the node
abbrev pub StepsAreStates : Type 0
StepsAreStates =
    (space : IndexSpace) (tree : ContractionTree) (v : ℕ) (choices : List Choice) (left right candidate : Candidate) → v < operations tree
    → AreChoices space tree v choices → IsStepOf (node_loops tree v) choices left right candidate
    → IsStateOf space (left_tree (node tree v)) left → IsStateOf space (right_tree (node tree v)) right → IsStateOf space (node tree v) candidate
