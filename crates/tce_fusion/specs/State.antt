-- States of subtrees under a fusion: which loops have to be above which, and what the intermediates of the subtree take.
use Rattle.std.specs.Prelude.{◌≡◌, ℕ, ◌+◌, ◌-◌, ◌<◌, false, List, IsTrue}
use Rattle.tce_space.specs.IndexSet.{minus}
use Rattle.tce_space.specs.Space.{IndexSpace, volume_of}
use Rattle.tce_tree.specs.ContractionTree.{ContractionTree, leaf, constant, binary, sum, left_tree, right_tree, dims, loops, operations, node, in_subtree}
use Rattle.tce_tree.specs.FlatTree.{first_number_of}
use Rattle.tce_tree.specs.Fusion.{fused_at}
use Rattle.tce_fusion.specs.Scope.{scope}
use Rattle.tce_fusion.specs.Relation.{Relation, none, joined, cut, HasNoConflict, Allows}

-- the number of a subtree's root, where its nodes are numbered from `first` on
abbrev pub root_number : ℕ → ContractionTree → ℕ
root_number first tree = first + operations tree - 1

-- the set that is fused at the root
abbrev pub fused_at_root : List ℕ → ℕ → ContractionTree → ℕ
fused_at_root fusion first tree = fused_at fusion (root_number first tree)

-- the number of the first node of the right operand
abbrev pub first_right : ℕ → ContractionTree → ℕ
first_right first tree = first + operations (left_tree tree)

-- the relation of the state of a subtree whose nodes are numbered from `first` on
abbrev pub state : List ℕ → ℕ → ContractionTree → Relation
state fusion first (leaf tensor indexes) = none
state fusion first (constant number) = none
state fusion first (binary op left right) =
    cut (fused_at_root fusion first (binary op left right)) (joined (state fusion first left) (state fusion (first + operations left) right))
state fusion first (sum indexes operand) = cut (fused_at_root fusion first (sum indexes operand)) (joined (state fusion first operand) none)

-- the relations of both operands' states, joined; that of a sum with that of a leaf
abbrev pub operands_joined : List ℕ → ℕ → ContractionTree → Relation
operands_joined fusion first tree = joined (state fusion first (left_tree tree)) (state fusion (first_right first tree) (right_tree tree))

-- the operands' states have no conflict at the node
abbrev pub IsJoined : List ℕ → ℕ → ContractionTree → Type 0
IsJoined fusion first tree = HasNoConflict (loops tree) (operands_joined fusion first tree)

-- and allow the set that is fused there
abbrev pub IsStep : List ℕ → ℕ → ContractionTree → Type 0
IsStep fusion first tree = IsJoined fusion first tree × Allows (loops tree) (operands_joined fusion first tree) (fused_at_root fusion first tree)

-- the state of a subtree exists
abbrev pub HasState : List ℕ → ℕ → ContractionTree → Type 0
HasState fusion first (leaf tensor indexes) = Unit {0}
HasState fusion first (constant number) = Unit {0}
HasState fusion first (binary op left right) =
    HasState fusion first left × HasState fusion (first + operations left) right × IsStep fusion first (binary op left right)
HasState fusion first (sum indexes operand) = HasState fusion first operand × IsStep fusion first (sum indexes operand)

-- the state of each node but the root exists, and at the root, which is fused to nothing, the operands' states have no conflict
pub record HasStates (fusion : List ℕ) (tree : ContractionTree) : Type 0 where
  pub below : (v : ℕ) → v + 1 < operations tree → HasState fusion (first_number_of tree v) (node tree v)
  pub root : IsJoined fusion 0 tree

-- the scope of `i` at node `v` has a node of the subtree of `v` that the scope of `j` lacks
pub record GoesFurther (tree : ContractionTree) (fusion : List ℕ) (v i j : ℕ) : Type 0 where
  pub at : ℕ
  pub below : IsTrue (in_subtree tree v at)
  pub reached : IsTrue (scope tree fusion i v at)
  pub not_reached : scope tree fusion j v at ≡ false

-- the elements that a tree's last node keeps where a set is fused
abbrev pub size_left : IndexSpace → ContractionTree → ℕ → ℕ
size_left space tree fused = volume_of space (minus (dims tree) fused)

-- the cost of the state of a subtree: the elements that its nodes keep
abbrev pub cost : IndexSpace → List ℕ → ℕ → ContractionTree → ℕ
cost space fusion first (leaf tensor indexes) = 0
cost space fusion first (constant number) = 0
cost space fusion first (binary op left right) =
    cost space fusion first left + cost space fusion (first + operations left) right
    + size_left space (binary op left right) (fused_at_root fusion first (binary op left right))
cost space fusion first (sum indexes operand) = cost space fusion first operand + size_left space (sum indexes operand) (fused_at_root fusion first (sum indexes operand))

-- the costs of both operands
abbrev pub operands_cost : IndexSpace → List ℕ → ℕ → ContractionTree → ℕ
operands_cost space fusion first tree = cost space fusion first (left_tree tree) + cost space fusion (first_right first tree) (right_tree tree)
