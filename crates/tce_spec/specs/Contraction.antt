-- What every contraction keeps over its declarations.
use Rattle.std.specs.Prelude.{◌≡◌, ⊤, ℕ, true, ◌<◌, Bool, false, IsTrue, List, length, map, ◌==◌, ◌||◌, ◌&&◌, nat_lt}
use Rattle.tce_space.specs.IndexSet.{set_of}
use Rattle.tce_space.specs.Space.{index_at}
use Rattle.tce_tree.specs.ContractionTree.{ContractionTree, leaf, constant, binary, sum, dims}
use Rattle.tce_tree.specs.WellFormed.{IsDeclaredTree, is_distinct}
use Rattle.tce_spec.specs.Declarations.{Declarations, tensor_at}

-- a declared tensor with indexes of its ranges, in their order
pub record FitsTensor (d : Declarations) (tensor : ℕ) (indexes : List ℕ) : Type 0 where
  pub declared : tensor < length d.tensors
  pub ranges : map (λ i. (index_at d.space i).of_range) indexes ≡ (tensor_at d tensor).ranges

-- all references to tensors fit
abbrev pub LeavesFit : Declarations → ContractionTree → Type 0
LeavesFit d (leaf tensor indexes) = FitsTensor d tensor indexes
LeavesFit d (constant number) = ⊤
LeavesFit d (binary op left right) = LeavesFit d left × LeavesFit d right
LeavesFit d (sum indexes operand) = LeavesFit d operand

-- whether a tensor stands in a tree
abbrev pub has_tensor : ℕ → ContractionTree → Bool
has_tensor t (leaf tensor indexes) = tensor == t
has_tensor t (constant number) = false
has_tensor t (binary op left right) = has_tensor t left || has_tensor t right
has_tensor t (sum indexes operand) = has_tensor t operand

-- whether each sum lists an index
abbrev pub sums_some : ContractionTree → Bool
sums_some (leaf tensor indexes) = true
sums_some (constant number) = true
sums_some (binary op left right) = sums_some left && sums_some right
sums_some (sum indexes operand) = nat_lt 0 (length indexes) && sums_some operand

-- a tree and its result: each reference fits its tensor, each sum lists an index, the result has each index of the tree once and no other, and is no operand
pub record IsContraction (d : Declarations) (result : ℕ) (indexes : List ℕ) (tree : ContractionTree) : Type 0 where
  pub result_fits : FitsTensor d result indexes
  pub leaves_fit : LeavesFit d tree
  pub declared : IsDeclaredTree d.space tree
  pub sums_some : IsTrue (sums_some tree)
  pub once : IsTrue (is_distinct indexes)
  pub same_indexes : set_of indexes ≡ dims tree
  pub no_operand : has_tensor result tree ≡ false
