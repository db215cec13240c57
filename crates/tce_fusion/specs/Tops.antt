-- Scopes as the program keeps them: for each index the topmost node of its scope at each node.
use Rattle.std.specs.Prelude.{◌≡◌, ℕ, ◌<◌, ◌==◌, Bool, false, List, [], ◌⊎◌, slice_index, slice_index_or, IsTrue, length}
use Rattle.std.specs.List.{count_by, range_with_len}
use Rattle.std.specs.declared.option.Option.TheVariants.{Some}
use Rattle.tce_space.specs.Limits.{max_indexes}
use Rattle.tce_space.specs.IndexSet.{has}
use Rattle.tce_tree.specs.ContractionTree.{ContractionTree, operations, parent}
use Rattle.tce_tree.specs.Fusion.{fused_at}
use Rattle.tce_fusion.specs.Scope.{scope, IsSubset}

-- `p` is the parent of `v`, and the edge between them fuses `i`
pub record IsFusedParent (tree : ContractionTree) (fusion : List ℕ) (i v p : ℕ) : Type 0 where
  pub is : parent tree v ≡ Some p
  pub fused : IsTrue (has (fused_at fusion v) i)
  pub above : v < p
  pub inside : p < operations tree

-- `top` is the topmost node of the scope of `i` at `v`
pub record IsTop (tree : ContractionTree) (fusion : List ℕ) (i v top : ℕ) : Type 0 where
  pub inside : top < operations tree
  pub reached : IsTrue (scope tree fusion i v top)
  pub topmost : (w : ℕ) → top < w → w < operations tree → scope tree fusion i top w ≡ false

-- two nodes have the same top
abbrev pub joined : List ℕ → ℕ → ℕ → Bool
joined tops v w = slice_index tops v == slice_index tops w

-- the tops of the index `i` tell its scopes
abbrev pub TellsScopes : ContractionTree → List ℕ → ℕ → List ℕ → Type 0
TellsScopes tree fusion i tops = (v w : ℕ) → v < operations tree → w < operations tree → joined tops v w ≡ scope tree fusion i v w

-- the tops of an index
abbrev pub row : List (List ℕ) → ℕ → List ℕ
row tops i = slice_index_or tops i []

abbrev pub TellsAllScopes : ContractionTree → List ℕ → List (List ℕ) → Type 0
TellsAllScopes tree fusion tops = (i : ℕ) → i < max_indexes → TellsScopes tree fusion i (row tops i)

-- one of two sets of nodes contains the other
abbrev pub AreNested : ℕ → (ℕ → Bool) → (ℕ → Bool) → Type 0
AreNested count s t = IsSubset count s t ⊎ IsSubset count t s

-- how many nodes have the same top as `v`
unfoldable pub size_in : ℕ → List ℕ → ℕ → ℕ
size_in count tops v = count_by (joined tops v) (range_with_len 0 count)

-- of any two of these loops, the scope of one at `v` contains that of the other
abbrev pub LoopsAreNested : List (List ℕ) → ℕ → ℕ → ℕ → Type 0
LoopsAreNested tops count loops v =
    (i j : ℕ) → i < max_indexes → j < max_indexes → IsTrue (has loops i) → IsTrue (has loops j)
    → AreNested count (joined (row tops i) v) (joined (row tops j) v)

-- the tops of the nodes above `v` are those of the scopes of `i`
abbrev pub AreTopsAbove : ContractionTree → List ℕ → ℕ → ℕ → List ℕ → Type 0
AreTopsAbove tree fusion i v tops = (w : ℕ) → v < w → w < operations tree → IsTop tree fusion i w (slice_index tops w)

-- how many nodes the scope of an index at `v` has, and that of the k-th index of an order
abbrev pub scope_nodes : List (List ℕ) → ℕ → ℕ → ℕ → ℕ
scope_nodes tops count v i = size_in count (row tops i) v

abbrev pub nodes_at : List (List ℕ) → ℕ → ℕ → List ℕ → ℕ → ℕ
nodes_at tops count v order k = scope_nodes tops count v (slice_index order k)

-- the index at a place, if there is one, has a scope of fewer nodes than this
abbrev pub IsSmallerAt : List (List ℕ) → ℕ → ℕ → List ℕ → ℕ → ℕ → Type 0
IsSmallerAt tops count v order size k = k < length order → nodes_at tops count v order k < size
