-- The specification of a piece, of which its array is the result.
use Rattle.std.specs.Prelude.{ℕ, ◌+◌, ◌-◌, ◌<◌, ◌==◌, nat_lt, if◌then◌else◌, IsTrue, List, [], ◌∷◌, ◌++◌, length, map, codes}
use Rattle.std.specs.Fmt.{decimal}
use Rattle.tce_space.specs.Limits.{max_tensors}
use Rattle.tce_space.specs.IndexSet.{members}
use Rattle.tce_tree.specs.ContractionTree.{ContractionTree, leaf, constant, binary, sum, operations, node_dims}
use Rattle.tce_spec.specs.Declarations.{Tensor, tensor_at, Declarations}
use Rattle.tce_spec.specs.Pieces.{Cuts, is_root, piece}
use Rattle.tce_spec.specs.Storable.{ranges_of_node, storable}
use Rattle.tce_spec.specs.Specification.{Specification}
use Rattle.tce_spec.specs.Operands.{references, each_once}

-- the array of a node: its name has a hyphen, which no declared name has
abbrev pub array_of : Specification → ℕ → Tensor
array_of s v = record { name = codes "spill-" ++ decimal v; ranges = ranges_of_node s.declarations.space s.tree v }

-- what a number means in the tree of a piece: a declared tensor, or the array of a node
abbrev pub source : Specification → ℕ → Tensor
source s t = if nat_lt t max_tensors then tensor_at s.declarations t else array_of s (t - max_tensors)

-- these tensors and arrays, declared over the same space
abbrev pub declared_of : Specification → List ℕ → Declarations
declared_of s numbers = record { space = s.declarations.space; tensors = map (source s) numbers }

-- what the piece of root `v` reads, by its first use
abbrev pub sources : Specification → Cuts → ℕ → List ℕ
sources s cut v = each_once (references (piece s.tree cut v))

-- the place of a number in a list
abbrev pub place_in : List ℕ → ℕ → ℕ
place_in [] t = 0
place_in (u ∷ us) t = if u == t then 0 else place_in us t + 1

-- a tree with other numbers for its tensors
abbrev pub renumbered : (ℕ → ℕ) → ContractionTree → ContractionTree
renumbered number (leaf tensor indexes) = leaf (number tensor) indexes
renumbered number (constant n) = constant n
renumbered number (binary op left right) = binary op (renumbered number left) (renumbered number right)
renumbered number (sum indexes operand) = sum indexes (renumbered number operand)

-- what the piece computes: the result of the whole, or the array of its root
abbrev pub target : Specification → ℕ → Tensor
target s v = if v + 1 == operations s.tree then tensor_at s.declarations s.result else array_of s v

abbrev pub target_indexes : Specification → ℕ → List ℕ
target_indexes s v = if v + 1 == operations s.tree then s.indexes else members (node_dims s.tree v)

-- The same space; the operands of the piece by their first use, and then its result.
abbrev pub piece_of : Specification → Cuts → ℕ → Specification
piece_of s cut v = record {
  declarations = record { space = s.declarations.space; tensors = map (source s) (sources s cut v) ++ target s v ∷ [] };
  result = length (sources s cut v);
  indexes = target_indexes s v;
  tree = renumbered (place_in (sources s cut v)) (piece s.tree cut v);
}

-- only storable nodes are cut, and the node is a root
pub record CanCut (s : Specification) (cut : Cuts) (v : ℕ) : Type 0 where
  pub inside : v < operations s.tree
  pub root : IsTrue (is_root s.tree cut v)
  pub allowed : (u : ℕ) → IsTrue (cut u) → IsTrue (storable s.declarations.space s.tree u)
