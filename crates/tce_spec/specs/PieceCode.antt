-- What the program goes through for the specification of a piece.
use Rattle.std.specs.Prelude.{◌≡◌, ⊤, ◌⊎◌, ℕ, true, ◌+◌, ◌-◌, ◌<◌, ◌≤◌, ◌==◌, if◌then◌else◌, List, length, map}
use Rattle.std.specs.List.{AllByRecursion, IsDistinct}
use Rattle.std.specs.Str.{bytes_eq}
use Rattle.tce_space.specs.Limits.{max_rank, max_tensors}
use Rattle.tce_space.specs.IndexSet.{count, has}
use Rattle.tce_tree.specs.ContractionTree.{ContractionTree, leaf, constant, binary, sum, subtract, operations, node, node_dims}
use Rattle.tce_spec.specs.Declarations.{IsTensor, Declarations}
use Rattle.tce_spec.specs.Pieces.{Cuts, stored, except, rest_of}
use Rattle.tce_spec.specs.Specification.{Specification}
use Rattle.tce_spec.specs.PieceSpecification.{source, renumbered, place_in}
use Rattle.tce_tree.specs.Expr.{tree_of}
use Rattle.tce_tree.specs.declared.expr.Expr.{Expr}
use Rattle.tce_tree.specs.declared.expr.Leaf.{Leaf}

-- the nodes of the tree from `first` on are those of this part of it
abbrev pub StandsAt : ContractionTree → ℕ → ContractionTree → Type 0
StandsAt tree first (leaf tensor indexes) = ⊤
StandsAt tree first (constant number) = ⊤
StandsAt tree first (binary op left right) =
    (node tree (first + operations left + operations right) ≡ binary op left right) × (StandsAt tree first left × StandsAt tree (first + operations left) right)
StandsAt tree first (sum indexes operand) = (node tree (first + operations operand) ≡ sum indexes operand) × StandsAt tree first operand

-- a cut node has at most eight dims
abbrev pub HaveRank : ContractionTree → Cuts → Type 0
HaveRank tree cut = (v : ℕ) → v < operations tree → cut v ≡ true → count (node_dims tree v) ≤ max_rank

-- a declared tensor, or the array of a node with at most eight dims
abbrev pub IsSource : Specification → ℕ → Type 0
IsSource s t =
    (t < length s.declarations.tensors) ⊎ ((max_tensors ≤ t) × ((t - max_tensors < operations s.tree) × (count (node_dims s.tree (t - max_tensors)) ≤ max_rank)))

-- these tensors can be declared over the same space: their names differ
pub record CanDeclare (s : Specification) (numbers : List ℕ) : Type 0 where
  pub few : length numbers ≤ max_tensors
  pub sources : AllByRecursion (IsSource s) numbers
  pub tensors : AllByRecursion (λ t. IsTensor s.declarations.space (source s t)) numbers
  pub names : IsDistinct bytes_eq (map (λ t. (source s t).name) numbers)

-- the number of what a piece computes
abbrev pub target_number : Specification → ℕ → ℕ
target_number s v = if v + 1 == operations s.tree then s.result else stored v

-- the cut nodes, as the bits of a number, but the root of the piece
abbrev pub cuts_below : ℕ → ℕ → Cuts
cuts_below cuts root = except (has cuts) root

-- a node with these operands in place of its own two; of a node with fewer, their difference
abbrev pub with_operands : ContractionTree → ContractionTree → ContractionTree → ContractionTree
with_operands (leaf tensor indexes) left right = binary subtract left right
with_operands (constant number) left right = binary subtract left right
with_operands (binary op own other) left right = binary op left right
with_operands (sum indexes operand) left right = binary subtract left right

-- an expression of these operands in place of those of the node
abbrev pub IsJoined : Expr → Expr → Expr → Expr → Type 0
IsJoined node left right own = tree_of own ≡ with_operands (tree_of node) (tree_of left) (tree_of right)

-- an expression of what is left of a part of the tree, whose nodes are numbered from `first` on
abbrev pub IsRestOf : ℕ → ℕ → ℕ → Expr → Expr → Type 0
IsRestOf cuts root first part rest = tree_of rest ≡ rest_of (cuts_below cuts root) first (tree_of part)

-- the same expression, with the places of its tensors in a list for their numbers
abbrev pub IsRenumbered : List ℕ → Expr → Expr → Type 0
IsRenumbered numbers expr own = tree_of own ≡ renumbered (place_in numbers) (tree_of expr)

-- the specification whose result has the values of the expression
abbrev pub specification_to : Declarations → Leaf → Expr → Specification
specification_to d target expr = record { declarations = d; result = target.tensor; indexes = target.indexes.items; tree = tree_of expr }
