-- The words with which the operation of a node computes.
use Rattle.std.specs.Prelude.{ℕ, ◌<◌, IsTrue, map, Option}
use Rattle.std.specs.declared.option.Option.TheVariants.{Some, None}
use Rattle.std.specs.List.{All}
use Rattle.tce_space.specs.Limits.{max_indexes}
use Rattle.tce_base.specs.Word.{word, wrapping_add, wrapping_sub, wrapping_mul}
use Rattle.tce_space.specs.Box.{IsInside}
use Rattle.tce_space.specs.IndexSet.{has}
use Rattle.tce_space.specs.Space.{extent_at}
use Rattle.tce_tree.specs.ContractionTree.{operations, node}
use Rattle.tce_tree.specs.FlatTree.{kind_of, left_of, right_of}
use Rattle.tce_tree.specs.Fusion.{kept_dims}
use Rattle.tce_tree.specs.Value.{Assignment}
use Rattle.tce_tree.specs.declared.node.Operand.{Operand}
use Rattle.tce_tree.specs.declared.node.Operand.TheVariants.{Leaf, Constant, Node}
use Rattle.tce_tree.specs.declared.node.Kind.{Kind}
use Rattle.tce_tree.specs.declared.node.Kind.TheVariants.{Product, Sum, Add, Sub}
use Rattle.tce_tree.specs.declared.expr.Leaf.{Leaf as LeafReference}
use Rattle.tce_code.specs.Execution.{Setting, State, coordinates}
use Rattle.tce_exec.specs.Workspace.{Workspace, shape_over}
use Rattle.tce_exec.specs.Prepared.{IsOperand}

-- the word of node `v` at these numbers
abbrev pub word_of_node : Setting → ℕ → State → Assignment → ℕ
word_of_node s v state a = state v (coordinates (kept_dims s.tree s.fusion v) a)

abbrev pub word_of_operand : Setting → Operand → State → Assignment → ℕ
word_of_operand s (Leaf l) state a = word (s.elements.cell l.tensor (map a l.indexes.items))
word_of_operand s (Constant number) state a = word number
word_of_operand s (Node u) state a = word_of_node s u state a

-- the second word with which a node computes: that of its right operand, or of a sum its own
abbrev pub second_word : Setting → ℕ → Option Operand → State → Assignment → ℕ
second_word s v None state a = word_of_node s v state a
second_word s v (Some operand) state a = word_of_operand s operand state a

-- what nodes of each kind make of two words
abbrev pub combined : Kind → ℕ → ℕ → ℕ
combined Product = wrapping_mul
combined Sum = λ x y. wrapping_add y x
combined Add = wrapping_add
combined Sub = wrapping_sub

-- the word that the operation of node `v` puts at its place
abbrev pub word_of_operation : Setting → ℕ → State → Assignment → ℕ
word_of_operation s v state a =
    combined (kind_of (node s.tree v)) (word_of_operand s (left_of s.tree v) state a) (second_word s v (right_of s.tree v) state a)

-- the numbers of the dims that node `v` keeps lie in their extents
pub record IsPlaceOf (w : Workspace) (v : ℕ) (a : Assignment) : Type 0 where
  pub known : v < operations w.places.tree
  pub inside : (i : ℕ) → IsTrue (has (kept_dims w.places.tree w.places.fusion v) i) → a i < extent_at w.places.space i

-- the tensor is an operand, and the numbers of its indexes lie in their extents
pub record IsElementOf (w : Workspace) (l : LeafReference) (a : Assignment) : Type 0 where
  pub operand : IsOperand w l.tensor l.indexes.items
  pub known : All (λ i. i < max_indexes) l.indexes.items
  pub inside : IsInside (shape_over w.places.space l.indexes.items).extents (map a l.indexes.items)

-- an operand has a word at these numbers
abbrev pub IsReadable : Workspace → Operand → Assignment → Type 0
IsReadable w (Leaf l) a = IsElementOf w l a
IsReadable w (Constant number) a = Unit {0}
IsReadable w (Node u) a = IsPlaceOf w u a
