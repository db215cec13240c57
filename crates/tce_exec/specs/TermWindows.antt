-- The operands of a term, which are tensors, and their windows.
use Rattle.std.specs.Prelude.{◌≡◌, ℕ, ◌<◌, true, false, IsTrue, if◌then◌else◌, map}
use Rattle.std.specs.List.{All}
use Rattle.tce_base.specs.Word.{word, wrapping_mul}
use Rattle.tce_space.specs.Limits.{max_indexes}
use Rattle.tce_space.specs.Box.{IsInside}
use Rattle.tce_cache.specs.Cache.{State as CacheState}
use Rattle.tce_tree.specs.ContractionTree.{ContractionTree, leaf, constant, binary, sum, operations, node, left_tree, right_tree}
use Rattle.tce_tree.specs.Value.{Assignment, Elements}
use Rattle.tce_tree.specs.declared.expr.Leaf.{Leaf as LeafReference}
use Rattle.tce_tree.specs.declared.node.Operand.{Operand}
use Rattle.tce_tree.specs.declared.node.Operand.TheVariants.{Leaf, Constant, Node}
use Rattle.tce_layout.specs.Layout.{IsLayout}
use Rattle.tce_walk.specs.declared.terms.TermOperand.{TermOperand}
use Rattle.tce_walk.specs.declared.terms.TermOperand.TheVariants.{Product, Left, Right}
use Rattle.tce_exec.specs.NodeStates.{Places}
use Rattle.tce_exec.specs.OperandLaws.{HasShape}
use Rattle.tce_exec.specs.Workspace.{Workspace, shape_over}
use Rattle.tce_exec.specs.Prepared.{IsPrepared, IsOperand}
use Rattle.tce_exec.specs.Windows.{IsOperandWindow, IsPlaceWindow, AreOperandSteps, ArePlaceSteps, HasSteps}
use Rattle.tce_exec.specs.declared.steps.Windows.{Windows}
use Rattle.tce_exec.specs.declared.term_windows.TermOperands.{TermOperands}

-- ---- operands

-- the operand names a tensor of the tree
abbrev pub IsNameOf : ContractionTree → Operand → Type 0
IsNameOf (leaf tensor indexes) o = o ≡ Leaf (record { tensor = tensor; indexes = record { items = indexes } })
IsNameOf (constant number) o = ⊥
IsNameOf (binary op left right) o = ⊥
IsNameOf (sum indexes operand) o = ⊥

abbrev pub AreOperandsOf : ContractionTree → TermOperand → TermOperands → Type 0
AreOperandsOf tree (Product v) o = (o.pair ≡ true) × IsNameOf (left_tree (node tree v)) o.left.now × IsNameOf (right_tree (node tree v)) o.right.now
AreOperandsOf tree (Left v) o = (o.pair ≡ false) × IsNameOf (left_tree (node tree v)) o.left.now × (o.right.now ≡ o.left.now)
AreOperandsOf tree (Right v) o = (o.pair ≡ false) × IsNameOf (right_tree (node tree v)) o.left.now × (o.right.now ≡ o.left.now)

-- a reference of the tree to a tensor
pub record IsReference (p : Places) (l : LeafReference) : Type 0 where
  pub operand : (w : Workspace) → w.places ≡ p → IsPrepared w → IsOperand w l.tensor l.indexes.items
  pub known : All (λ i. i < max_indexes) l.indexes.items

abbrev pub IsTensor : Places → Operand → Type 0
IsTensor p (Leaf l) = IsReference p l
IsTensor p (Constant number) = ⊥
IsTensor p (Node u) = ⊥

-- the numbers of a tensor's indexes lie in their extents
abbrev pub HasElement : Places → Operand → Assignment → Type 0
HasElement p (Leaf l) a = IsInside (shape_over p.space l.indexes.items).extents (map a l.indexes.items)
HasElement p (Constant number) a = ⊥
HasElement p (Node u) a = ⊥

pub record AreTensors (p : Places) (o : TermOperands) : Type 0 where
  pub left_is : IsTensor p o.left.now
  pub right_is : IsTensor p o.right.now

pub record HaveElements (p : Places) (o : TermOperands) (a : Assignment) : Type 0 where
  pub tensors : AreTensors p o
  pub left_has : HasElement p o.left.now a
  pub right_has : HasElement p o.right.now a

-- ---- values

abbrev pub element_value : Elements → Operand → Assignment → ℕ
element_value e (Leaf l) a = word (e.cell l.tensor (map a l.indexes.items))
element_value e (Constant number) a = word number
element_value e (Node u) a = 0

-- what a term adds at an assignment
abbrev pub term_value : Elements → TermOperands → Assignment → ℕ
term_value e o a = if o.pair then wrapping_mul (element_value e o.left.now a) (element_value e o.right.now a) else element_value e o.left.now a

-- ---- windows

pub record AreTermSteps (p : Places) (o : TermOperands) (windows : Windows) : Type 0 where
  pub left_are : AreOperandSteps p o.left.now windows.left.steps
  pub right_are : AreOperandSteps p o.right.now windows.right.steps
  pub out_are : ArePlaceSteps p o.out windows.out.steps

pub record AreTermWindows (w : Workspace) (o : TermOperands) (first : Assignment) (windows : Windows) : Type 0 where
  pub left_is : IsOperandWindow (if o.pair then 3 else 2) w o.left.now first windows.left
  pub right_is : IsTrue o.pair → IsOperandWindow 2 w o.right.now first windows.right
  pub out_is : IsPlaceWindow 1 w o.out first windows.out

-- the operands have arrays, and so has the result
pub record CanStepTerm (p : Places) (array : ℕ) (c : CacheState) (o : TermOperands) : Type 0 where
  pub laid : IsLayout p.space p.tree p.fusion p.slots
  pub known : o.out < operations p.tree
  pub left_has : HasSteps p c o.left.now
  pub right_has : HasSteps p c o.right.now
  pub indexes : All (λ i. i < max_indexes) p.result
  pub stored : HasShape c array (shape_over p.space p.result)
