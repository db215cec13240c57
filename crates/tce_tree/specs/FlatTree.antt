-- A tree as a list of its nodes in postorder, as the program keeps it.
use Rattle.std.specs.Prelude.{◌≡◌, ℕ, ◌+◌, ◌-◌, ◌<◌, ◌≤◌, Option, List, [], ◌∷◌, ◌++◌}
use Rattle.std.specs.declared.option.Option.TheVariants.{Some, None}
use Rattle.tce_space.specs.Limits.{max_loops, max_nodes}
use Rattle.tce_space.specs.IndexSet.{count}
use Rattle.tce_tree.specs.ContractionTree.{ContractionTree, Arithmetic, leaf, constant, binary, sum, multiply, add, subtract, dims, loops, operations, node, node_loops}
use Rattle.tce_tree.specs.TreeCode.{top, below}
use Rattle.tce_tree.specs.WellFormed.{IsWellFormed}
use Rattle.tce_tree.specs.declared.node.Operand.{Operand}
use Rattle.tce_tree.specs.declared.node.Operand.TheVariants.{Leaf as LeafOperand, Constant as ConstantOperand, Node as NodeOperand}
use Rattle.tce_tree.specs.declared.node.Kind.{Kind}
use Rattle.tce_tree.specs.declared.node.Kind.TheVariants.{Product as ProductKind, Sum as SumKind, Add as AddKind, Sub as SubKind}
use Rattle.tce_tree.specs.declared.node.Operation.{Operation}
use Rattle.tce_tree.specs.declared.node.Operation.TheVariants.{Binary, Sum}
use Rattle.tce_tree.specs.declared.node.Node.{Node}

-- how an operand is named whose nodes are numbered from `first` on
abbrev pub operand_of : ℕ → ContractionTree → Operand
operand_of first (leaf tensor indexes) = LeafOperand (record { tensor = tensor; indexes = record { items = indexes } })
operand_of first (constant number) = ConstantOperand number
operand_of first (binary op left right) = NodeOperand (first + operations left + operations right)
operand_of first (sum indexes operand) = NodeOperand (first + operations operand)

abbrev pub operation_of : ℕ → ContractionTree → Operation
operation_of first (leaf tensor indexes) = Sum (record { items = [] }) (operand_of first (leaf tensor indexes))
operation_of first (constant number) = Sum (record { items = [] }) (operand_of first (constant number))
operation_of first (binary op left right) = Binary op (operand_of first left) (operand_of (first + operations left) right)
operation_of first (sum indexes operand) = Sum (record { items = indexes }) (operand_of first operand)

-- the last node of a tree whose nodes are numbered from `first` on
abbrev pub node_of : ℕ → ContractionTree → Node
node_of first tree = record { operation = operation_of first tree; dims = dims tree; loops = loops tree; size = operations tree }

-- the nodes in postorder, numbered from `first` on
abbrev pub flat : ℕ → ContractionTree → List Node
flat first (leaf tensor indexes) = []
flat first (constant number) = []
flat first (binary op left right) = flat first left ++ (flat (first + operations left) right ++ node_of first (binary op left right) ∷ [])
flat first (sum indexes operand) = flat first operand ++ node_of first (sum indexes operand) ∷ []

-- the tree of an operand, where the trees of earlier nodes lie on a stack
abbrev pub operand_tree : Operand → List ContractionTree → ContractionTree
operand_tree (LeafOperand l) stack = leaf l.tensor l.indexes.items
operand_tree (ConstantOperand number) stack = constant number
operand_tree (NodeOperand v) stack = top stack

abbrev pub operand_rest : Operand → List ContractionTree → List ContractionTree
operand_rest (LeafOperand l) stack = stack
operand_rest (ConstantOperand number) stack = stack
operand_rest (NodeOperand v) stack = below stack

abbrev pub put_operation : Operation → List ContractionTree → List ContractionTree
put_operation (Binary arithmetic left right) stack =
    binary arithmetic (operand_tree left (operand_rest right stack)) (operand_tree right stack) ∷ operand_rest left (operand_rest right stack)
put_operation (Sum indexes operand) stack = sum indexes.items (operand_tree operand stack) ∷ operand_rest operand stack

abbrev pub put_nodes : List Node → List ContractionTree → List ContractionTree
put_nodes [] stack = stack
put_nodes (n ∷ rest) stack = put_nodes rest (put_operation n.operation stack)

-- the tree of a list of nodes
abbrev pub tree_of_nodes : List Node → ContractionTree
tree_of_nodes nodes = top (put_nodes nodes [])

-- what a tree's last node computes
abbrev pub arithmetic_kind : Arithmetic → Kind
arithmetic_kind multiply = ProductKind
arithmetic_kind add = AddKind
arithmetic_kind subtract = SubKind

abbrev pub kind_of : ContractionTree → Kind
kind_of (leaf tensor indexes) = SumKind
kind_of (constant number) = SumKind
kind_of (binary op left right) = arithmetic_kind op
kind_of (sum indexes operand) = SumKind

-- the left or only operand of a tree's last node, and the right one where there are two
abbrev pub left_operand : ℕ → ContractionTree → Operand
left_operand first (leaf tensor indexes) = operand_of first (leaf tensor indexes)
left_operand first (constant number) = operand_of first (constant number)
left_operand first (binary op left right) = operand_of first left
left_operand first (sum indexes operand) = operand_of first operand

abbrev pub right_operand : ℕ → ContractionTree → Option Operand
right_operand first (leaf tensor indexes) = None
right_operand first (constant number) = None
right_operand first (binary op left right) = Some (operand_of (first + operations left) right)
right_operand first (sum indexes operand) = None

-- the least number in the subtree of node `v`
unfoldable pub first_number_of : ContractionTree → ℕ → ℕ
first_number_of tree v = v + 1 - operations (node tree v)

-- the operands of node `v`
unfoldable pub left_of : ContractionTree → ℕ → Operand
left_of tree v = left_operand (first_number_of tree v) (node tree v)

unfoldable pub right_of : ContractionTree → ℕ → Option Operand
right_of tree v = right_operand (first_number_of tree v) (node tree v)

-- an operand that is a node has a number below `v`
abbrev pub IsBefore : ℕ → Operand → Type 0
IsBefore v (LeafOperand l) = Unit {0}
IsBefore v (ConstantOperand number) = Unit {0}
IsBefore v (NodeOperand u) = u < v

-- what the program's trees keep: from 1 to 32 nodes, rightly named indexes, and at most ten loops at each node
pub record IsTree (tree : ContractionTree) : Type 0 where
  pub some : 0 < operations tree
  pub limit : operations tree ≤ max_nodes
  pub well_formed : IsWellFormed tree
  pub few_loops : (v : ℕ) → v < operations tree → count (node_loops tree v) ≤ max_loops

-- the list of the nodes of such a tree
pub record AreNodes (nodes : List Node) : Type 0 where
  pub flat_is : nodes ≡ flat 0 (tree_of_nodes nodes)
  pub is_tree : IsTree (tree_of_nodes nodes)
