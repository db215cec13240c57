-- The nodes of an expression of the program, appended to a list of nodes in postorder, and the faults among them.
use Rattle.std.specs.Prelude.{◌≡◌, ℕ, ◌+◌, ◌-◌, [], ◌∷◌, ◌++◌, Option, None}
use Rattle.std.specs.Option.{option_or}
use Rattle.arrayvec.specs.ArrayVec.{ArrayVec, array_vec_len}
use Rattle.tce_space.specs.Space.{IndexSpace}
use Rattle.tce_tree.specs.ContractionTree.{sum, dims, operations}
use Rattle.tce_tree.specs.Expr.{tree_of}
use Rattle.tce_tree.specs.FlatTree.{flat, node_of, operand_of}
use Rattle.tce_tree.specs.Faults.{Fault, Shows, nodes_fault, sum_fault, loops_fault}
use Rattle.tce_tree.specs.declared.expr.Expr.{Expr}
use Rattle.tce_tree.specs.declared.fault.TreeFault.{TreeFault}
use Rattle.tce_tree.specs.declared.node.Node.{Node}
use Rattle.tce_tree.specs.declared.node.Operand.{Operand}

-- so many nodes were appended
abbrev pub GrowsBy : ArrayVec Node → ArrayVec Node → ℕ → Type 0
GrowsBy old new count = array_vec_len new ≡ array_vec_len old + count

-- the nodes of the expression were appended
abbrev pub AppendsNodes : ArrayVec Node → ArrayVec Node → Expr → Type 0
AppendsNodes old new expr = new.items ≡ old.items ++ flat (array_vec_len old) (tree_of expr)

-- the first fault of the nodes of an expression, numbered behind those that are there
abbrev pub fault_behind : IndexSpace → ArrayVec Node → Expr → Option Fault
fault_behind space nodes expr = nodes_fault space (array_vec_len nodes) (tree_of expr)

-- the nodes of two expressions stand last, from number `first` on
abbrev pub StandLast : ArrayVec Node → ℕ → Expr → Expr → Type 0
StandLast nodes first left right = first + operations (tree_of left) + operations (tree_of right) ≡ array_vec_len nodes

-- a sum over an operand, whose nodes stand last, from number `first` on, was appended
abbrev pub AppendsSum : ArrayVec Node → ArrayVec Node → ℕ → ArrayVec ℕ → Expr → Type 0
AppendsSum old new first indexes operand = new.items ≡ old.items ++ node_of first (sum indexes.items (tree_of operand)) ∷ []

-- the fault of a sum that stands behind the nodes that are there
abbrev pub sum_fault_behind : IndexSpace → ArrayVec Node → ArrayVec ℕ → Expr → Option Fault
sum_fault_behind space nodes indexes operand =
    option_or (sum_fault space indexes.items (dims (tree_of operand))) (loops_fault space (array_vec_len nodes) (dims (tree_of operand)))

-- the sum has none; or what the program answers is its fault, or want of memory
abbrev pub IsFaultlessSum : IndexSpace → ArrayVec Node → ArrayVec ℕ → Expr → Type 0
IsFaultlessSum space nodes indexes operand = sum_fault_behind space nodes indexes operand ≡ None

abbrev pub IsSumFault : IndexSpace → ArrayVec Node → ArrayVec ℕ → Expr → TreeFault → Type 0
IsSumFault space nodes indexes operand fault = Shows (sum_fault_behind space nodes indexes operand) fault

-- how an expression is named as an operand whose nodes end before number `end`
abbrev pub IsOperandBefore : ℕ → Expr → Operand → Type 0
IsOperandBefore end expr operand = operand ≡ operand_of (end - operations (tree_of expr)) (tree_of expr)
