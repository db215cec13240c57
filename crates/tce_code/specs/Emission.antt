-- The generated code of parts of the program's tree, as the functions write it that go from node to node.
use Rattle.std.specs.Prelude.{◌≡◌, ℕ, ◌<◌, ◌≤◌, List, length}
use Rattle.tce_space.specs.IndexSet.{count}
use Rattle.tce_tree.specs.ContractionTree.{ContractionTree, leaf, constant, binary, sum, multiply, add, subtract, node, operations}
use Rattle.tce_tree.specs.FlatTree.{first_number_of}
use Rattle.tce_tree.specs.declared.node.Operand.{Operand}
use Rattle.tce_tree.specs.declared.node.Operand.TheVariants.{Leaf, Constant, Node}
use Rattle.tce_tree.specs.Fusion.{fused_at, order_at}
use Rattle.tce_code.specs.Generation.{inner_code, loops_from, operand_code, clearing}
use Rattle.tce_code.specs.Plan.{Plan}
use Rattle.tce_code.specs.Program.{Program, stop}
use Rattle.tce_code.specs.declared.op.Op.{Op}
use Rattle.tce_code.specs.declared.op.Op.TheVariants.{Close, Mul, Add, Sub, Acc}

-- one set and one order per node, and no more fused indexes than loops
pub record JointsFit (nodes : ℕ) (fusion : List ℕ) (orders : List (List ℕ)) : Type 0 where
  pub sets : length fusion ≡ nodes
  pub lists : length orders ≡ nodes
  pub joints : (v : ℕ) → v < nodes → count (fused_at fusion v) ≤ length (order_at orders v)

-- the operation that computes a node
abbrev pub computing_op : ContractionTree → ℕ → Op
computing_op (leaf tensor indexes) v = Close
computing_op (constant number) v = Close
computing_op (binary multiply left right) v = Mul v
computing_op (binary add left right) v = Add v
computing_op (binary subtract left right) v = Sub v
computing_op (sum indexes operand) v = Acc v

-- what stands at a depth of the loops of node `v`
abbrev pub node_inner_code : ContractionTree → Plan → ℕ → ℕ → Program
node_inner_code tree plan v depth = inner_code plan (first_number_of tree v) (node tree v) depth

-- the loops of node `v` from a depth on
abbrev pub node_loops_code : ContractionTree → Plan → ℕ → ℕ → Program
node_loops_code tree plan v depth = loops_from plan (node tree v) v (node_inner_code tree plan v) depth

-- what stands at a depth of an operand
abbrev pub named_code : ContractionTree → Plan → Operand → ℕ → Program
named_code tree plan (Leaf l) depth = stop
named_code tree plan (Constant number) depth = stop
named_code tree plan (Node v) depth = operand_code plan (node tree v) v (node_inner_code tree plan v) depth

-- the plan has one set and one order for each node of the tree, and no more fused indexes than loops
abbrev pub HasJoints : ContractionTree → Plan → Type 0
HasJoints tree plan = JointsFit (operations tree) plan.fusion plan.orders

-- the operation that clears node `v`, where it is a sum
abbrev pub node_clearing : ContractionTree → ℕ → Program
node_clearing tree v = clearing (node tree v) v
