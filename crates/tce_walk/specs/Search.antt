-- What the search for a tail finds.
use Rattle.std.specs.Prelude.{◌≡◌, ℕ, ◌+◌, ◌<◌, ◌⊎◌, Bool, true, false, Option, List, [], ◌++◌}
use Rattle.std.specs.declared.option.Option.TheVariants.{Some, None}
use Rattle.tce_tree.specs.ContractionTree.{ContractionTree, operations, node, parent}
use Rattle.tce_tree.specs.declared.node.Operand.{Operand}
use Rattle.tce_tree.specs.declared.node.Operand.TheVariants.{Leaf, Constant, Node}
use Rattle.tce_code.specs.Plan.{Plan}
use Rattle.tce_code.specs.Program.{Program, stop, step, loop, accumulate}
use Rattle.tce_code.specs.Shape.{EachAction, ActionFits, IsLoop, IsSum}
use Rattle.tce_code.specs.declared.op.Op.{Op}
use Rattle.tce_walk.specs.Tails.{loops_round, tail_loops, reads_constant}
use Rattle.tce_walk.specs.Machine.{inside_tail, tail_program, operation_of_node, IsJoinedTo}
use Rattle.tce_walk.specs.Positions.{program_at}
use Rattle.tce_walk.specs.Run.{IsEnd}
use Rattle.tce_walk.specs.declared.machine.Tail.{Tail}

-- a part of the code of a tree
pub record IsShaped (tree : ContractionTree) (program : Program) : Type 0 where
  pub plan : Plan
  pub opened : List ℕ
  pub shape : EachAction (ActionFits tree plan) (IsLoop tree) program opened

-- at a position stands the operation of the sum that takes node `v`, alone
pub record IsSumAt (tree : ContractionTree) (ops : List Op) (at v u : ℕ) : Type 0 where
  pub is : program_at ops at ≡ step (accumulate u) stop
  pub above : parent tree v ≡ Some u
  pub sum : IsSum (node tree u)
  pub ends : IsEnd ops at (at + 1)

-- the operation of a node, and that of a joined sum, where there is one
pub record IsAlone (tree : ContractionTree) (ops : List Op) (at v : ℕ) (joined : Option ℕ) (close : ℕ) : Type 0 where
  pub known : v < operations tree
  pub is : program_at ops at ≡ inside_tail tree v joined
  pub loops : tail_loops tree (program_at ops at) ≡ Some []
  pub joins : IsJoinedTo tree v joined
  pub ends : IsEnd ops at close

-- loops round these; the loops stand behind others in a list
pub record IsInside (tree : ContractionTree) (ops : List Op) (at : ℕ) (before now : List ℕ) (v : ℕ) (joined : Option ℕ) (close : ℕ) : Type 0 where
  pub known : v < operations tree
  pub order : List ℕ
  pub is : program_at ops at ≡ loops_round order (inside_tail tree v joined)
  pub loops : tail_loops tree (program_at ops at) ≡ Some order
  pub behind : now ≡ before ++ order
  pub joins : IsJoinedTo tree v joined
  pub ends : IsEnd ops at close

-- a loop that begins a tail without a constant operand
pub record IsTailOf (tree : ContractionTree) (i : ℕ) (body : Program) (tail : Tail) : Type 0 where
  pub known : tail.node < operations tree
  pub is : loop i body stop ≡ tail_program tree tail
  pub loops : tail_loops tree (loop i body stop) ≡ Some tail.loops.0.items
  pub free : reads_constant tree body ≡ false
  pub own : reads_constant tree (operation_of_node tree tail.node) ≡ false
  pub joins : IsJoinedTo tree tail.node tail.sum

-- a loop that begins none
abbrev pub HasNoTail : ContractionTree → ℕ → Program → Type 0
HasNoTail tree i body = (reads_constant tree body ≡ true) ⊎ (tail_loops tree (loop i body stop) ≡ None)

-- the operand is a constant
abbrev pub names_constant : Operand → Bool
names_constant (Leaf l) = false
names_constant (Constant number) = true
names_constant (Node v) = false

abbrev pub some_constant : Option Operand → Bool
some_constant None = false
some_constant (Some operand) = names_constant operand
