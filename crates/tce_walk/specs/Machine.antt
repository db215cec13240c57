-- What a machine does for loop code: whole tails, single operations, and clearing.
use Rattle.std.specs.Prelude.{◌≡◌, ℕ, ◌+◌, ◌*◌, ◌<◌, ◌≤◌, IsTrue, false, Option, List, length, map, slice_index}
use Rattle.std.specs.declared.option.Option.TheVariants.{Some, None}
use Rattle.std.specs.Option.{option_map}
use Rattle.tce_outside.specs.Fault.{FaultReported}
use Rattle.tce_space.specs.Limits.{max_volume}
use Rattle.tce_space.specs.Box.{product}
use Rattle.tce_space.specs.IndexSet.{has}
use Rattle.tce_space.specs.Space.{IndexSpace}
use Rattle.tce_tree.specs.ContractionTree.{ContractionTree, multiply, operations, node, node_loops, parent}
use Rattle.tce_tree.specs.Value.{Assignment}
use Rattle.tce_tree.specs.WellFormed.{among, is_distinct}
use Rattle.tce_code.specs.Execution.{Setting, State, exec}
use Rattle.tce_code.specs.Generation.{computing, followed_by}
use Rattle.tce_code.specs.Program.{Program, stop, step, accumulate}
use Rattle.tce_code.specs.Shape.{IsBinary, IsSum}
use Rattle.tce_walk.specs.Tails.{loops_round, reads_constant}
use Rattle.tce_walk.specs.Touches.{block_count}
use Rattle.tce_walk.specs.declared.machine.Tail.{Tail}

-- the assignment that gives each index its number in a list
abbrev pub assignment_of : List ℕ → Assignment
assignment_of numbers = λ i. slice_index numbers i

-- the state after a program, where a state is told
abbrev pub after : Setting → Program → Assignment → Option State → Option State
after s program a state = option_map (λ before. exec s program before a) state

-- the operation of a node, alone
abbrev pub operation_of_node : ContractionTree → ℕ → Program
operation_of_node tree v = computing (node tree v) v

-- the operation of a sum that is joined to the node before it
abbrev pub joined_sum : Option ℕ → Program
joined_sum None = stop
joined_sum (Some v) = step (accumulate v) stop

-- what stands in the loops of a tail, and the tail with them
abbrev pub inside_tail : ContractionTree → ℕ → Option ℕ → Program
inside_tail tree v sum = followed_by (operation_of_node tree v) (joined_sum sum)

abbrev pub tail_program : ContractionTree → Tail → Program
tail_program tree tail = loops_round tail.loops.0.items (inside_tail tree tail.node tail.sum)

-- a node, each of whose loops has a number inside its extent
pub record IsNodeAt (s : Setting) (v : ℕ) (a : Assignment) : Type 0 where
  pub known : v < operations s.tree
  pub inside : (i : ℕ) → IsTrue (has (node_loops s.tree v) i) → a i < s.elements.extent i

-- a sum but the root
pub record IsInnerSum (tree : ContractionTree) (v : ℕ) : Type 0 where
  pub inner : v + 1 < operations tree
  pub sum : IsSum (node tree v)

-- the node is a product, and the sum its parent
pub record IsJoined (tree : ContractionTree) (u v : ℕ) : Type 0 where
  pub product : IsBinary multiply (node tree u)
  pub above : parent tree u ≡ Some v
  pub sum : IsSum (node tree v)

abbrev pub IsJoinedTo : ContractionTree → ℕ → Option ℕ → Type 0
IsJoinedTo tree u None = Unit {0}
IsJoinedTo tree u (Some v) = IsJoined tree u v

-- Some loops of a node, each once, of at most 2 ^ 90 iterations together, where the node's other loops have numbers inside their extents.
-- No operand is a constant. Where a sum is joined, the node is a product and the sum is its parent.
pub record IsTailAt (s : Setting) (tail : Tail) (a : Assignment) : Type 0 where
  pub known : tail.node < operations s.tree
  pub some : 0 < length tail.loops.0.items
  pub distinct : IsTrue (is_distinct tail.loops.0.items)
  pub loops : (i : ℕ) → IsTrue (among tail.loops.0.items i) → IsTrue (has (node_loops s.tree tail.node) i)
  pub inside : (i : ℕ) → IsTrue (has (node_loops s.tree tail.node) i) → among tail.loops.0.items i ≡ false → a i < s.elements.extent i
  pub limit : product (map s.elements.extent tail.loops.0.items) ≤ max_volume
  pub free : reads_constant s.tree (operation_of_node s.tree tail.node) ≡ false
  pub joined : IsJoinedTo s.tree tail.node tail.sum

-- three touches for each block of a tail
abbrev pub touches_of_tail : IndexSpace → Tail → ℕ
touches_of_tail space tail = 3 * block_count space tail.loops.0.items

-- what a call leaves of a machine, also where it fails
pub record Upholds {M : Type 0} (space_of : M → IndexSpace) (setting_of : M → Setting) (keeps : M → M → Type 0) (faults : M → ℕ) (before after : M) (failed : Type 0) : Type 0 where
  pub space : space_of after ≡ space_of before
  pub setting : setting_of after ≡ setting_of before
  pub kept : keeps before after
  pub fault_reported : FaultReported faults before after failed
