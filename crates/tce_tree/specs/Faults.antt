-- Why an expression has no tree: its first fault, by nodes in postorder.
use Rattle.std.specs.Prelude.{◌≡◌, ℕ, ◌+◌, not, if◌then◌else◌, nat_lt, ◌==◌, List, Option}
use Rattle.std.specs.declared.option.Option.TheVariants.{Some, None}
use Rattle.std.specs.Option.{option_or, option_map}
use Rattle.std.specs.List.{find}
use Rattle.tce_space.specs.Limits.{max_volume}
use Rattle.tce_space.specs.IndexSet.{has, count}
use Rattle.tce_space.specs.Space.{IndexSpace, index_at, volume_of}
use Rattle.tce_tree.specs.ContractionTree.{ContractionTree, leaf, constant, binary, sum, dims, loops, operations}
use Rattle.tce_tree.specs.declared.fault.TreeFault.{TreeFault}
use Rattle.tce_tree.specs.declared.fault.TreeFault.TheVariants.{NoOperation, SumOverAbsent, TooManyLoops, VolumeTooLarge, Memory}

-- no node at all, a sum over an index (by its name) that its operand lacks, a node with more than ten loops, and one whose loops have too many iterations
pub data Fault : Type 0 where
  no_operation : Fault
  sum_over_absent : List ℕ → Fault
  too_many_loops : ℕ → Fault
  volume_too_large : ℕ → Fault

-- the fault of the loops of node `v`
unfoldable pub loops_fault : IndexSpace → ℕ → ℕ → Option Fault
loops_fault space v set =
    if nat_lt 10 (count set) then Some (too_many_loops v)
    else (if nat_lt max_volume (volume_of space set) then Some (volume_too_large v) else None)

-- the first listed index that the operand lacks
unfoldable pub sum_fault : IndexSpace → List ℕ → ℕ → Option Fault
sum_fault space indexes operand_dims =
    option_map (λ i. sum_over_absent (index_at space i).name) (find (λ i. not (has operand_dims i)) indexes)

-- the first fault of the nodes, numbered from `first` on
abbrev pub nodes_fault : IndexSpace → ℕ → ContractionTree → Option Fault
nodes_fault space first (leaf tensor indexes) = None
nodes_fault space first (constant number) = None
nodes_fault space first (binary op left right) =
    option_or (nodes_fault space first left)
    (option_or (nodes_fault space (first + operations left) right)
    (loops_fault space (first + operations left + operations right) (loops (binary op left right))))
nodes_fault space first (sum indexes operand) =
    option_or (nodes_fault space first operand)
    (option_or (sum_fault space indexes (dims operand)) (loops_fault space (first + operations operand) (loops (sum indexes operand))))

-- the fault of an expression
unfoldable pub fault_of : IndexSpace → ContractionTree → Option Fault
fault_of space tree = if operations tree == 0 then Some no_operation else nodes_fault space 0 tree

-- what the program answers is this fault, or want of memory
abbrev pub Shows : Option Fault → TreeFault → Type 0
Shows found NoOperation = found ≡ Some no_operation
Shows found (SumOverAbsent name) = found ≡ Some (sum_over_absent name.bytes)
Shows found (TooManyLoops v) = found ≡ Some (too_many_loops v)
Shows found (VolumeTooLarge v) = found ≡ Some (volume_too_large v)
Shows found Memory = Unit {0}
