-- What one part of a tail's loops leaves.
use Rattle.std.specs.Prelude.{ℕ, ◌==◌, ◌&&◌, Bool, if◌then◌else◌, List, Option, bytes_eq}
use Rattle.std.specs.declared.option.Option.TheVariants.{Some, None}
use Rattle.tce_base.specs.Word.{wrapping_add}
use Rattle.tce_space.specs.IndexSet.{has, members}
use Rattle.tce_tree.specs.ContractionTree.{ContractionTree, leaf, constant, binary, sum, node}
use Rattle.tce_tree.specs.Value.{Assignment, assignment}
use Rattle.tce_block.specs.Last.{meets, last_of_part}
use Rattle.tce_block.specs.Parts.{Part}
use Rattle.tce_block.specs.Sums.{part_sum}
use Rattle.tce_code.specs.Execution.{Setting, State, coordinates, left_word}
use Rattle.tce_walk.specs.TailLaws.{dims_at, computed_word}
use Rattle.tce_walk.specs.declared.machine.Tail.{Tail}

-- the words of the part's assignments that fall on a place of node `v`, summed
abbrev pub part_growth : Setting → ℕ → List ℕ → (Assignment → ℕ) → Assignment → Part → List ℕ → ℕ
part_growth s v order f a part p = part_sum order order (λ b. if bytes_eq p (coordinates (dims_at s v) b) then f b else 0) a part

-- each place of node `v` grows by them
abbrev pub grown_by_part : Setting → ℕ → List ℕ → (Assignment → ℕ) → Assignment → Part → State → State
grown_by_part s v order f a part state = λ u p. if u == v then wrapping_add (state u p) (part_growth s v order f a part p) else state u p

-- the last assignment of the part with the numbers that a place has
abbrev pub last_on_place : Setting → ℕ → List ℕ → Assignment → Part → List ℕ → Assignment
last_on_place s v order a part p = last_of_part (has (dims_at s v)) (assignment (members (dims_at s v)) p) order a part

-- some assignment of the part falls on the place
abbrev pub falls_on : Setting → ℕ → List ℕ → Assignment → Part → List ℕ → Bool
falls_on s v order a part p =
    meets (has (dims_at s v)) (assignment (members (dims_at s v)) p) order part
    && bytes_eq p (coordinates (dims_at s v) (last_on_place s v order a part p))

-- each place of node `v` on which some assignment of the part falls has the word of the last of them
abbrev pub set_by_part : Setting → ℕ → List ℕ → (Assignment → ℕ) → Assignment → Part → State → State
set_by_part s v order f a part state =
    λ u p. if u == v && falls_on s v order a part p then f (last_on_place s v order a part p) else state u p

-- what a part of a node's tail leaves: that of a sum, of a node with two operands, or of a product with the sum that takes it
abbrev pub node_after_part : Setting → List ℕ → Assignment → Part → ℕ → Option ℕ → ContractionTree → State → State
node_after_part s order a part v joined (leaf tensor indexes) state = state
node_after_part s order a part v joined (constant number) state = state
node_after_part s order a part v None (binary op left right) state = set_by_part s v order (computed_word s op v state) a part state
node_after_part s order a part v (Some w) (binary op left right) state =
    grown_by_part s w order (computed_word s op v state) a part (set_by_part s v order (computed_word s op v state) a part state)
node_after_part s order a part v None (sum indexes operand) state = grown_by_part s v order (left_word s v state) a part state
node_after_part s order a part v (Some w) (sum indexes operand) state = state

abbrev pub after_part : Setting → Tail → Assignment → Part → State → State
after_part s tail a part state = node_after_part s tail.loops.0.items a part tail.node tail.sum (node s.tree tail.node) state
