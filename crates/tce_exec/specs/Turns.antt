-- The turns of the loops of one block, as assignments of numbers to the indexes.
use Rattle.std.specs.Prelude.{◌≡◌, ℕ, ◌+◌, ◌<◌, ◌≤◌, IsTrue, false, List, if◌then◌else◌}
use Rattle.tce_tree.specs.Value.{Assignment, assignment}
use Rattle.tce_tree.specs.WellFormed.{among}
use Rattle.tce_block.specs.Parts.{Part}

-- the loops of a block: their indexes, the numbers of all indexes at the first turn, and how many numbers each loop's index has
pub record Turns : Type 0 where
  pub order : List ℕ
  pub first : Assignment
  pub count : ℕ → ℕ

-- an assignment that the loops meet
pub record IsTurn (t : Turns) (b : Assignment) : Type 0 where
  pub loops : (i : ℕ) → IsTrue (among t.order i) → (t.first i ≤ b i) × (b i < t.first i + t.count i)
  pub others : (i : ℕ) → among t.order i ≡ false → b i ≡ t.first i

-- the loops of one part of a tail's loops, where the assignment `a` has the numbers of the loops round it
abbrev pub turns_of : List ℕ → Assignment → Part → Turns
turns_of order a part = record { order = order; first = λ i. if among order i then assignment order part.from i else a i; count = assignment order part.len }

-- the assignment at these coordinates of the loops, in the sequence `inner`
abbrev pub turn_at : Turns → List ℕ → List ℕ → Assignment
turn_at t inner xs = λ i. t.first i + assignment inner xs i
