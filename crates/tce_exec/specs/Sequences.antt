-- Sequences of loops.
use Rattle.std.specs.Prelude.{◌≡◌, ℕ, ◌≤◌, false, IsTrue, List, length, take, sum_by}
use Rattle.tce_space.specs.Limits.{max_loops}
use Rattle.tce_exec.specs.Nests.{ArePlaced, pair_loops, moving_loops, advanced}
use Rattle.tce_exec.specs.declared.sequence.LoopSequence.{LoopSequence}
use Rattle.tce_exec.specs.declared.window.Window.{Window}

-- a sequence of these loops
abbrev pub IsLoopSequence : List ℕ → LoopSequence → Type 0
IsLoopSequence loops sequence = ArePlaced loops sequence.axes.items

-- no loops of a block before stand in it
abbrev pub IsUnfilled : LoopSequence → Type 0
IsUnfilled sequence = sequence.filled ≡ false

-- the loops along which the place of `out` moves stand in it, and how far the operands' places are moved
pub record ArePuts (out left right : Window) (sequence : LoopSequence) : Type 0 where
  pub few : sequence.moving.count ≤ max_loops
  pub loops_are : take sequence.moving.count sequence.puts ≡ moving_loops out left right sequence.axes.items
  pub left_is : sequence.moving.left ≡ sum_by (advanced out left) sequence.axes.items
  pub right_is : sequence.moving.right ≡ sum_by (advanced out right) sequence.axes.items

-- the loops that add products stand in it
abbrev pub AreProducts : Window → Window → Window → LoopSequence → Type 0
AreProducts out left right sequence = take (length sequence.axes.items) sequence.pairs ≡ pair_loops out left right sequence.axes.items

-- both stand in it, over windows with the steps of these ones
pub record AreFilled (own out left right : Window) (sequence : LoopSequence) : Type 0 where
  pub puts : ArePuts own left right sequence
  pub products : AreProducts out left right sequence

-- what stands in it fits windows with these steps
abbrev pub FitWindows : Window → Window → Window → Window → LoopSequence → Type 0
FitWindows own out left right sequence = IsTrue sequence.filled → AreFilled own out left right sequence
