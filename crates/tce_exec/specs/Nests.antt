-- Loops in the sequence in which they run.
use Rattle.std.specs.Prelude.{◌≡◌, ℕ, ◌-◌, ◌*◌, ◌<◌, ◌==◌, Bool, not, if◌then◌else◌, List, map, slice_get, slice_index, Some}
use Rattle.std.specs.List.{All, filter}
use Rattle.std.specs.List.Sorted.{IsPermutation}
use Rattle.tce_space.specs.Limits.{max_indexes}
use Rattle.tce_tree.specs.Value.{assignment}
use Rattle.tce_block.specs.declared.loops.Loop.{Loop}
use Rattle.tce_block.specs.declared.loops.SumLoop.{SumLoop}
use Rattle.tce_exec.specs.declared.nest.Axis.{Axis}
use Rattle.tce_exec.specs.declared.window.Window.{Window}

abbrev pub indexes_of : List Axis → List ℕ
indexes_of axes = map (λ (x : Axis). x.index) axes

abbrev pub lens_of : List Axis → List ℕ
lens_of axes = map (λ (x : Axis). x.len) axes

-- the loops in some sequence, each with as many numbers as it has
pub record IsNest (order lens : List ℕ) (axes : List Axis) : Type 0 where
  pub same : IsPermutation order (indexes_of axes)
  pub numbers : All (λ (x : Axis). x.len ≡ assignment order lens x.index) axes
  pub below : All (λ (x : Axis). x.index < max_indexes) axes

-- the loop that stands at the axis's place has its index
abbrev pub IsPlaced : List ℕ → Axis → Type 0
IsPlaced order x = slice_get order x.at ≡ Some x.index

-- the loops in some sequence, each with its place
pub record ArePlaced (order : List ℕ) (axes : List Axis) : Type 0 where
  pub same : IsPermutation order (indexes_of axes)
  pub placed : All (IsPlaced order) axes

-- the axis with as many numbers as its loop has
abbrev pub with_len : List ℕ → Axis → Axis
with_len lens x = record x { len = slice_index lens x.at }

-- a loop over one operand, and one over two
abbrev pub sum_loop : Window → Window → Axis → SumLoop
sum_loop out operand x = record { len = x.len; out = slice_index out.steps x.index; operand = slice_index operand.steps x.index }

abbrev pub pair_loop : Window → Window → Window → Axis → Loop
pair_loop out left right x = record { len = x.len; out = slice_index out.steps x.index; left = slice_index left.steps x.index; right = slice_index right.steps x.index }

abbrev pub sum_loops : Window → Window → List Axis → List SumLoop
sum_loops out operand axes = map (sum_loop out operand) axes

abbrev pub pair_loops : Window → Window → Window → List Axis → List Loop
pair_loops out left right axes = map (pair_loop out left right) axes

-- whether the window's place moves along the loop
abbrev pub moves : Window → Axis → Bool
moves out x = not (slice_index out.steps x.index == 0)

-- the loops along which the place of the result moves
abbrev pub moving_loops : Window → Window → Window → List Axis → List Loop
moving_loops out left right axes = map (pair_loop out left right) (filter (moves out) axes)

-- how far a window's place is moved by the last number of a loop along which that of `out` stays
abbrev pub advanced : Window → Window → Axis → ℕ
advanced out w x = if moves out x then 0 else (x.len - 1) * slice_index w.steps x.index
