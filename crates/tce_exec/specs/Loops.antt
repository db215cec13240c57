-- Loops of a block, as the calls take them, and what the calls leave.
use Rattle.std.specs.Prelude.{◌≡◌, ℕ, ◌<◌, ◌^◌, IsTrue, List, map, length, slice_index}
use Rattle.std.specs.List.Sorted.{IsPermutation}
use Rattle.tce_space.specs.Limits.{max_indexes}
use Rattle.tce_space.specs.Box.{places}
use Rattle.tce_space.specs.Tiling.{ArePositive}
use Rattle.tce_tree.specs.Value.{assignment}
use Rattle.tce_tree.specs.WellFormed.{among, is_distinct}
use Rattle.tce_space.specs.declared.arithmetic.Arithmetic.{Arithmetic}
use Rattle.tce_space.specs.declared.arithmetic.Arithmetic.TheVariants.{Multiply}
use Rattle.tce_block.specs.Places.{word_place, AreWithin, AreApart}
use Rattle.tce_block.specs.Turns.{IsMade, grown, grown_by_products, computed}
use Rattle.tce_exec.specs.LoopWindows.{steps_along}
use Rattle.tce_exec.specs.declared.window.Window.{Window}

-- loops, each with an index of its own and some numbers
pub record AreLoops (order lens : List ℕ) : Type 0 where
  pub distinct : IsTrue (is_distinct order)
  pub below : (i : ℕ) → IsTrue (among order i) → i < max_indexes
  pub as_many : length lens ≡ length order
  pub some : ArePositive lens

-- how many numbers the loops have, in a sequence of them
abbrev pub numbers_along : List ℕ → List ℕ → List ℕ → List ℕ
numbers_along order lens inner = map (assignment order lens) inner

-- the place of a window's word at the coordinates of the loops in a sequence
abbrev pub place_along : Window → List ℕ → List ℕ → ℕ
place_along w inner xs = word_place w.first (steps_along w inner) xs

-- the words are those that the turns of the loops make, in some sequence of the loops; `word` gives the word of a turn in each sequence
pub record AreMade (order lens : List ℕ) (word : List ℕ → ℕ → List ℕ → ℕ) (out : Window) (old new : List ℕ) : Type 0 where
  pub inner : List ℕ
  pub same : IsPermutation order inner
  pub made : IsMade (word inner) (place_along out inner) (places (numbers_along order lens inner)) old new

-- ---- what the calls ask of windows, and what they leave

-- the places of a window are among `count` words
abbrev pub IsWindowWithin : ℕ → List ℕ → List ℕ → Window → Type 0
IsWindowWithin count order lens w = AreWithin count (numbers_along order lens order) (place_along w order)

-- no place of one window is one of the other
abbrev pub AreWindowsApart : List ℕ → List ℕ → Window → Window → Type 0
AreWindowsApart order lens w other = AreApart (numbers_along order lens order) (place_along w order) (place_along other order)

-- a result's places are among the words, and none of them is one of an operand
pub record IsResultWindow (count : ℕ) (order lens : List ℕ) (out left right : Window) : Type 0 where
  pub within : IsWindowWithin count order lens out
  pub from_left : AreWindowsApart order lens out left
  pub from_right : AreWindowsApart order lens out right

-- the operand's words were added
abbrev pub HasGrown : List ℕ → List ℕ → Window → Window → List ℕ → List ℕ → Type 0
HasGrown order lens out operand old new = AreMade order lens (λ inner. grown old (place_along operand inner)) out old new

-- the products of the operands' words were added
abbrev pub HasGrownByProducts : List ℕ → List ℕ → Window → Window → Window → List ℕ → List ℕ → Type 0
HasGrownByProducts order lens out left right old new =
    AreMade order lens (λ inner. grown_by_products old (place_along left inner) (place_along right inner)) out old new

-- what the operation makes of the operands' words was put
abbrev pub IsComputed : Arithmetic → List ℕ → List ℕ → Window → Window → Window → List ℕ → List ℕ → Type 0
IsComputed operation order lens out left right old new =
    AreMade order lens (λ inner. computed operation old (place_along left inner) (place_along right inner)) out old new

-- the operands' products were put into the words of `own`, and added after that to those of `out`
pub record AreProductsJoined (order lens : List ℕ) (own out left right : Window) (old new : List ℕ) : Type 0 where
  pub mid : List ℕ
  pub words : (k : ℕ) → slice_index mid k < 2 ^ 64
  pub put : IsComputed Multiply order lens own left right old mid
  pub grown : HasGrownByProducts order lens out left right mid new
