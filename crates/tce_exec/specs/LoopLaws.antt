-- What loops over windows leave, in any sequence.
use Rattle.std.specs.Prelude.{◌≡◌, ◌≢◌, ℕ, ◌<◌, IsTrue, List, map, length}
use Rattle.std.specs.List.Sorted.{IsPermutation}
use Rattle.tce_space.specs.Limits.{max_indexes}
use Rattle.tce_base.specs.Word.{wrapping_add}
use Rattle.tce_space.specs.Box.{places, IsInside}
use Rattle.tce_tree.specs.Value.{Assignment}
use Rattle.tce_tree.specs.WellFormed.{among, is_distinct}
use Rattle.tce_block.specs.Parts.{Part}
use Rattle.tce_walk.specs.Parts.{grown_by_part, set_by_part}
use Rattle.tce_code.specs.Execution.{Setting, State}
use Rattle.tce_block.specs.Places.{AreWithin, AreApart}
use Rattle.tce_block.specs.Turns.{IsMade}
use Rattle.tce_walk.specs.Laws.{HoldsWords}
use Rattle.tce_exec.specs.Loops.{AreLoops, place_along}
use Rattle.tce_exec.specs.Turns.{Turns, IsTurn, turns_of, turn_at}
use Rattle.tce_exec.specs.LoopWindows.{stands_at, DifferOnlyAt, ShowsNode}
use Rattle.tce_exec.specs.declared.window.Window.{Window}

-- the loops in some sequence, each with an index of its own
pub record IsSequence (t : Turns) (inner : List ℕ) : Type 0 where
  pub distinct : IsTrue (is_distinct t.order)
  pub below : (i : ℕ) → IsTrue (among t.order i) → i < max_indexes
  pub same : IsPermutation t.order inner

-- how many numbers the loops have, in the sequence
abbrev pub lens_along : Turns → List ℕ → List ℕ
lens_along t inner = map t.count inner

-- the coordinates are those of turns, at whose places their words stand, and each turn has some
pub record AreTurns (t : Turns) (w : Window) (inner : List ℕ) : Type 0 where
  pub turn : (xs : List ℕ) → IsInside (lens_along t inner) xs → IsTurn t (turn_at t inner xs)
  pub place : (xs : List ℕ) → IsInside (lens_along t inner) xs → place_along w inner xs ≡ stands_at w t.first (turn_at t inner xs)
  pub every : (b : Assignment) → IsTurn t b → (xs : List ℕ) × IsInside (lens_along t inner) xs × (turn_at t inner xs ≡ b)

abbrev pub CoordinatesAreTurns : Type 0
CoordinatesAreTurns = (t : Turns) (w : Window) (inner : List ℕ) → IsSequence t inner → AreTurns t w inner

-- places are within a list of words where those of all turns are
abbrev pub TurnsAreWithin : Type 0
TurnsAreWithin =
    (t : Turns) (w : Window) (inner : List ℕ) (count : ℕ) → IsSequence t inner → ((b : Assignment) → IsTurn t b → stands_at w t.first b < count)
    → AreWithin count (lens_along t inner) (place_along w inner)

-- places are apart where those of all turns are
abbrev pub TurnsAreApart : Type 0
TurnsAreApart =
    (t : Turns) (w other : Window) (inner : List ℕ) → IsSequence t inner
    → ((b c : Assignment) → IsTurn t b → IsTurn t c → stands_at w t.first b ≢ stands_at other t.first c)
    → AreApart (lens_along t inner) (place_along w inner) (place_along other inner)

-- words that change in turns of the loops alone change at the turns' places alone
abbrev pub OthersStay : Type 0
OthersStay =
    (t : Turns) (w : Window) (inner : List ℕ) (word : ℕ → List ℕ → ℕ) (old new : List ℕ) → IsSequence t inner
    → IsMade word (place_along w inner) (places (lens_along t inner)) old new → DifferOnlyAt t w old new

-- the turns of a part of loops, in some sequence, whose words are those of the places of node `v` in the state that words stand for
pub record ArePartTurns (s : Setting) (v : ℕ) (order : List ℕ) (a : Assignment) (part : Part) (inner : List ℕ) (out : Window) (view : List ℕ → State) (count : ℕ) : Type 0 where
  pub loops : AreLoops order part.len
  pub same : IsPermutation order inner
  pub shows : ShowsNode s (turns_of order a part) v out count view

-- at each coordinates of the loops the word is what `f` says of the turn
abbrev pub AreWordsOf : (Assignment → ℕ) → Turns → List ℕ → (List ℕ → ℕ) → Type 0
AreWordsOf f t inner word = (xs : List ℕ) → IsInside (lens_along t inner) xs → word xs ≡ f (turn_at t inner xs)

-- turns that add words to those of a node's places leave what the part of the loops leaves
abbrev pub TurnsGrow : Type 0
TurnsGrow =
    (s : Setting) (v : ℕ) (order : List ℕ) (a : Assignment) (part : Part) (inner : List ℕ) (out : Window) (view : List ℕ → State) (f : Assignment → ℕ) (word : List ℕ → ℕ) (old new : List ℕ)
    → ArePartTurns s v order a part inner out view (length old) → HoldsWords v (view old) → AreWordsOf f (turns_of order a part) inner word
    → IsMade (λ w xs. wrapping_add w (word xs)) (place_along out inner) (places (lens_along (turns_of order a part) inner)) old new
    → view new ≡ grown_by_part s v order f a part (view old)

-- turns that put words at a node's places leave what the part of the loops leaves
abbrev pub TurnsSet : Type 0
TurnsSet =
    (s : Setting) (v : ℕ) (order : List ℕ) (a : Assignment) (part : Part) (inner : List ℕ) (out : Window) (view : List ℕ → State) (f : Assignment → ℕ) (word : List ℕ → ℕ) (old new : List ℕ)
    → ArePartTurns s v order a part inner out view (length old) → AreWordsOf f (turns_of order a part) inner word
    → IsMade (λ w xs. word xs) (place_along out inner) (places (lens_along (turns_of order a part) inner)) old new
    → view new ≡ set_by_part s v order f a part (view old)
