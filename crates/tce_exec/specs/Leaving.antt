-- What the calls ask and leave, where each window shows what the turns read and write.
use Rattle.std.specs.Prelude.{◌≡◌, ◌≢◌, ℕ, ◌<◌, List, length}
use Rattle.tce_base.specs.Word.{wrapping_mul}
use Rattle.tce_tree.specs.Value.{Assignment}
use Rattle.tce_block.specs.Parts.{Part}
use Rattle.tce_walk.specs.Parts.{grown_by_part, set_by_part}
use Rattle.tce_code.specs.Execution.{Setting, State}
use Rattle.tce_block.specs.Places.{AreWithin, AreApart}
use Rattle.tce_block.specs.Turns.{grown, grown_by_products, computed, operate}
use Rattle.tce_space.specs.declared.arithmetic.Arithmetic.{Arithmetic}
use Rattle.tce_walk.specs.Laws.{HoldsWords}
use Rattle.tce_exec.specs.Loops.{AreLoops, AreMade, numbers_along, place_along}
use Rattle.tce_exec.specs.Turns.{IsTurn, turns_of}
use Rattle.tce_exec.specs.LoopWindows.{stands_at, ShowsWords, DifferOnlyAt, ShowsNode}
use Rattle.tce_exec.specs.declared.window.Window.{Window}

-- a part of loops, whose turns' words are those of the places of node `v` in the state that words stand for
pub record ShowsPart (s : Setting) (v : ℕ) (order : List ℕ) (a : Assignment) (part : Part) (out : Window) (view : List ℕ → State) (old : List ℕ) : Type 0 where
  pub loops : AreLoops order part.len
  pub shows : ShowsNode s (turns_of order a part) v out (length old) view

-- the words stand for this state, and differ from those before at the places of the turns alone
pub record Leaves (order : List ℕ) (a : Assignment) (part : Part) (out : Window) (view : List ℕ → State) (old new : List ℕ) (state : State) : Type 0 where
  pub same_length : length new ≡ length old
  pub state_is : view new ≡ state
  pub others : DifferOnlyAt (turns_of order a part) out old new

-- what the calls ask of places: that they are within the words where those of the turns are
abbrev pub PartsAreWithin : Type 0
PartsAreWithin =
    (order : List ℕ) (a : Assignment) (part : Part) (w : Window) (count : ℕ) → AreLoops order part.len
    → ((b : Assignment) → IsTurn (turns_of order a part) b → stands_at w (turns_of order a part).first b < count)
    → AreWithin count (numbers_along order part.len order) (place_along w order)

-- and apart where those of the turns are
abbrev pub PartsAreApart : Type 0
PartsAreApart =
    (order : List ℕ) (a : Assignment) (part : Part) (w other : Window) → AreLoops order part.len
    → ((b c : Assignment) → IsTurn (turns_of order a part) b → IsTurn (turns_of order a part) c
    → stands_at w (turns_of order a part).first b ≢ stands_at other (turns_of order a part).first c)
    → AreApart (numbers_along order part.len order) (place_along w order) (place_along other order)

-- one operand's words are added
abbrev pub GrowLeaves : Type 0
GrowLeaves =
    (s : Setting) (v : ℕ) (order : List ℕ) (a : Assignment) (part : Part) (out operand : Window) (view : List ℕ → State) (f : Assignment → ℕ) (old new : List ℕ)
    → ShowsPart s v order a part out view old → HoldsWords v (view old) → ShowsWords (turns_of order a part) operand old f
    → AreMade order part.len (λ inner. grown old (place_along operand inner)) out old new
    → Leaves order a part out view old new (grown_by_part s v order f a part (view old))

-- the products of two operands' words are added
abbrev pub ProductsLeave : Type 0
ProductsLeave =
    (s : Setting) (v : ℕ) (order : List ℕ) (a : Assignment) (part : Part) (out left right : Window) (view : List ℕ → State) (f g : Assignment → ℕ) (old new : List ℕ)
    → ShowsPart s v order a part out view old → HoldsWords v (view old) → ShowsWords (turns_of order a part) left old f → ShowsWords (turns_of order a part) right old g
    → AreMade order part.len (λ inner. grown_by_products old (place_along left inner) (place_along right inner)) out old new
    → Leaves order a part out view old new (grown_by_part s v order (λ b. wrapping_mul (f b) (g b)) a part (view old))

-- the operation's results on two operands' words are put
abbrev pub ComputeLeaves : Type 0
ComputeLeaves =
    (s : Setting) (v : ℕ) (order : List ℕ) (a : Assignment) (part : Part) (operation : Arithmetic) (out left right : Window) (view : List ℕ → State) (f g : Assignment → ℕ) (old new : List ℕ)
    → ShowsPart s v order a part out view old → ShowsWords (turns_of order a part) left old f → ShowsWords (turns_of order a part) right old g
    → AreMade order part.len (λ inner. computed operation old (place_along left inner) (place_along right inner)) out old new
    → Leaves order a part out view old new (set_by_part s v order (λ b. operate operation (f b) (g b)) a part (view old))
