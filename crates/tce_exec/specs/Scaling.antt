-- Words that are multiplied by a factor.
use Rattle.std.specs.Prelude.{ℕ, List}
use Rattle.tce_base.specs.Word.{wrapping_mul}
use Rattle.tce_space.specs.Box.{places}
use Rattle.tce_block.specs.declared.loops.SumLoop.{SumLoop}
use Rattle.tce_block.specs.StrideSteps.{sum_lens}
use Rattle.tce_block.specs.Turns.{IsMade}
use Rattle.tce_block.specs.Running.{sum_place}
use Rattle.tce_exec.specs.Loops.{AreMade}
use Rattle.tce_exec.specs.declared.window.Window.{Window}

-- each turn multiplies the word at its place
abbrev pub AreScaled : ℕ → List SumLoop → ℕ → List ℕ → List ℕ → Type 0
AreScaled factor loops out old new = IsMade (λ w xs. wrapping_mul factor w) (sum_place loops out) (places (sum_lens loops)) old new

-- the same of the loops of a block, over a window
abbrev pub HasScaled : ℕ → List ℕ → List ℕ → Window → List ℕ → List ℕ → Type 0
HasScaled factor order lens out old new = AreMade order lens (λ inner w xs. wrapping_mul factor w) out old new
