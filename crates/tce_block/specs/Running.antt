-- What calls ask of loops and of the places of their words, and what they leave.
use Rattle.std.specs.Prelude.{ℕ, List}
use Rattle.tce_space.specs.Box.{places}
use Rattle.tce_space.specs.Tiling.{ArePositive}
use Rattle.tce_block.specs.declared.loops.Loop.{Loop}
use Rattle.tce_block.specs.declared.loops.SumLoop.{SumLoop}
use Rattle.tce_space.specs.declared.arithmetic.Arithmetic.{Arithmetic}
use Rattle.tce_block.specs.declared.loops.Turn.{Turn}
use Rattle.tce_block.specs.Places.{word_place, AreWithin, AreApart}
use Rattle.tce_block.specs.StrideSteps.{lens, out_steps, left_steps, right_steps, sum_lens, sum_out_steps, operand_steps}
use Rattle.tce_block.specs.Turns.{IsMade, grown, grown_by_products, computed, turned}

-- ---- loops over two operands

-- the places of the result and of both operands
abbrev pub out_place : List Loop → ℕ → List ℕ → ℕ
out_place loops out = word_place out (out_steps loops)

abbrev pub left_place : List Loop → ℕ → List ℕ → ℕ
left_place loops left = word_place left (left_steps loops)

abbrev pub right_place : List Loop → ℕ → List ℕ → ℕ
right_place loops right = word_place right (right_steps loops)

-- they are places of `count` words
abbrev pub IsOutWithin : ℕ → List Loop → ℕ → Type 0
IsOutWithin count loops out = AreWithin count (lens loops) (out_place loops out)

abbrev pub IsLeftWithin : ℕ → List Loop → ℕ → Type 0
IsLeftWithin count loops left = AreWithin count (lens loops) (left_place loops left)

abbrev pub IsRightWithin : ℕ → List Loop → ℕ → Type 0
IsRightWithin count loops right = AreWithin count (lens loops) (right_place loops right)

-- no place of the result is one of an operand
abbrev pub IsApartFromLeft : List Loop → ℕ → ℕ → Type 0
IsApartFromLeft loops out left = AreApart (lens loops) (out_place loops out) (left_place loops left)

abbrev pub IsApartFromRight : List Loop → ℕ → ℕ → Type 0
IsApartFromRight loops out right = AreApart (lens loops) (out_place loops out) (right_place loops right)

-- all of this, and each loop has turns
pub record CanRun (count : ℕ) (loops : List Loop) (out left right : ℕ) : Type 0 where
  pub positive : ArePositive (lens loops)
  pub out_within : IsOutWithin count loops out
  pub left_within : IsLeftWithin count loops left
  pub right_within : IsRightWithin count loops right
  pub left_apart : IsApartFromLeft loops out left
  pub right_apart : IsApartFromRight loops out right

-- what the turns make of the words, one after the other
abbrev pub AreTurned : Turn → List Loop → ℕ → ℕ → ℕ → List ℕ → List ℕ → Type 0
AreTurned turn loops out left right old new =
    IsMade (turned turn old (left_place loops left) (right_place loops right)) (out_place loops out) (places (lens loops)) old new

-- where they add products, and where they put what an operation gives
abbrev pub AreProductsAdded : List Loop → ℕ → ℕ → ℕ → List ℕ → List ℕ → Type 0
AreProductsAdded loops out left right old new =
    IsMade (grown_by_products old (left_place loops left) (right_place loops right)) (out_place loops out) (places (lens loops)) old new

abbrev pub AreComputed : Arithmetic → List Loop → ℕ → ℕ → ℕ → List ℕ → List ℕ → Type 0
AreComputed operation loops out left right old new =
    IsMade (computed operation old (left_place loops left) (right_place loops right)) (out_place loops out) (places (lens loops)) old new

-- ---- the same of loops over one operand

abbrev pub sum_place : List SumLoop → ℕ → List ℕ → ℕ
sum_place loops out = word_place out (sum_out_steps loops)

abbrev pub operand_place : List SumLoop → ℕ → List ℕ → ℕ
operand_place loops operand = word_place operand (operand_steps loops)

abbrev pub IsSumWithin : ℕ → List SumLoop → ℕ → Type 0
IsSumWithin count loops out = AreWithin count (sum_lens loops) (sum_place loops out)

abbrev pub IsOperandWithin : ℕ → List SumLoop → ℕ → Type 0
IsOperandWithin count loops operand = AreWithin count (sum_lens loops) (operand_place loops operand)

abbrev pub IsApartFromOperand : List SumLoop → ℕ → ℕ → Type 0
IsApartFromOperand loops out operand = AreApart (sum_lens loops) (sum_place loops out) (operand_place loops operand)

pub record CanSum (count : ℕ) (loops : List SumLoop) (out operand : ℕ) : Type 0 where
  pub positive : ArePositive (sum_lens loops)
  pub out_within : IsSumWithin count loops out
  pub operand_within : IsOperandWithin count loops operand
  pub operand_apart : IsApartFromOperand loops out operand

-- the operand's word is added in each turn
abbrev pub AreAdded : List SumLoop → ℕ → ℕ → List ℕ → List ℕ → Type 0
AreAdded loops out operand old new = IsMade (grown old (operand_place loops operand)) (sum_place loops out) (places (sum_lens loops)) old new
