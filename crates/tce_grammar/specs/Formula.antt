-- The formula of a specification, with its names and its digits.
use Rattle.std.specs.Prelude.{ℕ, ◌+◌, List}
pub use Rattle.tce_space.specs.declared.arithmetic.Arithmetic.{Arithmetic}
pub use Rattle.tce_space.specs.declared.arithmetic.Arithmetic.TheVariants.{Multiply as multiply, Add as add, Subtract as subtract}

-- a tensor at indexes, the digits of a constant, a sum over indexes, or two operands
pub data Formula : Type 0 where
  tensor : List ℕ → List (List ℕ) → Formula
  constant : List ℕ → Formula
  sum : List (List ℕ) → Formula → Formula
  binary : Arithmetic → Formula → Formula → Formula

-- how many sums, products, additions and subtractions a formula has
abbrev pub operations : Formula → ℕ
operations (tensor name indexes) = 0
operations (constant digits) = 0
operations (sum indexes operand) = operations operand + 1
operations (binary operator left right) = operations left + operations right + 1
