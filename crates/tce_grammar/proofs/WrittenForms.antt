-- The canonical writing of a formula is in the grammar, and means the formula.
use Rattle.std.proofs.Common.{◌≡◌, ◌+◌, ◌<◌, ◌≤◌, Bool, true, false, refl, ◌∙◌, ap, arith, nat_lt, nat_le}
use Rattle.std.proofs.lemmas.Bool.{ltb-false, leb-false}
use Rattle.tce_grammar.specs.Formula.{Formula, Arithmetic, multiply, add, subtract, tensor, constant, sum, binary, operations}
use Rattle.tce_grammar.specs.Grammar.{Written, meaning, precedence, level, IsWritten, depth}
use Rattle.tce_grammar.specs.Canonical.{written_of, grouped_if, IsFormula}

grouped_written : (b : Bool) (w : Written) → IsWritten w → IsWritten (grouped_if b w)
grouped_written true w is = is
grouped_written false w is = is

grouped_meaning : (b : Bool) (w : Written) → meaning (grouped_if b w) ≡ meaning w
grouped_meaning true w = refl
grouped_meaning false w = refl

grouped_depth : (b : Bool) (w : Written) → depth (grouped_if b w) ≤ depth w + 1
grouped_depth true w = omega arith
grouped_depth false w = omega arith

precedence_low : (o : Arithmetic) → precedence o < 3
precedence_low multiply = omega arith
precedence_low add = omega arith
precedence_low subtract = omega arith

left_tight : (b : Bool) (o : Arithmetic) (w : Written) → nat_lt (level w) (precedence o) ≡ b → precedence o ≤ level (grouped_if b w)
left_tight true o w e = omega (arith, precedence_low o)
left_tight false o w e = ltb-false (level w) (precedence o) e

right_tight : (b : Bool) (o : Arithmetic) (w : Written) → nat_le (level w) (precedence o) ≡ b → precedence o < level (grouped_if b w)
right_tight true o w e = precedence_low o
right_tight false o w e = leb-false (level w) (precedence o) e

pub written_is : (f : Formula) → IsFormula f → IsWritten (written_of f)
written_is (tensor name indexes) h = h
written_is (constant digits) h = tt
written_is (sum indexes operand) h = (h.0, h.1, written_is operand h.2)
written_is (binary o left right) h = (
  left_tight (nat_lt (level (written_of left)) (precedence o)) o (written_of left) refl,
  right_tight (nat_le (level (written_of right)) (precedence o)) o (written_of right) refl,
  grouped_written (nat_lt (level (written_of left)) (precedence o)) (written_of left) (written_is left h.0),
  grouped_written (nat_le (level (written_of right)) (precedence o)) (written_of right) (written_is right h.1),
)

pub written_meaning : (f : Formula) → meaning (written_of f) ≡ f
written_meaning (tensor name indexes) = refl
written_meaning (constant digits) = refl
written_meaning (sum indexes operand) = ap (sum indexes) (written_meaning operand)
written_meaning (binary o left right) =
    λ i. binary o ((grouped_meaning (nat_lt (level (written_of left)) (precedence o)) (written_of left) ∙ written_meaning left) i)
    ((grouped_meaning (nat_le (level (written_of right)) (precedence o)) (written_of right) ∙ written_meaning right) i)

-- each operation opens one parenthesis at most
pub written_depth : (f : Formula) → depth (written_of f) ≤ operations f
written_depth (tensor name indexes) = omega arith
written_depth (constant digits) = omega arith
written_depth (sum indexes operand) = omega (arith, written_depth operand)
written_depth (binary o left right) =
    omega (
      arith,
      written_depth left,
      written_depth right,
      grouped_depth (nat_lt (level (written_of left)) (precedence o)) (written_of left),
      grouped_depth (nat_le (level (written_of right)) (precedence o)) (written_of right),
    )
