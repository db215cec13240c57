use Rattle.std.proofs.Common.{sym, subst, arith}
use Rattle.tce_walk.proofs.CountedLoops.{if_some_map}
use Rattle.tce_walk.proofs.TermOperands.{left_over, right_over, product_over}
use Rattle.tce_walk.specs.FoundTerms.{IsOperandOver}
use Rattle.tce_walk.proofs.combination.operand_dims.Goals as goal

pub returns-in_ok-_right-in-Product : goal.returns-in_ok-_right-in-Product
returns-in_ok-_right-in-Product c =
    subst (λ o. IsOperandOver c.args.tree.now o c.dims.result) (sym c.in-Product.is)
    (product_over c.args.tree.now c.in-Product.v c.left.result.now c.in_ok-right-in-Product.field-0.now c.dims.result c.in_ok-_left-in-Product._left c.in_ok-_right-in-Product._right
    (omega (arith, c.if-v-count.false, c.count.ensures.value)) (c.is_product.ensures c.if-not-is_product.false) c.left.ensures.value c.in_ok-right-in-Product.ensures.value
    c.in_ok-_left-in-Product.ensures c.in_ok-_right-in-Product.ensures c.dims.ensures)

pub returns-else-v-count-2 : goal.returns-else-v-count-2
returns-else-v-count-2 c =
    if_some_map c.tensor_dims-in-Left.result c.tensor_dims-in-Left.ensures (λ set h.
    subst (λ o. IsOperandOver c.args.tree.now o set) (sym c.in-Left.is)
    (left_over c.args.tree.now c.in-Left.v c.left-in-Left.result.now set (omega (arith, c.if-v-count-2.false, c.count-in-Left.ensures.value)) c.left-in-Left.ensures.value h))

pub returns-in_ok-right-in-Right : goal.returns-in_ok-right-in-Right
returns-in_ok-right-in-Right c =
    if_some_map c.tensor_dims-in-Right.result c.tensor_dims-in-Right.ensures (λ set h.
    subst (λ o. IsOperandOver c.args.tree.now o set) (sym c.in-Right.is)
    (right_over c.args.tree.now c.in-Right.v c.in_ok-right-in-Right.field-0.now set (omega (arith, c.if-v-count-3.false, c.count-in-Right.ensures.value)) c.in_ok-right-in-Right.ensures.value h))
