use Rattle.std.proofs.Common.{arith}
use Rattle.tce_walk.proofs.CheckedValues.{code_behind, values_clear, values_compute}
use Rattle.tce_walk.proofs.values.+check_values.Goals as goal

pub returns-in_ok-rest-in-Clear : goal.returns-in_ok-rest-in-Clear
returns-in_ok-rest-in-Clear t c =
    values_clear c.args.walk.now.space.now c.args.walk.now.tree.now c.args.walk.now.fusion.now.0.items c.args.carrier c.args.walk.now.ops.now c.args.at c.in-Clear.v c.min-next.result _
    c.in_ok-summed-in-Clear.summed _ _ _ c.in_ok-rest-in-Clear.rest c.saturating_add.result c.if-at-walk.false c.in-Clear.is c.in_ok-summed-in-Clear.ensures c.min-next.ensures
    (omega (arith, c.saturating_add.ensures)) c.in_ok-rest-in-Clear.ensures

pub returns-in_ok-rest-in-Mul : goal.returns-in_ok-rest-in-Mul
returns-in_ok-rest-in-Mul t c =
    values_compute c.args.walk.now.space.now c.args.walk.now.tree.now c.args.walk.now.fusion.now.0.items c.args.carrier c.args.walk.now.ops.now c.args.at c.in-Mul.v _ _ _ _ c.in_ok-rest-in-Mul.rest
    c.saturating_add-in-Mul.result c.if-at-walk.false c.in-Mul.is c.requires.code (c.check_node.ensures c.if-not-check_node.false) (omega (arith, c.saturating_add-in-Mul.ensures)) c.in_ok-rest-in-Mul.ensures

pub check_values-requires : goal.check_values-requires
check_values-requires t c = (
  omega (arith, c.min-next.ensures, (c.in_ok-summed-in-Clear.ensures).ends.behind, c.if-at-walk.false),
  (
    omega (arith, c.min-next.ensures),
    code_behind c.args.walk.now.space.now c.args.walk.now.tree.now c.args.walk.now.fusion.now.0.items c.args.carrier c.args.walk.now.ops.now c.args.at c.in-Clear.v c.min-next.result _
        c.in_ok-summed-in-Clear.summed _ _ c.if-at-walk.false c.in-Clear.is c.in_ok-summed-in-Clear.ensures c.min-next.ensures c.requires.code,
  ),
)
