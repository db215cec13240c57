use Rattle.std.proofs.Common.{refl, sym, subst, true, false}
use Rattle.tce_walk.specs.Terms.{IsTermOperand}
use Rattle.tce_exec.specs.TermWindows.{AreOperandsOf}
use Rattle.tce_exec.specs.declared.term_windows.TermOperands.{TermOperands}
use Rattle.tce_exec.proofs.TermOperandsOf.{left_name, right_name}
use Rattle.tce_exec.proofs.term_windows.term_operands.Goals as goal

pub returns-in-Some-clause-operands : goal.returns-in-Some-clause-operands
returns-in-Some-clause-operands c =
    let tree = c.args.evaluation.now.tree.now in
    let v = c.in-Product.v in
    let o : TermOperands = record { pair = true; left = c.left-left.result; right = c.in-Some.right; out = c.args.out } in
    let is = subst (IsTermOperand tree) c.in-Product.is c.requires in
    subst (λ t. AreOperandsOf tree t o) (sym c.in-Product.is) (refl, left_name tree v o.left.now is.2 c.left-left.ensures.value, right_name tree v o.right.now is.3 (sym c.in-Some.ensures.value))

pub returns-in-Left-clause-operands : goal.returns-in-Left-clause-operands
returns-in-Left-clause-operands c =
    let tree = c.args.evaluation.now.tree.now in
    let v = c.in-Left.v in
    let o : TermOperands = record { pair = false; left = c.left-operand.result; right = c.left-operand.result; out = c.args.out } in
    let is = subst (IsTermOperand tree) c.in-Left.is c.requires in
    subst (λ t. AreOperandsOf tree t o) (sym c.in-Left.is) (refl, left_name tree v o.left.now is.1 c.left-operand.ensures.value, refl)

pub returns-in-Some-right-clause-operands : goal.returns-in-Some-right-clause-operands
returns-in-Some-right-clause-operands c =
    let tree = c.args.evaluation.now.tree.now in
    let v = c.in-Right.v in
    let o : TermOperands = record { pair = false; left = c.in-Some-right.operand; right = c.in-Some-right.operand; out = c.args.out } in
    let is = subst (IsTermOperand tree) c.in-Right.is c.requires in
    subst (λ t. AreOperandsOf tree t o) (sym c.in-Right.is) (refl, right_name tree v o.left.now is.1 (sym c.in-Some-right.ensures.value), refl)
