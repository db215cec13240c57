use Rattle.std.proofs.Common.{ap, arith}
use Rattle.std.proofs.lemmas.Result.{on_ok_weaker}
use Rattle.tce_grammar.specs.Printed.{with_tokens}
use Rattle.tce_einsum.specs.Code as code
use Rattle.tce_einsum.specs.ProducedCode.{pending}
use Rattle.tce_einsum.proofs.formula.print_task.Goals as goal

pub returns-in-Whole-clause-printed : goal.returns-in-Whole-clause-printed
returns-in-Whole-clause-printed c = rw c.in-Whole.is c.print_node.ensures.printed

pub returns-in-Whole-clause-tasks : goal.returns-in-Whole-clause-tasks
returns-in-Whole-clause-tasks c = c.print_node.ensures.tasks

pub returns-in-Whole-clause-less : goal.returns-in-Whole-clause-less
returns-in-Whole-clause-less c = rw c.in-Whole.is c.print_node.ensures.less

pub returns-in-RightOperand-clause-printed : goal.returns-in-RightOperand-clause-printed
returns-in-RightOperand-clause-printed c =
    rw c.in-RightOperand.is (on_ok_weaker c.print_right_operand.result (λ printed. printed (code.sizes c.args.sizes.now)) c.print_right_operand.ensures.printed)

pub returns-in-RightOperand-clause-tasks : goal.returns-in-RightOperand-clause-tasks
returns-in-RightOperand-clause-tasks c = c.print_right_operand.ensures.tasks

pub returns-in-RightOperand-clause-less : goal.returns-in-RightOperand-clause-less
returns-in-RightOperand-clause-less c = rw c.in-RightOperand.is c.print_right_operand.ensures.less

pub returns-in-Symbol-clause-printed : goal.returns-in-Symbol-clause-printed
returns-in-Symbol-clause-printed c =
    rw c.in-Symbol.is
    (on_ok_weaker c.push_symbol.result (λ e. ap (λ p. with_tokens p (pending (code.sizes c.args.sizes.now) c.args.nodes.now c.args.stack.now.items)) e) c.push_symbol.ensures)

pub returns-in-Symbol-clause-tasks : goal.returns-in-Symbol-clause-tasks
returns-in-Symbol-clause-tasks c = on_ok_weaker c.push_symbol.result (λ e. c.requires.tasks) c.push_symbol.ensures

pub returns-in-Symbol-clause-less : goal.returns-in-Symbol-clause-less
returns-in-Symbol-clause-less c = rw c.in-Symbol.is (on_ok_weaker c.push_symbol.result (λ e. omega arith) c.push_symbol.ensures)
