use Rattle.std.proofs.Common.{◌≡◌}
use Rattle.tce_grammar.specs.Printed.{with_tokens}
use Rattle.tce_einsum.specs.Code as code
use Rattle.tce_einsum.specs.ProducedCode.{pending, AreTasks, stack_weight}
use Rattle.tce_einsum.proofs.formula.print_tasks.Given as goal

abbrev pub invariant-loop-task : goal.invariant-loop-task
invariant-loop-task l = record {
  printed : with_tokens l.printer (pending (code.sizes l.sizes) l.nodes l.stack.items)
      ≡ with_tokens l.fn.printer (pending (code.sizes l.sizes) l.nodes l.fn.stack.items);
  tasks : AreTasks l.nodes l.stack.items;
}

abbrev pub decreases-loop-task : goal.decreases-loop-task
decreases-loop-task l = stack_weight l.nodes l.stack.items
