use Rattle.std.proofs.Common.{ℕ, ◌+◌, List, ap, ◌∙◌}
use Rattle.std.specs.Borrow.{Bor}
use Rattle.tce_tree.specs.ContractionTree.{leaf}
use Rattle.tce_einsum.specs.Code as code
use Rattle.tce_einsum.specs.Numbered as model
use Rattle.tce_einsum.specs.EntriesCode.{trees_in}
use Rattle.tce_einsum.proofs.Loops.{numbered_next, counted_next}
use Rattle.std.proofs.lemmas.Result.{IfOk-from_err}
use Rattle.tce_einsum.proofs.entries.Entries.of_operands.Goals as goal

pub loop-rest-preserved : goal.loop-rest-preserved
loop-rest-preserved c = record {
  leaves = numbered_next leaf (model.numbers_of (code.sizes c.args.sizes.now)) (λ (b : Bor (List ℕ)). b.now) c.loop-rest.number (trees_in c.loop-rest.all)
      (trees_in c.push_operand.new.self) _ c.loop-rest.rest.now _ _ c.in-len1-up.len_at_least c.in_ok-push_operand.ensures.leaf
      (ap (leaf c.loop-rest.number) c.in_ok-numbers_of.ensures.numbers) c.loop-rest.invariant.leaves;
  entries = c.in_ok-push_operand.ensures.entries;
  count = counted_next c.loop-rest.number _ c.loop-rest.rest.now c.in-len1-up.len_at_least c.loop-rest.invariant.count;
  long = c.in_ok-push_operand.ensures.longer ∙ ap (λ n. n + 1) c.loop-rest.invariant.long;
}

pub returns-in_err-numbers_of-clause-leaves : goal.returns-in_err-numbers_of-clause-leaves
returns-in_err-numbers_of-clause-leaves c = IfOk-from_err c.from_residual.result _ c.from_residual.ensures.0

pub returns-in_err-numbers_of-clause-entries : goal.returns-in_err-numbers_of-clause-entries
returns-in_err-numbers_of-clause-entries c = IfOk-from_err c.from_residual.result _ c.from_residual.ensures.0

pub returns-in_err-numbers_of-clause-count : goal.returns-in_err-numbers_of-clause-count
returns-in_err-numbers_of-clause-count c = IfOk-from_err c.from_residual.result _ c.from_residual.ensures.0

pub returns-in_err-push_operand-clause-leaves : goal.returns-in_err-push_operand-clause-leaves
returns-in_err-push_operand-clause-leaves c = IfOk-from_err c.from_residual-in_err-push_operand.result _ c.from_residual-in_err-push_operand.ensures.0

pub returns-in_err-push_operand-clause-entries : goal.returns-in_err-push_operand-clause-entries
returns-in_err-push_operand-clause-entries c = IfOk-from_err c.from_residual-in_err-push_operand.result _ c.from_residual-in_err-push_operand.ensures.0

pub returns-in_err-push_operand-clause-count : goal.returns-in_err-push_operand-clause-count
returns-in_err-push_operand-clause-count c = IfOk-from_err c.from_residual-in_err-push_operand.result _ c.from_residual-in_err-push_operand.ensures.0
