use Rattle.std.proofs.Common.{◌≡◌, ◌<◌, ℕ, List, length, get_or, Option, ap, ◌∙◌, subst, refl}
use Rattle.std.proofs.lemmas.Result.{err_from_is_err_and}
use Rattle.tce_outside.specs.Files.{Files}
use Rattle.tce_outside.proofs.Causes.{answered_quiet}
use Rattle.tce_spec.specs.Operands.{operands}
use Rattle.tce_spec.proofs.Seen.{operand_declared}
use Rattle.tce_batch.specs.BatchCode.{results_before}
use Rattle.tce_batch.specs.Refusals.{IsOperandFault}
use Rattle.tce_batch.proofs.Openings.{source_fault}
use Rattle.tce_batch.proofs.Counted.{sources_more}
use Rattle.tce_batch.proofs.sources.open_formula.Goals as goal

pub open_source-requires-clause-declared : goal.open_source-requires-clause-declared
open_source-requires-clause-declared g c =
    let same : c.as_slice-t-items.result.now ≡ operands c.args.spec.now = c.as_slice-t-items.ensures.value ∙ c.operands-operands.ensures in
    rw same (operand_declared c.args.spec.now c.tree-tree.ensures.rules.contraction.leaves_fit c.loop-t.t-index (subst (λ (ts : List ℕ). c.loop-t.t-index < length ts) same c.loop-t-test.true))

pub returns-in_err-open_source-clause-refused : goal.returns-in_err-open_source-clause-refused
returns-in_err-open_source-clause-refused g c =
    let same : c.as_slice-t-items.result.now ≡ operands c.args.spec.now = c.as_slice-t-items.ensures.value ∙ c.operands-operands.ensures in
    let within : c.loop-t.t-index < length (operands c.args.spec.now) = subst (λ (ts : List ℕ). c.loop-t.t-index < length ts) same c.loop-t-test.true in
    let declared : get_or c.as_slice-t-items.result.now c.loop-t.t-index 0 < length c.args.spec.now.declarations.tensors =
    rw same (operand_declared c.args.spec.now c.tree-tree.ensures.rules.contraction.leaves_fit c.loop-t.t-index within) in
    let fault = c.in_err-open_source.field-0.0 in
    let t = get_or c.as_slice-t-items.result.now c.loop-t.t-index 0 in
    let p = err_from_is_err_and c.from_residual.result c.from_residual.ensures.1 in
    rw (p.1, p.2) (source_fault (g.D.Disk.files c.args.disk.now) c.args.spec.now (results_before c.args.batch.now c.args.number) c.loop-t.t-index t fault
    (ap (λ (ts : List ℕ). get_or ts c.loop-t.t-index 0) same) within declared c.in_err-open_source.ensures.source c.loop-t.invariant.opened
    (subst (λ (told : Option Files). IsOperandFault told c.args.spec.now t fault) c.loop-t.invariant.same c.in_err-open_source.ensures.refused))

pub loop-t-preserved : goal.loop-t-preserved
loop-t-preserved g c =
    let same : c.as_slice-t-items.result.now ≡ operands c.args.spec.now = c.as_slice-t-items.ensures.value ∙ c.operands-operands.ensures in
    let t = get_or c.as_slice-t-items.result.now c.loop-t.t-index 0 in record {
      same = c.open_source.ensures.same ∙ c.loop-t.invariant.same;
      counted = answered_quiet _ _ c.in_ok-open_source.field-0 _ refl c.in_ok-open_source.ensures.fault_reported.quiet ∙ c.loop-t.invariant.counted;
      opened = sources_more (g.D.Disk.files c.args.disk.now) (g.D.Disk.files c.loop-t.disk) c.args.spec.now (results_before c.args.batch.now c.args.number) c.loop-t.t-index t
          (ap (λ (ts : List ℕ). get_or ts c.loop-t.t-index 0) same) c.loop-t.invariant.same c.loop-t.invariant.opened c.in_ok-open_source.ensures.opened;
    }
