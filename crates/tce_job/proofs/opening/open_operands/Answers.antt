use Rattle.std.proofs.Common.{◌≡◌, ◌<◌, ℕ, List, length, get_or, refl, ap, ◌∙◌, subst, arith, rules}
use Rattle.tce_spec.specs.Operands.{operands}
use Rattle.tce_spec.proofs.Seen.{operand_declared}
use Rattle.tce_job.proofs.OpenedTensors.{begins, goes_on}
use Rattle.tce_job.proofs.opening.open_operands.Goals as goal

pub open_tensor-requires : goal.open_tensor-requires
open_tensor-requires g c =
    let same : c.as_slice-t-items.result.now ≡ operands c.args.spec.now = c.as_slice-t-items.ensures.value ∙ c.operands-operands.ensures in
    rw same (operand_declared c.args.spec.now c.tree-tree.ensures.rules.contraction.leaves_fit c.loop-t.t-index (subst (λ (ts : List ℕ). c.loop-t.t-index < length ts) same c.loop-t-test.true))

pub bounds-forms-t : goal.bounds-forms-t
bounds-forms-t g c =
    let same : c.as_slice-t-items.result.now ≡ operands c.args.spec.now = c.as_slice-t-items.ensures.value ∙ c.operands-operands.ensures in
    let declared : get_or c.as_slice-t-items.result.now c.loop-t.t-index 0 < length c.args.spec.now.declarations.tensors =
    rw same (operand_declared c.args.spec.now c.tree-tree.ensures.rules.contraction.leaves_fit c.loop-t.t-index (subst (λ (ts : List ℕ). c.loop-t.t-index < length ts) same c.loop-t-test.true)) in
    omega (arith, declared, c.tree-tree.ensures.rules.declarations.tensor_limit)

pub loop-t-init : goal.loop-t-init
loop-t-init g c = begins c.args.spec.now (g.D.Disk.files c.args.disk.now) (g.D.Disk.faults c.args.disk.now) _ refl

pub loop-t-preserved : goal.loop-t-preserved
loop-t-preserved g c =
    let same : c.as_slice-t-items.result.now ≡ operands c.args.spec.now = c.as_slice-t-items.ensures.value ∙ c.operands-operands.ensures in
    let declared : get_or c.as_slice-t-items.result.now c.loop-t.t-index 0 < length c.args.spec.now.declarations.tensors =
    rw same (operand_declared c.args.spec.now c.tree-tree.ensures.rules.contraction.leaves_fit c.loop-t.t-index (subst (λ (ts : List ℕ). c.loop-t.t-index < length ts) same c.loop-t-test.true)) in
    goes_on c.args.spec.now (g.D.Disk.files c.args.disk.now) (g.D.Disk.files c.loop-t.disk) (g.D.Disk.files c.open_tensor.new.disk)
    (g.D.Disk.faults c.args.disk.now) (g.D.Disk.faults c.loop-t.disk) (g.D.Disk.faults c.open_tensor.new.disk) c.loop-t.forms c.in_ok-forms.field-0 c.loop-t.t-index (get_or c.as_slice-t-items.result.now c.loop-t.t-index 0)
    (ap (λ (ts : List ℕ). get_or ts c.loop-t.t-index 0) same) (omega (arith, declared, c.tree-tree.ensures.rules.declarations.tensor_limit)) c.loop-t.invariant c.in_ok-forms.ensures.same (c.in_ok-forms.ensures.fault_reported.quiet (λ h. h)) c.in_ok-forms.ensures.opened

pub returns-in_err-forms-clause-fault_reported : goal.returns-in_err-forms-clause-fault_reported
returns-in_err-forms-clause-fault_reported g c = record {
  cause = search rules;
  quiet = λ fine. c.in_err-forms.ensures.fault_reported.quiet (search (fine, rules)) ∙ c.loop-t.invariant.counted;
}

pub returns-clause-fault_reported : goal.returns-clause-fault_reported
returns-clause-fault_reported g c = record {
  cause = search rules;
  quiet = λ _. c.loop-t.invariant.counted;
}
