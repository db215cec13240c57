use Rattle.std.proofs.Common.{slice_index, sym, subst}
use Rattle.std.proofs.lemmas.Result.{on_ok_weaker}
use Rattle.std.proofs.lemmas.Bool.{false≢true}
use Rattle.tce_outside.proofs.Causes.{cause_of, cause_since, told_after}
use Rattle.tce_tree.specs.FlatTree.{left_of}
use Rattle.tce_exec.specs.Workspace.{Workspace}
use Rattle.tce_exec.specs.Storages.{work_of}
use Rattle.tce_exec.proofs.Following.{read_on, same_on}
use Rattle.tce_exec.specs.Following.{kept_on}
use Rattle.tce_exec.proofs.Operating.{own_place, node_after}
use Rattle.tce_exec.specs.Windows.{HasPlace, IsOperandWindow, AreOperandSteps}
use Rattle.tce_exec.proofs.Operands.{left_place}
use Rattle.tce_exec.proofs.Touching.{operand_once}
use Rattle.tce_exec.proofs.Calls.{on_both, none_given, told_of, fewer, few_left, as_many}
use Rattle.tce_exec.proofs.operand_windows.sum_windows.Goals as goal

pub operand_window-requires-clause-place : goal.operand_window-requires-clause-place
operand_window-requires-clause-place g c =
    let x : Workspace = work_of g.D.Disk.files c.args.evaluation.now c.args.store.now in
    subst (λ o. HasPlace x o (slice_index c.args.first.now.numbers)) (sym c.left-left.ensures.value)
    (left_place x c.args.v (slice_index c.args.first.now.numbers) c.count-nodes.ensures.kept c.requires.prepared c.requires.node c.requires.free)

pub place_window-requires-clause-place : goal.place_window-requires-clause-place
place_window-requires-clause-place g c =
    let x : Workspace = work_of g.D.Disk.files c.args.evaluation.now c.args.store.now in
    let y : Workspace = work_of g.D.Disk.files c.args.evaluation.now c.operand_window.new.store in
    node_after x y c.args.v (slice_index c.args.first.now.numbers) c.in_ok-operand_window.ensures.upheld.kept (own_place x c.args.v (slice_index c.args.first.now.numbers) c.requires.node)

pub returns-in_err-operand_window-clause-windows : goal.returns-in_err-operand_window-clause-windows
returns-in_err-operand_window-clause-windows g c = none_given _ _ c.from_residual.result c.from_residual.ensures.1

pub returns-in_err-operand_window-clause-read : goal.returns-in_err-operand_window-clause-read
returns-in_err-operand_window-clause-read g c = none_given _ _ c.from_residual.result c.from_residual.ensures.1

pub returns-in_err-operand_window-clause-upheld : goal.returns-in_err-operand_window-clause-upheld
returns-in_err-operand_window-clause-upheld g c = record {
  kept = c.in_err-operand_window.ensures.upheld.kept;
  same = c.in_err-operand_window.ensures.upheld.same;
  fault_reported = record {
    cause = cause_of _ _ c.in_err-operand_window.ensures.upheld.fault_reported.cause;
    quiet = told_of _ _ _ c.from_residual.result c.from_residual.ensures.1;
  };
}

pub returns-clause-windows : goal.returns-clause-windows
returns-clause-windows g c =
    let y : Workspace = work_of g.D.Disk.files c.args.evaluation.now c.operand_window.new.store in
    let z : Workspace = work_of g.D.Disk.files c.args.evaluation.now c.place_window.new.store in
    on_both c.place_window.result c.place_window.ensures.window c.place_window.ensures.last (λ window last. record {
      left_is = operand_once y z (left_of y.places.tree c.args.v) (slice_index c.args.first.now.numbers) c.operand_window.new.window c.in_ok-operand_window.ensures.read.prepared.cache.frames c.place_window.ensures.upheld.kept last
          (subst (λ o. IsOperandWindow 1 y o (slice_index c.args.first.now.numbers) c.operand_window.new.window) c.left-left.ensures.value c.in_ok-operand_window.ensures.window);
      out_is = window;
    })

pub returns-clause-read : goal.returns-clause-read
returns-clause-read g c =
    let x : Workspace = work_of g.D.Disk.files c.args.evaluation.now c.args.store.now in
    let y : Workspace = work_of g.D.Disk.files c.args.evaluation.now c.operand_window.new.store in
    let z : Workspace = work_of g.D.Disk.files c.args.evaluation.now c.place_window.new.store in
    on_ok_weaker c.place_window.result (read_on 1 1 2 x y z (as_many 2) c.in_ok-operand_window.ensures.upheld.kept c.in_ok-operand_window.ensures.read) c.place_window.ensures.read

pub returns-clause-upheld : goal.returns-clause-upheld
returns-clause-upheld g c = record {
  kept =
      let x : Workspace = work_of g.D.Disk.files c.args.evaluation.now c.args.store.now in
      let y : Workspace = work_of g.D.Disk.files c.args.evaluation.now c.operand_window.new.store in
      let z : Workspace = work_of g.D.Disk.files c.args.evaluation.now c.place_window.new.store in
      kept_on x y z c.in_ok-operand_window.ensures.upheld.kept c.place_window.ensures.upheld.kept;
  same = same_on c.args.store.now c.operand_window.new.store c.place_window.new.store c.in_ok-operand_window.ensures.upheld.same c.place_window.ensures.upheld.same;
  fault_reported = record {
    cause = cause_since _ _ _ c.in_ok-operand_window.ensures.upheld.fault_reported.cause.later c.place_window.ensures.upheld.fault_reported.cause;
    quiet = told_after _ _ _ (c.in_ok-operand_window.ensures.upheld.fault_reported.quiet false≢true) c.place_window.ensures.upheld.fault_reported.quiet;
  };
}

pub operand_window-requires-clause-prepared : goal.operand_window-requires-clause-prepared
operand_window-requires-clause-prepared g c = c.requires.prepared

pub operand_window-requires-clause-position : goal.operand_window-requires-clause-position
operand_window-requires-clause-position g c = c.requires.position

pub operand_window-requires-clause-few : goal.operand_window-requires-clause-few
operand_window-requires-clause-few g c = fewer c.args.store.now.cache.now.touches 1 1 _ c.requires.few

pub place_window-requires-clause-prepared : goal.place_window-requires-clause-prepared
place_window-requires-clause-prepared g c = c.in_ok-operand_window.ensures.read.prepared

pub place_window-requires-clause-position : goal.place_window-requires-clause-position
place_window-requires-clause-position g c = c.requires.position

pub place_window-requires-clause-steps : goal.place_window-requires-clause-steps
place_window-requires-clause-steps g c = c.requires.out_steps

pub place_window-requires-clause-few : goal.place_window-requires-clause-few
place_window-requires-clause-few g c = few_left c.args.store.now.cache.now.touches c.operand_window.new.store.cache.now.touches 1 1 _ c.in_ok-operand_window.ensures.read.few c.requires.few

pub operand_window-requires-clause-steps : goal.operand_window-requires-clause-steps
operand_window-requires-clause-steps g c =
    let x : Workspace = work_of g.D.Disk.files c.args.evaluation.now c.args.store.now in
    subst (λ o. AreOperandSteps x.places o c.args.windows.now.left.steps) (sym c.left-left.ensures.value) c.requires.left_steps
