use Rattle.std.proofs.Common.{slice_index}
use Rattle.std.proofs.lemmas.Result.{on_ok_weaker}
use Rattle.std.proofs.lemmas.Bool.{false≢true}
use Rattle.tce_outside.proofs.Causes.{cause_of, cause_since, told_after}
use Rattle.tce_exec.specs.Workspace.{Workspace}
use Rattle.tce_exec.specs.Storages.{work_of}
use Rattle.tce_exec.specs.Evaluations.{places_of}
use Rattle.tce_exec.proofs.Following.{read_on, same_on}
use Rattle.tce_exec.specs.Following.{kept_on}
use Rattle.tce_exec.proofs.Operating.{node_after}
use Rattle.tce_exec.proofs.TermPlaces.{element_place, same_term_steps, both_found}
use Rattle.tce_exec.proofs.Touching.{operand_once, operand_twice}
use Rattle.tce_exec.proofs.Calls.{on_both, none_given, told_of, fewer, few_left, as_many}
use Rattle.tce_exec.proofs.term_windows.both_windows.Goals as goal

pub operand_window-requires-clause-place : goal.operand_window-requires-clause-place
operand_window-requires-clause-place g c =
    let x : Workspace = work_of g.D.Disk.files c.args.evaluation.now c.args.store.now in
    element_place x c.args.operands.now.left.now (slice_index c.args.first.now.numbers) c.requires.prepared c.requires.elements.tensors.left_is c.requires.elements.left_has

pub operand_window-requires-2-clause-place : goal.operand_window-requires-2-clause-place
operand_window-requires-2-clause-place g c =
    let y : Workspace = work_of g.D.Disk.files c.args.evaluation.now c.operand_window.new.store in
    element_place y c.args.operands.now.right.now (slice_index c.args.first.now.numbers) c.in_ok-operand_window.ensures.read.prepared c.requires.elements.tensors.right_is c.requires.elements.right_has

pub place_window-requires-clause-place : goal.place_window-requires-clause-place
place_window-requires-clause-place g c =
    let x : Workspace = work_of g.D.Disk.files c.args.evaluation.now c.args.store.now in
    let y : Workspace = work_of g.D.Disk.files c.args.evaluation.now c.operand_window.new.store in
    let z : Workspace = work_of g.D.Disk.files c.args.evaluation.now c.operand_window-2.new.store in
    node_after x z c.args.operands.now.out (slice_index c.args.first.now.numbers) (kept_on x y z c.in_ok-operand_window.ensures.upheld.kept c.in_ok-operand_window-2.ensures.upheld.kept) c.requires.place

pub returns-in_err-operand_window-clause-steps : goal.returns-in_err-operand_window-clause-steps
returns-in_err-operand_window-clause-steps g c = none_given _ _ c.from_residual.result c.from_residual.ensures.1

pub returns-in_err-operand_window-clause-windows : goal.returns-in_err-operand_window-clause-windows
returns-in_err-operand_window-clause-windows g c = none_given _ _ c.from_residual.result c.from_residual.ensures.1

pub returns-in_err-operand_window-clause-read : goal.returns-in_err-operand_window-clause-read
returns-in_err-operand_window-clause-read g c = none_given _ _ c.from_residual.result c.from_residual.ensures.1

pub returns-in_err-operand_window-clause-upheld : goal.returns-in_err-operand_window-clause-upheld
returns-in_err-operand_window-clause-upheld g c = record {
  kept = c.in_err-operand_window.ensures.upheld.kept;
  same = c.in_err-operand_window.ensures.upheld.same;
  fault_reported = record {
    cause = cause_of _ _ c.in_err-operand_window.ensures.upheld.fault_reported.cause;
    quiet = told_of _ _ _ c.from_residual.result c.from_residual.ensures.1;
  };
}

pub returns-in_err-operand_window-2-clause-steps : goal.returns-in_err-operand_window-2-clause-steps
returns-in_err-operand_window-2-clause-steps g c = none_given _ _ c.from_residual-in_err-operand_window-2.result c.from_residual-in_err-operand_window-2.ensures.1

pub returns-in_err-operand_window-2-clause-windows : goal.returns-in_err-operand_window-2-clause-windows
returns-in_err-operand_window-2-clause-windows g c = none_given _ _ c.from_residual-in_err-operand_window-2.result c.from_residual-in_err-operand_window-2.ensures.1

pub returns-in_err-operand_window-2-clause-read : goal.returns-in_err-operand_window-2-clause-read
returns-in_err-operand_window-2-clause-read g c = none_given _ _ c.from_residual-in_err-operand_window-2.result c.from_residual-in_err-operand_window-2.ensures.1

pub returns-in_err-operand_window-2-clause-upheld : goal.returns-in_err-operand_window-2-clause-upheld
returns-in_err-operand_window-2-clause-upheld g c = record {
  kept =
      let x : Workspace = work_of g.D.Disk.files c.args.evaluation.now c.args.store.now in
      let y : Workspace = work_of g.D.Disk.files c.args.evaluation.now c.operand_window.new.store in
      let z : Workspace = work_of g.D.Disk.files c.args.evaluation.now c.operand_window-2.new.store in
      kept_on x y z c.in_ok-operand_window.ensures.upheld.kept c.in_err-operand_window-2.ensures.upheld.kept;
  same = same_on c.args.store.now c.operand_window.new.store c.operand_window-2.new.store c.in_ok-operand_window.ensures.upheld.same c.in_err-operand_window-2.ensures.upheld.same;
  fault_reported = record {
    cause = cause_since _ _ _ c.in_ok-operand_window.ensures.upheld.fault_reported.cause.later (cause_of _ _ c.in_err-operand_window-2.ensures.upheld.fault_reported.cause);
    quiet = told_of _ _ _ c.from_residual-in_err-operand_window-2.result c.from_residual-in_err-operand_window-2.ensures.1;
  };
}

pub returns-clause-steps : goal.returns-clause-steps
returns-clause-steps g c =
    on_ok_weaker c.place_window.result (λ window. same_term_steps (places_of c.args.evaluation.now) c.args.operands.now c.args.windows.now
    (record { left = c.operand_window.new.window; right = c.operand_window-2.new.window; out = c.place_window.new.window; own = c.args.windows.now.own }) c.requires.steps
    c.in_ok-operand_window.ensures.steps c.in_ok-operand_window-2.ensures.steps c.place_window.ensures.steps) c.place_window.ensures.window

pub returns-clause-windows : goal.returns-clause-windows
returns-clause-windows g c =
    let y : Workspace = work_of g.D.Disk.files c.args.evaluation.now c.operand_window.new.store in
    let z : Workspace = work_of g.D.Disk.files c.args.evaluation.now c.operand_window-2.new.store in
    let v : Workspace = work_of g.D.Disk.files c.args.evaluation.now c.place_window.new.store in
    on_both c.place_window.result c.place_window.ensures.window c.place_window.ensures.last (λ window last.
    both_found v c.args.operands.now (slice_index c.args.first.now.numbers)
    (record { left = c.operand_window.new.window; right = c.operand_window-2.new.window; out = c.place_window.new.window; own = c.args.windows.now.own }) c.requires.pair
    (operand_twice z v c.args.operands.now.left.now (slice_index c.args.first.now.numbers) c.operand_window.new.window c.in_ok-operand_window-2.ensures.read.prepared.cache.frames c.place_window.ensures.upheld.kept last
    (operand_once y z c.args.operands.now.left.now (slice_index c.args.first.now.numbers) c.operand_window.new.window c.in_ok-operand_window.ensures.read.prepared.cache.frames c.in_ok-operand_window-2.ensures.upheld.kept c.in_ok-operand_window-2.ensures.last
    c.in_ok-operand_window.ensures.window))
    (operand_once z v c.args.operands.now.right.now (slice_index c.args.first.now.numbers) c.operand_window-2.new.window c.in_ok-operand_window-2.ensures.read.prepared.cache.frames c.place_window.ensures.upheld.kept last c.in_ok-operand_window-2.ensures.window)
    window)

pub returns-clause-read : goal.returns-clause-read
returns-clause-read g c =
    let x : Workspace = work_of g.D.Disk.files c.args.evaluation.now c.args.store.now in
    let y : Workspace = work_of g.D.Disk.files c.args.evaluation.now c.operand_window.new.store in
    let z : Workspace = work_of g.D.Disk.files c.args.evaluation.now c.operand_window-2.new.store in
    let v : Workspace = work_of g.D.Disk.files c.args.evaluation.now c.place_window.new.store in
    on_ok_weaker c.place_window.result (read_on 2 1 3 x z v (as_many 3) (kept_on x y z c.in_ok-operand_window.ensures.upheld.kept c.in_ok-operand_window-2.ensures.upheld.kept)
    (read_on 1 1 2 x y z (as_many 2) c.in_ok-operand_window.ensures.upheld.kept c.in_ok-operand_window.ensures.read c.in_ok-operand_window-2.ensures.read)) c.place_window.ensures.read

pub returns-clause-upheld : goal.returns-clause-upheld
returns-clause-upheld g c = record {
  kept =
      let x : Workspace = work_of g.D.Disk.files c.args.evaluation.now c.args.store.now in
      let y : Workspace = work_of g.D.Disk.files c.args.evaluation.now c.operand_window.new.store in
      let z : Workspace = work_of g.D.Disk.files c.args.evaluation.now c.operand_window-2.new.store in
      let v : Workspace = work_of g.D.Disk.files c.args.evaluation.now c.place_window.new.store in
      kept_on x z v (kept_on x y z c.in_ok-operand_window.ensures.upheld.kept c.in_ok-operand_window-2.ensures.upheld.kept) c.place_window.ensures.upheld.kept;
  same =
      same_on c.args.store.now c.operand_window-2.new.store c.place_window.new.store
      (same_on c.args.store.now c.operand_window.new.store c.operand_window-2.new.store c.in_ok-operand_window.ensures.upheld.same c.in_ok-operand_window-2.ensures.upheld.same) c.place_window.ensures.upheld.same;
  fault_reported = record {
    cause = cause_since _ _ _ c.in_ok-operand_window.ensures.upheld.fault_reported.cause.later (cause_since _ _ _ c.in_ok-operand_window-2.ensures.upheld.fault_reported.cause.later c.place_window.ensures.upheld.fault_reported.cause);
    quiet = told_after _ _ _ (c.in_ok-operand_window.ensures.upheld.fault_reported.quiet false≢true) (told_after _ _ _ (c.in_ok-operand_window-2.ensures.upheld.fault_reported.quiet false≢true) c.place_window.ensures.upheld.fault_reported.quiet);
  };
}

pub operand_window-requires-clause-prepared : goal.operand_window-requires-clause-prepared
operand_window-requires-clause-prepared g c = c.requires.prepared

pub operand_window-requires-clause-position : goal.operand_window-requires-clause-position
operand_window-requires-clause-position g c = c.requires.position

pub operand_window-requires-clause-few : goal.operand_window-requires-clause-few
operand_window-requires-clause-few g c = fewer c.args.store.now.cache.now.touches 1 2 _ c.requires.few

pub operand_window-requires-2-clause-prepared : goal.operand_window-requires-2-clause-prepared
operand_window-requires-2-clause-prepared g c = c.in_ok-operand_window.ensures.read.prepared

pub operand_window-requires-2-clause-position : goal.operand_window-requires-2-clause-position
operand_window-requires-2-clause-position g c = c.requires.position

pub operand_window-requires-2-clause-steps : goal.operand_window-requires-2-clause-steps
operand_window-requires-2-clause-steps g c = c.requires.steps.right_are

pub operand_window-requires-2-clause-few : goal.operand_window-requires-2-clause-few
operand_window-requires-2-clause-few g c =
    fewer c.operand_window.new.store.cache.now.touches 1 1 _
    (few_left c.args.store.now.cache.now.touches c.operand_window.new.store.cache.now.touches 1 2 _ c.in_ok-operand_window.ensures.read.few c.requires.few)

pub place_window-requires-clause-prepared : goal.place_window-requires-clause-prepared
place_window-requires-clause-prepared g c = c.in_ok-operand_window-2.ensures.read.prepared

pub place_window-requires-clause-position : goal.place_window-requires-clause-position
place_window-requires-clause-position g c = c.requires.position

pub place_window-requires-clause-steps : goal.place_window-requires-clause-steps
place_window-requires-clause-steps g c = c.requires.steps.out_are

pub place_window-requires-clause-few : goal.place_window-requires-clause-few
place_window-requires-clause-few g c =
    few_left c.operand_window.new.store.cache.now.touches c.operand_window-2.new.store.cache.now.touches 1 1 _ c.in_ok-operand_window-2.ensures.read.few
    (few_left c.args.store.now.cache.now.touches c.operand_window.new.store.cache.now.touches 1 2 _ c.in_ok-operand_window.ensures.read.few c.requires.few)

pub operand_window-requires-clause-steps : goal.operand_window-requires-clause-steps
operand_window-requires-clause-steps g c = c.requires.steps.left_are
