use Rattle.tce_exec.proofs.Calls.{none_given, told_of}
use Rattle.std.proofs.Common.{slice_index}
use Rattle.tce_outside.proofs.Causes.{cause_of}
use Rattle.tce_tree.specs.Value.{Assignment}
use Rattle.tce_block.specs.Cuts.{part_of}
use Rattle.tce_block.specs.Parts.{Part}
use Rattle.tce_walk.specs.Machine.{assignment_of}
use Rattle.tce_exec.specs.Workspace.{Workspace}
use Rattle.tce_exec.specs.Storages.{work_of}
use Rattle.tce_exec.proofs.Operating.{own_place}
use Rattle.tce_exec.specs.TailBlocks.{IsAtBlock}
use Rattle.tce_exec.proofs.Turning.{block_loops}
use Rattle.tce_exec.proofs.Asking.{node_at_first, not_sum}
use Rattle.tce_exec.proofs.Stepping.{pair_steps, alone_fits}
use Rattle.tce_exec.proofs.Running.{operands_ready, own_ready, pair_runs}
use Rattle.tce_exec.proofs.block.run_pair.Goals as goal

pub pair_windows-requires-clause-node : goal.pair_windows-requires-clause-node
pair_windows-requires-clause-node g c =
    let x : Workspace = work_of g.D.Disk.files c.args.evaluation.now c.args.store.now in
    let a : Assignment = assignment_of c.args.at.now.numbers.now in
    let part : Part = part_of c.args.at.now.block.now in
    let h : IsAtBlock x c.args.at.now.tail.now a part = c.requires.at in
    node_at_first x c.args.at.now.tail.now a part (slice_index c.args.first.now.numbers) h c.requires.first

pub pair_windows-requires-clause-place : goal.pair_windows-requires-clause-place
pair_windows-requires-clause-place g c =
    let x : Workspace = work_of g.D.Disk.files c.args.evaluation.now c.args.store.now in
    let a : Assignment = assignment_of c.args.at.now.numbers.now in
    let part : Part = part_of c.args.at.now.block.now in
    let h : IsAtBlock x c.args.at.now.tail.now a part = c.requires.at in
    own_place x c.args.at.now.tail.now.node (slice_index c.args.first.now.numbers) (node_at_first x c.args.at.now.tail.now a part (slice_index c.args.first.now.numbers) h c.requires.first)

pub operation_of-operation-requires : goal.operation_of-operation-requires
operation_of-operation-requires g c =
    let x : Workspace = work_of g.D.Disk.files c.args.evaluation.now c.args.store.now in
    not_sum x.places.tree c.args.at.now.tail.now.node c.args.right.now c.kind.result c.kind.ensures c.requires.right

pub compute_turns-requires-clause-loops : goal.compute_turns-requires-clause-loops
compute_turns-requires-clause-loops g c =
    let x : Workspace = work_of g.D.Disk.files c.args.evaluation.now c.args.store.now in
    let a : Assignment = assignment_of c.args.at.now.numbers.now in
    let part : Part = part_of c.args.at.now.block.now in
    let h : IsAtBlock x c.args.at.now.tail.now a part = c.requires.at in
    block_loops x c.args.at.now.tail.now a part h

pub compute_turns-requires-clause-out : goal.compute_turns-requires-clause-out
compute_turns-requires-clause-out g c =
    let x : Workspace = work_of g.D.Disk.files c.args.evaluation.now c.args.store.now in
    let y : Workspace = work_of g.D.Disk.files c.args.evaluation.now c.pair_windows.new.store in
    let a : Assignment = assignment_of c.args.at.now.numbers.now in
    let part : Part = part_of c.args.at.now.block.now in
    let h : IsAtBlock x c.args.at.now.tail.now a part = c.requires.at in
    let ready = operands_ready x y c.args.at.now.tail.now a part c.args.right.now c.args.at.now.tail.now.node (slice_index c.args.first.now.numbers) c.pair_windows.new.windows h c.in_ok-pair_windows.ensures.upheld.kept c.in_ok-pair_windows.ensures.read
    c.requires.first c.requires.right c.in_ok-pair_windows.ensures.windows in
    let places = own_ready y c.args.at.now.tail.now a part c.args.right.now (slice_index c.args.first.now.numbers) c.pair_windows.new.windows ready c.requires.first c.in_ok-pair_windows.ensures.windows in
    places.out_is

pub compute_turns-requires-clause-left : goal.compute_turns-requires-clause-left
compute_turns-requires-clause-left g c =
    let x : Workspace = work_of g.D.Disk.files c.args.evaluation.now c.args.store.now in
    let y : Workspace = work_of g.D.Disk.files c.args.evaluation.now c.pair_windows.new.store in
    let a : Assignment = assignment_of c.args.at.now.numbers.now in
    let part : Part = part_of c.args.at.now.block.now in
    let h : IsAtBlock x c.args.at.now.tail.now a part = c.requires.at in
    let ready = operands_ready x y c.args.at.now.tail.now a part c.args.right.now c.args.at.now.tail.now.node (slice_index c.args.first.now.numbers) c.pair_windows.new.windows h c.in_ok-pair_windows.ensures.upheld.kept c.in_ok-pair_windows.ensures.read
    c.requires.first c.requires.right c.in_ok-pair_windows.ensures.windows in
    ready.left_in

pub compute_turns-requires-clause-right : goal.compute_turns-requires-clause-right
compute_turns-requires-clause-right g c =
    let x : Workspace = work_of g.D.Disk.files c.args.evaluation.now c.args.store.now in
    let y : Workspace = work_of g.D.Disk.files c.args.evaluation.now c.pair_windows.new.store in
    let a : Assignment = assignment_of c.args.at.now.numbers.now in
    let part : Part = part_of c.args.at.now.block.now in
    let h : IsAtBlock x c.args.at.now.tail.now a part = c.requires.at in
    let ready = operands_ready x y c.args.at.now.tail.now a part c.args.right.now c.args.at.now.tail.now.node (slice_index c.args.first.now.numbers) c.pair_windows.new.windows h c.in_ok-pair_windows.ensures.upheld.kept c.in_ok-pair_windows.ensures.read
    c.requires.first c.requires.right c.in_ok-pair_windows.ensures.windows in
    ready.right_in

pub compute_turns-requires-clause-apart_from_left : goal.compute_turns-requires-clause-apart_from_left
compute_turns-requires-clause-apart_from_left g c =
    let x : Workspace = work_of g.D.Disk.files c.args.evaluation.now c.args.store.now in
    let y : Workspace = work_of g.D.Disk.files c.args.evaluation.now c.pair_windows.new.store in
    let a : Assignment = assignment_of c.args.at.now.numbers.now in
    let part : Part = part_of c.args.at.now.block.now in
    let h : IsAtBlock x c.args.at.now.tail.now a part = c.requires.at in
    let ready = operands_ready x y c.args.at.now.tail.now a part c.args.right.now c.args.at.now.tail.now.node (slice_index c.args.first.now.numbers) c.pair_windows.new.windows h c.in_ok-pair_windows.ensures.upheld.kept c.in_ok-pair_windows.ensures.read
    c.requires.first c.requires.right c.in_ok-pair_windows.ensures.windows in
    let places = own_ready y c.args.at.now.tail.now a part c.args.right.now (slice_index c.args.first.now.numbers) c.pair_windows.new.windows ready c.requires.first c.in_ok-pair_windows.ensures.windows in
    places.from_left

pub compute_turns-requires-clause-apart_from_right : goal.compute_turns-requires-clause-apart_from_right
compute_turns-requires-clause-apart_from_right g c =
    let x : Workspace = work_of g.D.Disk.files c.args.evaluation.now c.args.store.now in
    let y : Workspace = work_of g.D.Disk.files c.args.evaluation.now c.pair_windows.new.store in
    let a : Assignment = assignment_of c.args.at.now.numbers.now in
    let part : Part = part_of c.args.at.now.block.now in
    let h : IsAtBlock x c.args.at.now.tail.now a part = c.requires.at in
    let ready = operands_ready x y c.args.at.now.tail.now a part c.args.right.now c.args.at.now.tail.now.node (slice_index c.args.first.now.numbers) c.pair_windows.new.windows h c.in_ok-pair_windows.ensures.upheld.kept c.in_ok-pair_windows.ensures.read
    c.requires.first c.requires.right c.in_ok-pair_windows.ensures.windows in
    let places = own_ready y c.args.at.now.tail.now a part c.args.right.now (slice_index c.args.first.now.numbers) c.pair_windows.new.windows ready c.requires.first c.in_ok-pair_windows.ensures.windows in
    places.from_right

pub returns-clause-changed : goal.returns-clause-changed
returns-clause-changed g c =
    let x : Workspace = work_of g.D.Disk.files c.args.evaluation.now c.args.store.now in
    let y : Workspace = work_of g.D.Disk.files c.args.evaluation.now c.pair_windows.new.store in
    let a : Assignment = assignment_of c.args.at.now.numbers.now in
    let part : Part = part_of c.args.at.now.block.now in
    let h : IsAtBlock x c.args.at.now.tail.now a part = c.requires.at in
    let ready = operands_ready x y c.args.at.now.tail.now a part c.args.right.now c.args.at.now.tail.now.node (slice_index c.args.first.now.numbers) c.pair_windows.new.windows h c.in_ok-pair_windows.ensures.upheld.kept c.in_ok-pair_windows.ensures.read
    c.requires.first c.requires.right c.in_ok-pair_windows.ensures.windows in
    let places = own_ready y c.args.at.now.tail.now a part c.args.right.now (slice_index c.args.first.now.numbers) c.pair_windows.new.windows ready c.requires.first c.in_ok-pair_windows.ensures.windows in
    (pair_runs x y c.args.at.now.tail.now a part c.args.right.now c.operation_of-operation.result c.kind.result c.pair_windows.new.windows c.compute_turns.new.words c.requires.at.prepared c.in_ok-pair_windows.ensures.upheld.kept
    c.in_ok-pair_windows.ensures.read ready places c.len-len.ensures.words c.requires.alone c.kind.ensures c.operation_of-operation.ensures c.compute_turns.ensures.made).changed

pub returns-clause-upheld : goal.returns-clause-upheld
returns-clause-upheld g c = record {
  kept =
      let x : Workspace = work_of g.D.Disk.files c.args.evaluation.now c.args.store.now in
      let y : Workspace = work_of g.D.Disk.files c.args.evaluation.now c.pair_windows.new.store in
      let a : Assignment = assignment_of c.args.at.now.numbers.now in
      let part : Part = part_of c.args.at.now.block.now in
      let h : IsAtBlock x c.args.at.now.tail.now a part = c.requires.at in
      let ready = operands_ready x y c.args.at.now.tail.now a part c.args.right.now c.args.at.now.tail.now.node (slice_index c.args.first.now.numbers) c.pair_windows.new.windows h c.in_ok-pair_windows.ensures.upheld.kept c.in_ok-pair_windows.ensures.read
      c.requires.first c.requires.right c.in_ok-pair_windows.ensures.windows in
      let places = own_ready y c.args.at.now.tail.now a part c.args.right.now (slice_index c.args.first.now.numbers) c.pair_windows.new.windows ready c.requires.first c.in_ok-pair_windows.ensures.windows in
      (pair_runs x y c.args.at.now.tail.now a part c.args.right.now c.operation_of-operation.result c.kind.result c.pair_windows.new.windows c.compute_turns.new.words c.requires.at.prepared c.in_ok-pair_windows.ensures.upheld.kept
      c.in_ok-pair_windows.ensures.read ready places c.len-len.ensures.words c.requires.alone c.kind.ensures c.operation_of-operation.ensures c.compute_turns.ensures.made).kept;
  same = c.in_ok-pair_windows.ensures.upheld.same;
  fault_reported = c.in_ok-pair_windows.ensures.upheld.fault_reported;
}

pub returns-clause-nest : goal.returns-clause-nest
returns-clause-nest g c =
    let y : Workspace = work_of g.D.Disk.files c.args.evaluation.now c.pair_windows.new.store in
    record {
      sequence_is = c.compute_turns.ensures.sequence;
      steps_are = pair_steps y c.args.at.now.tail.now c.args.right.now (slice_index c.args.first.now.numbers) c.pair_windows.new.windows c.requires.right c.requires.alone c.in_ok-pair_windows.ensures.windows;
      loops_fit = λ v joined o right. alone_fits c.args.at.now.tail.now c.pair_windows.new.windows c.compute_turns.new.sequence c.requires.alone v joined;
    }

pub pair_windows-requires-clause-right_steps : goal.pair_windows-requires-clause-right_steps
pair_windows-requires-clause-right_steps g c = c.requires.nest.steps_are.right_are c.args.right.now c.requires.right

pub pair_windows-requires-clause-out_steps : goal.pair_windows-requires-clause-out_steps
pair_windows-requires-clause-out_steps g c = c.requires.nest.steps_are.pair_are c.args.right.now c.requires.right c.requires.alone

pub returns-in_err-pair_windows-clause-changed : goal.returns-in_err-pair_windows-clause-changed
returns-in_err-pair_windows-clause-changed g c = none_given _ _ c.from_residual.result c.from_residual.ensures.1

pub returns-in_err-pair_windows-clause-nest : goal.returns-in_err-pair_windows-clause-nest
returns-in_err-pair_windows-clause-nest g c = none_given _ _ c.from_residual.result c.from_residual.ensures.1

pub returns-in_err-pair_windows-clause-upheld : goal.returns-in_err-pair_windows-clause-upheld
returns-in_err-pair_windows-clause-upheld g c = record {
  kept = c.in_err-pair_windows.ensures.upheld.kept;
  same = c.in_err-pair_windows.ensures.upheld.same;
  fault_reported = record {
    cause = cause_of _ _ c.in_err-pair_windows.ensures.upheld.fault_reported.cause;
    quiet = told_of _ _ _ c.from_residual.result c.from_residual.ensures.1;
  };
}

pub pair_windows-requires-clause-prepared : goal.pair_windows-requires-clause-prepared
pair_windows-requires-clause-prepared g c = c.requires.at.prepared

pub pair_windows-requires-clause-position : goal.pair_windows-requires-clause-position
pair_windows-requires-clause-position g c = c.requires.position

pub pair_windows-requires-clause-left_steps : goal.pair_windows-requires-clause-left_steps
pair_windows-requires-clause-left_steps g c = c.requires.nest.steps_are.left_are

pub pair_windows-requires-clause-few : goal.pair_windows-requires-clause-few
pair_windows-requires-clause-few g c = c.requires.few

pub pair_windows-requires-clause-right : goal.pair_windows-requires-clause-right
pair_windows-requires-clause-right g c = c.requires.right

pub compute_turns-requires-clause-sequence : goal.compute_turns-requires-clause-sequence
compute_turns-requires-clause-sequence g c = c.requires.nest.sequence_is
