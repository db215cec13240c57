use Rattle.tce_exec.proofs.Calls.{none_given, told_of, fewer}
use Rattle.std.proofs.Common.{slice_index}
use Rattle.tce_outside.proofs.Causes.{cause_of}
use Rattle.tce_tree.specs.Value.{Assignment}
use Rattle.tce_block.specs.Cuts.{part_of}
use Rattle.tce_block.specs.Parts.{Part}
use Rattle.tce_walk.specs.Machine.{assignment_of}
use Rattle.tce_exec.specs.Workspace.{Workspace}
use Rattle.tce_exec.specs.Storages.{work_of}
use Rattle.tce_exec.specs.TailBlocks.{IsAtBlock}
use Rattle.tce_exec.proofs.Turning.{block_loops}
use Rattle.tce_exec.proofs.Asking.{node_at_first}
use Rattle.tce_exec.proofs.Stepping.{sum_steps, single_fits}
use Rattle.tce_exec.proofs.Running.{sum_ready, sum_runs}
use Rattle.tce_exec.proofs.block.run_sum.Goals as goal

pub sum_windows-requires-clause-node : goal.sum_windows-requires-clause-node
sum_windows-requires-clause-node g c =
    let x : Workspace = work_of g.D.Disk.files c.args.evaluation.now c.args.store.now in
    let a : Assignment = assignment_of c.args.at.now.numbers.now in
    let part : Part = part_of c.args.at.now.block.now in
    let h : IsAtBlock x c.args.at.now.tail.now a part = c.requires.at in
    node_at_first x c.args.at.now.tail.now a part (slice_index c.args.first.now.numbers) h c.requires.first

pub grow_turns-requires-clause-loops : goal.grow_turns-requires-clause-loops
grow_turns-requires-clause-loops g c =
    let x : Workspace = work_of g.D.Disk.files c.args.evaluation.now c.args.store.now in
    let a : Assignment = assignment_of c.args.at.now.numbers.now in
    let part : Part = part_of c.args.at.now.block.now in
    let h : IsAtBlock x c.args.at.now.tail.now a part = c.requires.at in
    block_loops x c.args.at.now.tail.now a part h

pub grow_turns-requires-clause-out : goal.grow_turns-requires-clause-out
grow_turns-requires-clause-out g c =
    let x : Workspace = work_of g.D.Disk.files c.args.evaluation.now c.args.store.now in
    let y : Workspace = work_of g.D.Disk.files c.args.evaluation.now c.sum_windows.new.store in
    let a : Assignment = assignment_of c.args.at.now.numbers.now in
    let part : Part = part_of c.args.at.now.block.now in
    let h : IsAtBlock x c.args.at.now.tail.now a part = c.requires.at in
    let ready = sum_ready x y c.args.at.now.tail.now a part (slice_index c.args.first.now.numbers) c.sum_windows.new.windows h c.in_ok-sum_windows.ensures.upheld.kept c.in_ok-sum_windows.ensures.read c.requires.first
    c.in_ok-sum_windows.ensures.windows in
    ready.out

pub grow_turns-requires-clause-operand : goal.grow_turns-requires-clause-operand
grow_turns-requires-clause-operand g c =
    let x : Workspace = work_of g.D.Disk.files c.args.evaluation.now c.args.store.now in
    let y : Workspace = work_of g.D.Disk.files c.args.evaluation.now c.sum_windows.new.store in
    let a : Assignment = assignment_of c.args.at.now.numbers.now in
    let part : Part = part_of c.args.at.now.block.now in
    let h : IsAtBlock x c.args.at.now.tail.now a part = c.requires.at in
    let ready = sum_ready x y c.args.at.now.tail.now a part (slice_index c.args.first.now.numbers) c.sum_windows.new.windows h c.in_ok-sum_windows.ensures.upheld.kept c.in_ok-sum_windows.ensures.read c.requires.first
    c.in_ok-sum_windows.ensures.windows in
    ready.operand

pub grow_turns-requires-clause-apart : goal.grow_turns-requires-clause-apart
grow_turns-requires-clause-apart g c =
    let x : Workspace = work_of g.D.Disk.files c.args.evaluation.now c.args.store.now in
    let y : Workspace = work_of g.D.Disk.files c.args.evaluation.now c.sum_windows.new.store in
    let a : Assignment = assignment_of c.args.at.now.numbers.now in
    let part : Part = part_of c.args.at.now.block.now in
    let h : IsAtBlock x c.args.at.now.tail.now a part = c.requires.at in
    let ready = sum_ready x y c.args.at.now.tail.now a part (slice_index c.args.first.now.numbers) c.sum_windows.new.windows h c.in_ok-sum_windows.ensures.upheld.kept c.in_ok-sum_windows.ensures.read c.requires.first
    c.in_ok-sum_windows.ensures.windows in
    ready.apart

pub returns-clause-changed : goal.returns-clause-changed
returns-clause-changed g c =
    let x : Workspace = work_of g.D.Disk.files c.args.evaluation.now c.args.store.now in
    let y : Workspace = work_of g.D.Disk.files c.args.evaluation.now c.sum_windows.new.store in
    let a : Assignment = assignment_of c.args.at.now.numbers.now in
    let part : Part = part_of c.args.at.now.block.now in
    let h : IsAtBlock x c.args.at.now.tail.now a part = c.requires.at in
    let ready = sum_ready x y c.args.at.now.tail.now a part (slice_index c.args.first.now.numbers) c.sum_windows.new.windows h c.in_ok-sum_windows.ensures.upheld.kept c.in_ok-sum_windows.ensures.read c.requires.first
    c.in_ok-sum_windows.ensures.windows in
    (sum_runs x y c.args.at.now.tail.now a part c.sum_windows.new.windows c.grow_turns.new.words c.requires.at.prepared c.in_ok-sum_windows.ensures.upheld.kept c.in_ok-sum_windows.ensures.read ready c.len-len.ensures.words c.requires.sum
    c.grow_turns.ensures.made).changed

pub returns-clause-upheld : goal.returns-clause-upheld
returns-clause-upheld g c = record {
  kept =
      let x : Workspace = work_of g.D.Disk.files c.args.evaluation.now c.args.store.now in
      let y : Workspace = work_of g.D.Disk.files c.args.evaluation.now c.sum_windows.new.store in
      let a : Assignment = assignment_of c.args.at.now.numbers.now in
      let part : Part = part_of c.args.at.now.block.now in
      let h : IsAtBlock x c.args.at.now.tail.now a part = c.requires.at in
      let ready = sum_ready x y c.args.at.now.tail.now a part (slice_index c.args.first.now.numbers) c.sum_windows.new.windows h c.in_ok-sum_windows.ensures.upheld.kept c.in_ok-sum_windows.ensures.read c.requires.first
      c.in_ok-sum_windows.ensures.windows in
      (sum_runs x y c.args.at.now.tail.now a part c.sum_windows.new.windows c.grow_turns.new.words c.requires.at.prepared c.in_ok-sum_windows.ensures.upheld.kept c.in_ok-sum_windows.ensures.read ready c.len-len.ensures.words c.requires.sum
      c.grow_turns.ensures.made).kept;
  same = c.in_ok-sum_windows.ensures.upheld.same;
  fault_reported = c.in_ok-sum_windows.ensures.upheld.fault_reported;
}

pub returns-clause-nest : goal.returns-clause-nest
returns-clause-nest g c =
    let y : Workspace = work_of g.D.Disk.files c.args.evaluation.now c.sum_windows.new.store in
    record {
      sequence_is = c.grow_turns.ensures.sequence;
      steps_are = sum_steps y c.args.at.now.tail.now (slice_index c.args.first.now.numbers) c.sum_windows.new.windows c.requires.sum c.in_ok-sum_windows.ensures.windows;
      loops_fit = λ v joined o right. single_fits y.places c.args.at.now.tail.now c.sum_windows.new.windows c.grow_turns.new.sequence c.requires.sum o right;
    }

pub sum_windows-requires-clause-out_steps : goal.sum_windows-requires-clause-out_steps
sum_windows-requires-clause-out_steps g c = c.requires.nest.steps_are.sum_are c.requires.sum

pub returns-in_err-sum_windows-clause-changed : goal.returns-in_err-sum_windows-clause-changed
returns-in_err-sum_windows-clause-changed g c = none_given _ _ c.from_residual.result c.from_residual.ensures.1

pub returns-in_err-sum_windows-clause-nest : goal.returns-in_err-sum_windows-clause-nest
returns-in_err-sum_windows-clause-nest g c = none_given _ _ c.from_residual.result c.from_residual.ensures.1

pub returns-in_err-sum_windows-clause-upheld : goal.returns-in_err-sum_windows-clause-upheld
returns-in_err-sum_windows-clause-upheld g c = record {
  kept = c.in_err-sum_windows.ensures.upheld.kept;
  same = c.in_err-sum_windows.ensures.upheld.same;
  fault_reported = record {
    cause = cause_of _ _ c.in_err-sum_windows.ensures.upheld.fault_reported.cause;
    quiet = told_of _ _ _ c.from_residual.result c.from_residual.ensures.1;
  };
}

pub sum_windows-requires-clause-prepared : goal.sum_windows-requires-clause-prepared
sum_windows-requires-clause-prepared g c = c.requires.at.prepared

pub sum_windows-requires-clause-position : goal.sum_windows-requires-clause-position
sum_windows-requires-clause-position g c = c.requires.position

pub sum_windows-requires-clause-left_steps : goal.sum_windows-requires-clause-left_steps
sum_windows-requires-clause-left_steps g c = c.requires.nest.steps_are.left_are

pub sum_windows-requires-clause-few : goal.sum_windows-requires-clause-few
sum_windows-requires-clause-few g c = fewer c.args.store.now.cache.now.touches 2 1 _ c.requires.few

pub grow_turns-requires-clause-sequence : goal.grow_turns-requires-clause-sequence
grow_turns-requires-clause-sequence g c = c.requires.nest.sequence_is
