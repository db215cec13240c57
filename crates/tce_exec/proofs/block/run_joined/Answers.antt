use Rattle.tce_exec.proofs.Calls.{none_given, told_of}
use Rattle.std.proofs.Common.{slice_index, sym, ◌∙◌, arith}
use Rattle.tce_outside.proofs.Causes.{cause_of}
use Rattle.tce_tree.specs.Value.{Assignment}
use Rattle.tce_block.specs.Cuts.{part_of}
use Rattle.tce_block.specs.Parts.{Part}
use Rattle.tce_walk.specs.Machine.{assignment_of}
use Rattle.tce_exec.specs.Workspace.{Workspace}
use Rattle.tce_exec.specs.Storages.{work_of}
use Rattle.tce_exec.specs.TailBlocks.{IsAtBlock}
use Rattle.tce_exec.proofs.Turning.{block_loops}
use Rattle.tce_exec.proofs.Asking.{node_at_first, sum_at_first, own_slot}
use Rattle.tce_exec.proofs.Stepping.{joined_steps, joined_fit}
use Rattle.tce_exec.proofs.Running.{operands_ready, sum_places_ready, slot_places_ready, joined_runs}
use Rattle.tce_exec.proofs.block.run_joined.Goals as goal

pub pair_windows-requires-clause-node : goal.pair_windows-requires-clause-node
pair_windows-requires-clause-node g c =
    let x : Workspace = work_of g.D.Disk.files c.args.evaluation.now c.args.store.now in
    let a : Assignment = assignment_of c.args.at.now.numbers.now in
    let part : Part = part_of c.args.at.now.block.now in
    let h : IsAtBlock x c.args.at.now.tail.now a part = c.requires.at in
    node_at_first x c.args.at.now.tail.now a part (slice_index c.args.first.now.numbers) h c.requires.first

pub pair_windows-requires-clause-place : goal.pair_windows-requires-clause-place
pair_windows-requires-clause-place g c =
    let x : Workspace = work_of g.D.Disk.files c.args.evaluation.now c.args.store.now in
    let a : Assignment = assignment_of c.args.at.now.numbers.now in
    let part : Part = part_of c.args.at.now.block.now in
    let h : IsAtBlock x c.args.at.now.tail.now a part = c.requires.at in
    sum_at_first x c.args.at.now.tail.now a part c.args.pairing.now.out (slice_index c.args.first.now.numbers) h c.requires.joined c.requires.first

pub node_window-requires-clause-inner : goal.node_window-requires-clause-inner
node_window-requires-clause-inner g c =
    let x : Workspace = work_of g.D.Disk.files c.args.evaluation.now c.args.store.now in
    let a : Assignment = assignment_of c.args.at.now.numbers.now in
    let part : Part = part_of c.args.at.now.block.now in
    let h : IsAtBlock x c.args.at.now.tail.now a part = c.requires.at in
    own_slot x c.args.at.now.tail.now a part c.args.pairing.now.out (slice_index c.args.first.now.numbers) h c.requires.joined c.requires.first

pub node_window-requires-clause-room : goal.node_window-requires-clause-room
node_window-requires-clause-room g c =
    let y : Workspace = work_of g.D.Disk.files c.args.evaluation.now c.pair_windows.new.store in
    omega (arith, c.in_ok-pair_windows.ensures.read.prepared.before, c.in_ok-pair_windows.ensures.read.prepared.room)

pub join_turns-requires-clause-loops : goal.join_turns-requires-clause-loops
join_turns-requires-clause-loops g c =
    let x : Workspace = work_of g.D.Disk.files c.args.evaluation.now c.args.store.now in
    let a : Assignment = assignment_of c.args.at.now.numbers.now in
    let part : Part = part_of c.args.at.now.block.now in
    let h : IsAtBlock x c.args.at.now.tail.now a part = c.requires.at in
    block_loops x c.args.at.now.tail.now a part h

pub join_turns-requires-clause-own : goal.join_turns-requires-clause-own
join_turns-requires-clause-own g c =
    let x : Workspace = work_of g.D.Disk.files c.args.evaluation.now c.args.store.now in
    let y : Workspace = work_of g.D.Disk.files c.args.evaluation.now c.pair_windows.new.store in
    let a : Assignment = assignment_of c.args.at.now.numbers.now in
    let part : Part = part_of c.args.at.now.block.now in
    let h : IsAtBlock x c.args.at.now.tail.now a part = c.requires.at in
    let ready = operands_ready x y c.args.at.now.tail.now a part c.args.pairing.now.right.now c.args.pairing.now.out (slice_index c.args.first.now.numbers) c.pair_windows.new.windows h c.in_ok-pair_windows.ensures.upheld.kept c.in_ok-pair_windows.ensures.read
    c.requires.first c.requires.right c.in_ok-pair_windows.ensures.windows in
    let own = slot_places_ready y c.args.at.now.tail.now a part c.args.pairing.now.right.now c.args.pairing.now.out (slice_index c.args.first.now.numbers) c.pair_windows.new.windows.left c.pair_windows.new.windows.right c.node_window.new.window ready
    c.requires.first c.requires.joined c.node_window.ensures in
    record { within = own.out_is; from_left = own.from_left; from_right = own.from_right }

pub join_turns-requires-clause-out : goal.join_turns-requires-clause-out
join_turns-requires-clause-out g c =
    let x : Workspace = work_of g.D.Disk.files c.args.evaluation.now c.args.store.now in
    let y : Workspace = work_of g.D.Disk.files c.args.evaluation.now c.pair_windows.new.store in
    let a : Assignment = assignment_of c.args.at.now.numbers.now in
    let part : Part = part_of c.args.at.now.block.now in
    let h : IsAtBlock x c.args.at.now.tail.now a part = c.requires.at in
    let ready = operands_ready x y c.args.at.now.tail.now a part c.args.pairing.now.right.now c.args.pairing.now.out (slice_index c.args.first.now.numbers) c.pair_windows.new.windows h c.in_ok-pair_windows.ensures.upheld.kept c.in_ok-pair_windows.ensures.read
    c.requires.first c.requires.right c.in_ok-pair_windows.ensures.windows in
    let places = sum_places_ready y c.args.at.now.tail.now a part c.args.pairing.now.right.now c.args.pairing.now.out (slice_index c.args.first.now.numbers) c.pair_windows.new.windows ready c.requires.first c.requires.joined
    c.in_ok-pair_windows.ensures.windows in
    record { within = places.out_is; from_left = places.from_left; from_right = places.from_right }

pub join_turns-requires-clause-left : goal.join_turns-requires-clause-left
join_turns-requires-clause-left g c =
    let x : Workspace = work_of g.D.Disk.files c.args.evaluation.now c.args.store.now in
    let y : Workspace = work_of g.D.Disk.files c.args.evaluation.now c.pair_windows.new.store in
    let a : Assignment = assignment_of c.args.at.now.numbers.now in
    let part : Part = part_of c.args.at.now.block.now in
    let h : IsAtBlock x c.args.at.now.tail.now a part = c.requires.at in
    let ready = operands_ready x y c.args.at.now.tail.now a part c.args.pairing.now.right.now c.args.pairing.now.out (slice_index c.args.first.now.numbers) c.pair_windows.new.windows h c.in_ok-pair_windows.ensures.upheld.kept c.in_ok-pair_windows.ensures.read
    c.requires.first c.requires.right c.in_ok-pair_windows.ensures.windows in
    ready.left_in

pub join_turns-requires-clause-right : goal.join_turns-requires-clause-right
join_turns-requires-clause-right g c =
    let x : Workspace = work_of g.D.Disk.files c.args.evaluation.now c.args.store.now in
    let y : Workspace = work_of g.D.Disk.files c.args.evaluation.now c.pair_windows.new.store in
    let a : Assignment = assignment_of c.args.at.now.numbers.now in
    let part : Part = part_of c.args.at.now.block.now in
    let h : IsAtBlock x c.args.at.now.tail.now a part = c.requires.at in
    let ready = operands_ready x y c.args.at.now.tail.now a part c.args.pairing.now.right.now c.args.pairing.now.out (slice_index c.args.first.now.numbers) c.pair_windows.new.windows h c.in_ok-pair_windows.ensures.upheld.kept c.in_ok-pair_windows.ensures.read
    c.requires.first c.requires.right c.in_ok-pair_windows.ensures.windows in
    ready.right_in

pub returns-clause-changed : goal.returns-clause-changed
returns-clause-changed g c =
    let x : Workspace = work_of g.D.Disk.files c.args.evaluation.now c.args.store.now in
    let y : Workspace = work_of g.D.Disk.files c.args.evaluation.now c.pair_windows.new.store in
    let a : Assignment = assignment_of c.args.at.now.numbers.now in
    let part : Part = part_of c.args.at.now.block.now in
    let h : IsAtBlock x c.args.at.now.tail.now a part = c.requires.at in
    let ready = operands_ready x y c.args.at.now.tail.now a part c.args.pairing.now.right.now c.args.pairing.now.out (slice_index c.args.first.now.numbers) c.pair_windows.new.windows h c.in_ok-pair_windows.ensures.upheld.kept c.in_ok-pair_windows.ensures.read
    c.requires.first c.requires.right c.in_ok-pair_windows.ensures.windows in
    let places = sum_places_ready y c.args.at.now.tail.now a part c.args.pairing.now.right.now c.args.pairing.now.out (slice_index c.args.first.now.numbers) c.pair_windows.new.windows ready c.requires.first c.requires.joined
    c.in_ok-pair_windows.ensures.windows in
    let own = slot_places_ready y c.args.at.now.tail.now a part c.args.pairing.now.right.now c.args.pairing.now.out (slice_index c.args.first.now.numbers) c.pair_windows.new.windows.left c.pair_windows.new.windows.right c.node_window.new.window ready
    c.requires.first c.requires.joined c.node_window.ensures in
    (joined_runs x y c.args.at.now.tail.now a part c.args.pairing.now.right.now c.args.pairing.now.out c.pair_windows.new.windows c.node_window.new.window c.join_turns.new.words c.requires.at.prepared
    c.in_ok-pair_windows.ensures.upheld.kept c.in_ok-pair_windows.ensures.read ready own places c.len-len.ensures.words c.requires.joined c.join_turns.ensures.made).changed

pub returns-clause-upheld : goal.returns-clause-upheld
returns-clause-upheld g c = record {
  kept =
      let x : Workspace = work_of g.D.Disk.files c.args.evaluation.now c.args.store.now in
      let y : Workspace = work_of g.D.Disk.files c.args.evaluation.now c.pair_windows.new.store in
      let a : Assignment = assignment_of c.args.at.now.numbers.now in
      let part : Part = part_of c.args.at.now.block.now in
      let h : IsAtBlock x c.args.at.now.tail.now a part = c.requires.at in
      let ready = operands_ready x y c.args.at.now.tail.now a part c.args.pairing.now.right.now c.args.pairing.now.out (slice_index c.args.first.now.numbers) c.pair_windows.new.windows h c.in_ok-pair_windows.ensures.upheld.kept c.in_ok-pair_windows.ensures.read
      c.requires.first c.requires.right c.in_ok-pair_windows.ensures.windows in
      let places = sum_places_ready y c.args.at.now.tail.now a part c.args.pairing.now.right.now c.args.pairing.now.out (slice_index c.args.first.now.numbers) c.pair_windows.new.windows ready c.requires.first c.requires.joined
      c.in_ok-pair_windows.ensures.windows in
      let own = slot_places_ready y c.args.at.now.tail.now a part c.args.pairing.now.right.now c.args.pairing.now.out (slice_index c.args.first.now.numbers) c.pair_windows.new.windows.left c.pair_windows.new.windows.right c.node_window.new.window ready
      c.requires.first c.requires.joined c.node_window.ensures in
      (joined_runs x y c.args.at.now.tail.now a part c.args.pairing.now.right.now c.args.pairing.now.out c.pair_windows.new.windows c.node_window.new.window c.join_turns.new.words c.requires.at.prepared
      c.in_ok-pair_windows.ensures.upheld.kept c.in_ok-pair_windows.ensures.read ready own places c.len-len.ensures.words c.requires.joined c.join_turns.ensures.made).kept;
  same = c.in_ok-pair_windows.ensures.upheld.same;
  fault_reported = c.in_ok-pair_windows.ensures.upheld.fault_reported;
}

pub returns-clause-nest : goal.returns-clause-nest
returns-clause-nest g c =
    let y : Workspace = work_of g.D.Disk.files c.args.evaluation.now c.pair_windows.new.store in
    record {
      sequence_is = c.join_turns.ensures.sequence;
      steps_are = joined_steps y c.args.at.now.tail.now c.args.pairing.now.right.now c.args.pairing.now.out (slice_index c.args.first.now.numbers) c.pair_windows.new.windows c.node_window.new.window c.requires.right c.requires.joined c.in_ok-pair_windows.ensures.windows c.node_window.ensures.steps_are;
      loops_fit = λ v joined o right. c.join_turns.ensures.fit;
    }

pub join_turns-requires-clause-fit : goal.join_turns-requires-clause-fit
join_turns-requires-clause-fit g c =
    let own = (c.requires.nest.steps_are.joined_are c.args.pairing.now.right.now c.args.pairing.now.out c.requires.right c.requires.joined).1 in
    joined_fit c.args.nest.now.windows c.pair_windows.new.windows c.node_window.new.window c.args.nest.now.sequence c.in_ok-pair_windows.ensures.steps (c.node_window.ensures.steps_are ∙ sym own)
    (c.requires.nest.loops_fit c.args.pairing.now.out c.requires.joined c.args.pairing.now.right.now c.requires.right)

pub pair_windows-requires-clause-right_steps : goal.pair_windows-requires-clause-right_steps
pair_windows-requires-clause-right_steps g c = c.requires.nest.steps_are.right_are c.args.pairing.now.right.now c.requires.right

pub pair_windows-requires-clause-out_steps : goal.pair_windows-requires-clause-out_steps
pair_windows-requires-clause-out_steps g c = (c.requires.nest.steps_are.joined_are c.args.pairing.now.right.now c.args.pairing.now.out c.requires.right c.requires.joined).0

pub node_window-requires-clause-steps : goal.node_window-requires-clause-steps
node_window-requires-clause-steps g c =
    c.in_ok-pair_windows.ensures.steps.own_same ∙ (c.requires.nest.steps_are.joined_are c.args.pairing.now.right.now c.args.pairing.now.out c.requires.right c.requires.joined).1

pub returns-in_err-pair_windows-clause-changed : goal.returns-in_err-pair_windows-clause-changed
returns-in_err-pair_windows-clause-changed g c = none_given _ _ c.from_residual.result c.from_residual.ensures.1

pub returns-in_err-pair_windows-clause-nest : goal.returns-in_err-pair_windows-clause-nest
returns-in_err-pair_windows-clause-nest g c = none_given _ _ c.from_residual.result c.from_residual.ensures.1

pub returns-in_err-pair_windows-clause-upheld : goal.returns-in_err-pair_windows-clause-upheld
returns-in_err-pair_windows-clause-upheld g c = record {
  kept = c.in_err-pair_windows.ensures.upheld.kept;
  same = c.in_err-pair_windows.ensures.upheld.same;
  fault_reported = record {
    cause = cause_of _ _ c.in_err-pair_windows.ensures.upheld.fault_reported.cause;
    quiet = told_of _ _ _ c.from_residual.result c.from_residual.ensures.1;
  };
}

pub pair_windows-requires-clause-prepared : goal.pair_windows-requires-clause-prepared
pair_windows-requires-clause-prepared g c = c.requires.at.prepared

pub pair_windows-requires-clause-position : goal.pair_windows-requires-clause-position
pair_windows-requires-clause-position g c = c.requires.position

pub pair_windows-requires-clause-left_steps : goal.pair_windows-requires-clause-left_steps
pair_windows-requires-clause-left_steps g c = c.requires.nest.steps_are.left_are

pub pair_windows-requires-clause-few : goal.pair_windows-requires-clause-few
pair_windows-requires-clause-few g c = c.requires.few

pub pair_windows-requires-clause-right : goal.pair_windows-requires-clause-right
pair_windows-requires-clause-right g c = c.requires.right

pub join_turns-requires-clause-sequence : goal.join_turns-requires-clause-sequence
join_turns-requires-clause-sequence g c = c.requires.nest.sequence_is
