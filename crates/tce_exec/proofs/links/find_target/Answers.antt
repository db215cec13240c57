use Rattle.std.proofs.Common.{slice_index, arith}
use Rattle.tce_exec.specs.Workspace.{Workspace}
use Rattle.tce_exec.specs.Storages.{work_of}
use Rattle.tce_exec.proofs.Operating.{own_place}
use Rattle.tce_exec.proofs.Reading.{result_known}
use Rattle.tce_exec.proofs.links.find_target.Goals as goal

pub set_place_steps-requires-clause-known : goal.set_place_steps-requires-clause-known
set_place_steps-requires-clause-known g c = result_known (work_of g.D.Disk.files c.args.evaluation.now c.args.store.now) c.requires.prepared

pub place_window-requires-clause-place : goal.place_window-requires-clause-place
place_window-requires-clause-place g c = own_place (work_of g.D.Disk.files c.args.evaluation.now c.args.store.now) c.args.v (slice_index c.args.first.now.numbers) c.requires.node

pub node_window-requires-clause-inner : goal.node_window-requires-clause-inner
node_window-requires-clause-inner g c =
    let at = own_place (work_of g.D.Disk.files c.args.evaluation.now c.args.store.now) c.args.v (slice_index c.args.first.now.numbers) c.requires.node in
    record { inner = omega (arith, at.known, c.if-v-count.true, c.count-count.ensures.value); inside = at.inside }
