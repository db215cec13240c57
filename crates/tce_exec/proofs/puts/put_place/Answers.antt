use Rattle.std.proofs.Common.{◌<◌, ◌+◌, slice_index, arith, rules}
use Rattle.tce_tree.specs.ContractionTree.{operations}
use Rattle.tce_exec.specs.Workspace.{Workspace}
use Rattle.tce_exec.specs.Storages.{work_of}
use Rattle.tce_exec.proofs.Putting.{slot_put_by}
use Rattle.tce_exec.proofs.puts.put_place.Goals as goal

pub returns-clause-changed : goal.returns-clause-changed
returns-clause-changed g c =
    let x : Workspace = work_of g.D.Disk.files c.args.evaluation.now c.args.store.now in
    let inner : c.args.v + 1 < operations x.places.tree = omega (arith, c.if-v-count.false, c.requires.place.known, c.count-count.ensures.value) in
    (slot_put_by x c.put.new.self c.args.v (slice_index c.args.numbers.now) c.place_in_slot-at.result c.args.word c.requires.prepared inner c.requires.place
    c.place_in_slot-at.ensures.value c.put.ensures).1

pub returns-clause-upheld : goal.returns-clause-upheld
returns-clause-upheld g c = record {
  kept =
      let x : Workspace = work_of g.D.Disk.files c.args.evaluation.now c.args.store.now in
      let inner : c.args.v + 1 < operations x.places.tree = omega (arith, c.if-v-count.false, c.requires.place.known, c.count-count.ensures.value) in
      (slot_put_by x c.put.new.self c.args.v (slice_index c.args.numbers.now) c.place_in_slot-at.result c.args.word c.requires.prepared inner c.requires.place
      c.place_in_slot-at.ensures.value c.put.ensures).0;
  same = search rules;
  fault_reported = search rules;
}
