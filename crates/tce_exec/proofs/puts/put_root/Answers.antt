use Rattle.std.proofs.Common.{slice_index, map, arith, rules}
use Rattle.tce_exec.specs.Workspace.{Workspace}
use Rattle.tce_exec.specs.Storages.{work_of}
use Rattle.tce_exec.proofs.Reading.{result_known, root_inside, inside_array}
use Rattle.tce_exec.proofs.Putting.{root_put_by}
use Rattle.tce_exec.proofs.puts.put_root.Goals as goal

pub touch_element-requires-clause-known : goal.touch_element-requires-clause-known
touch_element-requires-clause-known g c =
    result_known (work_of g.D.Disk.files c.args.evaluation.now c.args.store.now) c.requires.prepared

pub touch_element-requires-clause-inside : goal.touch_element-requires-clause-inside
touch_element-requires-clause-inside g c =
    let x : Workspace = work_of g.D.Disk.files c.args.evaluation.now c.args.store.now in
    inside_array x x.tensor x.places.result (map (slice_index c.args.numbers.now) x.places.result) c.requires.prepared.result
    (root_inside x (slice_index c.args.numbers.now) c.requires.prepared c.requires.place)

pub returns-clause-changed : goal.returns-clause-changed
returns-clause-changed g c =
    let x : Workspace = work_of g.D.Disk.files c.args.evaluation.now c.args.store.now in
    let e = c.in_ok-at.ensures in
    let both = root_put_by x c.touch_element.new.store.words.now c.put.new.self c.touch_element.new.store.cache.now (g.D.Disk.files c.touch_element.new.store.disk.now) (slice_index c.args.numbers.now) c.in_ok-at.at c.args.word
    (omega (arith, c.requires.place.known)) c.requires.place c.requires.prepared e.kept e.arrays e.cache e.outside e.others e.touched c.put.ensures in
    both.1

pub returns-clause-upheld : goal.returns-clause-upheld
returns-clause-upheld g c = record {
  kept =
      let x : Workspace = work_of g.D.Disk.files c.args.evaluation.now c.args.store.now in
      let e = c.in_ok-at.ensures in
      let both = root_put_by x c.touch_element.new.store.words.now c.put.new.self c.touch_element.new.store.cache.now (g.D.Disk.files c.touch_element.new.store.disk.now) (slice_index c.args.numbers.now) c.in_ok-at.at c.args.word
      (omega (arith, c.requires.place.known)) c.requires.place c.requires.prepared e.kept e.arrays e.cache e.outside e.others e.touched c.put.ensures in
      both.0;
  same = search rules;
  fault_reported = search rules;
}
