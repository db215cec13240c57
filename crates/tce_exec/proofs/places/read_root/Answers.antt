use Rattle.std.proofs.Common.{slice_index, map, arith}
use Rattle.tce_exec.specs.NodeStates.{current_cell}
use Rattle.tce_exec.specs.Workspace.{Workspace}
use Rattle.tce_exec.specs.Storages.{work_of}
use Rattle.tce_exec.proofs.Workspaces.{touched_reads}
use Rattle.tce_exec.proofs.Reading.{result_known, root_inside, inside_array, root_word_is, shown_at}
use Rattle.tce_exec.proofs.places.read_root.Goals as goal

pub touch_element-requires-clause-known : goal.touch_element-requires-clause-known
touch_element-requires-clause-known g c =
    result_known (work_of g.D.Disk.files c.args.evaluation.now c.args.store.now) c.requires.prepared

pub touch_element-requires-clause-inside : goal.touch_element-requires-clause-inside
touch_element-requires-clause-inside g c =
    let x : Workspace = work_of g.D.Disk.files c.args.evaluation.now c.args.store.now in
    inside_array x x.tensor x.places.result (map (slice_index c.args.numbers.now) x.places.result) c.requires.prepared.result
    (root_inside x (slice_index c.args.numbers.now) c.requires.prepared c.requires.place)

pub returns-clause-word : goal.returns-clause-word
returns-clause-word g c =
    let x : Workspace = work_of g.D.Disk.files c.args.evaluation.now c.args.store.now in
    root_word_is x (slice_index c.args.numbers.now) c.get.result (omega (arith, c.requires.place.known)) c.requires.prepared c.requires.place
    (shown_at x.cache.arrays x.tensor c.get.result (slice_index c.touch_element.new.store.words.now c.in_ok-at.at) x.files
    (λ s fs. current_cell x.cache fs x.words x.tensor s (map (slice_index c.args.numbers.now) x.places.result)) c.get.ensures c.in_ok-at.ensures.word)

pub returns-clause-read : goal.returns-clause-read
returns-clause-read g c =
    let x : Workspace = work_of g.D.Disk.files c.args.evaluation.now c.args.store.now in
    let e = c.in_ok-at.ensures in
    touched_reads x c.touch_element.new.store.words.now c.touch_element.new.store.cache.now (g.D.Disk.files c.touch_element.new.store.disk.now) c.requires.prepared e.kept e.arrays e.cache e.outside e.others
