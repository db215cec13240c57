use Rattle.std.proofs.Common.{◌<◌, ◌^◌, slice_index, map, false, arith}
use Rattle.tce_exec.specs.NodeStates.{current_cell}
use Rattle.tce_exec.specs.Workspace.{Workspace}
use Rattle.tce_exec.specs.Storages.{work_of}
use Rattle.tce_exec.proofs.Workspaces.{touched_reads}
use Rattle.tce_exec.proofs.Reading.{leaf_word_is, shown_at, short_in_tile}
use Rattle.tce_exec.proofs.places.read_leaf.Goals as goal

pub returns-clause-word : goal.returns-clause-word
returns-clause-word g c =
    let x : Workspace = work_of g.D.Disk.files c.args.evaluation.now c.args.store.now in
    let l = c.args.leaf.now in
    let low : c.get.result < 2 ^ 64 = omega (arith, c.get.ensures, c.len-len.ensures.words c.in_ok-at.at) in
    leaf_word_is x l (slice_index c.args.numbers.now) c.get.result c.requires.prepared c.requires.element low
    (shown_at x.cache.arrays l.tensor c.get.result (slice_index c.touch_element.new.store.words.now c.in_ok-at.at) x.files
    (λ s fs. current_cell x.cache fs x.words l.tensor s (map (slice_index c.args.numbers.now) l.indexes.items)) c.get.ensures c.in_ok-at.ensures.word)
    (short_in_tile x.cache c.touch_element.new.store.cache.now l.tensor (map (slice_index c.args.numbers.now) l.indexes.items) false c.in_ok-at.at c.in_ok-at.ensures.touched)

pub returns-clause-read : goal.returns-clause-read
returns-clause-read g c =
    let x : Workspace = work_of g.D.Disk.files c.args.evaluation.now c.args.store.now in
    let e = c.in_ok-at.ensures in
    touched_reads x c.touch_element.new.store.words.now c.touch_element.new.store.cache.now (g.D.Disk.files c.touch_element.new.store.disk.now) c.requires.prepared e.kept e.arrays e.cache e.outside e.others
