use Rattle.std.proofs.Common.{◌<◌, ◌+◌, slice_index, ap, ◌∙◌, arith}
use Rattle.tce_tree.specs.ContractionTree.{operations}
use Rattle.tce_exec.specs.Workspace.{Workspace}
use Rattle.tce_exec.specs.Storages.{work_of}
use Rattle.tce_exec.proofs.Reading.{slot_of, slot_word_is}
use Rattle.tce_exec.proofs.places.read_place.Goals as goal

pub returns-clause-word : goal.returns-clause-word
returns-clause-word g c =
    let x : Workspace = work_of g.D.Disk.files c.args.evaluation.now c.args.store.now in
    let inner : c.args.v + 1 < operations x.places.tree = omega (arith, c.if-v-count.false, c.requires.place.known, c.count-count.ensures.value) in
    slot_word_is x c.args.v (slice_index c.args.numbers.now) c.get.result c.requires.prepared (slot_of x c.args.v (slice_index c.args.numbers.now) inner c.requires.place)
    (c.get.ensures ∙ ap (slice_index c.args.store.now.words.now) c.place_in_slot-at.ensures.value)
