use Rattle.std.proofs.Common.{◌∙◌, slice_index}
use Rattle.tce_tree.specs.Value.{Assignment}
use Rattle.tce_block.specs.Cuts.{part_of}
use Rattle.tce_block.specs.Parts.{Part}
use Rattle.tce_walk.specs.Machine.{assignment_of}
use Rattle.tce_exec.specs.Workspace.{Workspace}
use Rattle.tce_exec.specs.Storages.{work_of}
use Rattle.tce_exec.specs.Blocks.{loops_of}
use Rattle.tce_exec.specs.TailBlocks.{IsAtBlock}
use Rattle.tce_exec.proofs.Turning.{block_loops}
use Rattle.tce_exec.proofs.Asking.{block_begins, begun_first, outside_still}
use Rattle.tce_exec.proofs.block.run_block.Goals as goal

pub begin_block-requires-clause-loops : goal.begin_block-requires-clause-loops
begin_block-requires-clause-loops g c =
    let x : Workspace = work_of g.D.Disk.files c.args.evaluation.now c.args.store.now in
    let a : Assignment = assignment_of c.args.at.now.numbers.now in
    let part : Part = part_of c.args.at.now.block.now in
    let h : IsAtBlock x c.args.at.now.tail.now a part = record { space = c.index_count-indexes.ensures.limits; tree = c.count-nodes.ensures.kept; prepared = c.requires.prepared; tail_is = c.requires.tail; block = c.requires.block } in
    block_loops x c.args.at.now.tail.now a part h

pub begin_block-requires-clause-each : goal.begin_block-requires-clause-each
begin_block-requires-clause-each g c =
    let x : Workspace = work_of g.D.Disk.files c.args.evaluation.now c.args.store.now in
    let a : Assignment = assignment_of c.args.at.now.numbers.now in
    let part : Part = part_of c.args.at.now.block.now in
    let h : IsAtBlock x c.args.at.now.tail.now a part = record { space = c.index_count-indexes.ensures.limits; tree = c.count-nodes.ensures.kept; prepared = c.requires.prepared; tail_is = c.requires.tail; block = c.requires.block } in
    block_begins x c.args.at.now.tail.now a part h

pub begin_block-requires-clause-position : goal.begin_block-requires-clause-position
begin_block-requires-clause-position g c = c.requires.position

pub run_begun-requires-clause-at : goal.run_begun-requires-clause-at
run_begun-requires-clause-at g c =
    record { space = c.index_count-indexes.ensures.limits; tree = c.count-nodes.ensures.kept; prepared = c.requires.prepared; tail_is = c.requires.tail; block = c.requires.block }

pub run_begun-requires-clause-position : goal.run_begun-requires-clause-position
run_begun-requires-clause-position g c = c.begin_block.ensures.position

pub run_begun-requires-clause-few : goal.run_begun-requires-clause-few
run_begun-requires-clause-few g c = c.requires.few

pub run_begun-requires-clause-first : goal.run_begun-requires-clause-first
run_begun-requires-clause-first g c =
    c.begin_block.ensures.numbers ∙ begun_first (loops_of c.args.at.now.tail.now) (assignment_of c.args.at.now.numbers.now) (slice_index c.args.first.now.numbers) (part_of c.args.at.now.block.now) c.requires.others

pub run_begun-requires-clause-nest : goal.run_begun-requires-clause-nest
run_begun-requires-clause-nest g c = c.requires.nest

pub returns-clause-changed : goal.returns-clause-changed
returns-clause-changed g c = c.run_begun.ensures.changed

pub returns-clause-upheld : goal.returns-clause-upheld
returns-clause-upheld g c = c.run_begun.ensures.upheld

pub returns-clause-nest : goal.returns-clause-nest
returns-clause-nest g c = c.run_begun.ensures.nest

pub returns-clause-others : goal.returns-clause-others
returns-clause-others g c =
    outside_still (loops_of c.args.at.now.tail.now) (assignment_of c.args.at.now.numbers.now) (slice_index c.begin_block.new.first.numbers) (part_of c.args.at.now.block.now)
    (c.begin_block.ensures.numbers ∙ begun_first (loops_of c.args.at.now.tail.now) (assignment_of c.args.at.now.numbers.now) (slice_index c.args.first.now.numbers) (part_of c.args.at.now.block.now) c.requires.others)

pub returns-clause-position : goal.returns-clause-position
returns-clause-position g c = c.begin_block.ensures.position
