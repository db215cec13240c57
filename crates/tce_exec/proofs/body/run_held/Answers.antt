use Rattle.std.proofs.Common.{◌≡◌, ◌+◌, ◌-◌, ◌<◌, length, slice_index, sym, arith}
use Rattle.tce_exec.specs.Bodies.{touches_from}
use Rattle.tce_exec.specs.Storages.{work_of}
use Rattle.tce_exec.specs.Workspace.{Workspace}
use Rattle.tce_exec.proofs.Bodies.{ranges_long}
use Rattle.tce_exec.proofs.BodyBlocks.{held_done, held_few}
use Rattle.tce_exec.proofs.MergedRows.{last_count}
use Rattle.tce_exec.proofs.body.run_held.Goals as goal

pub find_links-requires-clause-few : goal.find_links-requires-clause-few
find_links-requires-clause-few g c = held_few c.args.store.now.cache.now.touches c.args.at.now c.requires.begun.some c.requires.few

pub returns-clause-changed : goal.returns-clause-changed
returns-clause-changed g c =
    let x : Workspace = work_of g.D.Disk.files c.args.evaluation.now c.args.store.now in
    let y : Workspace = work_of g.D.Disk.files c.args.evaluation.now c.find_links.new.store in
    let z : Workspace = work_of g.D.Disk.files c.args.evaluation.now c.turn_loops.new.store in
    held_done x y z c.args.at.now (slice_index c.args.first.now.numbers) (touches_from c.args.at.now 0) c.requires.prepared c.in_ok-find_links.ensures.upheld.kept c.in_ok-find_links.ensures.read c.requires.begun.some
    c.turn_loops.ensures.changed c.turn_loops.ensures.cache

pub offset_bounds-at-depth : goal.offset_bounds-at-depth
offset_bounds-at-depth g c = omega (arith, c.requires.begun.few)

pub bounds-at-depth : goal.bounds-at-depth
bounds-at-depth g c =
    let b = c.args.at.now in
    let many = (ranges_long c.args.evaluation.now.space.now b.loops.now b.from.now b.len.now c.requires.begun.body.ranges).1 in
    omega (arith, many, c.requires.loops)

pub longest_row-requires-clause-known : goal.longest_row-requires-clause-known
longest_row-requires-clause-known g c = c.requires.begun.known

pub longest_row-requires-clause-each : goal.longest_row-requires-clause-each
longest_row-requires-clause-each g c =
    let b = c.args.at.now in
    let many = (ranges_long c.args.evaluation.now.space.now b.loops.now b.from.now b.len.now c.requires.begun.body.ranges).1 in
    many

pub longest_row-requires-clause-count : goal.longest_row-requires-clause-count
longest_row-requires-clause-count g c =
    let b = c.args.at.now in
    let many = (ranges_long c.args.evaluation.now.space.now b.loops.now b.from.now b.len.now c.requires.begun.body.ranges).1 in
    sym (last_count b (length b.loops.now - 1) many (omega (arith, c.requires.loops)))

pub turn_loops-requires-clause-row : goal.turn_loops-requires-clause-row
turn_loops-requires-clause-row g c =
    let b = c.args.at.now in
    let many = (ranges_long c.args.evaluation.now.space.now b.loops.now b.from.now b.len.now c.requires.begun.body.ranges).1 in
    record {
      inside = c.longest_row.ensures.depth;
      many = many;
      alike = c.longest_row.ensures.alike;
      count_is = c.longest_row.ensures.count;
    }
