use Rattle.std.proofs.Common.{◌≡◌, ◌-◌, ℕ, get_or, map, set, slice_index}
use Rattle.tce_exec.specs.ChainRows.{link_along}
use Rattle.tce_exec.specs.Storages.{work_of, IsSame}
use Rattle.tce_exec.proofs.Bodies.{AreTurnsOf}
use Rattle.tce_exec.proofs.chain.+turn_loops.Given as goal

abbrev pub decreases-turn_loops : goal.decreases-turn_loops
decreases-turn_loops g l = l.rows.now.row.depth - l.depth

abbrev pub invariant-loop-x : goal.invariant-loop-x
invariant-loop-x g l = record {
  turns : AreTurnsOf (work_of g.D.Disk.files l.evaluation l.fn.store) (work_of g.D.Disk.files l.evaluation l.store) l.rows.at.ops.now l.rows.at.loops.now l.rows.at.from.now l.rows.at.len.now l.depth l.x (slice_index l.fn.numbers);
  numbers_set : (z : ℕ) → set l.numbers (get_or l.rows.at.loops.now l.depth 0) z ≡ set l.fn.numbers (get_or l.rows.at.loops.now l.depth 0) z;
  moved : l.links ≡ map (link_along (get_or l.rows.at.loops.now l.depth 0) (l.x - 1)) l.fn.links;
  same : IsSame l.fn.store l.store;
  cache : l.store.cache.now ≡ l.fn.store.cache.now;
  disk : l.store.disk.now ≡ l.fn.store.disk.now;
}
