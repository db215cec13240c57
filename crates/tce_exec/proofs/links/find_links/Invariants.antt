use Rattle.std.proofs.Common.{◌≡◌, ◌*◌, length, slice_index, take}
use Rattle.tce_exec.specs.Evaluations.{places_of}
use Rattle.tce_exec.specs.Links.{AreLinks}
use Rattle.tce_exec.specs.Steps.{IsKept, IsRead}
use Rattle.tce_exec.specs.Storages.{work_of, IsSame}
use Rattle.tce_exec.specs.TileCounts.{tile_count}
use Rattle.tce_exec.proofs.links.find_links.Given as goal

abbrev pub invariant-loop-op : goal.invariant-loop-op
invariant-loop-op g l = record {
  kept : IsKept (work_of g.D.Disk.files l.evaluation l.fn.store) (work_of g.D.Disk.files l.evaluation l.store);
  read : IsRead (3 * l.op-index) (work_of g.D.Disk.files l.evaluation l.fn.store) (work_of g.D.Disk.files l.evaluation l.store);
  found : AreLinks (tile_count l.evaluation.tree.now (take l.op-index l.ops)) (places_of l.evaluation) l.store.cache.now l.evaluation.result.now.tensor (slice_index l.first.numbers) (take l.op-index l.ops) l.links.items;
  long : length l.links.items ≡ l.op-index;
  same : IsSame l.fn.store l.store;
  counted : g.D.Disk.faults l.store.disk.now ≡ g.D.Disk.faults l.fn.store.disk.now;
}
