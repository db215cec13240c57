use Rattle.std.proofs.Common.{◌≡◌, take}
use Rattle.tce_exec.specs.TileCounts.{tile_count}
use Rattle.tce_exec.proofs.links.tiles_of.Given as goal

abbrev pub invariant-loop-op : goal.invariant-loop-op
invariant-loop-op l = l.tiles ≡ tile_count l.evaluation.tree.now (take l.op-index l.ops)
