use Rattle.std.proofs.Common.{◌≡◌, take}
use Rattle.tce_space.specs.Tiling.{counts_along}
use Rattle.tce_space.proofs.shape.tile_counts_of.Given as goal

abbrev pub invariant-loop-d : goal.invariant-loop-d
invariant-loop-d l = l.counts.items ≡ take l.d (counts_along l.extents l.edges)
