use Rattle.std.proofs.Common.{◌≡◌, drop}
use Rattle.tce_space.specs.Box.{product}
use Rattle.tce_space.specs.Tiling.{tile_counts}
use Rattle.tce_tools.proofs.band.first_short.Given as goal

abbrev pub invariant-loop-dimension : goal.invariant-loop-dimension
invariant-loop-dimension l = record {
  elements : l.elements ≡ product (drop l.dimension l.shape.extents);
  tiles : l.tiles ≡ product (drop l.dimension (tile_counts l.shape));
  words : l.words ≡ product (drop l.dimension l.shape.edges);
}
