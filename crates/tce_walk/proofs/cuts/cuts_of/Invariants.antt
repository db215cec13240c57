use Rattle.std.proofs.Common.{◌≡◌, map, take, All}
use Rattle.tce_space.specs.Space.{extent_at, edge_at}
use Rattle.tce_block.specs.Cuts.{IsCut, extents_of, edges_of}
use Rattle.tce_walk.proofs.cuts.cuts_of.Given as goal

abbrev pub invariant-loop-index : goal.invariant-loop-index
invariant-loop-index l =
    record {
      cuts : All IsCut l.cuts.items;
      extents : extents_of l.cuts.items ≡ map (extent_at l.space) (take l.index-index l.loops);
      edges : edges_of l.cuts.items ≡ map (edge_at l.space) (take l.index-index l.loops);
    }
