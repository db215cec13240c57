use Rattle.std.proofs.Common.{map, drop, slice_index}
use Rattle.tce_space.specs.Space.{extent_at, edge_at}
use Rattle.tce_space.specs.Tiling.{tile_number, place_in_tile}
use Rattle.tce_array.specs.OnWay.{IsOnWay}
use Rattle.tce_exec.specs.Workspace.{shape_over}
use Rattle.tce_exec.proofs.position.Position.element.Given as goal

abbrev pub invariant-loop-d : goal.invariant-loop-d
invariant-loop-d l =
    IsOnWay (drop l.d (map (extent_at l._space) l.indexes)) (drop l.d (map (edge_at l._space) l.indexes)) (drop l.d (map (slice_index l.self.numbers) l.indexes)) l.tile l.place
    (tile_number (shape_over l._space l.indexes) (map (slice_index l.self.numbers) l.indexes)) (place_in_tile (shape_over l._space l.indexes) (map (slice_index l.self.numbers) l.indexes))
