use Rattle.std.proofs.Common.{drop}
use Rattle.tce_space.specs.Tiling.{tile_number, place_in_tile}
use Rattle.tce_array.specs.OnWay.{IsOnWay}
use Rattle.tce_exec.proofs.element.place_of_element.Given as goal

abbrev pub invariant-loop-d : goal.invariant-loop-d
invariant-loop-d l = IsOnWay (drop l.d l.extents) (drop l.d l.edges) (drop l.d l.coordinates) l.tile l.place (tile_number l.fn.shape l.coordinates) (place_in_tile l.fn.shape l.coordinates)
