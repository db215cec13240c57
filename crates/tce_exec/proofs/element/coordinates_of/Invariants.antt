use Rattle.std.proofs.Common.{◌≡◌, map, take, slice_index}
use Rattle.tce_exec.proofs.element.coordinates_of.Given as goal

abbrev pub invariant-loop-index : goal.invariant-loop-index
invariant-loop-index l = l.coordinates.items ≡ map (slice_index l.numbers) (take l.index-index l.indexes)
