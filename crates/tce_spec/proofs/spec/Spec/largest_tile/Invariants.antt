use Rattle.std.proofs.Common.{◌≡◌, max, take}
use Rattle.std.specs.List.{fold}
use Rattle.tce_space.specs.Tiling.{tile_words}
use Rattle.tce_spec.specs.Operands.{operands, shape_of}
use Rattle.tce_spec.proofs.spec.Spec.largest_tile.Given as goal

abbrev pub invariant-loop-t : goal.invariant-loop-t
invariant-loop-t l =
    l.largest ≡ fold (λ largest t. max largest (tile_words (shape_of l.self t))) (tile_words (shape_of l.self l.self.result)) (take l.t-index (operands l.self))
