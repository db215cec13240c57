-- What holds of the tiles of all specifications.
use Rattle.std.specs.Prelude.{ℕ, ◌<◌, ◌≤◌, length, slice_index}
use Rattle.tce_space.specs.Tiling.{tile_words}
use Rattle.tce_spec.specs.Specification.{Specification, IsSpecification}
use Rattle.tce_spec.specs.Operands.{operands, largest_tile, shape_of}

-- a frame, which has the words of the largest tile, has a word, and room for each tile of the operands and the result
pub record FramesHaveRoom : Type 0 where
  pub some : (s : Specification) → IsSpecification s → 0 < largest_tile s
  pub result : (s : Specification) → tile_words (shape_of s s.result) ≤ largest_tile s
  pub operand : (s : Specification) (d : ℕ) → d < length (operands s) → tile_words (shape_of s (slice_index (operands s) d)) ≤ largest_tile s
