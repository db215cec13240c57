-- How many words a run takes for tiles.
use Rattle.std.specs.Prelude.{ℕ, ◌*◌, ◌/◌, min, max, [], ◌∷◌, ◌++◌}
use Rattle.std.specs.List.{sum_by}
use Rattle.tce_space.specs.Tiling.{tiles}
use Rattle.tce_spec.specs.Specification.{Specification}
use Rattle.tce_spec.specs.Operands.{operands, largest_tile, shape_of}

-- three of the largest tiles
abbrev pub least_budget : Specification → ℕ
least_budget s = 3 * largest_tile s

-- how many tiles the operands, each once, and the result have
abbrev pub tile_count : Specification → ℕ
tile_count s = sum_by (λ t. tiles (shape_of s t)) (operands s ++ s.result ∷ [])

-- as many frames as the budget has room for, each of one largest tile, and no more than there are tiles, or three
abbrev pub frame_count : Specification → ℕ → ℕ
frame_count s budget = min (budget / largest_tile s) (max 3 (tile_count s))

-- the words of the frames together
abbrev pub tile_take : Specification → ℕ → ℕ
tile_take s budget = largest_tile s * frame_count s budget
