-- How often a run of loop code touches a tile, at most, where each tail is cut at the edges of tiles.
use Rattle.std.specs.Prelude.{ℕ, ◌+◌, ◌*◌, if◌then◌else◌, List, map, Option}
use Rattle.std.specs.declared.option.Option.TheVariants.{Some, None}
use Rattle.std.specs.Int.{div_ceil}
use Rattle.tce_space.specs.Box.{product}
use Rattle.tce_space.specs.Space.{IndexSpace, extent_at, edge_at}
use Rattle.tce_tree.specs.ContractionTree.{ContractionTree}
use Rattle.tce_code.specs.Program.{Program, stop, step, loop, clear, compute, accumulate}
use Rattle.tce_walk.specs.Tails.{tail_loops, reads_constant}

-- the blocks of the loops of a tail: in each loop as many as edges cover its extent
abbrev pub block_count : IndexSpace → List ℕ → ℕ
block_count space order = product (map (λ i. div_ceil (extent_at space i) (edge_at space i)) order)

-- three touches for each block of a tail, where there is one
abbrev pub tail_touches : IndexSpace → Option (List ℕ) → ℕ → ℕ
tail_touches space None otherwise = otherwise
tail_touches space (Some order) otherwise = 3 * block_count space order

-- Three touches for each operation that is met, and none for a `Clear`. A tail in which no operand is a constant is counted block by
-- block, and every other loop turn by turn. A run of a band block by block takes no more than that.
abbrev pub touch_bound : IndexSpace → ContractionTree → Program → ℕ
touch_bound space tree stop = 0
touch_bound space tree (step (clear v) rest) = touch_bound space tree rest
touch_bound space tree (step (compute op v) rest) = 3 + touch_bound space tree rest
touch_bound space tree (step (accumulate v) rest) = 3 + touch_bound space tree rest
touch_bound space tree (loop i body rest) =
    (if reads_constant tree body then extent_at space i * touch_bound space tree body
    else tail_touches space (tail_loops tree (loop i body stop)) (extent_at space i * touch_bound space tree body))
    + touch_bound space tree rest
