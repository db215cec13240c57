use Rattle.std.proofs.Common.{◌≡◌, ◌∙◌, ℕ, List, length, map, slice_index, sym, arith}
use Rattle.std.proofs.lemmas.List.{length-map}
use Rattle.tce_space.specs.Box.{IsInside}
use Rattle.tce_space.proofs.Boxes.{length_inside}
use Rattle.tce_exec.proofs.tile.tile_window.Goals as goal

-- an index for each dimension
each : (f : ℕ → ℕ) (extents indexes : List ℕ) → IsInside extents (map f indexes) → length indexes ≡ length extents
each f extents indexes h = sym (length-map indexes f) ∙ length_inside extents (map f indexes) h

pub tile_steps-steps-requires-clause-each : goal.tile_steps-steps-requires-clause-each
tile_steps-steps-requires-clause-each c = each (slice_index c.args.first.now) c.args.shape.now.extents c.args.indexes.now c.requires.inside

pub coordinates_of-coordinates-requires-clause-rank : goal.coordinates_of-coordinates-requires-clause-rank
coordinates_of-coordinates-requires-clause-rank c =
    omega (arith, each (slice_index c.args.first.now) c.args.shape.now.extents c.args.indexes.now c.requires.inside, c.tile_steps-steps.ensures.limits.rank)
