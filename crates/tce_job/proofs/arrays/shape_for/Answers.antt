use Rattle.std.proofs.Common.{◌≡◌, ◌≤◌, sym, ap, ◌∙◌, subst}
use Rattle.tce_space.specs.Tiling.{Tiling, tile_words}
use Rattle.tce_spec.specs.Operands.{largest_tile, shape_of}
use Rattle.tce_job.proofs.Tiles.{result_within}
use Rattle.tce_job.proofs.arrays.shape_for.Goals as goal

pub returns-clause-fits : goal.returns-clause-fits
returns-clause-fits c =
    let is : c.in_ok-shape-2.shape ≡ shape_of c.args.spec.now c.args.spec.now.result = c.in_ok-shape-2.ensures.cases ∙ c.tensor-2.ensures.shape ∙ ap (shape_of c.args.spec.now) c.result.ensures.tensor in
    subst (λ (t : Tiling). tile_words t ≤ largest_tile c.args.spec.now) (sym is) (result_within c.args.spec.now)
