use Rattle.std.proofs.Common.{◌^◌, ◌≤◌, sym, subst}
use Rattle.tce_job.proofs.Tiles.{tiles_within}
use Rattle.tce_job.proofs.takings.tiles_of.Goals as goal

pub returns-clause-limit : goal.returns-clause-limit
returns-clause-limit c = subst (λ n. n ≤ 2 ^ 48) (sym c.tiles.ensures.tiles) (tiles_within c.tensor.result.now.shape c.tiles.ensures.limits)
