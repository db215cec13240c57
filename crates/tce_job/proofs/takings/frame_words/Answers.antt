use Rattle.std.proofs.Common.{◌^◌, ◌<◌, ◌≤◌, sym, subst}
use Rattle.tce_job.proofs.Tiles.{largest_some, largest_limit}
use Rattle.tce_job.proofs.takings.frame_words.Goals as goal

pub returns-clause-some : goal.returns-clause-some
returns-clause-some c = subst (λ n. 0 < n) (sym c.largest_tile.ensures) (largest_some c.args.spec.now c.result-result.ensures.rules)

pub returns-clause-limit : goal.returns-clause-limit
returns-clause-limit c = subst (λ n. n ≤ 2 ^ 20) (sym c.largest_tile.ensures) (largest_limit c.args.spec.now c.result-result.ensures.rules)
