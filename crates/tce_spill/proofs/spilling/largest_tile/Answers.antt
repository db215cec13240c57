use Rattle.std.proofs.Common.{◌≤◌, ◌^◌, sym, subst}
use Rattle.tce_job.proofs.Tiles.{largest_limit}
use Rattle.tce_spill.proofs.spilling.largest_tile.Goals as goal

pub loop-v-init : goal.loop-v-init
loop-v-init c = record {
  words = c.largest_tile-largest.ensures;
  limit = subst (λ n. n ≤ 2 ^ 20) (sym c.largest_tile-largest.ensures) (largest_limit c.args.spec.now c.tree.ensures.rules);
}
