use Rattle.tce_cache.specs.Ring.{steps}
use Rattle.tce_cache.specs.Table.{IsLeft}
use Rattle.tce_cache.proofs.table.Table.find.Given as goal

abbrev pub invariant-loop-node : goal.invariant-loop-node
invariant-loop-node l = IsLeft l.self-inside.frames.items l.self-inside.held l.array l.tile l.self-inside.buckets.after l.node l.end

abbrev pub decreases-loop-node : goal.decreases-loop-node
decreases-loop-node l = steps l.self-inside.buckets.after l.node l.end l.self-inside.held
