use Rattle.std.proofs.Common.{drop}
use Rattle.tce_exec.proofs.TileSteps.{AreStepsFrom}
use Rattle.tce_exec.proofs.tile.tile_steps.Given as goal

abbrev pub invariant-loop-d : goal.invariant-loop-d
invariant-loop-d l = AreStepsFrom (drop l.d l.edges) (drop l.d l.indexes) l.behind l.steps
