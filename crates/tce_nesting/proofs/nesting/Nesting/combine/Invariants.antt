use Rattle.tce_space.specs.IndexSet.{count}
use Rattle.tce_fusion.specs.Relation.{above}
use Rattle.tce_nesting.proofs.Joins.{IsPartOfJoin}
use Rattle.tce_nesting.proofs.nesting.Nesting.combine.Given as goal

abbrev pub invariant-loop-rest : goal.invariant-loop-rest
invariant-loop-rest l = IsPartOfJoin l.fn.loops (above l.a) (above l.b) l.nesting l.rest

abbrev pub decreases-loop-rest : goal.decreases-loop-rest
decreases-loop-rest l = count l.rest
