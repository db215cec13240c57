use Rattle.tce_batch.specs.Plans.{AreKept}
use Rattle.tce_batch.specs.Refusals.{AffordableBelow}
use Rattle.tce_batch.proofs.plans.find_plans.Given as goal

abbrev pub invariant-loop-number : goal.invariant-loop-number
invariant-loop-number l = record {
  affordable : AffordableBelow l.batch l.budget l.number;
  kept : AreKept l.batch l.number l.plans.items;
}
