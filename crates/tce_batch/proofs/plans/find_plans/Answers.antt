use Rattle.std.proofs.Common.{ℕ, arith}
use Rattle.tce_spec.specs.Specification.{Specification}
use Rattle.tce_job.specs.Refusals.{IsAffordable}
use Rattle.tce_batch.proofs.Afforded.{below_more, cost_fault}
use Rattle.tce_batch.proofs.KeptPlans.{kept_more}
use Rattle.tce_batch.proofs.plans.find_plans.Goals as goal

pub returns-in-Err-clause-refused : goal.returns-in-Err-clause-refused
returns-in-Err-clause-refused c = λ told.
    cost_fault told c.args.batch.now c.args.budget c.loop-number.number c.before_runs.result.formula c.in-Err.fault c.before_runs.result.fault
    (omega (arith, c.loop-number-test.true, c.len-count.ensures.count)) c.loop-number.invariant.affordable c.in-Err.ensures.refused c.in-Err.ensures.failed c.before_runs.ensures.fault c.before_runs.ensures.formula

pub loop-number-preserved : goal.loop-number-preserved
loop-number-preserved c = record {
  affordable = below_more (λ (k : ℕ) (s : Specification). IsAffordable s c.args.budget) c.args.batch.now c.loop-number.number c.loop-number.invariant.affordable c.in_default.ensures.affordable;
  kept = kept_more c.args.batch.now c.loop-number.number c.loop-number.plans.items c.find_plan.new.plans.items c.loop-number.invariant.kept c.in_default.ensures.kept;
}

pub returns-clause-affordable : goal.returns-clause-affordable
returns-clause-affordable c = λ k s less at.
    c.loop-number.invariant.affordable k s (omega (arith, less, c.loop-number-test.false, c.len-count.ensures.count)) at
