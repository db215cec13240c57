use Rattle.std.proofs.lemmas.Result.{on_ok_weaker}
use Rattle.tce_spec.specs.Specification.{Specification}
use Rattle.tce_job.specs.Refusals.{IsAffordable, IsCause}
use Rattle.tce_batch.proofs.Afforded.{if_err, at_place}
use Rattle.tce_batch.proofs.KeptPlans.{one_more}
use Rattle.tce_batch.proofs.plans.find_plan.Goals as goal

pub returns-clause-affordable : goal.returns-clause-affordable
returns-clause-affordable c =
    on_ok_weaker c.keep_plan-kept.result (λ able s at. at_place (λ (x : Specification). IsAffordable x c.args.budget) c.in-Ok.spec s _ c.in-Ok.ensures able at) c.keep_plan-kept.ensures.affordable

pub returns-clause-kept : goal.returns-clause-kept
returns-clause-kept c =
    on_ok_weaker c.keep_plan-kept.result (λ kept. one_more c.args.batch.now c.args.number c.in-Ok.spec c.args.plans.now.items c.keep_plan-kept.new.plans.items c.in-Ok.ensures kept) c.keep_plan-kept.ensures.kept

pub returns-clause-refused : goal.returns-clause-refused
returns-clause-refused c =
    if_err c.keep_plan-kept.result (λ fault why s at. at_place (λ (x : Specification). IsCause (λ _. ⊥) x c.args.budget fault) c.in-Ok.spec s _ c.in-Ok.ensures why at) c.keep_plan-kept.ensures.refused
