use Rattle.std.proofs.Common.{refl}
use Rattle.std.proofs.lemmas.Result.{IfOk-from_err, err_from_is_err_and}
use Rattle.tce_outside.proofs.Causes.{cause_as, no_cause, answered_quiet}
use Rattle.tce_job.proofs.Answered.{answered, same_fault}
use Rattle.tce_job.proofs.Causes.{any_refused}
use Rattle.tce_job.proofs.Plans.{opening_cause}
use Rattle.tce_job.proofs.planning.tested.Goals as goal

pub returns-in_err-plan-clause-plan : goal.returns-in_err-plan-clause-plan
returns-in_err-plan-clause-plan g c = IfOk-from_err c.from_residual.result _ c.from_residual.ensures.0

pub returns-in_err-plan-clause-small : goal.returns-in_err-plan-clause-small
returns-in_err-plan-clause-small g c = IfOk-from_err c.from_residual.result _ c.from_residual.ensures.0

pub returns-in_err-plan-clause-affordable : goal.returns-in_err-plan-clause-affordable
returns-in_err-plan-clause-affordable g c = IfOk-from_err c.from_residual.result _ c.from_residual.ensures.0

pub returns-in_err-plan-clause-opened : goal.returns-in_err-plan-clause-opened
returns-in_err-plan-clause-opened g c = IfOk-from_err c.from_residual.result _ c.from_residual.ensures.0

pub returns-in_err-plan-clause-refused : goal.returns-in_err-plan-clause-refused
returns-in_err-plan-clause-refused g c =
    let p = err_from_is_err_and c.from_residual.result c.from_residual.ensures.1 in
    rw (p.1, p.2) (any_refused (g.D.Disk.files c.args.disk.now) c.args.spec.now c.args.budget c.in_err-plan.field-0.0 c.in_err-plan.ensures.refused)

pub returns-in_err-plan-clause-same : goal.returns-in_err-plan-clause-same
returns-in_err-plan-clause-same g c = refl

pub returns-in_err-plan-clause-fault_reported : goal.returns-in_err-plan-clause-fault_reported
returns-in_err-plan-clause-fault_reported g c = record {
  cause =
      let p = err_from_is_err_and c.from_residual.result c.from_residual.ensures.1 in
      rw (p.1, p.2) (no_cause _ _ refl (λ failed. c.in_err-plan.ensures.no_fault (same_fault c.in_err-plan.field-0.0 _ _ refl refl failed)));
  quiet = λ none. refl;
}

pub returns-in-Ok-clause-plan : goal.returns-in-Ok-clause-plan
returns-in-Ok-clause-plan g c = c.in_ok-plan.ensures.plan

pub returns-in-Ok-clause-small : goal.returns-in-Ok-clause-small
returns-in-Ok-clause-small g c = c.in_ok-plan.ensures.small

pub returns-in-Ok-clause-affordable : goal.returns-in-Ok-clause-affordable
returns-in-Ok-clause-affordable g c = c.in_ok-plan.ensures.affordable

pub returns-in-Ok-clause-opened : goal.returns-in-Ok-clause-opened
returns-in-Ok-clause-opened g c = c.in-Ok.ensures.opened

pub returns-in-Ok-clause-same : goal.returns-in-Ok-clause-same
returns-in-Ok-clause-same g c = c.opened_forms.ensures.same

pub returns-in-Ok-clause-fault_reported : goal.returns-in-Ok-clause-fault_reported
returns-in-Ok-clause-fault_reported g c = record {
  cause = cause_as _ _ (answered (c.in_ok-plan.plan, c.in-Ok.forms) _ refl) c.in-Ok.ensures.fault_reported.cause;
  quiet = λ none. answered_quiet _ _ c.in-Ok.forms _ refl c.in-Ok.ensures.fault_reported.quiet;
}

pub returns-in-Err-clause-refused : goal.returns-in-Err-clause-refused
returns-in-Err-clause-refused g c =
    opening_cause (g.D.Disk.files c.args.disk.now) c.args.spec.now c.args.budget c.in-Err.fault c.in_ok-plan.ensures.affordable c.in-Err.ensures.refused

pub returns-in-Err-clause-same : goal.returns-in-Err-clause-same
returns-in-Err-clause-same g c = c.opened_forms.ensures.same

pub returns-in-Err-clause-fault_reported : goal.returns-in-Err-clause-fault_reported
returns-in-Err-clause-fault_reported g c = record {
  cause = cause_as _ _ (same_fault c.in-Err.fault _ _ refl refl) c.in-Err.ensures.fault_reported.cause;
  quiet = λ none. c.in-Err.ensures.fault_reported.quiet (λ failed. none (same_fault c.in-Err.fault _ _ refl refl failed));
}
