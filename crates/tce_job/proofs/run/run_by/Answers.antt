use Rattle.std.proofs.Common.{refl, sym, subst, inl, inr, ◌∙◌}
use Rattle.std.proofs.lemmas.Bool.{false≢true}
use Rattle.tce_outside.proofs.Causes.{cause_as, answered_quiet, cause_since}
use Rattle.tce_nesting.specs.declared.plan.Plan.{Plan}
use Rattle.tce_job.specs.Laws.{made_result}
use Rattle.tce_job.specs.declared.report.RunReport.{RunReport}
use Rattle.tce_job.specs.Prepared.{IsReport}
use Rattle.tce_job.proofs.Answered.{answered, same_fault}
use Rattle.tce_job.proofs.Ended.{told_before, no_half_before, whole_is_no_half}
use Rattle.std.proofs.lemmas.Result.{IfOk-from_err, err_from_is_err_and}
use Rattle.tce_job.proofs.run.run_by.Goals as goal

pub returns-in-Ok-clause-told : goal.returns-in-Ok-clause-told
returns-in-Ok-clause-told g c =
    told_before c.args.spec.now (g.D.Disk.files c.args.disk.now) (g.D.Disk.files c.begin.new.disk) (g.D.Disk.files c.run_prepared-ran.new.disk) (made_result c.args.spec.now)
    c.space-space.ensures.rules c.in_ok-prepared.ensures.made c.in-Ok.ensures.told

pub returns-in-Ok-clause-report : goal.returns-in-Ok-clause-report
returns-in-Ok-clause-report g c =
    subst (λ (report : RunReport). IsReport c.args.spec.now c.args.budget c.args.planned.plan report) (sym (c.into_report-report.ensures ∙ c.run_prepared-ran.ensures.report))
    (subst (λ (plan : Plan). IsReport c.args.spec.now c.args.budget plan c.in_ok-prepared.prepared.report) c.in_ok-prepared.ensures.plan c.in_ok-prepared.ensures.prepared.report)

pub returns-in-Ok-clause-taken : goal.returns-in-Ok-clause-taken
returns-in-Ok-clause-taken g c = c.in_ok-prepared.ensures.taken

pub returns-in-Ok-clause-others : goal.returns-in-Ok-clause-others
returns-in-Ok-clause-others g c = c.run_prepared-ran.ensures.others ∙ c.begin.ensures.others

pub returns-in-Err-clause-others : goal.returns-in-Err-clause-others
returns-in-Err-clause-others g c = c.run_prepared-ran.ensures.others ∙ c.begin.ensures.others

pub returns-in-Err-clause-unchanged : goal.returns-in-Err-clause-unchanged
returns-in-Err-clause-unchanged g c = inl refl

pub returns-in-Err-clause-takings : goal.returns-in-Err-clause-takings
returns-in-Err-clause-takings g c = inr c.in_ok-prepared.ensures.taken

pub returns-in-Ok-clause-fault_reported : goal.returns-in-Ok-clause-fault_reported
returns-in-Ok-clause-fault_reported g c = record {
  cause = cause_since _ _ _ c.in_ok-prepared.ensures.fault_reported.cause.later (cause_as _ _ (answered c.into_report-report.result _ refl) c.in-Ok.ensures.fault_reported.cause);
  quiet = λ none. c.in-Ok.ensures.fault_reported.quiet false≢true ∙ answered_quiet _ _ c.in_ok-prepared.prepared _ refl c.in_ok-prepared.ensures.fault_reported.quiet;
}

pub returns-in-Err-clause-fault_reported : goal.returns-in-Err-clause-fault_reported
returns-in-Err-clause-fault_reported g c = record {
  cause = cause_since _ _ _ c.in_ok-prepared.ensures.fault_reported.cause.later (cause_as _ _ (λ failed. refl) c.in-Err.ensures.fault_reported.cause);
  quiet = λ none. absurd (none refl);
}

pub returns-in-Err-clause-no_half : goal.returns-in-Err-clause-no_half
returns-in-Err-clause-no_half g c =
    no_half_before c.args.spec.now (g.D.Disk.files c.args.disk.now) (g.D.Disk.files c.begin.new.disk) (g.D.Disk.files c.run_prepared-ran.new.disk)
    c.space-space.ensures.rules c.in_ok-prepared.ensures.made c.in-Err.ensures.no_half

pub returns-in-Ok-clause-no_half : goal.returns-in-Ok-clause-no_half
returns-in-Ok-clause-no_half g c = whole_is_no_half c.args.spec.now (g.D.Disk.files c.args.disk.now) (g.D.Disk.files c.run_prepared-ran.new.disk) (returns-in-Ok-clause-told g c)

pub begin-requires-clause-enough : goal.begin-requires-clause-enough
begin-requires-clause-enough g c = c.requires.enough

pub begin-requires-clause-limit : goal.begin-requires-clause-limit
begin-requires-clause-limit g c = c.requires.limit

pub begin-requires-clause-plan : goal.begin-requires-clause-plan
begin-requires-clause-plan g c = c.requires.plan

pub begin-requires-clause-small : goal.begin-requires-clause-small
begin-requires-clause-small g c = c.requires.small

pub begin-requires-clause-opened : goal.begin-requires-clause-opened
begin-requires-clause-opened g c = c.requires.opened

pub returns-in_err-prepared-clause-told : goal.returns-in_err-prepared-clause-told
returns-in_err-prepared-clause-told g c = IfOk-from_err c.from_residual.result _ c.from_residual.ensures.0

pub returns-in_err-prepared-clause-report : goal.returns-in_err-prepared-clause-report
returns-in_err-prepared-clause-report g c = IfOk-from_err c.from_residual.result _ c.from_residual.ensures.0

pub returns-in_err-prepared-clause-taken : goal.returns-in_err-prepared-clause-taken
returns-in_err-prepared-clause-taken g c = IfOk-from_err c.from_residual.result _ c.from_residual.ensures.0

pub returns-in_err-prepared-clause-free : goal.returns-in_err-prepared-clause-free
returns-in_err-prepared-clause-free g c =
    let p = err_from_is_err_and c.from_residual.result c.from_residual.ensures.1 in
    rw (p.1, p.2) c.in_err-prepared.ensures.free

pub returns-in_err-prepared-clause-unchanged : goal.returns-in_err-prepared-clause-unchanged
returns-in_err-prepared-clause-unchanged g c =
    let p = err_from_is_err_and c.from_residual.result c.from_residual.ensures.1 in
    rw (p.1, p.2) c.in_err-prepared.ensures.unchanged

pub returns-in_err-prepared-clause-takings : goal.returns-in_err-prepared-clause-takings
returns-in_err-prepared-clause-takings g c =
    let p = err_from_is_err_and c.from_residual.result c.from_residual.ensures.1 in
    rw p.1 c.in_err-prepared.ensures.takings

pub returns-in_err-prepared-clause-fault_reported : goal.returns-in_err-prepared-clause-fault_reported
returns-in_err-prepared-clause-fault_reported g c = record {
  cause =
      let p = err_from_is_err_and c.from_residual.result c.from_residual.ensures.1 in
      rw (p.1, p.2) (cause_as _ _ (same_fault c.in_err-prepared.field-0.0 _ _ refl refl) c.in_err-prepared.ensures.fault_reported.cause);
  quiet =
      let p = err_from_is_err_and c.from_residual.result c.from_residual.ensures.1 in
      rw (p.1, p.2) (λ none. c.in_err-prepared.ensures.fault_reported.quiet (λ failed. none (same_fault c.in_err-prepared.field-0.0 _ _ refl refl failed)));
}

pub returns-in_err-prepared-clause-no_half : goal.returns-in_err-prepared-clause-no_half
returns-in_err-prepared-clause-no_half g c = c.begin.ensures.no_half

pub returns-in_err-prepared-clause-others : goal.returns-in_err-prepared-clause-others
returns-in_err-prepared-clause-others g c = c.begin.ensures.others

pub run_prepared-ran-requires : goal.run_prepared-ran-requires
run_prepared-ran-requires g c = c.in_ok-prepared.ensures.begun
