use Rattle.std.proofs.Common.{◌∙◌, ap, rules}
use Rattle.std.proofs.lemmas.Result.{IfOk-weaker, IfErr-weaker, IfOk-from_err, err_from_is_err_and}
use Rattle.tce_outside.specs.Files.{others}
use Rattle.tce_outside.proofs.Causes.{cause_since}
use Rattle.tce_command.proofs.Refused.{cause_for, told_for}
use Rattle.tce_command.specs.declared.refusal.Refusal.TheVariants.{Disk}
use Rattle.tce_plan.proofs.Free.{free_of_source}
use Rattle.tce_plan.proofs.Certified.{certified_source}
use Rattle.tce_plan.proofs.certifying.certify.Goals as goal

pub returns-clause-done : goal.returns-clause-done
returns-clause-done g c =
    IfOk-weaker c.certify_source-done.result _ _ (λ report saved. certified_source (g.D.Disk.files c.args.disk.now) _ _ c.args.spec.now c.args.cert.now _ c.in_ok-source.source c.in_ok-source.ensures.same c.in_ok-source.ensures.read saved)
    c.certify_source-done.ensures.done

pub returns-clause-refused : goal.returns-clause-refused
returns-clause-refused g c = IfErr-weaker c.certify_source-done.result _ _ (free_of_source (g.D.Disk.files c.args.disk.now) c.args.spec.now) c.certify_source-done.ensures.free

pub returns-clause-fault_reported : goal.returns-clause-fault_reported
returns-clause-fault_reported g c = record {
  cause = cause_since _ _ _ c.in_ok-source.ensures.fault_reported.cause.later c.certify_source-done.ensures.fault_reported.cause;
  quiet = λ none. c.certify_source-done.ensures.fault_reported.quiet none ∙ c.in_ok-source.ensures.fault_reported.quiet (search rules);
}

pub returns-in_err-source-clause-done : goal.returns-in_err-source-clause-done
returns-in_err-source-clause-done g c = IfOk-from_err c.from_residual.result _ c.from_residual.ensures.0

pub returns-in_err-source-clause-refused : goal.returns-in_err-source-clause-refused
returns-in_err-source-clause-refused g c =
    let p = err_from_is_err_and c.from_residual.result c.from_residual.ensures.1 in
    rw (p.1, p.2) c.in_err-source.ensures.refused

pub returns-in_err-source-clause-unchanged : goal.returns-in_err-source-clause-unchanged
returns-in_err-source-clause-unchanged g c =
    let p = err_from_is_err_and c.from_residual.result c.from_residual.ensures.1 in
    rw p.1 (λ real. c.in_err-source.ensures.same)

pub returns-in_err-source-clause-others : goal.returns-in_err-source-clause-others
returns-in_err-source-clause-others g c = ap (others c.args.cert.now) c.in_err-source.ensures.same

pub returns-in_err-source-clause-fault_reported : goal.returns-in_err-source-clause-fault_reported
returns-in_err-source-clause-fault_reported g c = record {
  cause =
      let p = err_from_is_err_and c.from_residual.result c.from_residual.ensures.1 in
      rw (p.1, p.2) (cause_for _ _ c.in_err-source.field-0.0 c.in_err-source.ensures.fault_reported.cause);
  quiet =
      let p = err_from_is_err_and c.from_residual.result c.from_residual.ensures.1 in
      rw (p.1, p.2) (told_for _ _ c.in_err-source.field-0.0 c.in_err-source.ensures.fault_reported.quiet);
}

pub returns-clause-unchanged : goal.returns-clause-unchanged
returns-clause-unchanged g c = IfErr-weaker c.certify_source-done.result _ _ (λ refusal keeps real. keeps real ∙ c.in_ok-source.ensures.same) c.certify_source-done.ensures.unchanged

pub returns-clause-others : goal.returns-clause-others
returns-clause-others g c = c.certify_source-done.ensures.others ∙ ap (others c.args.cert.now) c.in_ok-source.ensures.same
