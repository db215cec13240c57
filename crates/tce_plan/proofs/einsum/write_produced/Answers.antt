use Rattle.std.proofs.Common.{refl}
use Rattle.std.proofs.lemmas.Result.{IfOk-from_err, err_from_is_err_and}
use Rattle.tce_outside.proofs.Causes.{answered_quiet}
use Rattle.tce_command.proofs.Refused.{cause_for, told_for}
use Rattle.tce_command.proofs.Outcomes.{ok_no_disk}
use Rattle.tce_plan.proofs.einsum.write_produced.Goals as goal

pub returns-in_err-save-clause-done : goal.returns-in_err-save-clause-done
returns-in_err-save-clause-done g c = IfOk-from_err c.from_residual.result _ c.from_residual.ensures.0

pub returns-in_err-save-clause-free : goal.returns-in_err-save-clause-free
returns-in_err-save-clause-free g c =
    let p = err_from_is_err_and c.from_residual.result c.from_residual.ensures.1 in
    rw (p.1, p.2) c.in_err-save.ensures.free

pub returns-in_err-save-clause-unchanged : goal.returns-in_err-save-clause-unchanged
returns-in_err-save-clause-unchanged g c =
    let p = err_from_is_err_and c.from_residual.result c.from_residual.ensures.1 in
    rw (p.1, p.2) c.in_err-save.ensures.unchanged

pub returns-in_err-save-clause-others : goal.returns-in_err-save-clause-others
returns-in_err-save-clause-others g c = c.save.ensures.others

pub returns-in_err-save-clause-fault_reported : goal.returns-in_err-save-clause-fault_reported
returns-in_err-save-clause-fault_reported g c = record {
  cause =
      let p = err_from_is_err_and c.from_residual.result c.from_residual.ensures.1 in
      rw (p.1, p.2) (cause_for _ _ c.in_err-save.field-0.0 c.in_err-save.ensures.fault_reported.cause);
  quiet =
      let p = err_from_is_err_and c.from_residual.result c.from_residual.ensures.1 in
      rw (p.1, p.2) (told_for _ _ c.in_err-save.field-0.0 c.in_err-save.ensures.fault_reported.quiet);
}

pub returns-clause-others : goal.returns-clause-others
returns-clause-others g c = c.save.ensures.others

pub returns-clause-fault_reported : goal.returns-clause-fault_reported
returns-clause-fault_reported g c = record {
  cause = record { later = c.save.ensures.fault_reported.cause.later; rose = λ failed. absurd (ok_no_disk _ _ refl failed) };
  quiet = λ none. answered_quiet _ _ _ _ refl c.in_ok-save.ensures.fault_reported.quiet;
}
