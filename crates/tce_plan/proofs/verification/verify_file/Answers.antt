use Rattle.std.proofs.Common.{refl, subst, ap, ℕ, List, Err}
use Rattle.std.specs.String.{string_bytes}
use Rattle.std.proofs.lemmas.Result.{err_from_is_err_and, IfOk-weaker, IfErr-weaker}
use Rattle.tce_outside.proofs.Causes.{cause_as, told_as}
use Rattle.tce_command.proofs.Outcomes.{ok_no_disk}
use Rattle.tce_plan.specs.Judging.{IsJudgement}
use Rattle.tce_plan.specs.OfFile.{IsVerifiedText}
use Rattle.tce_plan.proofs.Judged.{file_verified, file_refused, written_over, no_fault, is_disk, as_disk, is_err_disk}
use Rattle.tce_plan.proofs.verification.verify_file.Goals as goal

pub returns-in_err-text-clause-refused : goal.returns-in_err-text-clause-refused
returns-in_err-text-clause-refused g c =
    let p = err_from_is_err_and c.from_residual.result c.from_residual.ensures.1 in
    rw (p.1, p.2) c.in_err-text.ensures.refused

pub returns-in_err-text-clause-line : goal.returns-in_err-text-clause-line
returns-in_err-text-clause-line g c =
    let p = err_from_is_err_and c.from_residual.result c.from_residual.ensures.1 in
    rw (p.1, p.2) tt

pub returns-in_err-text-clause-fault_reported : goal.returns-in_err-text-clause-fault_reported
returns-in_err-text-clause-fault_reported g c = record {
  cause =
      let p = err_from_is_err_and c.from_residual.result c.from_residual.ensures.1 in
      cause_as _ _ (λ failed. ap Err (is_disk c.from_residual.result p.0 _ p.1 p.2 failed)) c.in_err-text.ensures.fault_reported.cause;
  quiet =
      let p = err_from_is_err_and c.from_residual.result c.from_residual.ensures.1 in
      told_as _ _ (λ e. as_disk c.from_residual.result p.0 _ p.1 p.2 (is_err_disk _ _ refl e)) c.in_err-text.ensures.fault_reported.quiet;
}

pub returns-clause-done : goal.returns-clause-done
returns-clause-done g c =
    IfOk-weaker c.text_report-verified.result _ _
    (λ report found. file_verified (g.D.Disk.files c.args.disk.now) c.args.cert.now c.args.spec.now c.in_ok-text.text.items (string_bytes report) c.in_ok-text.ensures.bytes
    (subst (λ (text : List ℕ). IsVerifiedText c.args.spec.now text (string_bytes report)) c.deref.ensures.value found)) c.text_report-verified.ensures.done

pub returns-clause-refused : goal.returns-clause-refused
returns-clause-refused g c =
    IfErr-weaker c.text_report-verified.result _ _
    (λ refusal found. file_refused (g.D.Disk.files c.args.disk.now) c.args.cert.now c.args.spec.now c.in_ok-text.text.items refusal c.in_ok-text.ensures.bytes
    (subst (λ (text : List ℕ). IsJudgement c.args.spec.now text refusal) c.deref.ensures.value found)) c.text_report-verified.ensures.refused

pub returns-clause-line : goal.returns-clause-line
returns-clause-line g c = IfErr-weaker c.text_report-verified.result _ _ (written_over c.args.spec.now c.deref.result.now) c.text_report-verified.ensures.refused

pub returns-clause-fault_reported : goal.returns-clause-fault_reported
returns-clause-fault_reported g c = record {
  cause = cause_as _ _ (λ failed. absurd (no_fault c.text_report-verified.result c.args.spec.now c.deref.result.now c.text_report-verified.ensures.refused failed)) c.in_ok-text.ensures.fault_reported.cause;
  quiet = λ none. c.in_ok-text.ensures.fault_reported.quiet (ok_no_disk _ _ refl);
}
