use Rattle.std.proofs.Common.{refl, ap, ◌∙◌, inl, Err, codes}
use Rattle.std.proofs.lemmas.Result.{err_from_is_err_and, IfOk-weaker, IfErr-weaker}
use Rattle.tce_outside.proofs.Causes.{cause_as, told_as, cause_since, told_after}
use Rattle.tce_command.proofs.Outcomes.{ok_no_disk}
use Rattle.tce_plan.proofs.Judged.{verified, refused, written_for, is_disk, as_disk, is_err_disk}
use Rattle.tce_plan.proofs.Names.{short}
use Rattle.tce_plan.proofs.verification.verify.Goals as goal

pub read_source-requires : goal.read_source-requires
read_source-requires g c = short (codes ".tce") c.args.spec.now c.requires.spec

pub returns-in_err-source-clause-refused : goal.returns-in_err-source-clause-refused
returns-in_err-source-clause-refused g c =
    let p = err_from_is_err_and c.from_residual.result c.from_residual.ensures.1 in
    rw (p.1, p.2) (inl c.in_err-source.ensures.refused.0, λ files told. inl (c.in_err-source.ensures.refused.1 files told))

pub returns-in_err-source-clause-line : goal.returns-in_err-source-clause-line
returns-in_err-source-clause-line g c =
    let p = err_from_is_err_and c.from_residual.result c.from_residual.ensures.1 in
    rw (p.1, p.2) tt

pub returns-in_err-source-clause-fault_reported : goal.returns-in_err-source-clause-fault_reported
returns-in_err-source-clause-fault_reported g c = record {
  cause =
      let p = err_from_is_err_and c.from_residual.result c.from_residual.ensures.1 in
      cause_as _ _ (λ failed. ap Err (is_disk c.from_residual.result p.0 _ p.1 p.2 failed)) c.in_err-source.ensures.fault_reported.cause;
  quiet =
      let p = err_from_is_err_and c.from_residual.result c.from_residual.ensures.1 in
      told_as _ _ (λ e. as_disk c.from_residual.result p.0 _ p.1 p.2 (is_err_disk _ _ refl e)) c.in_err-source.ensures.fault_reported.quiet;
}

pub verify_file-verified-requires : goal.verify_file-verified-requires
verify_file-verified-requires g c = short (codes ".cert") c.args.cert.now c.requires.cert

pub returns-clause-done : goal.returns-clause-done
returns-clause-done g c =
    IfOk-weaker c.verify_file-verified.result _ _
    (λ report found. verified (g.D.Disk.files c.args.disk.now) _ c.args.spec.now c.args.cert.now c.in_ok-source.source _ c.in_ok-source.ensures.same c.in_ok-source.ensures.read found) c.verify_file-verified.ensures.done

pub returns-clause-refused : goal.returns-clause-refused
returns-clause-refused g c =
    IfErr-weaker c.verify_file-verified.result _ _
    (λ refusal found. refused (g.D.Disk.files c.args.disk.now) c.args.spec.now c.args.cert.now c.in_ok-source.source refusal c.in_ok-source.ensures.read
    (found.0, λ files told. found.1 files (c.in_ok-source.ensures.same ∙ told))) c.verify_file-verified.ensures.refused

pub returns-clause-line : goal.returns-clause-line
returns-clause-line g c =
    IfErr-weaker c.verify_file-verified.result _ _
    (λ refusal written. written_for (g.D.Disk.files c.args.disk.now) c.args.spec.now c.in_ok-source.source refusal c.in_ok-source.ensures.read written) c.verify_file-verified.ensures.line

pub returns-clause-fault_reported : goal.returns-clause-fault_reported
returns-clause-fault_reported g c = record {
  cause = cause_since _ _ _ c.in_ok-source.ensures.fault_reported.cause.later c.verify_file-verified.ensures.fault_reported.cause;
  quiet = told_after _ _ _ (c.in_ok-source.ensures.fault_reported.quiet (ok_no_disk _ _ refl)) c.verify_file-verified.ensures.fault_reported.quiet;
}
