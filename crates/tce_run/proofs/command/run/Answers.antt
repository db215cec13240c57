use Rattle.std.proofs.Common.{inl, inr, refl, ◌∙◌}
use Rattle.std.proofs.lemmas.Result.{IfOk-from_err, err_from_is_err_and, IfOk-weaker, IfErr-weaker}
use Rattle.tce_outside.proofs.Causes.{cause_as, answered_quiet, cause_since}
use Rattle.tce_job.proofs.Answered.{same_fault}
use Rattle.tce_run.proofs.Ran.{ran, refused, left_unchanged, left_room, others_stay}
use Rattle.tce_run.proofs.command.run.Goals as goal

pub returns-clause-done : goal.returns-clause-done
returns-clause-done g c =
    IfOk-weaker c.run_source-ran.result _ _
    (λ report done. ran (g.D.Disk.files c.args.disk.now) _ _ _ _ c.args.spec.now c.args.budget c.in_ok-source.source _ c.in_ok-source.ensures.same c.in_ok-source.ensures.read done) c.run_source-ran.ensures.done

pub returns-clause-refused : goal.returns-clause-refused
returns-clause-refused g c =
    IfErr-weaker c.run_source-ran.result _ _
    (λ refusal fault. refused (g.D.Disk.files c.args.disk.now) _ _ _ _ c.args.spec.now c.args.budget c.in_ok-source.source refusal c.in_ok-source.ensures.same c.in_ok-source.ensures.read fault) c.run_source-ran.ensures.refused

pub returns-clause-unchanged : goal.returns-clause-unchanged
returns-clause-unchanged g c =
    IfErr-weaker c.run_source-ran.result _ _ (λ refusal fault. left_unchanged (g.D.Disk.files c.args.disk.now) _ _ _ _ c.args.budget c.in_ok-source.source refusal c.in_ok-source.ensures.same fault) c.run_source-ran.ensures.refused

pub returns-clause-takings : goal.returns-clause-takings
returns-clause-takings g c =
    IfErr-weaker c.run_source-ran.result _ _
    (λ refusal fault. left_room (g.D.Disk.files c.args.disk.now) _ _ _ _ c.args.spec.now c.args.budget c.in_ok-source.source refusal c.in_ok-source.ensures.same c.in_ok-source.ensures.read fault) c.run_source-ran.ensures.refused

pub returns-clause-others : goal.returns-clause-others
returns-clause-others g c =
    others_stay (g.D.Disk.files c.args.disk.now) (g.D.Disk.files c.read_source.new.disk) (g.D.Disk.files c.run_source-ran.new.disk) c.args.spec.now c.in_ok-source.source
    c.in_ok-source.ensures.same c.in_ok-source.ensures.read c.run_source-ran.ensures.others c.run_source-ran.ensures.no_half

pub returns-clause-fault_reported : goal.returns-clause-fault_reported
returns-clause-fault_reported g c = record {
  cause = cause_since _ _ _ c.in_ok-source.ensures.fault_reported.cause.later c.run_source-ran.ensures.fault_reported.cause;
  quiet = λ none. c.run_source-ran.ensures.fault_reported.quiet none ∙ answered_quiet _ _ c.in_ok-source.source _ refl c.in_ok-source.ensures.fault_reported.quiet;
}

pub returns-in_err-source-clause-done : goal.returns-in_err-source-clause-done
returns-in_err-source-clause-done g c = IfOk-from_err c.from_residual.result _ c.from_residual.ensures.0

pub returns-in_err-source-clause-refused : goal.returns-in_err-source-clause-refused
returns-in_err-source-clause-refused g c =
    let p = err_from_is_err_and c.from_residual.result c.from_residual.ensures.1 in
    rw (p.1, p.2) (inl c.in_err-source.ensures.refused.0, λ files is. inl (c.in_err-source.ensures.refused.1 files is))

pub returns-in_err-source-clause-others : goal.returns-in_err-source-clause-others
returns-in_err-source-clause-others g c = inl c.in_err-source.ensures.same

pub returns-in_err-source-clause-fault_reported : goal.returns-in_err-source-clause-fault_reported
returns-in_err-source-clause-fault_reported g c = record {
  cause =
      let p = err_from_is_err_and c.from_residual.result c.from_residual.ensures.1 in
      rw (p.1, p.2) (cause_as _ _ (same_fault c.in_err-source.field-0.0 _ _ refl refl) c.in_err-source.ensures.fault_reported.cause);
  quiet =
      let p = err_from_is_err_and c.from_residual.result c.from_residual.ensures.1 in
      rw (p.1, p.2) (λ none. c.in_err-source.ensures.fault_reported.quiet (λ failed. none (same_fault c.in_err-source.field-0.0 _ _ refl refl failed)));
}

pub run_source-ran-requires : goal.run_source-ran-requires
run_source-ran-requires g c = c.requires.budget

pub returns-in_err-source-clause-unchanged : goal.returns-in_err-source-clause-unchanged
returns-in_err-source-clause-unchanged g c =
    let p = err_from_is_err_and c.from_residual.result c.from_residual.ensures.1 in
    rw (p.1, p.2) (inr c.in_err-source.ensures.same)
