use Rattle.std.proofs.Common.{rules, inl}
use Rattle.std.proofs.lemmas.Result.{IfOk-weaker, IfErr-weaker, IfErr-at_err, IfOk-from_err, err_from_is_err_and}
use Rattle.tce_flat.specs.Refusals.{IsUndeclared}
use Rattle.tce_flat.proofs.Tools.{found_in, undeclared_in}
use Rattle.tce_flat.proofs.May.{may_lack}
use Rattle.tce_command.proofs.Refused.{cause_for, told_for}
use Rattle.tce_flat.proofs.tensor.find_shape.Goals as goal

pub returns-clause-found : goal.returns-clause-found
returns-clause-found g c =
    IfOk-weaker c.shape_named-found.result _ _
    (λ shape there files told. found_in files c.args.spec.now c.args.tensor.now c.in_ok-source.source shape (c.in_ok-source.ensures.read files told) there) c.shape_named-found.ensures.declared

pub returns-clause-refused : goal.returns-clause-refused
returns-clause-refused g c =
    IfErr-weaker c.shape_named-found.result _ _
    (λ a no. (may_lack c.args.spec.now c.args.tensor.now c.in_ok-source.source a no, λ files told. undeclared_in files c.args.spec.now c.args.tensor.now c.in_ok-source.source a (c.in_ok-source.ensures.read files told) no)) c.shape_named-found.ensures.refused

pub returns-clause-fault_reported : goal.returns-clause-fault_reported
returns-clause-fault_reported g c = record {
  cause = record {
    later = c.in_ok-source.ensures.fault_reported.cause.later;
    rose = λ e. absurd (IfErr-at_err (IsUndeclared c.in_ok-source.source c.args.tensor.now) e c.shape_named-found.ensures.refused).1;
  };
  quiet = λ no. c.in_ok-source.ensures.fault_reported.quiet (search rules);
}

pub returns-in_err-source-clause-found : goal.returns-in_err-source-clause-found
returns-in_err-source-clause-found g c = IfOk-from_err c.from_residual.result _ c.from_residual.ensures.0

pub returns-in_err-source-clause-refused : goal.returns-in_err-source-clause-refused
returns-in_err-source-clause-refused g c =
    let p = err_from_is_err_and c.from_residual.result c.from_residual.ensures.1 in
    rw (p.1, p.2) (inl c.in_err-source.ensures.refused.0, λ files told. inl (c.in_err-source.ensures.refused.1 files told))

pub returns-in_err-source-clause-same : goal.returns-in_err-source-clause-same
returns-in_err-source-clause-same g c = c.in_err-source.ensures.same

pub returns-in_err-source-clause-fault_reported : goal.returns-in_err-source-clause-fault_reported
returns-in_err-source-clause-fault_reported g c = record {
  cause =
      let p = err_from_is_err_and c.from_residual.result c.from_residual.ensures.1 in
      rw (p.1, p.2) (cause_for _ _ c.in_err-source.field-0.0 c.in_err-source.ensures.fault_reported.cause);
  quiet =
      let p = err_from_is_err_and c.from_residual.result c.from_residual.ensures.1 in
      rw (p.1, p.2) (told_for _ _ c.in_err-source.field-0.0 c.in_err-source.ensures.fault_reported.quiet);
}
