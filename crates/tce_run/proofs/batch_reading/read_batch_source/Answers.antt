use Rattle.std.proofs.Common.{◌≡◌, refl, sym, subst, List, Some, Result}
use Rattle.std.proofs.lemmas.Result.{IfOk-from_err, err_from_is_err_and}
use Rattle.tce_outside.specs.Files.{file}
use Rattle.tce_command.proofs.Refused.{cause_for, told_for}
use Rattle.tce_spec.specs.Faults.{Fault}
use Rattle.tce_spec.specs.declared.fault.SpecFault.TheVariants.{Memory}
use Rattle.tce_spec.specs.Specification.{Specification}
use Rattle.tce_batch.specs.Outcome.{IsBatchOutcome}
use Rattle.tce_command.proofs.Outcomes.{ok_no_disk}
use Rattle.tce_command.proofs.Read.{memory_no_disk, text_no_disk, not_true}
use Rattle.tce_run.proofs.BatchRead.{formulas_specified, formulas_faulty, may_unread_batch, unread_batch}
use Rattle.tce_run.proofs.batch_reading.read_batch_source.Goals as goal

pub returns-in_err-text-clause-refused : goal.returns-in_err-text-clause-refused
returns-in_err-text-clause-refused g c =
    let p = err_from_is_err_and c.from_residual.result c.from_residual.ensures.1 in
    rw (p.1, p.2) (may_unread_batch c.args.name.now c.in_err-text.field-0.0 c.in_err-text.ensures.refused.0, λ files told. unread_batch c.args.name.now (file files c.args.name.now) c.in_err-text.field-0.0 (c.in_err-text.ensures.refused.1 files told))

pub returns-in-Ok-clause-read : goal.returns-in-Ok-clause-read
returns-in-Ok-clause-read g c = λ files told.
    formulas_specified (file files c.args.name.now) c.in_ok-text.text.items c.in-Ok.batch (c.in_ok-text.ensures.bytes files told)
    (λ outcome is. c.in-Ok.ensures outcome (subst (λ t. IsBatchOutcome t outcome) (sym c.deref.ensures.value) is))

pub returns-clause-refused : goal.returns-clause-refused
returns-clause-refused g c =
    let real = λ (memory : c.in-Err.fault ≡ Memory). not_true _ c.if-is_memory.false (c.is_memory.ensures.1 memory) in
    let answers = λ (outcome : Result (List Specification) Fault) (is : IsBatchOutcome c.in_ok-text.text.items outcome). c.in-Err.ensures outcome (subst (λ t. IsBatchOutcome t outcome) (sym c.deref.ensures.value) is) in (
      (c.in_ok-text.text.items, formulas_faulty (Some c.in_ok-text.text.items) c.in_ok-text.text.items c.in-Err.fault refl real answers),
      λ files told. formulas_faulty (file files c.args.name.now) c.in_ok-text.text.items c.in-Err.fault (c.in_ok-text.ensures.bytes files told) real answers,
    )

pub returns-in_err-text-clause-read : goal.returns-in_err-text-clause-read
returns-in_err-text-clause-read g c = IfOk-from_err c.from_residual.result _ c.from_residual.ensures.0

pub returns-in_err-text-clause-same : goal.returns-in_err-text-clause-same
returns-in_err-text-clause-same g c = c.in_err-text.ensures.same

pub returns-in_err-text-clause-fault_reported : goal.returns-in_err-text-clause-fault_reported
returns-in_err-text-clause-fault_reported g c = record {
  cause =
      let p = err_from_is_err_and c.from_residual.result c.from_residual.ensures.1 in
      rw (p.1, p.2) (cause_for _ _ c.in_err-text.field-0.0 c.in_err-text.ensures.fault_reported.cause);
  quiet =
      let p = err_from_is_err_and c.from_residual.result c.from_residual.ensures.1 in
      rw (p.1, p.2) (told_for _ _ c.in_err-text.field-0.0 c.in_err-text.ensures.fault_reported.quiet);
}

pub returns-in-Ok-clause-same : goal.returns-in-Ok-clause-same
returns-in-Ok-clause-same g c = c.in_ok-text.ensures.same

pub returns-in-Ok-clause-fault_reported : goal.returns-in-Ok-clause-fault_reported
returns-in-Ok-clause-fault_reported g c = record {
  cause = record { later = c.in_ok-text.ensures.fault_reported.cause.later; rose = λ failed. absurd (ok_no_disk _ _ refl failed) };
  quiet = λ none. c.in_ok-text.ensures.fault_reported.quiet (ok_no_disk _ _ refl);
}

pub returns-in-Err-clause-same : goal.returns-in-Err-clause-same
returns-in-Err-clause-same g c = c.in_ok-text.ensures.same

pub returns-in-Err-clause-fault_reported : goal.returns-in-Err-clause-fault_reported
returns-in-Err-clause-fault_reported g c = record {
  cause = record { later = c.in_ok-text.ensures.fault_reported.cause.later; rose = λ failed. absurd (memory_no_disk _ refl failed) };
  quiet = λ none. c.in_ok-text.ensures.fault_reported.quiet (ok_no_disk _ _ refl);
}

pub returns-clause-same : goal.returns-clause-same
returns-clause-same g c = c.in_ok-text.ensures.same

pub returns-clause-fault_reported : goal.returns-clause-fault_reported
returns-clause-fault_reported g c = record {
  cause = record { later = c.in_ok-text.ensures.fault_reported.cause.later; rose = λ failed. absurd (text_no_disk _ _ refl failed) };
  quiet = λ none. c.in_ok-text.ensures.fault_reported.quiet (ok_no_disk _ _ refl);
}
