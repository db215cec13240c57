use Rattle.std.proofs.Common.{Option, refl, sym, ap, subst, inl, inr, ◌∙◌}
use Rattle.std.specs.Prelude.{OnOk}
use Rattle.std.proofs.lemmas.Result.{IfOk-from_err, err_from_is_err_and}
use Rattle.tce_outside.specs.Files.{Files, others}
use Rattle.tce_outside.proofs.Causes.{cause_as, answered_quiet, cause_since}
use Rattle.tce_job.specs.Opened.{AreOpenedOn}
use Rattle.tce_job.specs.TensorFiles.{file_of}
use Rattle.tce_job.specs.Laws.{LeavesNoHalfResult}
use Rattle.tce_job.specs.Told.{FailsOrKeeps, ResultAlone, WritesResult}
use Rattle.tce_job.proofs.Causes.{one_reason, granted, can_run}
use Rattle.tce_job.proofs.Answered.{exact, same_fault, granted_free, refused_free, able_to, reported, room_of}
use Rattle.tce_job.proofs.Ended.{same_is_no_half}
use Rattle.tce_job.proofs.Made.{room_as_it_was}
use Rattle.tce_job.proofs.run.run_job.Goals as goal

pub returns-in_err-plan-clause-exactly : goal.returns-in_err-plan-clause-exactly
returns-in_err-plan-clause-exactly g c =
    let p = err_from_is_err_and c.from_residual.result c.from_residual.ensures.1 in
    rw (p.1, p.2) (λ due free cause. one_reason (g.D.Disk.files c.args.disk.now) c.args.spec.now c.args.budget c.in_err-plan.field-0.0 due c.in_err-plan.ensures.refused free cause)

pub returns-in_err-plan-clause-granted : goal.returns-in_err-plan-clause-granted
returns-in_err-plan-clause-granted g c =
    let p = err_from_is_err_and c.from_residual.result c.from_residual.ensures.1 in
    rw (p.1, p.2) (granted (g.D.Disk.files c.args.disk.now) c.args.spec.now c.args.budget c.in_err-plan.field-0.0 c.in_err-plan.ensures.refused)

pub returns-clause-told : goal.returns-clause-told
returns-clause-told g c =
    subst (λ (told : Option Files). OnOk c.run_by.result (WritesResult c.args.spec.now told (g.D.Disk.files c.run_by.new.disk))) c.in_ok-plan.ensures.same c.run_by.ensures.told

pub returns-clause-reported : goal.returns-clause-reported
returns-clause-reported g c = reported c.args.spec.now c.args.budget c.in_ok-plan.plan _ _ c.run_by.result c.in_ok-plan.ensures.plan c.run_by.ensures.taken c.run_by.ensures.report

pub returns-clause-able : goal.returns-clause-able
returns-clause-able g c = able_to (g.D.Disk.files c.args.disk.now) c.args.spec.now c.args.budget c.in_ok-plan.forms.0 c.run_by.result c.in_ok-plan.ensures.affordable c.in_ok-plan.ensures.opened

pub returns-clause-tested : goal.returns-clause-tested
returns-clause-tested g c = inr (can_run (g.D.Disk.files c.args.disk.now) c.args.spec.now c.args.budget c.in_ok-plan.forms.0 c.in_ok-plan.ensures.affordable c.in_ok-plan.ensures.opened)

pub returns-clause-refused : goal.returns-clause-refused
returns-clause-refused g c = refused_free (g.D.Disk.files c.args.disk.now) c.args.spec.now c.args.budget c.run_by.result c.run_by.ensures.free

pub returns-clause-exactly : goal.returns-clause-exactly
returns-clause-exactly g c =
    exact (g.D.Disk.files c.args.disk.now) c.args.spec.now c.args.budget c.in_ok-plan.forms.0 c.run_by.result c.in_ok-plan.ensures.affordable c.in_ok-plan.ensures.opened c.run_by.ensures.free

pub returns-clause-granted : goal.returns-clause-granted
returns-clause-granted g c = granted_free (g.D.Disk.files c.args.disk.now) c.args.spec.now c.args.budget c.run_by.result c.run_by.ensures.free

pub returns-clause-fault_reported : goal.returns-clause-fault_reported
returns-clause-fault_reported g c = record {
  cause = cause_since _ _ _ c.in_ok-plan.ensures.fault_reported.cause.later c.run_by.ensures.fault_reported.cause;
  quiet = λ none. c.run_by.ensures.fault_reported.quiet none ∙ answered_quiet _ _ (c.in_ok-plan.plan, c.in_ok-plan.forms) _ refl c.in_ok-plan.ensures.fault_reported.quiet;
}

pub returns-clause-unchanged : goal.returns-clause-unchanged
returns-clause-unchanged g c =
    subst (λ (told : Option Files). FailsOrKeeps c.run_by.result told (g.D.Disk.files c.run_by.new.disk)) c.in_ok-plan.ensures.same c.run_by.ensures.unchanged

pub returns-clause-no_half : goal.returns-clause-no_half
returns-clause-no_half g c =
    subst (λ (told : Option Files). LeavesNoHalfResult c.args.spec.now told (g.D.Disk.files c.run_by.new.disk)) c.in_ok-plan.ensures.same c.run_by.ensures.no_half

pub returns-clause-takings : goal.returns-clause-takings
returns-clause-takings g c = room_of c.args.spec.now c.args.budget c.in_ok-plan.plan _ _ c.run_by.result c.in_ok-plan.ensures.plan c.run_by.ensures.free c.run_by.ensures.takings

pub returns-clause-others : goal.returns-clause-others
returns-clause-others g c =
    subst (λ (told : Option Files). ResultAlone c.args.spec.now told (g.D.Disk.files c.run_by.new.disk)) c.in_ok-plan.ensures.same c.run_by.ensures.others

pub returns-in_err-plan-clause-told : goal.returns-in_err-plan-clause-told
returns-in_err-plan-clause-told g c = IfOk-from_err c.from_residual.result _ c.from_residual.ensures.0

pub returns-in_err-plan-clause-reported : goal.returns-in_err-plan-clause-reported
returns-in_err-plan-clause-reported g c = IfOk-from_err c.from_residual.result _ c.from_residual.ensures.0

pub returns-in_err-plan-clause-able : goal.returns-in_err-plan-clause-able
returns-in_err-plan-clause-able g c = IfOk-from_err c.from_residual.result _ c.from_residual.ensures.0

pub returns-in_err-plan-clause-tested : goal.returns-in_err-plan-clause-tested
returns-in_err-plan-clause-tested g c = inl refl

pub returns-in_err-plan-clause-refused : goal.returns-in_err-plan-clause-refused
returns-in_err-plan-clause-refused g c =
    let p = err_from_is_err_and c.from_residual.result c.from_residual.ensures.1 in
    rw (p.1, p.2) c.in_err-plan.ensures.refused

pub returns-in_err-plan-clause-unchanged : goal.returns-in_err-plan-clause-unchanged
returns-in_err-plan-clause-unchanged g c =
    let p = err_from_is_err_and c.from_residual.result c.from_residual.ensures.1 in
    rw (p.1, p.2) (inr c.tested.ensures.same)

pub returns-in_err-plan-clause-takings : goal.returns-in_err-plan-clause-takings
returns-in_err-plan-clause-takings g c =
    let p = err_from_is_err_and c.from_residual.result c.from_residual.ensures.1 in
    rw (p.1, p.2) (room_as_it_was c.in_err-plan.field-0.0 c.args.spec.now c.args.budget (g.R.Room.takings c.args.room.now))

pub returns-in_err-plan-clause-fault_reported : goal.returns-in_err-plan-clause-fault_reported
returns-in_err-plan-clause-fault_reported g c = record {
  cause =
      let p = err_from_is_err_and c.from_residual.result c.from_residual.ensures.1 in
      rw (p.1, p.2) (cause_as _ _ (same_fault c.in_err-plan.field-0.0 _ _ refl refl) c.in_err-plan.ensures.fault_reported.cause);
  quiet =
      let p = err_from_is_err_and c.from_residual.result c.from_residual.ensures.1 in
      rw (p.1, p.2) (λ none. c.in_err-plan.ensures.fault_reported.quiet (λ failed. none (same_fault c.in_err-plan.field-0.0 _ _ refl refl failed)));
}

pub returns-in_err-plan-clause-no_half : goal.returns-in_err-plan-clause-no_half
returns-in_err-plan-clause-no_half g c = same_is_no_half c.args.spec.now (g.D.Disk.files c.args.disk.now) (g.D.Disk.files c.tested.new.disk) c.tested.ensures.same

pub returns-in_err-plan-clause-others : goal.returns-in_err-plan-clause-others
returns-in_err-plan-clause-others g c = ap (others (file_of c.args.spec.now c.args.spec.now.result)) c.tested.ensures.same

pub run_by-requires-clause-enough : goal.run_by-requires-clause-enough
run_by-requires-clause-enough g c = c.in_ok-plan.ensures.affordable.enough

pub run_by-requires-clause-limit : goal.run_by-requires-clause-limit
run_by-requires-clause-limit g c = c.requires

pub run_by-requires-clause-small : goal.run_by-requires-clause-small
run_by-requires-clause-small g c = c.in_ok-plan.ensures.small

pub run_by-requires-clause-opened : goal.run_by-requires-clause-opened
run_by-requires-clause-opened g c =
    subst (λ (told : Option Files). AreOpenedOn told c.args.spec.now c.in_ok-plan.forms.0) (sym c.tested.ensures.same) c.in_ok-plan.ensures.opened
