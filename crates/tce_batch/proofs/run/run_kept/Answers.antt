use Rattle.std.proofs.Common.{Option, refl, sym, subst, inl, inr, ap, ◌∙◌}
use Rattle.std.specs.Prelude.{OnOk}
use Rattle.tce_outside.specs.Files.{Files, others}
use Rattle.tce_outside.proofs.Causes.{cause_as, no_cause, answered_quiet, cause_since}
use Rattle.tce_job.specs.Opened.{AreOpenedOn}
use Rattle.tce_job.specs.TensorFiles.{file_of}
use Rattle.tce_job.specs.Laws.{LeavesNoHalfResult}
use Rattle.tce_job.specs.Told.{FailsOrKeeps, ResultAlone, WritesResult}
use Rattle.tce_job.proofs.Answered.{same_fault, refused_free, wanting}
use Rattle.tce_job.proofs.Ended.{same_is_no_half}
use Rattle.tce_job.proofs.Plans.{opening_cause}
use Rattle.tce_batch.proofs.Planned.{is_carried, is_small, answer_reported, answer_room_left}
use Rattle.tce_batch.proofs.run.run_kept.Goals as goal

pub run_by-requires-clause-plan : goal.run_by-requires-clause-plan
run_by-requires-clause-plan g c = is_carried c.args.spec.now c.args.kept.now c.in-Ok.plan c.requires.kept c.in-Ok.ensures

pub run_by-requires-clause-small : goal.run_by-requires-clause-small
run_by-requires-clause-small g c = is_small c.args.spec.now c.args.kept.now c.in-Ok.plan c.requires.kept c.in-Ok.ensures

pub returns-in-Ok-opened_forms-clause-reported : goal.returns-in-Ok-opened_forms-clause-reported
returns-in-Ok-opened_forms-clause-reported g c =
    answer_reported c.args.spec.now c.args.kept.now c.in-Ok.plan c.requires.kept c.in-Ok.ensures c.args.budget (g.R.Room.takings c.args.room.now) (g.R.Room.takings c.run_by.new.room) c.run_by.result
    c.run_by.ensures.taken c.run_by.ensures.report

pub returns-in-Ok-opened_forms-clause-refused : goal.returns-in-Ok-opened_forms-clause-refused
returns-in-Ok-opened_forms-clause-refused g c = refused_free (g.D.Disk.files c.args.disk.now) c.args.spec.now c.args.budget c.run_by.result c.run_by.ensures.free

pub returns-in-Ok-opened_forms-clause-takings : goal.returns-in-Ok-opened_forms-clause-takings
returns-in-Ok-opened_forms-clause-takings g c =
    answer_room_left c.args.spec.now c.args.kept.now c.in-Ok.plan c.requires.kept c.in-Ok.ensures c.args.budget (g.R.Room.takings c.args.room.now) (g.R.Room.takings c.run_by.new.room) c.run_by.result
    c.run_by.ensures.free c.run_by.ensures.takings

pub returns-in-Err-clause-refused : goal.returns-in-Err-clause-refused
returns-in-Err-clause-refused g c =
    opening_cause (g.D.Disk.files c.args.disk.now) c.args.spec.now c.args.budget c.in-Err.fault c.requires.affordable c.in-Err.ensures.refused

pub returns-in-Ok-opened_forms-clause-told : goal.returns-in-Ok-opened_forms-clause-told
returns-in-Ok-opened_forms-clause-told g c =
    subst (λ (told : Option Files). OnOk c.run_by.result (WritesResult c.args.spec.now told (g.D.Disk.files c.run_by.new.disk))) c.in-Ok-opened_forms.ensures.same c.run_by.ensures.told

pub returns-in-Ok-opened_forms-clause-unchanged : goal.returns-in-Ok-opened_forms-clause-unchanged
returns-in-Ok-opened_forms-clause-unchanged g c =
    subst (λ (told : Option Files). FailsOrKeeps c.run_by.result told (g.D.Disk.files c.run_by.new.disk)) c.in-Ok-opened_forms.ensures.same c.run_by.ensures.unchanged

pub returns-in-Ok-opened_forms-clause-no_half : goal.returns-in-Ok-opened_forms-clause-no_half
returns-in-Ok-opened_forms-clause-no_half g c =
    subst (λ (told : Option Files). LeavesNoHalfResult c.args.spec.now told (g.D.Disk.files c.run_by.new.disk)) c.in-Ok-opened_forms.ensures.same c.run_by.ensures.no_half

pub returns-in-Ok-opened_forms-clause-others : goal.returns-in-Ok-opened_forms-clause-others
returns-in-Ok-opened_forms-clause-others g c =
    subst (λ (told : Option Files). ResultAlone c.args.spec.now told (g.D.Disk.files c.run_by.new.disk)) c.in-Ok-opened_forms.ensures.same c.run_by.ensures.others

pub returns-in-Ok-opened_forms-clause-fault_reported : goal.returns-in-Ok-opened_forms-clause-fault_reported
returns-in-Ok-opened_forms-clause-fault_reported g c = record {
  cause = cause_since _ _ _ c.in-Ok-opened_forms.ensures.fault_reported.cause.later c.run_by.ensures.fault_reported.cause;
  quiet = λ none. c.run_by.ensures.fault_reported.quiet none ∙ answered_quiet _ _ c.in-Ok-opened_forms.forms _ refl c.in-Ok-opened_forms.ensures.fault_reported.quiet;
}

pub returns-in-Err-clause-unchanged : goal.returns-in-Err-clause-unchanged
returns-in-Err-clause-unchanged g c = inr c.in-Err.ensures.same

pub returns-in-Err-clause-no_half : goal.returns-in-Err-clause-no_half
returns-in-Err-clause-no_half g c = same_is_no_half c.args.spec.now (g.D.Disk.files c.args.disk.now) (g.D.Disk.files c.opened_forms.new.disk) c.in-Err.ensures.same

pub returns-in-Err-clause-others : goal.returns-in-Err-clause-others
returns-in-Err-clause-others g c = ap (λ (told : Option Files). others (file_of c.args.spec.now c.args.spec.now.result) told) c.in-Err.ensures.same

pub returns-in-Err-clause-fault_reported : goal.returns-in-Err-clause-fault_reported
returns-in-Err-clause-fault_reported g c = record {
  cause = cause_as _ _ (same_fault c.in-Err.fault _ _ refl refl) c.in-Err.ensures.fault_reported.cause;
  quiet = λ none. c.in-Err.ensures.fault_reported.quiet (λ failed. none (same_fault c.in-Err.fault _ _ refl refl failed));
}

pub returns-in_default-clause-unchanged : goal.returns-in_default-clause-unchanged
returns-in_default-clause-unchanged g c = inr refl

pub returns-in_default-clause-takings : goal.returns-in_default-clause-takings
returns-in_default-clause-takings g c = inl refl

pub returns-in_default-clause-no_half : goal.returns-in_default-clause-no_half
returns-in_default-clause-no_half g c = same_is_no_half c.args.spec.now (g.D.Disk.files c.args.disk.now) (g.D.Disk.files c.args.disk.now) refl

pub returns-in_default-clause-others : goal.returns-in_default-clause-others
returns-in_default-clause-others g c = refl

pub returns-in_default-clause-fault_reported : goal.returns-in_default-clause-fault_reported
returns-in_default-clause-fault_reported g c = record {
  cause = no_cause _ _ refl (wanting _ refl);
  quiet = λ none. refl;
}

pub run_by-requires-clause-enough : goal.run_by-requires-clause-enough
run_by-requires-clause-enough g c = c.requires.affordable.enough

pub run_by-requires-clause-limit : goal.run_by-requires-clause-limit
run_by-requires-clause-limit g c = c.requires.budget

pub run_by-requires-clause-opened : goal.run_by-requires-clause-opened
run_by-requires-clause-opened g c =
    subst (λ (told : Option Files). AreOpenedOn told c.args.spec.now c.in-Ok-opened_forms.forms.0) (sym c.in-Ok-opened_forms.ensures.same) c.in-Ok-opened_forms.ensures.opened
