use Rattle.std.proofs.Common.{Option, refl, subst, inl, inr, ap, ◌∙◌, rules}
use Rattle.std.specs.Option.{option_map}
use Rattle.tce_outside.specs.Files.{Files, others}
use Rattle.tce_outside.proofs.Causes.{cause_as, answered_quiet, cause_since}
use Rattle.tce_job.specs.TensorFiles.{file_of}
use Rattle.tce_job.specs.ResultBytes.{with_result}
use Rattle.tce_job.specs.Laws.{LeavesNoHalfResult}
use Rattle.tce_job.proofs.Answered.{same_fault, answered}
use Rattle.tce_job.proofs.Ended.{same_is_no_half}
use Rattle.tce_spill.proofs.PlannedRuns.{can_run, is_small, is_reported, taken_left}
use Rattle.tce_spill.proofs.Causes.{run_fault}
use Rattle.tce_spill.proofs.run.run_one.Goals as goal

pub run_by-requires-clause-plan : goal.run_by-requires-clause-plan
run_by-requires-clause-plan g c = can_run c.args.spec.now c.args.budget c.args.plan c.requires.affordable c.requires.plan

pub run_by-requires-clause-small : goal.run_by-requires-clause-small
run_by-requires-clause-small g c = is_small c.args.spec.now c.args.budget c.args.plan c.requires.affordable c.requires.plan

pub returns-in-Err-clause-unchanged : goal.returns-in-Err-clause-unchanged
returns-in-Err-clause-unchanged g c = inr c.in-Err.ensures.same

pub returns-in-Err-clause-takings : goal.returns-in-Err-clause-takings
returns-in-Err-clause-takings g c = inl refl

pub returns-in-Err-clause-no_half : goal.returns-in-Err-clause-no_half
returns-in-Err-clause-no_half g c = same_is_no_half c.args.spec.now (g.D.Disk.files c.args.disk.now) (g.D.Disk.files c.open_all.new.disk) c.in-Err.ensures.same

pub returns-in-Err-clause-others : goal.returns-in-Err-clause-others
returns-in-Err-clause-others g c = ap (λ (told : Option Files). others (file_of c.args.spec.now c.args.spec.now.result) told) c.in-Err.ensures.same

pub returns-in-Err-clause-fault_reported : goal.returns-in-Err-clause-fault_reported
returns-in-Err-clause-fault_reported g c = record {
  cause = cause_as _ _ (same_fault c.in-Err.fault _ _ refl refl) c.in-Err.ensures.fault_reported.cause;
  quiet = λ none. c.in-Err.ensures.fault_reported.quiet (λ failed. none (same_fault c.in-Err.fault _ _ refl refl failed));
}

pub returns-in-Ok-run_by-clause-told : goal.returns-in-Ok-run_by-clause-told
returns-in-Ok-run_by-clause-told g c = c.in-Ok-run_by.ensures.told ∙ ap (option_map (with_result c.args.spec.now)) c.in-Ok.ensures.same

pub returns-in-Ok-run_by-clause-reported : goal.returns-in-Ok-run_by-clause-reported
returns-in-Ok-run_by-clause-reported g c =
    is_reported c.args.spec.now c.args.budget c.args.plan c.requires.affordable c.requires.plan (g.R.Room.takings c.args.room.now) (g.R.Room.takings c.run_by.new.room) c.in-Ok-run_by.report
    c.in-Ok-run_by.ensures.taken c.in-Ok-run_by.ensures.report

pub returns-in-Ok-run_by-clause-fault_reported : goal.returns-in-Ok-run_by-clause-fault_reported
returns-in-Ok-run_by-clause-fault_reported g c = record {
  cause = cause_since _ _ _ c.in-Ok.ensures.fault_reported.cause.later (cause_as _ _ (answered c.in-Ok-run_by.report _ refl) c.in-Ok-run_by.ensures.fault_reported.cause);
  quiet = λ none.
      answered_quiet _ _ c.in-Ok-run_by.report _ refl c.in-Ok-run_by.ensures.fault_reported.quiet ∙ answered_quiet _ _ c.in-Ok.forms _ refl c.in-Ok.ensures.fault_reported.quiet;
}

pub returns-in-Err-Disk-clause-unchanged : goal.returns-in-Err-Disk-clause-unchanged
returns-in-Err-Disk-clause-unchanged g c = inl refl

pub returns-in-Err-Disk-clause-fault_reported : goal.returns-in-Err-Disk-clause-fault_reported
returns-in-Err-Disk-clause-fault_reported g c = record {
  cause = search rules;
  quiet = λ none. absurd (none refl);
}

pub returns-in-Err-Disk-clause-takings : goal.returns-in-Err-Disk-clause-takings
returns-in-Err-Disk-clause-takings g c =
    taken_left c.args.spec.now c.args.budget c.args.plan c.requires.affordable c.requires.plan (g.R.Room.takings c.args.room.now) (g.R.Room.takings c.run_by.new.room) c.in-Err-Disk.ensures.takings

pub returns-in-Ok-run_by-clause-no_half : goal.returns-in-Ok-run_by-clause-no_half
returns-in-Ok-run_by-clause-no_half g c =
    subst (λ (told : Option Files). LeavesNoHalfResult c.args.spec.now told (g.D.Disk.files c.run_by.new.disk)) c.in-Ok.ensures.same c.run_by.ensures.no_half

pub returns-in-Ok-run_by-clause-others : goal.returns-in-Ok-run_by-clause-others
returns-in-Ok-run_by-clause-others g c = c.run_by.ensures.others ∙ ap (λ (told : Option Files). others (file_of c.args.spec.now c.args.spec.now.result) told) c.in-Ok.ensures.same

pub returns-in-Err-Disk-clause-no_half : goal.returns-in-Err-Disk-clause-no_half
returns-in-Err-Disk-clause-no_half g c =
    subst (λ (told : Option Files). LeavesNoHalfResult c.args.spec.now told (g.D.Disk.files c.run_by.new.disk)) c.in-Ok.ensures.same c.run_by.ensures.no_half

pub returns-in-Err-Disk-clause-others : goal.returns-in-Err-Disk-clause-others
returns-in-Err-Disk-clause-others g c = c.run_by.ensures.others ∙ ap (λ (told : Option Files). others (file_of c.args.spec.now c.args.spec.now.result) told) c.in-Ok.ensures.same

pub returns-in-Err-clause-refused : goal.returns-in-Err-clause-refused
returns-in-Err-clause-refused g c = run_fault (g.D.Disk.files c.args.disk.now) c.args.spec.now c.in-Err.fault c.requires.operands c.in-Err.ensures.refused

pub run_by-requires-clause-enough : goal.run_by-requires-clause-enough
run_by-requires-clause-enough g c = c.requires.affordable.enough

pub run_by-requires-clause-limit : goal.run_by-requires-clause-limit
run_by-requires-clause-limit g c = c.requires.budget
