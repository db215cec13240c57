use Rattle.std.proofs.Common.{refl}
use Rattle.tce_outside.proofs.Causes.{cause_as, answered_quiet}
use Rattle.tce_job.specs.Refusals.{MayBeRefused}
use Rattle.tce_job.proofs.Causes.{names_declared}
use Rattle.tce_run.proofs.Told.{of_files, told_failure, told_no_failure, answered}
use Rattle.tce_run.proofs.command.run_source.Goals as goal

pub returns-in-Ok-clause-done : goal.returns-in-Ok-clause-done
returns-in-Ok-clause-done g c = record {
  able = c.in-Ok.ensures.able;
  written = c.in-Ok.ensures.told;
  report = c.in-Ok.report;
  reported = c.in-Ok.ensures.reported;
  text_is = c.into_vec.ensures;
}

pub returns-in-Ok-clause-no_half : goal.returns-in-Ok-clause-no_half
returns-in-Ok-clause-no_half g c = c.run_job.ensures.no_half

pub returns-in-Ok-clause-others : goal.returns-in-Ok-clause-others
returns-in-Ok-clause-others g c = c.run_job.ensures.others

pub returns-in-Ok-clause-fault_reported : goal.returns-in-Ok-clause-fault_reported
returns-in-Ok-clause-fault_reported g c = record {
  cause = cause_as _ _ (answered c.into_vec.result _ refl) c.in-Ok.ensures.fault_reported.cause;
  quiet = λ none. answered_quiet _ _ c.in-Ok.report _ refl c.in-Ok.ensures.fault_reported.quiet;
}

pub refusal_of-requires-clause-declared : goal.refusal_of-requires-clause-declared
refusal_of-requires-clause-declared g c = names_declared (g.D.Disk.files c.args.disk.now) c.args.source.now c.args.budget c.in-Err.fault c.in-Err.ensures.refused

pub refusal_of-requires-clause-of_files : goal.refusal_of-requires-clause-of_files
refusal_of-requires-clause-of_files g c = of_files (MayBeRefused (g.D.Disk.files c.args.disk.now) c.args.source.now) c.args.source.now c.args.budget c.in-Err.fault c.in-Err.ensures.refused

pub returns-in-Err-clause-refused : goal.returns-in-Err-clause-refused
returns-in-Err-clause-refused g c = record {
  fault = c.in-Err.fault;
  told = c.refusal_of.ensures;
  cause = c.in-Err.ensures.refused;
  unchanged = c.in-Err.ensures.unchanged;
  tested = c.run_job.ensures.tested;
  room = c.in-Err.ensures.takings;
}

pub returns-in-Err-clause-no_half : goal.returns-in-Err-clause-no_half
returns-in-Err-clause-no_half g c = c.run_job.ensures.no_half

pub returns-in-Err-clause-others : goal.returns-in-Err-clause-others
returns-in-Err-clause-others g c = c.run_job.ensures.others

pub returns-in-Err-clause-fault_reported : goal.returns-in-Err-clause-fault_reported
returns-in-Err-clause-fault_reported g c = record {
  cause = cause_as _ _ (told_failure c.args.source.now c.in-Err.fault c.refusal_of.result _ _ refl refl c.refusal_of.ensures) c.in-Err.ensures.fault_reported.cause;
  quiet = λ none. c.in-Err.ensures.fault_reported.quiet (told_no_failure c.args.source.now c.in-Err.fault c.refusal_of.result _ _ refl refl c.refusal_of.ensures none);
}
