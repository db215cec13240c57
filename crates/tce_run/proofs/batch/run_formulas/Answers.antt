use Rattle.std.proofs.Common.{List, ℕ, Err, refl, sym, subst, ap}
use Rattle.tce_outside.proofs.Causes.{cause_as}
use Rattle.tce_batch.specs.Reports.{HasRun}
use Rattle.tce_run.proofs.Told.{refusal_in, answered}
use Rattle.tce_run.proofs.BatchRan.{names_one, names_tensor, of_files_at, failed_told, disk_told_at, told_at}
use Rattle.tce_run.proofs.batch.run_formulas.Goals as goal

pub returns-in-Ok-clause-done : goal.returns-in-Ok-clause-done
returns-in-Ok-clause-done g c = record {
  affordable = c.in-Ok.ensures.affordable;
  sources = c.in-Ok.ensures.sources;
  written = c.in-Ok.ensures.told;
  run = subst (λ (text : List ℕ). HasRun c.args.batch.now c.args.budget (g.R.Room.takings c.args.room.now) (g.R.Room.takings c.run_batch.new.room) text) (sym c.into_vec.ensures) c.in-Ok.ensures.reported;
}

pub returns-in-Ok-clause-others : goal.returns-in-Ok-clause-others
returns-in-Ok-clause-others g c = c.run_batch.ensures.others

pub returns-in-Ok-clause-fault_reported : goal.returns-in-Ok-clause-fault_reported
returns-in-Ok-clause-fault_reported g c = record {
  cause = cause_as _ _ (answered c.into_vec.result _ refl) c.in-Ok.ensures.fault_reported.cause;
  quiet = λ none. c.in-Ok.ensures.fault_reported.quiet (λ failed. failed);
}

pub refusal_over-requires-clause-declared : goal.refusal_over-requires-clause-declared
refusal_over-requires-clause-declared g c =
    names_tensor (g.D.Disk.files c.args.disk.now) c.args.batch.now c.args.budget c.in-Err.refused.formula c.declarations.result.now c.in-Err.refused.fault c.declarations.ensures c.in-Err.ensures.refused

pub refusal_over-requires-clause-of_files : goal.refusal_over-requires-clause-of_files
refusal_over-requires-clause-of_files g c =
    of_files_at (g.D.Disk.files c.args.disk.now) c.args.batch.now c.args.budget c.in-Err.refused.formula c.in-Err.refused.fault c.in-Err.ensures.refused

pub returns-in-Err-clause-refused : goal.returns-in-Err-clause-refused
returns-in-Err-clause-refused g c = record {
  refused = c.in-Err.refused;
  told = told_at c.args.batch.now c.declarations.result.now c.in-Err.refused c.refusal_over.result c.declarations.ensures
      (names_one (g.D.Disk.files c.args.disk.now) c.args.batch.now c.args.budget c.in-Err.refused.formula c.in-Err.refused.fault c.in-Err.ensures.refused) c.refusal_over.ensures;
  cause = c.in-Err.ensures.refused;
  left = c.in-Err.ensures.left;
}

pub returns-in-Err-clause-others : goal.returns-in-Err-clause-others
returns-in-Err-clause-others g c = c.run_batch.ensures.others

pub returns-in-Err-clause-fault_reported : goal.returns-in-Err-clause-fault_reported
returns-in-Err-clause-fault_reported g c = record {
  cause = cause_as _ _ (λ failed. failed_told c.args.batch.now c.in-Err.refused c.refusal_over.result (told_at c.args.batch.now c.declarations.result.now c.in-Err.refused c.refusal_over.result c.declarations.ensures
      (names_one (g.D.Disk.files c.args.disk.now) c.args.batch.now c.args.budget c.in-Err.refused.formula c.in-Err.refused.fault c.in-Err.ensures.refused) c.refusal_over.ensures) (ap refusal_in failed)) c.in-Err.ensures.fault_reported.cause;
  quiet = λ none.
      c.in-Err.ensures.fault_reported.quiet (λ failed. none (ap Err (disk_told_at c.args.batch.now c.in-Err.refused c.refusal_over.result (told_at c.args.batch.now c.declarations.result.now c.in-Err.refused c.refusal_over.result c.declarations.ensures
      (names_one (g.D.Disk.files c.args.disk.now) c.args.batch.now c.args.budget c.in-Err.refused.formula c.in-Err.refused.fault c.in-Err.ensures.refused) c.refusal_over.ensures) failed)));
}
