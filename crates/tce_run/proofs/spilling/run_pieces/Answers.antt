use Rattle.std.proofs.Common.{List, ℕ, refl, sym, subst}
use Rattle.tce_outside.proofs.Causes.{cause_as, answered_quiet}
use Rattle.tce_spill.specs.Left.{HasSpilled}
use Rattle.tce_run.proofs.Told.{answered}
use Rattle.tce_run.proofs.SpillReasons.{could_run}
use Rattle.tce_run.proofs.SpillRan.{of_files, told_failure, told_no_failure}
use Rattle.tce_run.proofs.spilling.run_pieces.Goals as goal

pub returns-in-Ok-clause-done : goal.returns-in-Ok-clause-done
returns-in-Ok-clause-done g c = record {
  able = could_run (g.D.Disk.files c.args.disk.now) (g.D.Disk.files c.args.disk.now) c.args.source.now c.args.budget c.args.limit c.in-Ok.ensures.done.cut c.in-Ok.report refl c.space-space.ensures.rules
      c.in-Ok.ensures.done.are_cut c.in-Ok.ensures.exactly;
  run = subst (λ (text : List ℕ). HasSpilled (g.D.Disk.files c.args.disk.now) (g.D.Disk.files c.run_spill.new.disk) (g.R.Room.takings c.args.room.now) (g.R.Room.takings c.run_spill.new.room) c.args.source.now c.args.budget c.args.limit text)
      (sym c.into_vec.ensures) c.in-Ok.ensures.done;
}

pub returns-in-Ok-clause-others : goal.returns-in-Ok-clause-others
returns-in-Ok-clause-others g c = c.run_spill.ensures.others

pub returns-in-Ok-clause-fault_reported : goal.returns-in-Ok-clause-fault_reported
returns-in-Ok-clause-fault_reported g c = record {
  cause = cause_as _ _ (answered c.into_vec.result _ refl) c.in-Ok.ensures.fault_reported.cause;
  quiet = λ none. answered_quiet _ _ c.in-Ok.report _ refl c.in-Ok.ensures.fault_reported.quiet;
}

pub refusal_of_pieces-requires : goal.refusal_of_pieces-requires
refusal_of_pieces-requires g c = of_files (g.D.Disk.files c.args.disk.now) c.args.source.now c.args.budget c.args.limit c.in-Err.fault c.in-Err.ensures.refused

pub returns-in-Err-clause-refused : goal.returns-in-Err-clause-refused
returns-in-Err-clause-refused g c = record {
  fault = c.in-Err.fault;
  told = c.refusal_of_pieces.ensures;
  cause = c.in-Err.ensures.refused;
  left = c.in-Err.ensures.left;
}

pub returns-in-Err-clause-others : goal.returns-in-Err-clause-others
returns-in-Err-clause-others g c = c.run_spill.ensures.others

pub returns-in-Err-clause-fault_reported : goal.returns-in-Err-clause-fault_reported
returns-in-Err-clause-fault_reported g c = record {
  cause = cause_as _ _ (told_failure c.in-Err.fault c.refusal_of_pieces.result _ _ refl refl c.refusal_of_pieces.ensures) c.in-Err.ensures.fault_reported.cause;
  quiet = λ none. c.in-Err.ensures.fault_reported.quiet (told_no_failure c.in-Err.fault c.refusal_of_pieces.result _ _ refl refl c.refusal_of_pieces.ensures none);
}
