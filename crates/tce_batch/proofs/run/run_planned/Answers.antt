use Rattle.std.proofs.Common.{Option, List, ℕ, refl, sym, ap, ◌∙◌, subst}
use Rattle.std.proofs.lemmas.Result.{IfOk-from_err, err_from_is_err_and}
use Rattle.tce_outside.specs.Files.{Files}
use Rattle.tce_outside.proofs.Causes.{cause_as, cause_since}
use Rattle.tce_batch.specs.Refusals.{IsCauseAt}
use Rattle.std.specs.Option.{option_map}
use Rattle.tce_job.specs.Several.{files_after, OnlyResultsDiffer}
use Rattle.tce_batch.specs.Left.{IsLeftAt}
use Rattle.tce_batch.specs.Reports.{HasRun}
use Rattle.tce_batch.specs.Told.{HasAllSources}
use Rattle.tce_batch.proofs.Causes.{one_cause, no_cause}
use Rattle.tce_batch.proofs.Ended.{left_before}
use Rattle.tce_batch.proofs.Others.{left_others, same_others, told_others}
use Rattle.tce_batch.proofs.run.run_planned.Goals as goal

pub returns-in_err-open_sources-clause-left : goal.returns-in_err-open_sources-clause-left
returns-in_err-open_sources-clause-left g c =
    let r = c.in_err-open_sources.field-0.0 in
    let why = c.in_err-open_sources.ensures.refused c.args.budget c.requires.affordable in
    let p = err_from_is_err_and c.from_residual.result c.from_residual.ensures.1 in
    rw (p.1, p.2) (left_before (g.D.Disk.files c.args.disk.now) (g.D.Disk.files c.open_sources.new.disk) c.args.batch.now c.args.budget r.formula r.fault (g.R.Room.takings c.args.room.now) c.in_err-open_sources.ensures.same why.0
    why.1)

pub returns-in_err-open_sources-clause-exactly : goal.returns-in_err-open_sources-clause-exactly
returns-in_err-open_sources-clause-exactly g c =
    let r = c.in_err-open_sources.field-0.0 in
    let why = c.in_err-open_sources.ensures.refused c.args.budget c.requires.affordable in
    let p = err_from_is_err_and c.from_residual.result c.from_residual.ensures.1 in
    rw (p.1, p.2) (λ due free cause known. one_cause (g.D.Disk.files c.args.disk.now) c.args.batch.now c.args.budget r.formula due.formula r.fault due.fault why.1 free cause known)

pub returns-clause-exactly : goal.returns-clause-exactly
returns-clause-exactly g c = λ due free cause known.
    no_cause (g.D.Disk.files c.args.disk.now) c.args.batch.now c.args.budget due.formula due.fault c.requires.affordable c.in_ok-open_sources.ensures.opened free cause known

pub returns-in_err-text-clause-exactly : goal.returns-in_err-text-clause-exactly
returns-in_err-text-clause-exactly g c =
    let r = c.in_err-text.field-0.0 in
    let why = subst (λ (told : Option Files). IsCauseAt told c.args.batch.now c.args.budget r.formula r.fault) c.in_ok-open_sources.ensures.same c.in_err-text.ensures.refused in
    let p = err_from_is_err_and c.from_residual-in_err-text.result c.from_residual-in_err-text.ensures.1 in
    rw (p.1, p.2) (λ due free cause known. one_cause (g.D.Disk.files c.args.disk.now) c.args.batch.now c.args.budget r.formula due.formula r.fault due.fault why free cause known)

pub returns-in_err-open_sources-clause-others : goal.returns-in_err-open_sources-clause-others
returns-in_err-open_sources-clause-others g c = same_others c.args.batch.now (g.D.Disk.files c.args.disk.now) (g.D.Disk.files c.open_sources.new.disk) c.in_err-open_sources.ensures.same

pub returns-in_err-text-clause-others : goal.returns-in_err-text-clause-others
returns-in_err-text-clause-others g c =
    let r = c.in_err-text.field-0.0 in
    subst (λ (told : Option Files). OnlyResultsDiffer c.args.batch.now told (g.D.Disk.files c.run_all.new.disk)) c.in_ok-open_sources.ensures.same
    (left_others (g.D.Disk.files c.open_sources.new.disk) (g.D.Disk.files c.run_all.new.disk) (g.R.Room.takings c.args.room.now) (g.R.Room.takings c.run_all.new.room) c.args.batch.now c.args.budget r.formula r.fault c.in_err-text.ensures.left)

pub returns-clause-others : goal.returns-clause-others
returns-clause-others g c =
    subst (λ (told : Option Files). OnlyResultsDiffer c.args.batch.now told (g.D.Disk.files c.run_all.new.disk)) c.in_ok-open_sources.ensures.same
    (told_others c.args.batch.now (g.D.Disk.files c.open_sources.new.disk) (g.D.Disk.files c.run_all.new.disk) c.in_ok-text.ensures.told)

pub returns-in_err-open_sources-clause-refused : goal.returns-in_err-open_sources-clause-refused
returns-in_err-open_sources-clause-refused g c =
    let why = c.in_err-open_sources.ensures.refused c.args.budget c.requires.affordable in
    let p = err_from_is_err_and c.from_residual.result c.from_residual.ensures.1 in
    rw (p.1, p.2) why.1

pub returns-in_err-text-clause-refused : goal.returns-in_err-text-clause-refused
returns-in_err-text-clause-refused g c =
    let r = c.in_err-text.field-0.0 in
    let p = err_from_is_err_and c.from_residual-in_err-text.result c.from_residual-in_err-text.ensures.1 in
    rw (p.1, p.2) (subst (λ (told : Option Files). IsCauseAt told c.args.batch.now c.args.budget r.formula r.fault) c.in_ok-open_sources.ensures.same c.in_err-text.ensures.refused)

pub returns-in_err-text-clause-left : goal.returns-in_err-text-clause-left
returns-in_err-text-clause-left g c =
    let r = c.in_err-text.field-0.0 in
    let p = err_from_is_err_and c.from_residual-in_err-text.result c.from_residual-in_err-text.ensures.1 in
    rw (p.1, p.2) (subst (λ (told : Option Files). IsLeftAt told (g.D.Disk.files c.run_all.new.disk) (g.R.Room.takings c.args.room.now) (g.R.Room.takings c.run_all.new.room) c.args.batch.now c.args.budget r.formula r.fault)
    c.in_ok-open_sources.ensures.same c.in_err-text.ensures.left)

pub returns-clause-told : goal.returns-clause-told
returns-clause-told g c = c.in_ok-text.ensures.told ∙ ap (option_map (files_after c.args.batch.now)) c.in_ok-open_sources.ensures.same

pub returns-clause-reported : goal.returns-clause-reported
returns-clause-reported g c =
    subst (λ (text : List ℕ). HasRun c.args.batch.now c.args.budget (g.R.Room.takings c.args.room.now) (g.R.Room.takings c.run_all.new.room) text) (sym c.of.ensures) c.in_ok-text.ensures.reported

pub returns-clause-sources : goal.returns-clause-sources
returns-clause-sources g c = c.in_ok-open_sources.ensures.opened

pub returns-in_err-open_sources-clause-told : goal.returns-in_err-open_sources-clause-told
returns-in_err-open_sources-clause-told g c = IfOk-from_err c.from_residual.result _ c.from_residual.ensures.0

pub returns-in_err-open_sources-clause-reported : goal.returns-in_err-open_sources-clause-reported
returns-in_err-open_sources-clause-reported g c = IfOk-from_err c.from_residual.result _ c.from_residual.ensures.0

pub returns-in_err-open_sources-clause-sources : goal.returns-in_err-open_sources-clause-sources
returns-in_err-open_sources-clause-sources g c = IfOk-from_err c.from_residual.result _ c.from_residual.ensures.0

pub returns-in_err-open_sources-clause-fault_reported : goal.returns-in_err-open_sources-clause-fault_reported
returns-in_err-open_sources-clause-fault_reported g c = record {
  cause =
      let p = err_from_is_err_and c.from_residual.result c.from_residual.ensures.1 in
      rw (p.1, p.2) c.in_err-open_sources.ensures.fault_reported.cause;
  quiet =
      let p = err_from_is_err_and c.from_residual.result c.from_residual.ensures.1 in
      rw (p.1, p.2) c.in_err-open_sources.ensures.fault_reported.quiet;
}

pub returns-in_err-text-clause-told : goal.returns-in_err-text-clause-told
returns-in_err-text-clause-told g c = IfOk-from_err c.from_residual-in_err-text.result _ c.from_residual-in_err-text.ensures.0

pub returns-in_err-text-clause-reported : goal.returns-in_err-text-clause-reported
returns-in_err-text-clause-reported g c = IfOk-from_err c.from_residual-in_err-text.result _ c.from_residual-in_err-text.ensures.0

pub returns-in_err-text-clause-sources : goal.returns-in_err-text-clause-sources
returns-in_err-text-clause-sources g c = IfOk-from_err c.from_residual-in_err-text.result _ c.from_residual-in_err-text.ensures.0

pub returns-in_err-text-clause-fault_reported : goal.returns-in_err-text-clause-fault_reported
returns-in_err-text-clause-fault_reported g c = record {
  cause =
      let p = err_from_is_err_and c.from_residual-in_err-text.result c.from_residual-in_err-text.ensures.1 in
      rw (p.1, p.2) (cause_since _ _ _ c.in_ok-open_sources.ensures.fault_reported.cause.later c.in_err-text.ensures.fault_reported.cause);
  quiet =
      let p = err_from_is_err_and c.from_residual-in_err-text.result c.from_residual-in_err-text.ensures.1 in
      rw (p.1, p.2) (λ none. c.in_err-text.ensures.fault_reported.quiet none ∙ c.in_ok-open_sources.ensures.fault_reported.quiet (λ failed. absurd failed));
}

pub returns-clause-fault_reported : goal.returns-clause-fault_reported
returns-clause-fault_reported g c = record {
  cause =
      cause_since _ _ _ c.in_ok-open_sources.ensures.fault_reported.cause.later (cause_as _ _ (λ failed. absurd failed) c.in_ok-text.ensures.fault_reported.cause);
  quiet = λ none. c.in_ok-text.ensures.fault_reported.quiet (λ failed. absurd failed) ∙ c.in_ok-open_sources.ensures.fault_reported.quiet (λ failed. absurd failed);
}

pub run_all-requires-clause-budget : goal.run_all-requires-clause-budget
run_all-requires-clause-budget g c = c.requires.budget

pub run_all-requires-clause-kept : goal.run_all-requires-clause-kept
run_all-requires-clause-kept g c = c.requires.kept

pub run_all-requires-clause-affordable : goal.run_all-requires-clause-affordable
run_all-requires-clause-affordable g c = c.requires.affordable

pub run_all-requires-clause-sources : goal.run_all-requires-clause-sources
run_all-requires-clause-sources g c =
    subst (λ (told : Option Files). HasAllSources told c.args.batch.now) (sym c.in_ok-open_sources.ensures.same) c.in_ok-open_sources.ensures.opened
