use Rattle.std.proofs.Common.{refl, arith}
use Rattle.std.proofs.lemmas.Result.{IfOk-from_err, err_from_is_err_and}
use Rattle.tce_batch.proofs.Afforded.{on_ok_as}
use Rattle.tce_batch.proofs.Causes.{one_cause}
use Rattle.tce_batch.proofs.Ended.{left_before}
use Rattle.tce_batch.proofs.Others.{same_others}
use Rattle.tce_batch.proofs.run.run_batch.Goals as goal

pub returns-in_err-plans-clause-refused : goal.returns-in_err-plans-clause-refused
returns-in_err-plans-clause-refused g c =
    let why = c.in_err-plans.ensures.refused (g.D.Disk.files c.args.disk.now) in
    let p = err_from_is_err_and c.from_residual.result c.from_residual.ensures.1 in
    rw (p.1, p.2) why.2

pub returns-in_err-plans-clause-left : goal.returns-in_err-plans-clause-left
returns-in_err-plans-clause-left g c =
    let r = c.in_err-plans.field-0.0 in
    let why = c.in_err-plans.ensures.refused (g.D.Disk.files c.args.disk.now) in
    let p = err_from_is_err_and c.from_residual.result c.from_residual.ensures.1 in
    rw (p.1, p.2) (left_before (g.D.Disk.files c.args.disk.now) (g.D.Disk.files c.args.disk.now) c.args.batch.now c.args.budget r.formula r.fault (g.R.Room.takings c.args.room.now) refl why.1 why.2)

pub returns-in_err-plans-clause-fault_reported : goal.returns-in_err-plans-clause-fault_reported
returns-in_err-plans-clause-fault_reported g c = record {
  cause =
      let why = c.in_err-plans.ensures.refused (g.D.Disk.files c.args.disk.now) in
      let p = err_from_is_err_and c.from_residual.result c.from_residual.ensures.1 in
      rw (p.1, p.2) (record { later = omega arith; rose = λ failed. absurd (why.0 failed) });
  quiet = λ none. refl;
}

pub returns-in_err-plans-clause-exactly : goal.returns-in_err-plans-clause-exactly
returns-in_err-plans-clause-exactly g c =
    let r = c.in_err-plans.field-0.0 in
    let why = c.in_err-plans.ensures.refused (g.D.Disk.files c.args.disk.now) in
    let p = err_from_is_err_and c.from_residual.result c.from_residual.ensures.1 in
    rw (p.1, p.2) (λ due free cause known. one_cause (g.D.Disk.files c.args.disk.now) c.args.batch.now c.args.budget r.formula due.formula r.fault due.fault why.2 free cause known)

pub returns-in_err-plans-clause-others : goal.returns-in_err-plans-clause-others
returns-in_err-plans-clause-others g c = same_others c.args.batch.now _ _ refl

pub returns-clause-told : goal.returns-clause-told
returns-clause-told g c = c.run_planned-ran.ensures.told

pub returns-clause-reported : goal.returns-clause-reported
returns-clause-reported g c = c.run_planned-ran.ensures.reported

pub returns-clause-sources : goal.returns-clause-sources
returns-clause-sources g c = c.run_planned-ran.ensures.sources

pub returns-clause-refused : goal.returns-clause-refused
returns-clause-refused g c = c.run_planned-ran.ensures.refused

pub returns-clause-exactly : goal.returns-clause-exactly
returns-clause-exactly g c = c.run_planned-ran.ensures.exactly

pub returns-clause-left : goal.returns-clause-left
returns-clause-left g c = c.run_planned-ran.ensures.left

pub returns-clause-others : goal.returns-clause-others
returns-clause-others g c = c.run_planned-ran.ensures.others

pub returns-clause-fault_reported : goal.returns-clause-fault_reported
returns-clause-fault_reported g c = c.run_planned-ran.ensures.fault_reported

pub returns-clause-affordable : goal.returns-clause-affordable
returns-clause-affordable g c = on_ok_as c.run_planned-ran.result c.in_ok-plans.ensures.affordable

pub returns-in_err-plans-clause-told : goal.returns-in_err-plans-clause-told
returns-in_err-plans-clause-told g c = IfOk-from_err c.from_residual.result _ c.from_residual.ensures.0

pub returns-in_err-plans-clause-reported : goal.returns-in_err-plans-clause-reported
returns-in_err-plans-clause-reported g c = IfOk-from_err c.from_residual.result _ c.from_residual.ensures.0

pub returns-in_err-plans-clause-affordable : goal.returns-in_err-plans-clause-affordable
returns-in_err-plans-clause-affordable g c = IfOk-from_err c.from_residual.result _ c.from_residual.ensures.0

pub returns-in_err-plans-clause-sources : goal.returns-in_err-plans-clause-sources
returns-in_err-plans-clause-sources g c = IfOk-from_err c.from_residual.result _ c.from_residual.ensures.0

pub run_planned-ran-requires-clause-budget : goal.run_planned-ran-requires-clause-budget
run_planned-ran-requires-clause-budget g c = c.requires

pub run_planned-ran-requires-clause-affordable : goal.run_planned-ran-requires-clause-affordable
run_planned-ran-requires-clause-affordable g c = c.in_ok-plans.ensures.affordable
