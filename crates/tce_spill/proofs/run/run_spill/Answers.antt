use Rattle.std.proofs.Common.{inl, inr, Option, refl, sym, subst, ◌∙◌}
use Rattle.std.proofs.lemmas.Result.{IfOk-from_err, err_from_is_err_and}
use Rattle.std.specs.Option.{ForSome}
use Rattle.tce_outside.specs.Files.{Files}
use Rattle.tce_outside.proofs.Causes.{cause_as, cause_since, answered_quiet, no_cause as no_fault}
use Rattle.tce_space.specs.IndexSet.{has}
use Rattle.tce_job.specs.Opened.{HasOperands, operand_count}
use Rattle.tce_job.proofs.Answered.{answered, same_fault}
use Rattle.tce_job.specs.Several.{OnlyResultsDiffer}
use Rattle.tce_spill.specs.PieceRuns.{pieces_of}
use Rattle.tce_spill.specs.RunRefusals.{IsLateFault}
use Rattle.tce_spill.proofs.Causes.{cut_cause, cut_exact, no_disk_cuts, test_cause, test_exact, no_cause, late_cause, late_exact}
use Rattle.tce_spill.proofs.Others.{left_others}
use Rattle.tce_spill.proofs.Ready.{few_of, are_cut, can_spill, has_spilled, only_pieces}
use Rattle.tce_spill.proofs.Spared.{late_left}
use Rattle.tce_spill.proofs.run.run_spill.Goals as goal

pub test_budget-requires-clause-few : goal.test_budget-requires-clause-few
test_budget-requires-clause-few g c = few_of c.args.spec.now c.args.limit c.in_ok-planned.ensures.exactly

pub returns-in_err-test_budget-clause-refused : goal.returns-in_err-test_budget-clause-refused
returns-in_err-test_budget-clause-refused g c =
    let cut = has c.in_ok-planned.planned.nodes in
    let are = are_cut c.args.spec.now c.args.limit cut c.in_ok-planned.ensures.exactly c.in_ok-planned.ensures.cuts in
    let p = err_from_is_err_and c.from_residual-in_err-test_budget.result c.from_residual-in_err-test_budget.ensures.1 in
    rw (p.1, p.2) (test_cause (g.D.Disk.files c.args.disk.now) c.args.spec.now c.args.budget c.args.limit cut (few_of c.args.spec.now c.args.limit c.in_ok-planned.ensures.exactly) are
    c.in_err-test_budget.field-0.0 c.in_err-test_budget.ensures.refused)

pub returns-in_err-test_budget-clause-exactly : goal.returns-in_err-test_budget-clause-exactly
returns-in_err-test_budget-clause-exactly g c due free cause known =
    let cut = has c.in_ok-planned.planned.nodes in
    let are = are_cut c.args.spec.now c.args.limit cut c.in_ok-planned.ensures.exactly c.in_ok-planned.ensures.cuts in
    let p = err_from_is_err_and c.from_residual-in_err-test_budget.result c.from_residual-in_err-test_budget.ensures.1 in
    rw (p.1, p.2) (test_exact (g.D.Disk.files c.args.disk.now) c.args.spec.now c.args.budget c.args.limit cut (few_of c.args.spec.now c.args.limit c.in_ok-planned.ensures.exactly) are
    c.in_err-test_budget.field-0.0 due c.in_err-test_budget.ensures.refused free cause known)

pub run_all-ran-requires-clause-can : goal.run_all-ran-requires-clause-can
run_all-ran-requires-clause-can g c =
    can_spill c.args.spec.now (has c.in_ok-planned.planned.nodes) c.args.budget c.args.limit c.requires.names c.requires.budget c.requires.limit c.in_ok-planned.ensures.exactly c.in_ok-planned.ensures.cuts c.in_ok-planned.ensures.meet
    c.in_ok-planned.ensures.nodes c.in_ok-test_budget.ensures.enough

pub returns-in_err-text-clause-refused : goal.returns-in_err-text-clause-refused
returns-in_err-text-clause-refused g c =
    let cut = has c.in_ok-planned.planned.nodes in
    let are = are_cut c.args.spec.now c.args.limit cut c.in_ok-planned.ensures.exactly c.in_ok-planned.ensures.cuts in
    let why = subst (λ (told : Option Files). IsLateFault told c.args.spec.now cut c.in_err-text.field-0.0) c.in_ok-test_budget.ensures.same c.in_err-text.ensures.refused in
    let p = err_from_is_err_and c.from_residual-in_err-text.result c.from_residual-in_err-text.ensures.1 in
    rw (p.1, p.2) (late_cause (g.D.Disk.files c.args.disk.now) c.args.spec.now c.args.budget c.args.limit cut (few_of c.args.spec.now c.args.limit c.in_ok-planned.ensures.exactly) are
    c.in_ok-test_budget.ensures.enough c.in_ok-test_budget.ensures.opened c.in_err-text.field-0.0 why)

pub returns-in_err-text-clause-exactly : goal.returns-in_err-text-clause-exactly
returns-in_err-text-clause-exactly g c due free cause known =
    let cut = has c.in_ok-planned.planned.nodes in
    let are = are_cut c.args.spec.now c.args.limit cut c.in_ok-planned.ensures.exactly c.in_ok-planned.ensures.cuts in
    let why = subst (λ (told : Option Files). IsLateFault told c.args.spec.now cut c.in_err-text.field-0.0) c.in_ok-test_budget.ensures.same c.in_err-text.ensures.refused in
    let p = err_from_is_err_and c.from_residual-in_err-text.result c.from_residual-in_err-text.ensures.1 in
    rw (p.1, p.2) (late_exact (g.D.Disk.files c.args.disk.now) c.args.spec.now c.args.budget c.args.limit cut (few_of c.args.spec.now c.args.limit c.in_ok-planned.ensures.exactly) are
    c.in_ok-test_budget.ensures.enough c.in_ok-test_budget.ensures.opened c.in_err-text.field-0.0 due why free cause known)

pub returns-in_err-text-clause-others : goal.returns-in_err-text-clause-others
returns-in_err-text-clause-others g c =
    let cut = has c.in_ok-planned.planned.nodes in
    inr (record {
      cut = cut;
      are_cut = are_cut c.args.spec.now c.args.limit cut c.in_ok-planned.ensures.exactly c.in_ok-planned.ensures.cuts;
      here =
          subst (λ (told : Option Files). OnlyResultsDiffer (pieces_of c.args.spec.now cut) told (g.D.Disk.files c.run_all-ran.new.disk)) c.in_ok-test_budget.ensures.same
          (left_others (g.D.Disk.files c.test_budget.new.disk) (g.D.Disk.files c.run_all-ran.new.disk) (g.R.Room.takings c.args.room.now) (g.R.Room.takings c.run_all-ran.new.room) c.args.spec.now cut c.args.budget c.in_err-text.field-0.0
          c.in_err-text.ensures.left);
    })

pub returns-clause-done : goal.returns-clause-done
returns-clause-done g c =
    let cut = has c.in_ok-planned.planned.nodes in
    has_spilled (g.D.Disk.files c.args.disk.now) (g.D.Disk.files c.test_budget.new.disk) (g.D.Disk.files c.run_all-ran.new.disk) (g.R.Room.takings c.args.room.now) (g.R.Room.takings c.run_all-ran.new.room) c.args.spec.now c.args.budget c.args.limit cut
    c.in_ok-text.text.items _ (are_cut c.args.spec.now c.args.limit cut c.in_ok-planned.ensures.exactly c.in_ok-planned.ensures.cuts) c.in_ok-planned.ensures.meet c.in_ok-test_budget.ensures.same c.in_ok-text.ensures.told
    c.in_ok-text.ensures.spilled c.in_ok-text.ensures.reported c.of.ensures

pub returns-clause-exactly : goal.returns-clause-exactly
returns-clause-exactly g c due free cause known =
    let cut = has c.in_ok-planned.planned.nodes in
    no_cause (g.D.Disk.files c.args.disk.now) c.args.spec.now c.args.budget c.args.limit cut (few_of c.args.spec.now c.args.limit c.in_ok-planned.ensures.exactly)
    (are_cut c.args.spec.now c.args.limit cut c.in_ok-planned.ensures.exactly c.in_ok-planned.ensures.cuts) c.in_ok-test_budget.ensures.enough c.in_ok-test_budget.ensures.opened due free cause known

pub returns-clause-others : goal.returns-clause-others
returns-clause-others g c =
    let cut = has c.in_ok-planned.planned.nodes in
    only_pieces (g.D.Disk.files c.args.disk.now) (g.D.Disk.files c.test_budget.new.disk) (g.D.Disk.files c.run_all-ran.new.disk) c.args.spec.now c.args.limit cut
    (are_cut c.args.spec.now c.args.limit cut c.in_ok-planned.ensures.exactly c.in_ok-planned.ensures.cuts) c.in_ok-test_budget.ensures.same c.in_ok-text.ensures.told

pub returns-in_err-planned-clause-left : goal.returns-in_err-planned-clause-left
returns-in_err-planned-clause-left g c =
    let p = err_from_is_err_and c.from_residual.result c.from_residual.ensures.1 in
    rw (p.1, p.2) (inl (refl, refl))

pub returns-in_err-planned-clause-others : goal.returns-in_err-planned-clause-others
returns-in_err-planned-clause-others g c = inl refl

pub returns-in_err-test_budget-clause-left : goal.returns-in_err-test_budget-clause-left
returns-in_err-test_budget-clause-left g c =
    let p = err_from_is_err_and c.from_residual-in_err-test_budget.result c.from_residual-in_err-test_budget.ensures.1 in
    rw (p.1, p.2) (inl (c.in_err-test_budget.ensures.same, refl))

pub returns-in_err-test_budget-clause-others : goal.returns-in_err-test_budget-clause-others
returns-in_err-test_budget-clause-others g c = inl c.in_err-test_budget.ensures.same

pub returns-in_err-text-clause-left : goal.returns-in_err-text-clause-left
returns-in_err-text-clause-left g c =
    let cut = has c.in_ok-planned.planned.nodes in
    let are = are_cut c.args.spec.now c.args.limit cut c.in_ok-planned.ensures.exactly c.in_ok-planned.ensures.cuts in
    let p = err_from_is_err_and c.from_residual-in_err-text.result c.from_residual-in_err-text.ensures.1 in
    rw (p.1, p.2) (late_left (g.D.Disk.files c.args.disk.now) (g.D.Disk.files c.test_budget.new.disk) (g.D.Disk.files c.run_all-ran.new.disk) (g.R.Room.takings c.args.room.now) (g.R.Room.takings c.run_all-ran.new.room) c.args.spec.now
    cut c.args.budget c.args.limit c.in_err-text.field-0.0 are c.in_ok-test_budget.ensures.same c.in_err-text.ensures.left)

pub returns-in_err-planned-clause-done : goal.returns-in_err-planned-clause-done
returns-in_err-planned-clause-done g c = IfOk-from_err c.from_residual.result _ c.from_residual.ensures.0

pub returns-in_err-planned-clause-refused : goal.returns-in_err-planned-clause-refused
returns-in_err-planned-clause-refused g c =
    let p = err_from_is_err_and c.from_residual.result c.from_residual.ensures.1 in
    rw (p.1, p.2) (cut_cause (g.D.Disk.files c.args.disk.now) c.args.spec.now c.args.budget c.args.limit c.in_err-planned.field-0.0 c.in_err-planned.ensures.refused)

pub returns-in_err-planned-clause-exactly : goal.returns-in_err-planned-clause-exactly
returns-in_err-planned-clause-exactly g c due free cause known =
    let p = err_from_is_err_and c.from_residual.result c.from_residual.ensures.1 in
    rw (p.1, p.2) (cut_exact (g.D.Disk.files c.args.disk.now) c.args.spec.now c.args.budget c.args.limit c.in_err-planned.field-0.0 due c.in_err-planned.ensures.refused free cause)

pub returns-in_err-planned-clause-fault_reported : goal.returns-in_err-planned-clause-fault_reported
returns-in_err-planned-clause-fault_reported g c = record {
  cause =
      let p = err_from_is_err_and c.from_residual.result c.from_residual.ensures.1 in
      rw (p.1, p.2) (no_fault _ _ refl (no_disk_cuts c.args.spec.now c.args.limit c.in_err-planned.field-0.0 _ refl c.in_err-planned.ensures.refused));
  quiet = λ none. refl;
}

pub returns-in_err-test_budget-clause-done : goal.returns-in_err-test_budget-clause-done
returns-in_err-test_budget-clause-done g c = IfOk-from_err c.from_residual-in_err-test_budget.result _ c.from_residual-in_err-test_budget.ensures.0

pub returns-in_err-test_budget-clause-fault_reported : goal.returns-in_err-test_budget-clause-fault_reported
returns-in_err-test_budget-clause-fault_reported g c = record {
  cause =
      let p = err_from_is_err_and c.from_residual-in_err-test_budget.result c.from_residual-in_err-test_budget.ensures.1 in
      rw (p.1, p.2) (cause_as _ _ (same_fault c.in_err-test_budget.field-0.0 _ _ refl refl) c.in_err-test_budget.ensures.fault_reported.cause);
  quiet =
      let p = err_from_is_err_and c.from_residual-in_err-test_budget.result c.from_residual-in_err-test_budget.ensures.1 in
      rw (p.1, p.2) (λ none. c.in_err-test_budget.ensures.fault_reported.quiet (λ failed. none (same_fault c.in_err-test_budget.field-0.0 _ _ refl refl failed)));
}

pub returns-in_err-text-clause-done : goal.returns-in_err-text-clause-done
returns-in_err-text-clause-done g c = IfOk-from_err c.from_residual-in_err-text.result _ c.from_residual-in_err-text.ensures.0

pub returns-in_err-text-clause-fault_reported : goal.returns-in_err-text-clause-fault_reported
returns-in_err-text-clause-fault_reported g c = record {
  cause =
      let p = err_from_is_err_and c.from_residual-in_err-text.result c.from_residual-in_err-text.ensures.1 in
      rw (p.1, p.2) (cause_since _ _ _ c.in_ok-test_budget.ensures.fault_reported.cause.later (cause_as _ _ (same_fault c.in_err-text.field-0.0 _ _ refl refl) c.in_err-text.ensures.fault_reported.cause));
  quiet =
      let p = err_from_is_err_and c.from_residual-in_err-text.result c.from_residual-in_err-text.ensures.1 in
      rw (p.1, p.2) (λ none.
      c.in_err-text.ensures.fault_reported.quiet (λ failed. none (same_fault c.in_err-text.field-0.0 _ _ refl refl failed)) ∙ answered_quiet _ _ tt _ refl c.in_ok-test_budget.ensures.fault_reported.quiet);
}

pub returns-clause-fault_reported : goal.returns-clause-fault_reported
returns-clause-fault_reported g c = record {
  cause = cause_since _ _ _ c.in_ok-test_budget.ensures.fault_reported.cause.later (cause_as _ _ (answered _ _ refl) c.in_ok-text.ensures.fault_reported.cause);
  quiet = λ none.
      answered_quiet _ _ c.in_ok-text.text _ refl c.in_ok-text.ensures.fault_reported.quiet ∙ answered_quiet _ _ tt _ refl c.in_ok-test_budget.ensures.fault_reported.quiet;
}

pub run_all-ran-requires-clause-plans : goal.run_all-ran-requires-clause-plans
run_all-ran-requires-clause-plans g c = c.in_ok-planned.ensures.plans

pub run_all-ran-requires-clause-operands : goal.run_all-ran-requires-clause-operands
run_all-ran-requires-clause-operands g c =
    subst (λ (told : Option Files). ForSome told (λ files. HasOperands files c.args.spec.now (operand_count c.args.spec.now))) (sym c.in_ok-test_budget.ensures.same) c.in_ok-test_budget.ensures.opened
