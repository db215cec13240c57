use Rattle.std.proofs.Common.{◌∙◌, refl, inr, arith, rules}
use Rattle.std.proofs.lemmas.Bool.{false≢true}
use Rattle.std.proofs.lemmas.Result.{IfOk-from_err, err_from_is_err_and}
use Rattle.tce_outside.proofs.Causes.{cause_since}
use Rattle.tce_command.proofs.Refused.{cause_for, told_for}
use Rattle.tce_command.specs.declared.refusal.Refusal.TheVariants.{Disk}
use Rattle.tce_command.proofs.Outcomes.{ok_no_disk}
use Rattle.tce_run.proofs.OtherFiles.{stay_twice}
use Rattle.tce_run.proofs.DemoOperands.{operands_told, result_told}
use Rattle.tce_run.proofs.DemoRan.{result_stays, all_stay, all_written, sum_after, demonstrated}
use Rattle.tce_run.proofs.DemoNoHalf.{input_left, run_left}
use Rattle.tce_run.proofs.demo_command.demonstrate.Goals as goal

pub run_example-requires-clause-operands : goal.run_example-requires-clause-operands
run_example-requires-clause-operands g c =
    operands_told c.args.made.now.spec c.requires.spec c.args.seed c.args.made.now.text.items (g.D.Disk.files c.args.disk.now) (g.D.Disk.files c.put_input.new.disk) c.in_ok-put_input.ensures.written

pub result_sum-requires : goal.result_sum-requires
result_sum-requires g c = result_told c.args.made.now.spec (g.D.Disk.files c.put_input.new.disk) (g.D.Disk.files c.run_example.new.disk) c.in_ok-run.ensures.told

pub returns-in_err-run-clause-others : goal.returns-in_err-run-clause-others
returns-in_err-run-clause-others g c =
    stay_twice (g.D.Disk.files c.args.disk.now) (g.D.Disk.files c.put_input.new.disk) (g.D.Disk.files c.run_example.new.disk) c.put_input.ensures.others
    (result_stays c.args.made.now.spec c.requires.spec _ _ c.run_example.ensures.others)

pub returns-in_default-clause-others : goal.returns-in_default-clause-others
returns-in_default-clause-others g c =
    all_stay c.args.made.now.spec c.requires.spec (g.D.Disk.files c.args.disk.now) (g.D.Disk.files c.put_input.new.disk) (g.D.Disk.files c.run_example.new.disk) (g.D.Disk.files c.result_sum.new.disk) c.put_input.ensures.others
    c.run_example.ensures.others c.result_sum.ensures.same

pub returns-in-Ok-report-clause-others : goal.returns-in-Ok-report-clause-others
returns-in-Ok-report-clause-others g c =
    all_stay c.args.made.now.spec c.requires.spec (g.D.Disk.files c.args.disk.now) (g.D.Disk.files c.put_input.new.disk) (g.D.Disk.files c.run_example.new.disk) (g.D.Disk.files c.result_sum.new.disk) c.put_input.ensures.others
    c.run_example.ensures.others c.result_sum.ensures.same

pub returns-clause-others : goal.returns-clause-others
returns-clause-others g c =
    all_stay c.args.made.now.spec c.requires.spec (g.D.Disk.files c.args.disk.now) (g.D.Disk.files c.put_input.new.disk) (g.D.Disk.files c.run_example.new.disk) (g.D.Disk.files c.result_sum.new.disk) c.put_input.ensures.others
    c.run_example.ensures.others c.result_sum.ensures.same

pub returns-in-Ok-report-clause-done : goal.returns-in-Ok-report-clause-done
returns-in-Ok-report-clause-done g c =
    demonstrated c.args.made.now.spec c.requires.spec c.args.seed c.args.made.now.text.items (g.D.Disk.files c.args.disk.now) (g.D.Disk.files c.result_sum.new.disk) (g.R.Room.takings c.args.room.now)
    (g.R.Room.takings c.run_example.new.room) c.in_ok-run.run' c.in-Ok.sum _
    (all_written c.args.made.now.spec c.args.seed c.args.made.now.text.items (g.D.Disk.files c.args.disk.now) (g.D.Disk.files c.put_input.new.disk) (g.D.Disk.files c.run_example.new.disk) (g.D.Disk.files c.result_sum.new.disk)
    c.in_ok-put_input.ensures.written c.in_ok-run.ensures.told c.result_sum.ensures.same)
    c.in_ok-run.ensures.reported
    (sum_after c.args.made.now.spec (g.D.Disk.files c.run_example.new.disk) (g.D.Disk.files c.result_sum.new.disk) c.in-Ok.sum c.result_sum.ensures.same c.in-Ok.ensures.sum)
    c.in-Ok-report.ensures

pub returns-in_err-put_input-clause-no_half : goal.returns-in_err-put_input-clause-no_half
returns-in_err-put_input-clause-no_half g c = input_left c.args.made.now.spec c.args.seed c.args.made.now.text.items _ _ c.put_input.ensures.no_half

pub returns-in_err-run-clause-no_half : goal.returns-in_err-run-clause-no_half
returns-in_err-run-clause-no_half g c =
    run_left c.args.made.now.spec c.requires.spec c.args.seed c.args.made.now.text.items (g.D.Disk.files c.args.disk.now) (g.D.Disk.files c.put_input.new.disk) (g.D.Disk.files c.run_example.new.disk) _
    c.in_ok-put_input.ensures.written c.put_input.ensures.no_half c.run_example.ensures.others c.run_example.ensures.no_half refl

pub returns-in_default-clause-no_half : goal.returns-in_default-clause-no_half
returns-in_default-clause-no_half g c =
    run_left c.args.made.now.spec c.requires.spec c.args.seed c.args.made.now.text.items (g.D.Disk.files c.args.disk.now) (g.D.Disk.files c.put_input.new.disk) (g.D.Disk.files c.run_example.new.disk) _
    c.in_ok-put_input.ensures.written c.put_input.ensures.no_half c.run_example.ensures.others c.run_example.ensures.no_half c.result_sum.ensures.same

pub returns-in-Ok-report-clause-no_half : goal.returns-in-Ok-report-clause-no_half
returns-in-Ok-report-clause-no_half g c =
    run_left c.args.made.now.spec c.requires.spec c.args.seed c.args.made.now.text.items (g.D.Disk.files c.args.disk.now) (g.D.Disk.files c.put_input.new.disk) (g.D.Disk.files c.run_example.new.disk) _
    c.in_ok-put_input.ensures.written c.put_input.ensures.no_half c.run_example.ensures.others c.run_example.ensures.no_half c.result_sum.ensures.same

pub returns-clause-no_half : goal.returns-clause-no_half
returns-clause-no_half g c =
    run_left c.args.made.now.spec c.requires.spec c.args.seed c.args.made.now.text.items (g.D.Disk.files c.args.disk.now) (g.D.Disk.files c.put_input.new.disk) (g.D.Disk.files c.run_example.new.disk) _
    c.in_ok-put_input.ensures.written c.put_input.ensures.no_half c.run_example.ensures.others c.run_example.ensures.no_half c.result_sum.ensures.same

pub returns-in_err-put_input-clause-done : goal.returns-in_err-put_input-clause-done
returns-in_err-put_input-clause-done g c = IfOk-from_err c.from_residual.result _ c.from_residual.ensures.0

pub returns-in_err-put_input-clause-refused : goal.returns-in_err-put_input-clause-refused
returns-in_err-put_input-clause-refused g c =
    let p = err_from_is_err_and c.from_residual.result c.from_residual.ensures.1 in
    rw (p.1, p.2) (λ files told. c.in_err-put_input.ensures.free)

pub returns-in_err-put_input-clause-takings : goal.returns-in_err-put_input-clause-takings
returns-in_err-put_input-clause-takings g c =
    let p = err_from_is_err_and c.from_residual.result c.from_residual.ensures.1 in
    rw p.1 (inr refl)

pub returns-in_err-put_input-clause-others : goal.returns-in_err-put_input-clause-others
returns-in_err-put_input-clause-others g c = c.put_input.ensures.others

pub returns-in_err-put_input-clause-fault_reported : goal.returns-in_err-put_input-clause-fault_reported
returns-in_err-put_input-clause-fault_reported g c = record {
  cause =
      let p = err_from_is_err_and c.from_residual.result c.from_residual.ensures.1 in
      rw (p.1, p.2) (cause_for _ _ c.in_err-put_input.field-0.0 c.in_err-put_input.ensures.fault_reported.cause);
  quiet =
      let p = err_from_is_err_and c.from_residual.result c.from_residual.ensures.1 in
      rw (p.1, p.2) (told_for _ _ c.in_err-put_input.field-0.0 c.in_err-put_input.ensures.fault_reported.quiet);
}

pub returns-in_err-run-clause-done : goal.returns-in_err-run-clause-done
returns-in_err-run-clause-done g c = IfOk-from_err c.from_residual-in_err-run.result _ c.from_residual-in_err-run.ensures.0

pub returns-in_err-run-clause-as_run : goal.returns-in_err-run-clause-as_run
returns-in_err-run-clause-as_run g c =
    let p = err_from_is_err_and c.from_residual-in_err-run.result c.from_residual-in_err-run.ensures.1 in
    rw (p.1, p.2) c.in_err-run.ensures.as_run

pub returns-in_err-run-clause-takings : goal.returns-in_err-run-clause-takings
returns-in_err-run-clause-takings g c =
    let p = err_from_is_err_and c.from_residual-in_err-run.result c.from_residual-in_err-run.ensures.1 in
    rw (p.1, p.2) c.in_err-run.ensures.takings

pub returns-in_err-run-clause-fault_reported : goal.returns-in_err-run-clause-fault_reported
returns-in_err-run-clause-fault_reported g c = record {
  cause =
      let p = err_from_is_err_and c.from_residual-in_err-run.result c.from_residual-in_err-run.ensures.1 in
      rw (p.1, p.2) (cause_since _ _ _ c.put_input.ensures.fault_reported.cause.later (cause_for _ _ c.in_err-run.field-0.0 c.in_err-run.ensures.fault_reported.cause));
  quiet =
      let p = err_from_is_err_and c.from_residual-in_err-run.result c.from_residual-in_err-run.ensures.1 in
      rw (p.1, p.2) (λ none. told_for _ _ c.in_err-run.field-0.0 c.in_err-run.ensures.fault_reported.quiet none ∙ c.in_ok-put_input.ensures.fault_reported.quiet (ok_no_disk _ _ refl));
}

pub returns-in_default-clause-fault_reported : goal.returns-in_default-clause-fault_reported
returns-in_default-clause-fault_reported g c = record {
  cause = search rules;
  quiet = λ none. absurd (none refl);
}

pub returns-in-Ok-report-clause-fault_reported : goal.returns-in-Ok-report-clause-fault_reported
returns-in-Ok-report-clause-fault_reported g c = record {
  cause = record {
    later = omega (arith, c.put_input.ensures.fault_reported.cause.later, c.run_example.ensures.fault_reported.cause.later, c.result_sum.ensures.fault_reported.cause.later);
    rose = λ failed. absurd (ok_no_disk _ _ refl failed);
  };
  quiet = λ none. c.in-Ok.ensures.fault_reported.quiet false≢true ∙ (c.in_ok-run.ensures.fault_reported.quiet (ok_no_disk _ _ refl) ∙ c.in_ok-put_input.ensures.fault_reported.quiet (ok_no_disk _ _ refl));
}

pub returns-clause-fault_reported : goal.returns-clause-fault_reported
returns-clause-fault_reported g c = record {
  cause = search rules;
  quiet = λ none. c.in-Ok.ensures.fault_reported.quiet false≢true ∙ (c.in_ok-run.ensures.fault_reported.quiet (ok_no_disk _ _ refl) ∙ c.in_ok-put_input.ensures.fault_reported.quiet (ok_no_disk _ _ refl));
}
