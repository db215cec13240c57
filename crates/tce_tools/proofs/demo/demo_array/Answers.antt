use Rattle.std.proofs.Common.{◌∙◌, ap, refl, is_err, arith}
use Rattle.tce_array.specs.declared.form.Form.TheVariants.{One}
use Rattle.tce_tools.specs.declared.storage.Storage.TheVariants.{Array}
use Rattle.tce_tools.specs.Demo.{demo_element}
use Rattle.tce_tools.proofs.Apart.{ok_not_err, failed_not_memory}
use Rattle.tce_tools.proofs.NoHalf.{bare_left, bare_stored}
use Rattle.tce_tools.proofs.Told.{failed_from}
use Rattle.std.proofs.lemmas.Result.{IfOk-from_err}
use Rattle.std.proofs.lemmas.Bool.{false≢true}
use Rattle.tce_outside.specs.declared.device.OutFault.TheVariants.{Failed, Memory}
use Rattle.tce_tools.proofs.Faults.{making_failed, failed_making}
use Rattle.tce_tools.proofs.demo.demo_array.Goals as goal

pub write_start-requires : goal.write_start-requires
write_start-requires g c = bare_stored (Array One) c.args.shape.now c.elements-limits.ensures.limits c.args.array.now (λ _. demo_element c.args.shape.now c.args.x) (g.D.Disk.files c.args.disk.now) _ c.in_ok-number.ensures.made

pub returns-in-Ok-clause-made : goal.returns-in-Ok-clause-made
returns-in-Ok-clause-made g c = c.in-Ok.ensures.written (g.D.Disk.files c.args.disk.now) (λ _. demo_element c.args.shape.now c.args.x) c.in_ok-number.ensures.made

pub returns-in-Ok-clause-no_half : goal.returns-in-Ok-clause-no_half
returns-in-Ok-clause-no_half g c =
    bare_left (Array One) c.args.shape.now c.args.array.now (λ _. demo_element c.args.shape.now c.args.x) (g.D.Disk.files c.args.disk.now) (g.D.Disk.files c.demo_elements.new.disk) _ c.in_ok-number.ensures.made c.write_start.ensures.behind

pub returns-in-Err-clause-no_half : goal.returns-in-Err-clause-no_half
returns-in-Err-clause-no_half g c =
    bare_left (Array One) c.args.shape.now c.args.array.now (λ _. demo_element c.args.shape.now c.args.x) (g.D.Disk.files c.args.disk.now) (g.D.Disk.files c.demo_elements.new.disk) _ c.in_ok-number.ensures.made c.write_start.ensures.behind

pub returns-in-Ok-clause-others : goal.returns-in-Ok-clause-others
returns-in-Ok-clause-others g c = c.write_start.ensures.others ∙ c.demo_elements.ensures.others

pub returns-in-Err-clause-others : goal.returns-in-Err-clause-others
returns-in-Err-clause-others g c = c.write_start.ensures.others ∙ c.demo_elements.ensures.others

pub returns-in-Ok-clause-fault_reported : goal.returns-in-Ok-clause-fault_reported
returns-in-Ok-clause-fault_reported g c = record {
  cause = record { later = omega (arith, c.demo_elements.ensures.fault_reported.cause.later, c.write_start.ensures.fault_reported.cause.later); rose = λ e. absurd (ok_not_err e) };
  quiet = λ fine. c.in-Ok.ensures.fault_reported.quiet false≢true ∙ c.in_ok-number.ensures.fault_reported.quiet (λ e. ok_not_err e);
}

pub returns-in-Err-clause-fault_reported : goal.returns-in-Err-clause-fault_reported
returns-in-Err-clause-fault_reported g c = record {
  cause = failed_from _ (g.D.Disk.faults c.demo_elements.new.disk) _ _ _ c.demo_elements.ensures.fault_reported.cause.later c.write_start.ensures.fault_reported.cause (ap is_err c.in-Err.is);
  quiet = λ fine. absurd (fine refl);
}

pub demo_elements-requires-clause-low : goal.demo_elements-requires-clause-low
demo_elements-requires-clause-low g c = c.requires.low

pub demo_elements-requires-clause-high : goal.demo_elements-requires-clause-high
demo_elements-requires-clause-high g c = c.requires.high

pub returns-in_err-number-clause-others : goal.returns-in_err-number-clause-others
returns-in_err-number-clause-others g c = c.demo_elements.ensures.others

pub returns-in_err-number-clause-no_half : goal.returns-in_err-number-clause-no_half
returns-in_err-number-clause-no_half g c = c.demo_elements.ensures.no_half

pub returns-in-Ok-clause-memory : goal.returns-in-Ok-clause-memory
returns-in-Ok-clause-memory g c = λ memory. absurd (ok_not_err memory)

pub returns-in-Err-clause-memory : goal.returns-in-Err-clause-memory
returns-in-Err-clause-memory g c = λ memory. absurd (failed_not_memory _ refl memory)

pub returns-in_err-number-clause-made : goal.returns-in_err-number-clause-made
returns-in_err-number-clause-made g c = IfOk-from_err c.from_residual.result _ c.from_residual.ensures.0

pub returns-in_err-number-clause-last : goal.returns-in_err-number-clause-last
returns-in_err-number-clause-last g c = IfOk-from_err c.from_residual.result _ c.from_residual.ensures.0

pub returns-in_err-number-clause-memory : goal.returns-in_err-number-clause-memory
returns-in_err-number-clause-memory g c = λ memory. c.demo_elements.ensures.memory (making_failed c.from_residual.result c.demo_elements.result c.in_err-number.field-0.0 Memory c.from_residual.ensures.1 c.in_err-number.was memory)

pub returns-in_err-number-clause-fault_reported : goal.returns-in_err-number-clause-fault_reported
returns-in_err-number-clause-fault_reported g c = record {
  cause = record { later = c.demo_elements.ensures.fault_reported.cause.later; rose = λ failed. c.demo_elements.ensures.fault_reported.cause.rose (making_failed c.from_residual.result c.demo_elements.result c.in_err-number.field-0.0 Failed c.from_residual.ensures.1 c.in_err-number.was failed) };
  quiet = λ fine. c.demo_elements.ensures.fault_reported.quiet (λ failed. fine (failed_making c.from_residual.result c.demo_elements.result c.in_err-number.field-0.0 Failed c.from_residual.ensures.1 c.in_err-number.was failed));
}

pub returns-in-Ok-clause-last : goal.returns-in-Ok-clause-last
returns-in-Ok-clause-last g c = c.in_ok-number.ensures.last
