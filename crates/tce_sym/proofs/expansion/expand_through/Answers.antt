use Rattle.std.proofs.Common.{◌∙◌, ap, is_err, arith, refl}
use Rattle.tce_array.specs.declared.form.Form.TheVariants.{One}
use Rattle.tce_tools.specs.declared.storage.Storage.TheVariants.{Array}
use Rattle.tce_tools.specs.Flat.{contents}
use Rattle.tce_tools.proofs.NoHalf.{bare_left, bare_stored}
use Rattle.tce_tools.proofs.Told.{failed_from}
use Rattle.tce_sym.specs.Storage.{full_cell}
use Rattle.std.proofs.lemmas.Result.{IfOk-from_err}
use Rattle.std.proofs.lemmas.Bool.{false≢true}
use Rattle.tce_outside.specs.declared.device.OutFault.TheVariants.{Failed, Memory}
use Rattle.tce_tools.proofs.Apart.{ok_not_err, failed_not_memory}
use Rattle.tce_tools.proofs.Faults.{making_failed, failed_making}
use Rattle.tce_sym.proofs.expansion.expand_through.Goals as goal

pub write_start-requires : goal.write_start-requires
write_start-requires g c =
    bare_stored (Array One) c.args.shape.now c.elements-limits.ensures.limits c.args.array.now (λ fs. full_cell c.args.shape.now.extents c.args.s.now (contents fs c.args.packed.now)) (g.D.Disk.files c.args.disk.now) _ c.in_ok-expand_elements.ensures.made

pub returns-in-Ok-clause-expanded : goal.returns-in-Ok-clause-expanded
returns-in-Ok-clause-expanded g c =
    c.in-Ok.ensures.written (g.D.Disk.files c.args.disk.now) (λ fs. full_cell c.args.shape.now.extents c.args.s.now (contents fs c.args.packed.now)) c.in_ok-expand_elements.ensures.made

pub returns-in-Ok-clause-no_half : goal.returns-in-Ok-clause-no_half
returns-in-Ok-clause-no_half g c =
    bare_left (Array One) c.args.shape.now c.args.array.now (λ fs. full_cell c.args.shape.now.extents c.args.s.now (contents fs c.args.packed.now)) (g.D.Disk.files c.args.disk.now) (g.D.Disk.files c.expand_elements.new.disk) _
    c.in_ok-expand_elements.ensures.made c.write_start.ensures.behind

pub returns-in-Err-clause-no_half : goal.returns-in-Err-clause-no_half
returns-in-Err-clause-no_half g c =
    bare_left (Array One) c.args.shape.now c.args.array.now (λ fs. full_cell c.args.shape.now.extents c.args.s.now (contents fs c.args.packed.now)) (g.D.Disk.files c.args.disk.now) (g.D.Disk.files c.expand_elements.new.disk) _
    c.in_ok-expand_elements.ensures.made c.write_start.ensures.behind

pub returns-in-Ok-clause-others : goal.returns-in-Ok-clause-others
returns-in-Ok-clause-others g c = c.write_start.ensures.others ∙ c.in_ok-expand_elements.ensures.others

pub returns-in-Err-clause-others : goal.returns-in-Err-clause-others
returns-in-Err-clause-others g c = c.write_start.ensures.others ∙ c.in_ok-expand_elements.ensures.others

pub returns-in-Ok-clause-fault_reported : goal.returns-in-Ok-clause-fault_reported
returns-in-Ok-clause-fault_reported g c = record {
  cause = record { later = omega (arith, c.in_ok-expand_elements.ensures.fault_reported.cause.later, c.write_start.ensures.fault_reported.cause.later); rose = λ e. absurd (ok_not_err e) };
  quiet = λ fine. c.in-Ok.ensures.fault_reported.quiet false≢true ∙ c.in_ok-expand_elements.ensures.fault_reported.quiet (λ e. ok_not_err e);
}

pub returns-in-Err-clause-fault_reported : goal.returns-in-Err-clause-fault_reported
returns-in-Err-clause-fault_reported g c = record {
  cause = failed_from _ (g.D.Disk.faults c.expand_elements.new.disk) _ _ _ c.in_ok-expand_elements.ensures.fault_reported.cause.later c.write_start.ensures.fault_reported.cause (ap is_err c.in-Err.is);
  quiet = λ fine. absurd (fine refl);
}

pub expand_elements-requires-clause-names : goal.expand_elements-requires-clause-names
expand_elements-requires-clause-names g c = c.requires.names

pub expand_elements-requires-clause-some : goal.expand_elements-requires-clause-some
expand_elements-requires-clause-some g c = c.requires.some

pub expand_elements-requires-clause-right : goal.expand_elements-requires-clause-right
expand_elements-requires-clause-right g c = c.requires.right

pub expand_elements-requires-clause-file : goal.expand_elements-requires-clause-file
expand_elements-requires-clause-file g c = c.requires.file

pub returns-in_err-expand_elements-clause-expanded : goal.returns-in_err-expand_elements-clause-expanded
returns-in_err-expand_elements-clause-expanded g c = IfOk-from_err c.from_residual.result _ c.from_residual.ensures.0

pub returns-in_err-expand_elements-clause-memory : goal.returns-in_err-expand_elements-clause-memory
returns-in_err-expand_elements-clause-memory g c = λ memory. c.expand_elements.ensures.memory (making_failed c.from_residual.result c.expand_elements.result c.in_err-expand_elements.field-0.0 Memory c.from_residual.ensures.1 c.in_err-expand_elements.was memory)

pub returns-in_err-expand_elements-clause-no_half : goal.returns-in_err-expand_elements-clause-no_half
returns-in_err-expand_elements-clause-no_half g c = c.expand_elements.ensures.no_half

pub returns-in_err-expand_elements-clause-others : goal.returns-in_err-expand_elements-clause-others
returns-in_err-expand_elements-clause-others g c = c.expand_elements.ensures.others

pub returns-in_err-expand_elements-clause-fault_reported : goal.returns-in_err-expand_elements-clause-fault_reported
returns-in_err-expand_elements-clause-fault_reported g c = record {
  cause = record { later = c.expand_elements.ensures.fault_reported.cause.later; rose = λ failed. c.expand_elements.ensures.fault_reported.cause.rose (making_failed c.from_residual.result c.expand_elements.result c.in_err-expand_elements.field-0.0 Failed c.from_residual.ensures.1 c.in_err-expand_elements.was failed) };
  quiet = λ fine. c.expand_elements.ensures.fault_reported.quiet (λ failed. fine (failed_making c.from_residual.result c.expand_elements.result c.in_err-expand_elements.field-0.0 Failed c.from_residual.ensures.1 c.in_err-expand_elements.was failed));
}

pub returns-in-Ok-clause-memory : goal.returns-in-Ok-clause-memory
returns-in-Ok-clause-memory g c = λ memory. absurd (ok_not_err memory)

pub returns-in-Err-clause-memory : goal.returns-in-Err-clause-memory
returns-in-Err-clause-memory g c = λ memory. absurd (failed_not_memory _ refl memory)
