use Rattle.std.proofs.Common.{◌∙◌, ap, refl, is_err, arith, inl, inr, Err, Result}
use Rattle.tce_outside.specs.Fault.{HasCause, TellsFaults}
use Rattle.tce_tools.specs.declared.fault.ToolFault.{ToolFault}
use Rattle.tce_tools.specs.Answers.{IsOfCopy}
use Rattle.tce_tools.specs.Flat.{contents}
use Rattle.tce_tools.specs.Storage.{element_in}
use Rattle.tce_tools.specs.Told.{KeepsFiles, IsDiskFault}
use Rattle.tce_tools.proofs.Apart.{ok_not_err, failed_not_memory, memory_not_disk}
use Rattle.tce_tools.proofs.Faults.{not_made}
use Rattle.tce_tools.proofs.NoHalf.{bare_left, bare_stored}
use Rattle.tce_tools.proofs.Told.{failed_from}
use Rattle.std.proofs.lemmas.Result.{IfOk-from_err}
use Rattle.std.proofs.lemmas.Bool.{false≢true}
use Rattle.tce_tools.proofs.copying.copy.Goals as goal

pub write_start-requires : goal.write_start-requires
write_start-requires g c =
    bare_stored c.args.files.to c.args.files.shape.now c.elements-limits.ensures.limits c.args.files.target.now (λ fs. element_in c.args.files.from c.args.files.shape.now (contents fs c.args.files.source.now)) (g.D.Disk.files c.args.disk.now) _ c.in_ok-copy_elements.ensures.copied

pub returns-in-Ok-clause-copied : goal.returns-in-Ok-clause-copied
returns-in-Ok-clause-copied g c = c.in-Ok.ensures.written (g.D.Disk.files c.args.disk.now) (λ fs. element_in c.args.files.from c.args.files.shape.now (contents fs c.args.files.source.now)) c.in_ok-copy_elements.ensures.copied

pub returns-in-Ok-clause-no_half : goal.returns-in-Ok-clause-no_half
returns-in-Ok-clause-no_half g c =
    bare_left c.args.files.to c.args.files.shape.now c.args.files.target.now (λ fs. element_in c.args.files.from c.args.files.shape.now (contents fs c.args.files.source.now)) (g.D.Disk.files c.args.disk.now) (g.D.Disk.files c.copy_elements.new.disk) _ c.in_ok-copy_elements.ensures.copied c.write_start.ensures.behind

pub returns-in-Err-clause-no_half : goal.returns-in-Err-clause-no_half
returns-in-Err-clause-no_half g c =
    bare_left c.args.files.to c.args.files.shape.now c.args.files.target.now (λ fs. element_in c.args.files.from c.args.files.shape.now (contents fs c.args.files.source.now)) (g.D.Disk.files c.args.disk.now) (g.D.Disk.files c.copy_elements.new.disk) _ c.in_ok-copy_elements.ensures.copied c.write_start.ensures.behind

pub returns-in-Ok-clause-others : goal.returns-in-Ok-clause-others
returns-in-Ok-clause-others g c = c.write_start.ensures.others ∙ c.copy_elements.ensures.others

pub returns-in-Err-clause-others : goal.returns-in-Err-clause-others
returns-in-Err-clause-others g c = c.write_start.ensures.others ∙ c.copy_elements.ensures.others

pub returns-in-Ok-clause-fault_reported : goal.returns-in-Ok-clause-fault_reported
returns-in-Ok-clause-fault_reported g c = record {
  cause = record { later = omega (arith, c.copy_elements.ensures.fault_reported.cause.later, c.write_start.ensures.fault_reported.cause.later); rose = λ e. absurd (ok_not_err e) };
  quiet = λ fine. c.in-Ok.ensures.fault_reported.quiet false≢true ∙ c.in_ok-copy_elements.ensures.fault_reported.quiet (λ e. ok_not_err e);
}

pub returns-in-Err-clause-fault_reported : goal.returns-in-Err-clause-fault_reported
returns-in-Err-clause-fault_reported g c = record {
  cause = failed_from _ (g.D.Disk.faults c.copy_elements.new.disk) _ _ _ c.copy_elements.ensures.fault_reported.cause.later c.write_start.ensures.fault_reported.cause (ap is_err c.in-Err.is);
  quiet = λ fine. absurd (fine refl);
}

pub returns-in_err-copy_elements-clause-own : goal.returns-in_err-copy_elements-clause-own
returns-in_err-copy_elements-clause-own g c = not_made (λ (r : Result (Unit {0}) ToolFault). IsOfCopy r) c.from_residual.result c.in_err-copy_elements.field-0.0 c.from_residual.ensures.1 (λ disk. inl refl) (λ memory. inr refl)

pub returns-in_err-copy_elements-clause-refused : goal.returns-in_err-copy_elements-clause-refused
returns-in_err-copy_elements-clause-refused g c =
    not_made (λ (r : Result (Unit {0}) ToolFault). KeepsFiles r (g.D.Disk.files c.args.disk.now) (g.D.Disk.files c.copy_elements.new.disk)) c.from_residual.result c.in_err-copy_elements.field-0.0 c.from_residual.ensures.1
    (λ disk other. absurd (other refl)) (λ memory other. c.copy_elements.ensures.memory (c.in_err-copy_elements.was ∙ ap Err memory))

pub returns-in_err-copy_elements-clause-fault_reported : goal.returns-in_err-copy_elements-clause-fault_reported
returns-in_err-copy_elements-clause-fault_reported g c = record {
  cause =
      not_made (λ (r : Result (Unit {0}) ToolFault). HasCause (g.D.Disk.faults c.args.disk.now) (g.D.Disk.faults c.copy_elements.new.disk) (IsDiskFault r)) c.from_residual.result c.in_err-copy_elements.field-0.0 c.from_residual.ensures.1
      (λ disk. record { later = c.copy_elements.ensures.fault_reported.cause.later; rose = λ failed. c.copy_elements.ensures.fault_reported.cause.rose (c.in_err-copy_elements.was ∙ ap Err disk) })
      (λ memory. record { later = c.copy_elements.ensures.fault_reported.cause.later; rose = λ failed. absurd (memory_not_disk _ refl failed) });
  quiet =
      not_made (λ (r : Result (Unit {0}) ToolFault). TellsFaults (g.D.Disk.faults c.args.disk.now) (g.D.Disk.faults c.copy_elements.new.disk) (IsDiskFault r)) c.from_residual.result c.in_err-copy_elements.field-0.0 c.from_residual.ensures.1
      (λ disk fine. absurd (fine refl)) (λ memory fine. c.copy_elements.ensures.fault_reported.quiet (λ failed. failed_not_memory _ failed (c.in_err-copy_elements.was ∙ ap Err memory)));
}

pub copy_elements-requires-clause-names : goal.copy_elements-requires-clause-names
copy_elements-requires-clause-names g c = c.requires.names

pub copy_elements-requires-clause-source : goal.copy_elements-requires-clause-source
copy_elements-requires-clause-source g c = c.requires.source

pub returns-in_err-copy_elements-clause-copied : goal.returns-in_err-copy_elements-clause-copied
returns-in_err-copy_elements-clause-copied g c = IfOk-from_err c.from_residual.result _ c.from_residual.ensures.0

pub returns-in_err-copy_elements-clause-no_half : goal.returns-in_err-copy_elements-clause-no_half
returns-in_err-copy_elements-clause-no_half g c = c.copy_elements.ensures.no_half

pub returns-in_err-copy_elements-clause-others : goal.returns-in_err-copy_elements-clause-others
returns-in_err-copy_elements-clause-others g c = c.copy_elements.ensures.others

pub returns-in-Err-clause-own : goal.returns-in-Err-clause-own
returns-in-Err-clause-own g c = inl refl

pub returns-in-Err-clause-refused : goal.returns-in-Err-clause-refused
returns-in-Err-clause-refused g c = λ other. absurd (other refl)
