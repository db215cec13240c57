use Rattle.std.proofs.Common.{◌∙◌, ap, refl, subst, List, ℕ, Option, Result, Err, rules}
use Rattle.tce_space.specs.Tiling.{Tiling}
use Rattle.tce_outside.specs.Fault.{HasCause, TellsFaults}
use Rattle.tce_outside.specs.Files.{Files, file, others}
use Rattle.tce_outside.proofs.Causes.{cause_since}
use Rattle.tce_tools.specs.declared.fault.ToolFault.{ToolFault}
use Rattle.tce_tools.specs.declared.storage.Storage.TheVariants.{Flat, Array}
use Rattle.tce_tools.specs.Answers.{HasArray, IsUnpackAnswer, IsOfUnpack}
use Rattle.tce_tools.specs.Flat.{contents, array_element, flat_bytes}
use Rattle.tce_tools.specs.Storage.{stored_bytes, element_in, holding_by}
use Rattle.tce_tools.specs.Told.{Copies, Unpacks, KeepsFiles, IsDiskFault}
use Rattle.tce_tools.proofs.Apart.{ok_not_err, array_not_disk, same_err}
use Rattle.tce_tools.proofs.Faults.{not_opened, copied_or_not, on_ok}
use Rattle.tce_tools.proofs.Forms.{opened_form, array_elements}
use Rattle.tce_tools.proofs.NoHalf.{same_left, moved_left}
use Rattle.tce_tools.proofs.Told.{held_told}
use Rattle.tce_tools.proofs.packing.unpack.Goals as goal

pub returns-clause-unpacked : goal.returns-clause-unpacked
returns-clause-unpacked g c =
    let s : Tiling = c.args.shape.now in
    let before : Option Files = g.D.Disk.files c.args.disk.now in
    let after : Option Files = g.D.Disk.files c.copy.new.disk in
    let old : Files → List ℕ = λ fs. stored_bytes Flat s (element_in (Array c.in_ok-form.form) s (contents fs c.args.array.now)) in
    on_ok c.copy.result (Copies c.args.array.now (Array c.in_ok-form.form) c.args.flat.now Flat s (g.D.Disk.files c.open.new.disk) after) (Unpacks c.args.array.now c.args.flat.now s before after)
    (λ copied. held_told before after c.args.flat.now old (λ fs. stored_bytes Flat s (array_element s (contents fs c.args.array.now)))
    (copied ∙ ap (holding_by c.args.flat.now old) c.open.ensures.same)
    (λ fs was. ap (stored_bytes Flat s) (array_elements s c.in_ok-form.form (contents fs c.args.array.now) (opened_form s c.in_ok-form.form (file fs c.args.array.now) (c.in_ok-form.ensures.form fs was)))))
    c.copy.ensures.copied

pub returns-clause-answer : goal.returns-clause-answer
returns-clause-answer g c x told =
    let array : HasArray c.args.shape.now (file x c.args.array.now) = search rules in
    copied_or_not (λ (r : Result (Unit {0}) ToolFault). IsUnpackAnswer c.args.shape.now (file x c.args.array.now) r) c.copy.result c.copy.ensures.own (λ done. array) tt array

pub returns-clause-own : goal.returns-clause-own
returns-clause-own g c = copied_or_not (λ (r : Result (Unit {0}) ToolFault). IsOfUnpack r) c.copy.result c.copy.ensures.own (λ done. tt) tt tt

pub returns-clause-refused : goal.returns-clause-refused
returns-clause-refused g c = subst (λ (o : Option Files). KeepsFiles c.copy.result o (g.D.Disk.files c.copy.new.disk)) c.open.ensures.same c.copy.ensures.refused

pub returns-clause-no_half : goal.returns-clause-no_half
returns-clause-no_half g c =
    moved_left Flat c.args.shape.now c.in_ok-form.form c.args.array.now c.args.flat.now (g.D.Disk.files c.args.disk.now) _ _ c.open.ensures.same c.in_ok-form.ensures.form c.copy.ensures.no_half

pub returns-clause-others : goal.returns-clause-others
returns-clause-others g c = c.copy.ensures.others ∙ ap (others c.args.flat.now) c.open.ensures.same

pub returns-clause-fault_reported : goal.returns-clause-fault_reported
returns-clause-fault_reported g c = record {
  cause = cause_since _ (g.D.Disk.faults c.open.new.disk) _ c.open.ensures.fault_reported.cause.later c.copy.ensures.fault_reported.cause;
  quiet = λ fine. c.copy.ensures.fault_reported.quiet fine ∙ c.in_ok-form.ensures.fault_reported.quiet (λ e. ok_not_err e);
}

pub returns-in_err-form-clause-answer : goal.returns-in_err-form-clause-answer
returns-in_err-form-clause-answer g c x told = not_opened (λ (r : Result (Unit {0}) ToolFault). IsUnpackAnswer c.args.shape.now (file x c.args.array.now) r) c.from_residual.result c.in_err-form.field-0.0 c.from_residual.ensures.1 (λ other. (c.in_err-form.ensures.fault x told, other)) (λ disk. tt)

pub returns-in_err-form-clause-own : goal.returns-in_err-form-clause-own
returns-in_err-form-clause-own g c = not_opened (λ (r : Result (Unit {0}) ToolFault). IsOfUnpack r) c.from_residual.result c.in_err-form.field-0.0 c.from_residual.ensures.1 (λ other. other) (λ disk. tt)

pub returns-in_err-form-clause-refused : goal.returns-in_err-form-clause-refused
returns-in_err-form-clause-refused g c = not_opened (λ (r : Result (Unit {0}) ToolFault). KeepsFiles r (g.D.Disk.files c.args.disk.now) (g.D.Disk.files c.open.new.disk)) c.from_residual.result c.in_err-form.field-0.0 c.from_residual.ensures.1 (λ other no. c.open.ensures.same) (λ disk no. c.open.ensures.same)

pub returns-in_err-form-clause-no_half : goal.returns-in_err-form-clause-no_half
returns-in_err-form-clause-no_half g c = same_left c.args.flat.now 262144 (λ fs. flat_bytes c.args.shape.now (array_element c.args.shape.now (contents fs c.args.array.now))) _ _ c.open.ensures.same

pub returns-in_err-form-clause-others : goal.returns-in_err-form-clause-others
returns-in_err-form-clause-others g c = ap (others c.args.flat.now) c.open.ensures.same

pub returns-in_err-form-clause-fault_reported : goal.returns-in_err-form-clause-fault_reported
returns-in_err-form-clause-fault_reported g c = record {
  cause =
      not_opened (λ (r : Result (Unit {0}) ToolFault). HasCause (g.D.Disk.faults c.args.disk.now) (g.D.Disk.faults c.open.new.disk) (IsDiskFault r)) c.from_residual.result c.in_err-form.field-0.0 c.from_residual.ensures.1
      (λ other. record { later = c.open.ensures.fault_reported.cause.later; rose = λ failed. absurd (array_not_disk _ _ refl failed) })
      (λ disk. record { later = c.open.ensures.fault_reported.cause.later; rose = λ failed. c.open.ensures.fault_reported.cause.rose (c.in_err-form.was ∙ ap Err disk) });
  quiet =
      not_opened (λ (r : Result (Unit {0}) ToolFault). TellsFaults (g.D.Disk.faults c.args.disk.now) (g.D.Disk.faults c.open.new.disk) (IsDiskFault r)) c.from_residual.result c.in_err-form.field-0.0 c.from_residual.ensures.1
      (λ other fine. c.open.ensures.fault_reported.quiet (λ failed. other (same_err _ _ _ c.in_err-form.was failed))) (λ disk fine. absurd (fine refl));
}
