use Rattle.std.proofs.Common.{sym, ◌∙◌, ap, refl, subst, List, ℕ, Option, Result, Err, rules, arith}
use Rattle.tce_space.specs.Tiling.{Tiling}
use Rattle.tce_outside.specs.Fault.{HasCause, TellsFaults}
use Rattle.tce_outside.specs.Files.{Files, file, others}
use Rattle.tce_outside.proofs.Causes.{cause_since, failed_after}
use Rattle.tce_array.specs.Forms.{form_bytes}
use Rattle.tce_tools.specs.declared.fault.ToolFault.{ToolFault}
use Rattle.tce_tools.specs.declared.storage.Storage.TheVariants.{Array}
use Rattle.tce_tools.specs.Answers.{HasFitting, IsConvertAnswer, IsOfConvert}
use Rattle.tce_tools.specs.Flat.{contents, array_element}
use Rattle.tce_tools.specs.Storage.{stored_bytes, element_in, holding_by, last_written}
use Rattle.tce_tools.specs.Told.{Copies, Converts, KeepsFiles, IsDiskFault}
use Rattle.tce_tools.proofs.Apart.{ok_not_err, array_not_disk, same_err}
use Rattle.tce_tools.proofs.Faults.{not_opened, copied_or_not, on_ok, refused_for}
use Rattle.tce_tools.proofs.Forms.{opened_form, opened_fits, opened_is, form_stored, array_elements}
use Rattle.tce_tools.proofs.NoHalf.{same_left, moved_left}
use Rattle.tce_tools.proofs.Told.{held_told}
use Rattle.std.proofs.lemmas.Result.{IfOk-from_err}
use Rattle.std.proofs.lemmas.Bool.{false≢true}
use Rattle.tce_tools.specs.declared.fault.ToolFault.TheVariants.{Disk}
use Rattle.tce_tools.proofs.conversion.convert.Goals as goal

pub returns-clause-converted : goal.returns-clause-converted
returns-clause-converted g c =
    let s : Tiling = c.args.shape.now in
    let before : Option Files = g.D.Disk.files c.args.disk.now in
    let after : Option Files = g.D.Disk.files c.copy.new.disk in
    let old : Files → List ℕ = λ fs. stored_bytes (Array c.args.form) s (element_in (Array c.in_ok-found.found) s (contents fs c.args.array.now)) in
    on_ok c.copy.result (Copies c.args.array.now (Array c.in_ok-found.found) c.args.to.now (Array c.args.form) s (g.D.Disk.files c.misfit_for.new.disk) after) (Converts c.args.array.now c.args.form c.args.to.now s before after)
    (λ copied. held_told before after c.args.to.now old (λ fs. stored_bytes (Array c.args.form) s (array_element s (contents fs c.args.array.now)))
    (copied ∙ ap (holding_by c.args.to.now old) (c.misfit_for.ensures.same ∙ c.open.ensures.same))
    (λ fs was. ap (stored_bytes (Array c.args.form) s) (array_elements s c.in_ok-found.found (contents fs c.args.array.now) (opened_form s c.in_ok-found.found (file fs c.args.array.now) (c.in_ok-found.ensures.form fs was)))))
    c.copy.ensures.copied

pub returns-clause-answer : goal.returns-clause-answer
returns-clause-answer g c x told =
    let fitting : HasFitting c.args.form c.args.shape.now (file x c.args.array.now) =
    opened_fits c.in_ok-found.found c.args.form c.args.shape.now (file x c.args.array.now) (c.in_ok-found.ensures.form x told)
    (λ narrow. c.misfit_for.ensures.none (search rules) narrow x (c.open.ensures.same ∙ told)) in
    copied_or_not (λ (r : Result (Unit {0}) ToolFault). IsConvertAnswer c.args.form c.args.shape.now (file x c.args.array.now) r) c.copy.result c.copy.ensures.own (λ done. fitting) tt fitting

pub returns-clause-own : goal.returns-clause-own
returns-clause-own g c = copied_or_not (λ (r : Result (Unit {0}) ToolFault). IsOfConvert c.args.form r) c.copy.result c.copy.ensures.own (λ done. tt) tt tt

pub returns-clause-refused : goal.returns-clause-refused
returns-clause-refused g c = subst (λ (o : Option Files). KeepsFiles c.copy.result o (g.D.Disk.files c.copy.new.disk)) (c.misfit_for.ensures.same ∙ c.open.ensures.same) c.copy.ensures.refused

pub returns-clause-no_half : goal.returns-clause-no_half
returns-clause-no_half g c =
    moved_left (Array c.args.form) c.args.shape.now c.in_ok-found.found c.args.array.now c.args.to.now (g.D.Disk.files c.args.disk.now) _ _ (c.misfit_for.ensures.same ∙ c.open.ensures.same) c.in_ok-found.ensures.form c.copy.ensures.no_half

pub returns-clause-others : goal.returns-clause-others
returns-clause-others g c = c.copy.ensures.others ∙ ap (others c.args.to.now) (c.misfit_for.ensures.same ∙ c.open.ensures.same)

pub returns-clause-fault_reported : goal.returns-clause-fault_reported
returns-clause-fault_reported g c = record {
  cause = cause_since _ (g.D.Disk.faults c.misfit_for.new.disk) _ (omega (arith, c.open.ensures.fault_reported.cause.later, c.misfit_for.ensures.fault_reported.cause.later)) c.copy.ensures.fault_reported.cause;
  quiet = λ fine. c.copy.ensures.fault_reported.quiet fine ∙ c.in_ok-place.ensures.fault_reported.quiet false≢true ∙ c.in_ok-found.ensures.fault_reported.quiet (λ e. ok_not_err e);
}

pub returns-in_err-found-clause-answer : goal.returns-in_err-found-clause-answer
returns-in_err-found-clause-answer g c x told = not_opened (λ (r : Result (Unit {0}) ToolFault). IsConvertAnswer c.args.form c.args.shape.now (file x c.args.array.now) r) c.from_residual.result c.in_err-found.field-0.0 c.from_residual.ensures.1 (λ other. (c.in_err-found.ensures.fault x told, other)) (λ disk. tt)

pub returns-in_err-found-clause-own : goal.returns-in_err-found-clause-own
returns-in_err-found-clause-own g c = not_opened (λ (r : Result (Unit {0}) ToolFault). IsOfConvert c.args.form r) c.from_residual.result c.in_err-found.field-0.0 c.from_residual.ensures.1 (λ other. other) (λ disk. tt)

pub returns-in_err-found-clause-refused : goal.returns-in_err-found-clause-refused
returns-in_err-found-clause-refused g c = not_opened (λ (r : Result (Unit {0}) ToolFault). KeepsFiles r (g.D.Disk.files c.args.disk.now) (g.D.Disk.files c.open.new.disk)) c.from_residual.result c.in_err-found.field-0.0 c.from_residual.ensures.1 (λ other no. c.open.ensures.same) (λ disk no. c.open.ensures.same)

pub returns-in_err-found-clause-no_half : goal.returns-in_err-found-clause-no_half
returns-in_err-found-clause-no_half g c = same_left c.args.to.now (last_written (Array c.args.form) c.args.shape.now) (λ fs. form_bytes c.args.form c.args.shape.now (array_element c.args.shape.now (contents fs c.args.array.now))) _ _ c.open.ensures.same

pub returns-in_err-found-clause-others : goal.returns-in_err-found-clause-others
returns-in_err-found-clause-others g c = ap (others c.args.to.now) c.open.ensures.same

pub returns-in_err-found-clause-fault_reported : goal.returns-in_err-found-clause-fault_reported
returns-in_err-found-clause-fault_reported g c = record {
  cause =
      not_opened (λ (r : Result (Unit {0}) ToolFault). HasCause (g.D.Disk.faults c.args.disk.now) (g.D.Disk.faults c.open.new.disk) (IsDiskFault r)) c.from_residual.result c.in_err-found.field-0.0 c.from_residual.ensures.1
      (λ other. record { later = c.open.ensures.fault_reported.cause.later; rose = λ failed. absurd (array_not_disk _ _ refl failed) })
      (λ disk. record { later = c.open.ensures.fault_reported.cause.later; rose = λ failed. c.open.ensures.fault_reported.cause.rose (c.in_err-found.was ∙ ap Err disk) });
  quiet =
      not_opened (λ (r : Result (Unit {0}) ToolFault). TellsFaults (g.D.Disk.faults c.args.disk.now) (g.D.Disk.faults c.open.new.disk) (IsDiskFault r)) c.from_residual.result c.in_err-found.field-0.0 c.from_residual.ensures.1
      (λ other fine. c.open.ensures.fault_reported.quiet (λ failed. other (same_err _ _ _ c.in_err-found.was failed))) (λ disk fine. absurd (fine refl));
}

pub returns-in_err-found-clause-converted : goal.returns-in_err-found-clause-converted
returns-in_err-found-clause-converted g c = IfOk-from_err c.from_residual.result _ c.from_residual.ensures.0

pub returns-in_err-place-clause-converted : goal.returns-in_err-place-clause-converted
returns-in_err-place-clause-converted g c = IfOk-from_err c.from_residual-in_err-place.result _ c.from_residual-in_err-place.ensures.0

pub returns-in_err-place-clause-answer : goal.returns-in_err-place-clause-answer
returns-in_err-place-clause-answer g c = λ x told. refused_for (λ (r : Result (Unit {0}) ToolFault). IsConvertAnswer c.args.form c.args.shape.now (file x c.args.array.now) r) c.from_residual-in_err-place.result Disk c.from_residual-in_err-place.ensures.1 tt

pub returns-in_err-place-clause-own : goal.returns-in_err-place-clause-own
returns-in_err-place-clause-own g c = refused_for (λ (r : Result (Unit {0}) ToolFault). IsOfConvert c.args.form r) c.from_residual-in_err-place.result Disk c.from_residual-in_err-place.ensures.1 tt

pub returns-in_err-place-clause-refused : goal.returns-in_err-place-clause-refused
returns-in_err-place-clause-refused g c =
    refused_for (λ (r : Result (Unit {0}) ToolFault). KeepsFiles r (g.D.Disk.files c.args.disk.now) (g.D.Disk.files c.misfit_for.new.disk)) c.from_residual-in_err-place.result Disk c.from_residual-in_err-place.ensures.1 (λ other. c.misfit_for.ensures.same ∙ c.open.ensures.same)

pub returns-in_err-place-clause-no_half : goal.returns-in_err-place-clause-no_half
returns-in_err-place-clause-no_half g c = same_left c.args.to.now (last_written (Array c.args.form) c.args.shape.now) (λ fs. form_bytes c.args.form c.args.shape.now (array_element c.args.shape.now (contents fs c.args.array.now))) _ _ (c.misfit_for.ensures.same ∙ c.open.ensures.same)

pub returns-in_err-place-clause-others : goal.returns-in_err-place-clause-others
returns-in_err-place-clause-others g c = ap (others c.args.to.now) (c.misfit_for.ensures.same ∙ c.open.ensures.same)

pub returns-in_err-place-clause-fault_reported : goal.returns-in_err-place-clause-fault_reported
returns-in_err-place-clause-fault_reported g c = record {
  cause = failed_after (g.D.Disk.faults c.args.disk.now) (g.D.Disk.faults c.open.new.disk) (g.D.Disk.faults c.misfit_for.new.disk) (c.in_ok-found.ensures.fault_reported.quiet (λ e. ok_not_err e)) c.in_err-place.ensures.fault_reported.cause;
  quiet = refused_for (λ (r : Result (Unit {0}) ToolFault). TellsFaults (g.D.Disk.faults c.args.disk.now) (g.D.Disk.faults c.misfit_for.new.disk) (IsDiskFault r)) c.from_residual-in_err-place.result Disk c.from_residual-in_err-place.ensures.1 (λ fine. absurd (fine refl));
}

pub returns-in-Some-clause-refused : goal.returns-in-Some-clause-refused
returns-in-Some-clause-refused g c = λ other. c.misfit_for.ensures.same ∙ c.open.ensures.same

pub returns-in-Some-clause-no_half : goal.returns-in-Some-clause-no_half
returns-in-Some-clause-no_half g c = same_left c.args.to.now (last_written (Array c.args.form) c.args.shape.now) (λ fs. form_bytes c.args.form c.args.shape.now (array_element c.args.shape.now (contents fs c.args.array.now))) _ _ (c.misfit_for.ensures.same ∙ c.open.ensures.same)

pub returns-in-Some-clause-others : goal.returns-in-Some-clause-others
returns-in-Some-clause-others g c = ap (others c.args.to.now) (c.misfit_for.ensures.same ∙ c.open.ensures.same)

pub returns-in-Some-clause-fault_reported : goal.returns-in-Some-clause-fault_reported
returns-in-Some-clause-fault_reported g c = record {
  cause = search rules;
  quiet = λ fine. c.in_ok-place.ensures.fault_reported.quiet false≢true ∙ c.in_ok-found.ensures.fault_reported.quiet (λ e. ok_not_err e);
}

pub copy-requires-clause-names : goal.copy-requires-clause-names
copy-requires-clause-names g c = c.requires

pub misfit_for-requires : goal.misfit_for-requires
misfit_for-requires g c = λ x told.
    form_stored c.in_ok-found.found c.args.shape.now (file x c.args.array.now) (opened_is c.args.shape.now c.in_ok-found.found (file x c.args.array.now) (c.in_ok-found.ensures.form x (sym c.open.ensures.same ∙ told)))

pub copy-requires-clause-source : goal.copy-requires-clause-source
copy-requires-clause-source g c = λ x told.
    form_stored c.in_ok-found.found c.args.shape.now (file x c.args.array.now)
    (opened_is c.args.shape.now c.in_ok-found.found (file x c.args.array.now) (c.in_ok-found.ensures.form x (sym (c.misfit_for.ensures.same ∙ c.open.ensures.same) ∙ told)))
