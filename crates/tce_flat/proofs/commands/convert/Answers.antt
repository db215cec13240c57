use Rattle.std.proofs.Common.{rules, ◌∙◌, ap, inl}
use Rattle.std.proofs.lemmas.Result.{IfOk-from_err, err_from_is_err_and}
use Rattle.tce_outside.specs.Files.{others}
use Rattle.tce_outside.proofs.Causes.{cause_since}
use Rattle.tce_flat.specs.Tensors.{converted_file}
use Rattle.tce_flat.specs.Refusals.{IsFormRefusal}
use Rattle.tce_flat.specs.May.{MayLackTensor, MayRefuseForm}
use Rattle.tce_flat.proofs.Names.{short_tensor, short_spec}
use Rattle.tce_flat.proofs.Tools.{converted_from, refused_for, unchanged_from}
use Rattle.tce_command.proofs.Refused.{cause_for, told_for}
use Rattle.tce_flat.specs.NoHalf.{LeavesConverting}
use Rattle.tce_flat.proofs.NoHalf.{left_for}
use Rattle.tce_flat.proofs.commands.convert.Goals as goal

pub find_shape-requires-clause-spec : goal.find_shape-requires-clause-spec
find_shape-requires-clause-spec g c = short_spec c.args.spec.now c.requires.0

pub find_shape-requires-clause-tensor : goal.find_shape-requires-clause-tensor
find_shape-requires-clause-tensor g c = short_tensor c.args.tensor.now c.requires.1

pub convert_tensor-done-requires : goal.convert_tensor-done-requires
convert_tensor-done-requires g c = record { tensor = short_tensor c.args.tensor.now c.requires.1 }

pub returns-in_err-shape-clause-done : goal.returns-in_err-shape-clause-done
returns-in_err-shape-clause-done g c = IfOk-from_err c.from_residual.result _ c.from_residual.ensures.0

pub returns-in_err-shape-clause-refused : goal.returns-in_err-shape-clause-refused
returns-in_err-shape-clause-refused g c =
    let p = err_from_is_err_and c.from_residual.result c.from_residual.ensures.1 in
    rw (p.1, p.2) (inl c.in_err-shape.ensures.refused.0, λ files told. inl (c.in_err-shape.ensures.refused.1 files told))

pub returns-in_err-shape-clause-unchanged : goal.returns-in_err-shape-clause-unchanged
returns-in_err-shape-clause-unchanged g c =
    let p = err_from_is_err_and c.from_residual.result c.from_residual.ensures.1 in
    rw p.1 (λ real. c.in_err-shape.ensures.same)

pub returns-in_err-shape-clause-no_half : goal.returns-in_err-shape-clause-no_half
returns-in_err-shape-clause-no_half g c = inl c.in_err-shape.ensures.same

pub returns-in_err-shape-clause-others : goal.returns-in_err-shape-clause-others
returns-in_err-shape-clause-others g c = ap (others (converted_file c.args.tensor.now)) c.in_err-shape.ensures.same

pub returns-in_err-shape-clause-fault_reported : goal.returns-in_err-shape-clause-fault_reported
returns-in_err-shape-clause-fault_reported g c = record {
  cause =
      let p = err_from_is_err_and c.from_residual.result c.from_residual.ensures.1 in
      rw (p.1, p.2) (cause_for _ _ c.in_err-shape.field-0.0 c.in_err-shape.ensures.fault_reported.cause);
  quiet =
      let p = err_from_is_err_and c.from_residual.result c.from_residual.ensures.1 in
      rw (p.1, p.2) (told_for _ _ c.in_err-shape.field-0.0 c.in_err-shape.ensures.fault_reported.quiet);
}

pub returns-clause-done : goal.returns-clause-done
returns-clause-done g c =
    converted_from c.convert_tensor-done.result _ _ _ c.args.spec.now c.args.tensor.now c.args.form c.in_ok-shape.shape c.in_ok-shape.ensures.same
    c.in_ok-shape.ensures.found c.convert_tensor-done.ensures.done

pub returns-clause-refused : goal.returns-clause-refused
returns-clause-refused g c =
    refused_for (λ files. IsFormRefusal files c.args.tensor.now c.args.form) (MayLackTensor c.args.spec.now c.args.tensor.now) (MayRefuseForm c.args.tensor.now c.args.form) _ _ c.args.spec.now c.args.tensor.now c.in_ok-shape.shape c.convert_tensor-done.result c.in_ok-shape.ensures.same
    c.in_ok-shape.ensures.found c.convert_tensor-done.ensures.refused

pub returns-clause-unchanged : goal.returns-clause-unchanged
returns-clause-unchanged g c = unchanged_from _ _ _ c.convert_tensor-done.result c.in_ok-shape.ensures.same c.convert_tensor-done.ensures.unchanged

pub returns-clause-fault_reported : goal.returns-clause-fault_reported
returns-clause-fault_reported g c = record {
  cause = cause_since _ _ _ c.in_ok-shape.ensures.fault_reported.cause.later c.convert_tensor-done.ensures.fault_reported.cause;
  quiet = λ no. c.convert_tensor-done.ensures.fault_reported.quiet no ∙ c.in_ok-shape.ensures.fault_reported.quiet (search rules);
}

pub returns-clause-no_half : goal.returns-clause-no_half
returns-clause-no_half g c =
    left_for (LeavesConverting c.args.tensor.now c.args.form) c.args.spec.now c.args.tensor.now c.in_ok-shape.shape (g.D.Disk.files c.args.disk.now) _ _ c.in_ok-shape.ensures.same
    c.in_ok-shape.ensures.found c.convert_tensor-done.ensures.no_half
