use Rattle.std.proofs.Common.{◌∙◌, List, ℕ, subst, refl, Err}
use Rattle.tce_tools.specs.Flat.{flat_bytes, array_element, contents}
use Rattle.tce_tools.specs.NoHalf.{LeavesNoHalfOf}
use Rattle.tce_outside.specs.Files.{file}
use Rattle.tce_tools.specs.Answers.{IsUnpackAnswer}
use Rattle.tce_tools.proofs.NoHalf.{same_left}
use Rattle.tce_flat.specs.Tensors.{array_file}
use Rattle.tce_flat.specs.Tools.{Stands}
use Rattle.tce_flat.proofs.May.{may_array}
use Rattle.tce_flat.proofs.ToolFaults.{tool_keeps, tool_cause, tool_told, array_refused}
use Rattle.tce_outside.proofs.Causes.{answered_quiet}
use Rattle.tce_command.proofs.Outcomes.{ok_no_disk}
use Rattle.tce_flat.proofs.moving.unpack_tensor.Goals as goal

pub returns-in-Ok-unpack-clause-no_half : goal.returns-in-Ok-unpack-clause-no_half
returns-in-Ok-unpack-clause-no_half g c =
    subst (λ (name : List ℕ). LeavesNoHalfOf c.args.flat.now 262144 (λ files. flat_bytes c.args.shape.now (array_element c.args.shape.now (contents files name))) (g.D.Disk.files c.args.disk.now) (g.D.Disk.files c.unpack.new.disk))
    (c.as_str.ensures.value ∙ c.file_of-array.ensures) c.unpack.ensures.no_half

pub returns-in-Err-clause-no_half : goal.returns-in-Err-clause-no_half
returns-in-Err-clause-no_half g c =
    subst (λ (name : List ℕ). LeavesNoHalfOf c.args.flat.now 262144 (λ files. flat_bytes c.args.shape.now (array_element c.args.shape.now (contents files name))) (g.D.Disk.files c.args.disk.now) (g.D.Disk.files c.unpack.new.disk))
    (c.as_str.ensures.value ∙ c.file_of-array.ensures) c.unpack.ensures.no_half

pub returns-in_default-clause-no_half : goal.returns-in_default-clause-no_half
returns-in_default-clause-no_half g c =
    same_left c.args.flat.now 262144 (λ files. flat_bytes c.args.shape.now (array_element c.args.shape.now (contents files (array_file c.args.tensor.now)))) _ _ refl

pub returns-in-Err-clause-refused : goal.returns-in-Err-clause-refused
returns-in-Err-clause-refused g c =
    let stands : Stands c.args.tensor.now (array_file c.args.tensor.now) c.in-Err.fault c.refusal_of.result =
    subst (λ (input : List ℕ). Stands c.args.tensor.now input c.in-Err.fault c.refusal_of.result) (c.as_str-in-Err.ensures.value ∙ c.file_of-array.ensures) c.refusal_of.ensures
    in (
      may_array c.args.tensor.now c.in-Err.fault c.refusal_of.result stands c.in-Err.ensures.own,
      λ files told. array_refused files c.args.tensor.now c.args.shape.now c.in-Err.fault c.refusal_of.result stands
          (subst (λ (input : List ℕ). IsUnpackAnswer c.args.shape.now (file files input) (Err c.in-Err.fault)) (c.as_str.ensures.value ∙ c.file_of-array.ensures) (c.in-Err.ensures.answer files told)),
    )

pub returns-in-Err-clause-unchanged : goal.returns-in-Err-clause-unchanged
returns-in-Err-clause-unchanged g c = tool_keeps c.args.tensor.now c.as_str-in-Err.result.now c.in-Err.fault c.refusal_of.result _ _ c.refusal_of.ensures c.in-Err.ensures.refused

pub returns-in-Err-clause-fault_reported : goal.returns-in-Err-clause-fault_reported
returns-in-Err-clause-fault_reported g c = record {
  cause = tool_cause c.args.tensor.now c.as_str-in-Err.result.now c.in-Err.fault c.refusal_of.result _ _ c.refusal_of.ensures c.in-Err.ensures.fault_reported.cause;
  quiet = tool_told c.args.tensor.now c.as_str-in-Err.result.now c.in-Err.fault c.refusal_of.result _ _ c.refusal_of.ensures c.in-Err.ensures.fault_reported.quiet;
}

pub returns-in-Ok-unpack-clause-fault_reported : goal.returns-in-Ok-unpack-clause-fault_reported
returns-in-Ok-unpack-clause-fault_reported g c = record {
  cause = record { later = c.in-Ok-unpack.ensures.fault_reported.cause.later; rose = λ failed. absurd (ok_no_disk _ _ refl failed) };
  quiet = λ none. answered_quiet _ _ _ _ refl c.in-Ok-unpack.ensures.fault_reported.quiet;
}
