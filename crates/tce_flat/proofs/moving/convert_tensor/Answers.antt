use Rattle.std.proofs.Common.{◌≡◌, ◌∙◌, List, ℕ, subst, refl, Err, codes}
use Rattle.tce_outside.specs.Files.{file, others}
use Rattle.tce_array.specs.Forms.{head_len, form_bytes}
use Rattle.tce_tools.specs.Flat.{array_element, contents}
use Rattle.tce_tools.specs.NoHalf.{LeavesNoHalfOf}
use Rattle.tce_flat.specs.Tensors.{array_file, converted_file}
use Rattle.tce_tools.proofs.NoHalf.{same_left}
use Rattle.tce_tools.specs.Answers.{HasFitting, IsConvertAnswer}
use Rattle.tce_tools.specs.Storage.{holding_by}
use Rattle.std.specs.Option.{ForSome}
use Rattle.tce_flat.specs.Tools.{Stands}
use Rattle.tce_flat.proofs.Tools.{report_is}
use Rattle.tce_flat.proofs.May.{may_form}
use Rattle.tce_flat.proofs.ToolFaults.{tool_keeps, tool_cause, tool_told, form_refused}
use Rattle.tce_outside.proofs.Causes.{answered_quiet}
use Rattle.tce_command.proofs.Outcomes.{ok_no_disk}
use Rattle.tce_flat.proofs.moving.convert_tensor.Goals as goal

pub returns-in-Ok-convert-clause-no_half : goal.returns-in-Ok-convert-clause-no_half
returns-in-Ok-convert-clause-no_half g c =
    subst (λ (name : List ℕ). LeavesNoHalfOf name (head_len c.args.form c.args.shape.now) (λ files. form_bytes c.args.form c.args.shape.now (array_element c.args.shape.now (contents files (array_file c.args.tensor.now)))) (g.D.Disk.files c.args.disk.now) (g.D.Disk.files c.convert.new.disk))
    (c.as_str-3.ensures.value ∙ c.file_of-converted.ensures)
    (subst (λ (array : List ℕ). LeavesNoHalfOf c.as_str-3.result.now (head_len c.args.form c.args.shape.now) (λ files. form_bytes c.args.form c.args.shape.now (array_element c.args.shape.now (contents files array))) (g.D.Disk.files c.args.disk.now) (g.D.Disk.files c.convert.new.disk))
    (c.as_str-2.ensures.value ∙ c.file_of-array.ensures) c.convert.ensures.no_half)

pub returns-in-Ok-convert-clause-others : goal.returns-in-Ok-convert-clause-others
returns-in-Ok-convert-clause-others g c =
    subst (λ (name : List ℕ). others name (g.D.Disk.files c.convert.new.disk) ≡ others name (g.D.Disk.files c.args.disk.now)) (c.as_str-3.ensures.value ∙ c.file_of-converted.ensures) c.convert.ensures.others

pub returns-in-Err-clause-no_half : goal.returns-in-Err-clause-no_half
returns-in-Err-clause-no_half g c =
    subst (λ (name : List ℕ). LeavesNoHalfOf name (head_len c.args.form c.args.shape.now) (λ files. form_bytes c.args.form c.args.shape.now (array_element c.args.shape.now (contents files (array_file c.args.tensor.now)))) (g.D.Disk.files c.args.disk.now) (g.D.Disk.files c.convert.new.disk))
    (c.as_str-3.ensures.value ∙ c.file_of-converted.ensures)
    (subst (λ (array : List ℕ). LeavesNoHalfOf c.as_str-3.result.now (head_len c.args.form c.args.shape.now) (λ files. form_bytes c.args.form c.args.shape.now (array_element c.args.shape.now (contents files array))) (g.D.Disk.files c.args.disk.now) (g.D.Disk.files c.convert.new.disk))
    (c.as_str-2.ensures.value ∙ c.file_of-array.ensures) c.convert.ensures.no_half)

pub returns-in-Err-clause-others : goal.returns-in-Err-clause-others
returns-in-Err-clause-others g c =
    subst (λ (name : List ℕ). others name (g.D.Disk.files c.convert.new.disk) ≡ others name (g.D.Disk.files c.args.disk.now)) (c.as_str-3.ensures.value ∙ c.file_of-converted.ensures) c.convert.ensures.others

pub returns-in_default-clause-no_half : goal.returns-in_default-clause-no_half
returns-in_default-clause-no_half g c =
    same_left (converted_file c.args.tensor.now) (head_len c.args.form c.args.shape.now) (λ files. form_bytes c.args.form c.args.shape.now (array_element c.args.shape.now (contents files (array_file c.args.tensor.now)))) _ _ refl

pub returns-in-Ok-convert-clause-done : goal.returns-in-Ok-convert-clause-done
returns-in-Ok-convert-clause-done g c = record {
  found = subst (λ (array : List ℕ). ForSome (g.D.Disk.files c.args.disk.now) (λ files. HasFitting c.args.form c.args.shape.now (file files array))) (c.as_str-2.ensures.value ∙ c.file_of-array.ensures) c.in-Ok-convert.ensures.answer;
  written =
      subst (λ (name : List ℕ). g.D.Disk.files c.convert.new.disk ≡ holding_by name (λ files. form_bytes c.args.form c.args.shape.now (array_element c.args.shape.now (contents files (array_file c.args.tensor.now)))) (g.D.Disk.files c.args.disk.now))
      (c.as_str-3.ensures.value ∙ c.file_of-converted.ensures)
      (subst (λ (array : List ℕ). g.D.Disk.files c.convert.new.disk ≡ holding_by c.as_str-3.result.now (λ files. form_bytes c.args.form c.args.shape.now (array_element c.args.shape.now (contents files array))) (g.D.Disk.files c.args.disk.now))
      (c.as_str-2.ensures.value ∙ c.file_of-array.ensures) c.in-Ok-convert.ensures.converted);
  reported = report_is (codes "convert") _ _ _ _ _ c.in-Ok.ensures (c.as_str.ensures.value ∙ c.file_of-converted.ensures) c.form_len.ensures.bytes;
}

pub returns-in-Err-clause-refused : goal.returns-in-Err-clause-refused
returns-in-Err-clause-refused g c =
    let stands : Stands c.args.tensor.now (array_file c.args.tensor.now) c.in-Err.fault c.refusal_of.result =
    subst (λ (input : List ℕ). Stands c.args.tensor.now input c.in-Err.fault c.refusal_of.result) (c.as_str-in-Err.ensures.value ∙ c.file_of-array.ensures) c.refusal_of.ensures
    in (
      may_form c.args.tensor.now c.args.form c.in-Err.fault c.refusal_of.result stands c.in-Err.ensures.own,
      λ files told. form_refused files c.args.tensor.now c.args.form c.args.shape.now c.in-Err.fault c.refusal_of.result stands
          (subst (λ (input : List ℕ). IsConvertAnswer c.args.form c.args.shape.now (file files input) (Err c.in-Err.fault)) (c.as_str-2.ensures.value ∙ c.file_of-array.ensures) (c.in-Err.ensures.answer files told)),
    )

pub returns-in-Err-clause-unchanged : goal.returns-in-Err-clause-unchanged
returns-in-Err-clause-unchanged g c = tool_keeps c.args.tensor.now c.as_str-in-Err.result.now c.in-Err.fault c.refusal_of.result _ _ c.refusal_of.ensures c.in-Err.ensures.refused

pub returns-in-Err-clause-fault_reported : goal.returns-in-Err-clause-fault_reported
returns-in-Err-clause-fault_reported g c = record {
  cause = tool_cause c.args.tensor.now c.as_str-in-Err.result.now c.in-Err.fault c.refusal_of.result _ _ c.refusal_of.ensures c.in-Err.ensures.fault_reported.cause;
  quiet = tool_told c.args.tensor.now c.as_str-in-Err.result.now c.in-Err.fault c.refusal_of.result _ _ c.refusal_of.ensures c.in-Err.ensures.fault_reported.quiet;
}

pub returns-in-Ok-convert-clause-fault_reported : goal.returns-in-Ok-convert-clause-fault_reported
returns-in-Ok-convert-clause-fault_reported g c = record {
  cause = record { later = c.in-Ok-convert.ensures.fault_reported.cause.later; rose = λ failed. absurd (ok_no_disk _ _ refl failed) };
  quiet = λ none. answered_quiet _ _ _ _ refl c.in-Ok-convert.ensures.fault_reported.quiet;
}
