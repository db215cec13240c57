use Rattle.std.proofs.Common.{◌≡◌, ◌∙◌, List, ℕ, subst, codes, refl}
use Rattle.tce_outside.specs.Files.{others}
use Rattle.tce_array.specs.declared.form.Form.TheVariants.{One}
use Rattle.tce_array.specs.Forms.{head_len, array_bytes}
use Rattle.tce_tools.specs.Flat.{flat_element, contents}
use Rattle.tce_tools.specs.NoHalf.{LeavesNoHalfOf}
use Rattle.tce_tools.specs.Storage.{holding_by}
use Rattle.tce_flat.proofs.Tools.{report_is}
use Rattle.tce_tools.proofs.NoHalf.{same_left}
use Rattle.tce_flat.specs.Tensors.{array_file}
use Rattle.tce_flat.proofs.May.{may_flat}
use Rattle.tce_flat.proofs.ToolFaults.{tool_keeps, tool_cause, tool_told, flat_refused}
use Rattle.tce_outside.proofs.Causes.{answered_quiet}
use Rattle.tce_command.proofs.Outcomes.{ok_no_disk}
use Rattle.tce_flat.proofs.moving.pack_tensor.Goals as goal

pub returns-in-Ok-pack-clause-done : goal.returns-in-Ok-pack-clause-done
returns-in-Ok-pack-clause-done g c = record {
  found = c.in-Ok-pack.ensures.answer;
  written =
      subst (λ (name : List ℕ). g.D.Disk.files c.pack.new.disk ≡ holding_by name (λ files. array_bytes c.args.shape.now (flat_element c.args.shape.now (contents files c.args.flat.now))) (g.D.Disk.files c.args.disk.now))
      (c.as_str-2.ensures.value ∙ c.file_of-array.ensures) c.in-Ok-pack.ensures.packed;
  reported = report_is (codes "pack") _ _ _ _ _ c.in-Ok.ensures (c.as_str.ensures.value ∙ c.file_of-array.ensures) c.form_len.ensures.bytes;
}

pub returns-in-Ok-pack-clause-no_half : goal.returns-in-Ok-pack-clause-no_half
returns-in-Ok-pack-clause-no_half g c =
    subst (λ (name : List ℕ). LeavesNoHalfOf name (head_len One c.args.shape.now) (λ files. array_bytes c.args.shape.now (flat_element c.args.shape.now (contents files c.args.flat.now))) (g.D.Disk.files c.args.disk.now) (g.D.Disk.files c.pack.new.disk))
    (c.as_str-2.ensures.value ∙ c.file_of-array.ensures) c.pack.ensures.no_half

pub returns-in-Ok-pack-clause-others : goal.returns-in-Ok-pack-clause-others
returns-in-Ok-pack-clause-others g c =
    subst (λ (name : List ℕ). others name (g.D.Disk.files c.pack.new.disk) ≡ others name (g.D.Disk.files c.args.disk.now)) (c.as_str-2.ensures.value ∙ c.file_of-array.ensures) c.pack.ensures.others

pub returns-in-Err-clause-no_half : goal.returns-in-Err-clause-no_half
returns-in-Err-clause-no_half g c =
    subst (λ (name : List ℕ). LeavesNoHalfOf name (head_len One c.args.shape.now) (λ files. array_bytes c.args.shape.now (flat_element c.args.shape.now (contents files c.args.flat.now))) (g.D.Disk.files c.args.disk.now) (g.D.Disk.files c.pack.new.disk))
    (c.as_str-2.ensures.value ∙ c.file_of-array.ensures) c.pack.ensures.no_half

pub returns-in-Err-clause-others : goal.returns-in-Err-clause-others
returns-in-Err-clause-others g c =
    subst (λ (name : List ℕ). others name (g.D.Disk.files c.pack.new.disk) ≡ others name (g.D.Disk.files c.args.disk.now)) (c.as_str-2.ensures.value ∙ c.file_of-array.ensures) c.pack.ensures.others

pub returns-in_default-clause-no_half : goal.returns-in_default-clause-no_half
returns-in_default-clause-no_half g c =
    same_left (array_file c.args.tensor.now) (head_len One c.args.shape.now) (λ files. array_bytes c.args.shape.now (flat_element c.args.shape.now (contents files c.args.flat.now))) _ _ refl

pub returns-in-Err-clause-refused : goal.returns-in-Err-clause-refused
returns-in-Err-clause-refused g c = (
  may_flat c.args.tensor.now c.args.flat.now c.in-Err.fault c.refusal_of.result c.refusal_of.ensures c.in-Err.ensures.own,
  λ files told. flat_refused files c.args.tensor.now c.args.flat.now c.args.shape.now c.in-Err.fault c.refusal_of.result c.refusal_of.ensures (c.in-Err.ensures.answer files told),
)

pub returns-in-Err-clause-unchanged : goal.returns-in-Err-clause-unchanged
returns-in-Err-clause-unchanged g c = tool_keeps c.args.tensor.now c.args.flat.now c.in-Err.fault c.refusal_of.result _ _ c.refusal_of.ensures c.in-Err.ensures.refused

pub returns-in-Err-clause-fault_reported : goal.returns-in-Err-clause-fault_reported
returns-in-Err-clause-fault_reported g c = record {
  cause = tool_cause c.args.tensor.now c.args.flat.now c.in-Err.fault c.refusal_of.result _ _ c.refusal_of.ensures c.in-Err.ensures.fault_reported.cause;
  quiet = tool_told c.args.tensor.now c.args.flat.now c.in-Err.fault c.refusal_of.result _ _ c.refusal_of.ensures c.in-Err.ensures.fault_reported.quiet;
}

pub returns-in-Ok-pack-clause-fault_reported : goal.returns-in-Ok-pack-clause-fault_reported
returns-in-Ok-pack-clause-fault_reported g c = record {
  cause = record { later = c.in-Ok-pack.ensures.fault_reported.cause.later; rose = λ failed. absurd (ok_no_disk _ _ refl failed) };
  quiet = λ none. answered_quiet _ _ _ _ refl c.in-Ok-pack.ensures.fault_reported.quiet;
}
