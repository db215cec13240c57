-- What is left of the files of a demonstration, wherever it ends.
use Rattle.std.proofs.Common.{◌≡◌, ◌∙◌, ℕ, ◌<◌, List, Option, Some, inr, sym, ap, subst, arith}
use Rattle.std.specs.Option.{option_map}
use Rattle.tce_outside.specs.Files.{Files, file, others}
use Rattle.tce_array.specs.declared.form.Form.TheVariants.{One}
use Rattle.tce_array.specs.Forms.{head_len}
use Rattle.tce_array.specs.Files.{LeavesNoHalf}
use Rattle.tce_tools.specs.Demo.{demo_text}
use Rattle.tce_tools.specs.NoHalf.{LeavesNoHalfOf}
use Rattle.tce_spec.specs.Specification.{Specification}
use Rattle.tce_spec.specs.Operands.{shape_of}
use Rattle.tce_job.specs.TensorFiles.{file_of}
use Rattle.tce_job.specs.ResultBytes.{result_bytes}
use Rattle.tce_job.specs.Laws.{LeavesNoHalfResult}
use Rattle.tce_run.specs.DemoSpecification.{IsDemo, IsDemoOf, IsExtent, demo_specification}
use Rattle.tce_run.specs.DemoFiles.{found, LeavesOperands, with_input}
use Rattle.tce_run.proofs.DemoSpecified.{specified}
use Rattle.tce_run.proofs.OtherFiles.{same_found}
use Rattle.tce_run.proofs.NoHalfOperand.{left_then, kept, apart, result_is_last}
use Rattle.tce_run.specs.DemoDone.{LeavesRun, LeavesDemonstration}

-- where the operands are not all written, the result's file is as it was
pub input_left : (s : Specification) (seed : ℕ) (text : List ℕ) (before after : Option Files) → LeavesOperands s seed before after → LeavesRun s seed text before after
input_left s seed text before after left = record { operands = left.arrays; result = kept (file_of s s.result) _ _ before after left.result }

-- the result of a run is left over the operands
result_left : (s : Specification) (seed : ℕ) (text : List ℕ) (before input after : Option Files) → input ≡ option_map (with_input s seed text) before → found (file_of s s.result) input ≡ found (file_of s s.result) before
    → LeavesNoHalfResult s input after → LeavesNoHalfOf (file_of s s.result) (head_len One (shape_of s s.result)) (λ files. result_bytes s (with_input s seed text files)) before after
result_left s seed text before input after made same left fs told gs here =
    let name : List ℕ = file_of s s.result in
    let is : input ≡ Some (with_input s seed text fs) = made ∙ ap (option_map (with_input s seed text)) told in
    let both : Some (file (with_input s seed text fs) name) ≡ Some (file fs name) = ap (found name) (sym is) ∙ same ∙ ap (found name) told in
    let one : file (with_input s seed text fs) name ≡ file fs name = cc in
    subst (λ o. LeavesNoHalf (head_len One (shape_of s s.result)) (result_bytes s (with_input s seed text fs)) o (file gs name)) one (left (with_input s seed text fs) is gs here)

pub run_left : (s : Specification) → IsDemo s → (seed : ℕ) (text : List ℕ) (before input ran after : Option Files) → input ≡ option_map (with_input s seed text) before → LeavesOperands s seed before input
    → others (file_of s s.result) ran ≡ others (file_of s s.result) input → LeavesNoHalfResult s input ran → after ≡ ran → LeavesRun s seed text before after
run_left s d seed text before input ran after made left alone half same =
    subst (λ o. LeavesRun s seed text before o) (sym same) (record {
      operands = λ t lt. left_then (file_of s t) _ _ before input ran (left.arrays t lt) (beside t lt);
      result = result_left s seed text before input ran made left.result half;
    })
  where
    beside : (t : ℕ) → t < 4 → found (file_of s t) ran ≡ found (file_of s t) input
    beside t lt = same_found (file_of s s.result) input ran alone (file_of s t) (λ e. apart s d t 4 (omega arith) (omega arith) (λ is. omega (arith, is)) (e ∙ ap (file_of s) (result_is_last s d)))

pub demo_left : (s : Specification) (text : List ℕ) (seed v o : ℕ) (before after : Option Files) → s ≡ demo_specification v o → text ≡ demo_text v o → IsExtent v → IsExtent o → LeavesRun s seed text before after
    → LeavesDemonstration seed v o before after
demo_left s text seed v o before after is text_is hv ho left =
    inr (s, subst (λ (x : Specification). IsDemoOf v o x) (sym is) (specified v o hv ho), subst (λ (x : List ℕ). LeavesRun s seed x before after) text_is left)
