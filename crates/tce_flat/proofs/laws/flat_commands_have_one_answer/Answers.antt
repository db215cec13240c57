use Rattle.tce_outside.specs.Files.{file}
use Rattle.tce_tools.specs.Answers.{HasFlat, HasArray, HasFitting}
use Rattle.tce_flat.specs.Tensors.{array_file, sym_file}
use Rattle.tce_flat.specs.Refusals.{HasPairs, IsFlatRefusal, IsArrayRefusal, IsFormRefusal, IsSymRefusal}
use Rattle.tce_flat.proofs.Stages.{same_refusal, ready_not_refused}
use Rattle.tce_flat.proofs.Inputs.{one_flat_refusal, flat_not_refused, one_array_refusal, array_not_refused, one_form_refusal, form_not_refused}
use Rattle.tce_flat.proofs.SymInputs.{one_sym_refusal, sym_not_refused}
use Rattle.tce_flat.proofs.laws.flat_commands_have_one_answer.Goals as goal

pub returns : goal.returns
returns c = record {
  pack = λ files spec tensor flat. record {
    granted = λ a. ready_not_refused files spec tensor (λ shape. HasFlat shape (file files flat)) (IsFlatRefusal files flat) a (λ shape. flat_not_refused files flat shape a);
    alone = λ a b. same_refusal files spec tensor (IsFlatRefusal files flat) a b (λ shape. one_flat_refusal files flat shape a b);
  };
  unpack = λ files spec tensor. record {
    granted = λ a. ready_not_refused files spec tensor (λ shape. HasArray shape (file files (array_file tensor))) (IsArrayRefusal files tensor) a (λ shape. array_not_refused files tensor shape a);
    alone = λ a b. same_refusal files spec tensor (IsArrayRefusal files tensor) a b (λ shape. one_array_refusal files tensor shape a b);
  };
  convert = λ files spec tensor form. record {
    granted = λ a. ready_not_refused files spec tensor (λ shape. HasFitting form shape (file files (array_file tensor))) (IsFormRefusal files tensor form) a (λ shape. form_not_refused files tensor form shape a);
    alone = λ a b. same_refusal files spec tensor (IsFormRefusal files tensor form) a b (λ shape. one_form_refusal files tensor form shape a b);
  };
  expand = λ files spec tensor. record {
    granted = λ a. ready_not_refused files spec tensor (λ shape. HasPairs shape (file files (sym_file tensor))) (IsSymRefusal files tensor) a (λ shape. sym_not_refused files tensor shape a);
    alone = λ a b. same_refusal files spec tensor (IsSymRefusal files tensor) a b (λ shape. one_sym_refusal files tensor shape a b);
  };
}
