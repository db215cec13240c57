-- Where the operands of a term stand, and the steps of its windows.
use Rattle.std.proofs.Common.{◌≡◌, ◌<◌, true, false, if◌then◌else◌, refl, sym, ap, ◌∙◌, subst}
use Rattle.std.proofs.lemmas.Bool.{false≢true}
use Rattle.tce_tree.specs.ContractionTree.{operations}
use Rattle.tce_tree.specs.Value.{Assignment}
use Rattle.tce_tree.specs.declared.node.Operand.{Operand}
use Rattle.tce_tree.specs.declared.node.Operand.TheVariants.{Leaf, Constant, Node}
use Rattle.tce_exec.specs.NodeStates.{Places}
use Rattle.tce_exec.specs.Workspace.{Workspace}
use Rattle.tce_exec.specs.Prepared.{IsPrepared}
use Rattle.tce_exec.specs.Windows.{HasPlace, IsOperandWindow, IsPlaceWindow, AreOperandSteps, ArePlaceSteps, HasSteps}
use Rattle.tce_exec.specs.TermWindows.{IsTensor, AreTensors, HasElement, AreTermSteps, AreTermWindows, CanStepTerm}
use Rattle.tce_exec.proofs.Reading.{result_known}
use Rattle.tce_exec.specs.declared.steps.Windows.{Windows}
use Rattle.tce_exec.specs.declared.term_windows.TermOperands.{TermOperands}

pub element_place : (y : Workspace) (o : Operand) (a : Assignment) → IsPrepared y → IsTensor y.places o → HasElement y.places o a → HasPlace y o a
element_place y (Leaf l) a is tensor inside = record { operand = tensor.operand y refl is; known = tensor.known; inside = inside }
element_place y (Constant k) a is tensor inside = absurd tensor
element_place y (Node u) a is tensor inside = absurd tensor

-- windows that begin elsewhere
pub same_term_steps : (p : Places) (o : TermOperands) (old new : Windows) → AreTermSteps p o old → new.left.steps ≡ old.left.steps → new.right.steps ≡ old.right.steps → new.out.steps ≡ old.out.steps
    → AreTermSteps p o new
same_term_steps p o old new h left right out = record {
  left_are = subst (λ ss. AreOperandSteps p o.left.now ss) (sym left) h.left_are;
  right_are = subst (λ ss. AreOperandSteps p o.right.now ss) (sym right) h.right_are;
  out_are = subst (λ ss. ArePlaceSteps p o.out ss) (sym out) h.out_are;
}

pub both_found : (w : Workspace) (o : TermOperands) (first : Assignment) (windows : Windows) → o.pair ≡ true → IsOperandWindow 3 w o.left.now first windows.left
    → IsOperandWindow 2 w o.right.now first windows.right → IsPlaceWindow 1 w o.out first windows.out → AreTermWindows w o first windows
both_found w o first windows pair left right out = record {
  left_is = subst (λ n. IsOperandWindow n w o.left.now first windows.left) (sym (ap (λ q. if q then 3 else 2) pair)) left;
  right_is = λ t. right;
  out_is = out;
}

pub one_found : (w : Workspace) (o : TermOperands) (first : Assignment) (windows : Windows) → o.pair ≡ false → IsOperandWindow 2 w o.left.now first windows.left
    → IsPlaceWindow 1 w o.out first windows.out → AreTermWindows w o first windows
one_found w o first windows single left out = record {
  left_is = subst (λ n. IsOperandWindow n w o.left.now first windows.left) (sym (ap (λ q. if q then 3 else 2) single)) left;
  right_is = λ t. absurd (false≢true (sym single ∙ t));
  out_is = out;
}

-- ---- the steps of a term's windows

tensor_steps : (y : Workspace) (o : Operand) → IsPrepared y → IsTensor y.places o → HasSteps y.places y.cache o
tensor_steps y (Leaf l) is tensor = (tensor.known, (tensor.operand y refl is).stored.array)
tensor_steps y (Constant k) is tensor = absurd tensor
tensor_steps y (Node u) is tensor = absurd tensor

pub can_step_term : (y : Workspace) (o : TermOperands) → IsPrepared y → o.out < operations y.places.tree → AreTensors y.places o → CanStepTerm y.places y.tensor y.cache o
can_step_term y o is known tensors = record {
  laid = is.laid;
  known = known;
  left_has = tensor_steps y o.left.now is tensors.left_is;
  right_has = tensor_steps y o.right.now is tensors.right_is;
  indexes = result_known y is;
  stored = is.result.array;
}
