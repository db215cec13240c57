-- What is answered of a produced text.
use Rattle.std.proofs.Common.{◌≡◌, ◌⊎◌, inl, inr, ℕ, List, Option, Some, Result, Ok, Err, refl, sym, subst, ap}
use Rattle.std.proofs.lemmas.Option.{none-some, same_Some}
use Rattle.tce_tree.specs.declared.fault.TreeFault.TheVariants as tree_faults
use Rattle.tce_spec.specs.Faults.{Fault}
use Rattle.tce_spec.specs.FaultCode.{Shows}
use Rattle.tce_spec.specs.TextCode.{fault_in}
use Rattle.tce_spec.specs.declared.fault.SpecFault.{SpecFault}
use Rattle.tce_spec.specs.declared.fault.SpecFault.TheVariants.{TooLong, BadText, TooManyNodes, NameTwice, UnknownName, BadNumber, LimitPassed, RankDiffers, RangeDiffers, IndexTwice, ResultIsOperand, Tree, ResultIndices, Memory}
use Rattle.tce_spec.specs.Specification.{Specification}
use Rattle.tce_spec.specs.Outcome.{IsOutcome}
use Rattle.tce_spec.specs.OutcomeCode.{Answers}
use Rattle.tce_spec.proofs.Reading.{computed, computed_is}
use Rattle.tce_einsum.specs.Text.{Einsum}
use Rattle.tce_einsum.specs.Path.{Item}
use Rattle.tce_einsum.specs.Input.{IsInput}
use Rattle.tce_einsum.specs.Produced.{produced_text}
use Rattle.tce_einsum.specs.Answer.{ProducesFault, AnswersEinsum}
use Rattle.tce_einsum.specs.declared.fault.EinsumFault.{EinsumFault}
use Rattle.tce_einsum.specs.declared.fault.EinsumFault.TheVariants as faults

-- whatever the outcome of the produced text is, the program answers it
abbrev pub Answered : Einsum → List Item → Result Specification SpecFault → Type 0
Answered x items result = (found : Result Specification Fault) → IsOutcome (produced_text x items) found → Answers found result

pub specified_answer : (text path : List ℕ) (x : Einsum) (items : List Item) (s : Specification) → IsInput text path x items → Answered x items (Ok s) → AnswersEinsum text path (Ok s)
specified_answer text path x items s is answered =
    let t : List ℕ = produced_text x items in
    record { einsum = x; items = items; input = is; outcome = subst (IsOutcome t) (answered (computed t) (computed_is t)) (computed_is t) }

-- a fault that is shown, but for want of memory, is there
some_found : (o : Option Fault) (f : SpecFault) → (f ≡ Memory → ⊥) → Shows o f → (found : Fault) × (o ≡ Some found)
some_found o TooLong apart shown = (_, shown)
some_found o (BadText line) apart shown = (_, shown)
some_found o (TooManyNodes line) apart shown = (_, shown)
some_found o (NameTwice line name) apart shown = (_, shown)
some_found o (UnknownName line name) apart shown = (_, shown)
some_found o (BadNumber line) apart shown = (_, shown)
some_found o (LimitPassed line l) apart shown = (_, shown)
some_found o (RankDiffers line name) apart shown = (_, shown)
some_found o (RangeDiffers line name) apart shown = (_, shown)
some_found o (IndexTwice line name) apart shown = (_, shown)
some_found o (ResultIsOperand line name) apart shown = (_, shown)
some_found o (Tree line tree_faults.NoOperation) apart shown = (_, shown)
some_found o (Tree line (tree_faults.SumOverAbsent name)) apart shown = (_, shown)
some_found o (Tree line (tree_faults.TooManyLoops node)) apart shown = (_, shown)
some_found o (Tree line (tree_faults.VolumeTooLarge node)) apart shown = (_, shown)
some_found o (Tree line tree_faults.Memory) apart shown = absurd shown
some_found o (ResultIndices line) apart shown = (_, shown)
some_found o Memory apart shown = absurd (apart refl)

result_found : (r : Result Specification Fault) (found : Fault) → fault_in r ≡ Some found → r ≡ Err found
result_found (Ok s) found e = absurd (none-some found e)
result_found (Err f) found e = ap Err (same_Some f found e)

answer_is : (text path : List ℕ) (f : SpecFault) → (f ≡ Memory → ⊥) → ProducesFault text path f → AnswersEinsum text path (Err (faults.Spec f))
answer_is text path TooLong apart p = p
answer_is text path (BadText line) apart p = p
answer_is text path (TooManyNodes line) apart p = p
answer_is text path (NameTwice line name) apart p = p
answer_is text path (UnknownName line name) apart p = p
answer_is text path (BadNumber line) apart p = p
answer_is text path (LimitPassed line l) apart p = p
answer_is text path (RankDiffers line name) apart p = p
answer_is text path (RangeDiffers line name) apart p = p
answer_is text path (IndexTwice line name) apart p = p
answer_is text path (ResultIsOperand line name) apart p = p
answer_is text path (Tree line fault) apart p = p
answer_is text path (ResultIndices line) apart p = p
answer_is text path Memory apart p = absurd (apart refl)

faulty_answer : (text path : List ℕ) (x : Einsum) (items : List Item) (f : SpecFault) → IsInput text path x items → (f ≡ Memory → ⊥) → Answered x items (Err f)
    → AnswersEinsum text path (Err (faults.Spec f))
faulty_answer text path x items f is apart answered =
    let t : List ℕ = produced_text x items in
    let shown : Shows (fault_in (computed t)) f = answered (computed t) (computed_is t) in
    let some = some_found (fault_in (computed t)) f apart shown in
    answer_is text path f apart (record {
      found = some.0;
      produced = record { einsum = x; items = items; input = is; outcome = subst (IsOutcome t) (result_found (computed t) some.0 some.1) (computed_is t) };
      shown = subst (λ (o : Option Fault). Shows o f) some.1 shown;
    })

pub told_answer : (text path : List ℕ) (x : Einsum) (items : List Item) (f : SpecFault) (e : EinsumFault) → IsInput text path x items
    → ((f ≡ Memory) × (e ≡ faults.Memory)) ⊎ ((f ≡ Memory → ⊥) × (e ≡ faults.Spec f)) → Answered x items (Err f) → AnswersEinsum text path (Err e)
told_answer text path x items f e is (inl memory) answered = subst (λ (e : EinsumFault). AnswersEinsum text path (Err e)) (sym memory.1) tt
told_answer text path x items f e is (inr other) answered =
    subst (λ (e : EinsumFault). AnswersEinsum text path (Err e)) (sym other.1) (faulty_answer text path x items f is other.0 answered)
