-- The files of the operands that are no earlier result.
use Rattle.std.proofs.Common.{inl, inr, ◌⊎◌, ◌≡◌, ℕ, ◌<◌, List, length, Option, Some, sym, ◌∙◌, subst, arith}
use Rattle.std.specs.Prelude.{slice_get}
use Rattle.std.specs.Option.{ForSome}
use Rattle.tce_outside.specs.Files.{Files}
use Rattle.tce_array.specs.Faults.{IsFault}
use Rattle.tce_outside.specs.Files.{file}
use Rattle.tce_spec.specs.Specification.{Specification}
use Rattle.tce_spec.specs.Operands.{shape_of}
use Rattle.tce_job.specs.TensorFiles.{file_of}
use Rattle.tce_job.specs.Opened.{operand, operand_count}
use Rattle.tce_job.specs.declared.fault.JobFault.{JobFault}
use Rattle.tce_job.specs.declared.fault.JobFault.TheVariants.{BudgetTooSmall, IntermediatesTooLarge, Array, Disk, Memory}
use Rattle.tce_job.specs.Refusals.{IsFree}
use Rattle.tce_batch.specs.BatchCode.{results_before}
use Rattle.tce_batch.specs.Refusals.{AffordableBelow, IsNamed, IsCauseAt, IsSource, HasSources, SourcesBelow, IsOperandFault, IsSourceFault}
use Rattle.tce_batch.proofs.Afforded.{some_at, told_of_first}

-- an operand that is refused is the first
pub source_fault : (told : Option Files) (s : Specification) (made : List ℕ) (k t : ℕ) (f : JobFault) → t ≡ operand s k → k < operand_count s → t < length s.declarations.tensors → IsSource made t
    → ForSome told (λ files. HasSources files s made k) → IsOperandFault told s t f → IsSourceFault told s made f
source_fault told s made k t (Array u a) is within declared source before (same, real, why) = (
  real,
  subst (λ (x : ℕ). x < length s.declarations.tensors) (sym same) declared,
  (λ files eq. record {
    number = k;
    one_of_them = within;
    tensor = same ∙ is;
    source = subst (IsSource made) (sym same) source;
    before = before files eq;
    fault_is = subst (λ (x : ℕ). IsFault (shape_of s x) (file files (file_of s x)) a) (sym same) (why files eq);
  }),
)
source_fault told s made k t Disk is within declared source before why = tt
source_fault told s made k t Memory is within declared source before why = absurd why
source_fault told s made k t (BudgetTooSmall n) is within declared source before why = absurd why
source_fault told s made k t (IntermediatesTooLarge n) is within declared source before why = absurd why

-- a formula whose operands are refused is why the batch is
opening_cause : (told : Option Files) (batch : List Specification) (budget number formula : ℕ) (f : JobFault) (s : Specification) → slice_get batch number ≡ Some s → number < length batch
    → AffordableBelow batch budget (length batch) → ForSome told (λ files. SourcesBelow files batch number) → IsSourceFault told s (results_before batch number) f → IsNamed number f formula → IsCauseAt told batch budget formula f
opening_cause told batch budget number formula (Array t a) s at within able before (real, declared, why) named = record {
  number = number;
  specification = s;
  counted = named;
  at = at;
  here = (able, real, declared, (λ files eq. (before files eq, why files eq)));
}
opening_cause told batch budget number formula Disk s at within able before why named = record { some = omega (arith, named); within = omega (arith, named, within) }
opening_cause told batch budget number formula Memory s at within able before why named = absurd why
opening_cause told batch budget number formula (BudgetTooSmall n) s at within able before why named = absurd why
opening_cause told batch budget number formula (IntermediatesTooLarge n) s at within able before why named = absurd why

-- want of memory
memory_fault : (told : Option Files) (batch : List Specification) (budget formula : ℕ) (fault : JobFault) → 0 < length batch → fault ≡ Memory → formula ≡ 1
    → (IsFree fault → formula ≡ 1) × IsCauseAt told batch budget formula fault
memory_fault told batch budget formula fault within is named = (
  (λ free. named),
  subst (IsCauseAt told batch budget formula) (sym is) (record { some = omega (arith, named); within = omega (arith, named, within) }),
)

-- a formula by its number is
pub opening_fault : (told : Option Files) (batch : List Specification) (budget number formula : ℕ) (f fault : JobFault) → number < length batch → AffordableBelow batch budget (length batch)
    → ForSome told (λ files. SourcesBelow files batch number) → (f ≡ Memory) ⊎ ((s : Specification) → slice_get batch number ≡ Some s → IsSourceFault told s (results_before batch number) f) → fault ≡ f
    → IsNamed number f formula → (IsFree fault → formula ≡ 1) × IsCauseAt told batch budget formula fault
opening_fault told batch budget number formula f fault within able before (inl wanting) is named =
    memory_fault told batch budget formula fault (omega (arith, within)) (is ∙ wanting) (subst (λ (x : JobFault). IsNamed number x formula) wanting named)
opening_fault told batch budget number formula f fault within able before (inr why) is named =
    let (s, at) = some_at batch number within in (
      (λ free. told_of_first number formula f named (subst IsFree is free)),
      subst (IsCauseAt told batch budget formula) (sym is) (opening_cause told batch budget number formula f s at within able before (why s at) named),
    )
