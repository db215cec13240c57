-- The command that runs several formulas has one answer.
use Rattle.std.proofs.Common.{◌≡◌, ℕ, ◌⊎◌, List, length, Option, Some, inl, inr, refl, sym, ap, ◌∙◌, subst, arith}
use Rattle.std.specs.Prelude.{slice_get}
use Rattle.std.specs.Option.{ForSome}
use Rattle.tce_outside.specs.Files.{Files, file}
use Rattle.tce_spec.specs.Specification.{Specification}
use Rattle.tce_job.specs.TensorFiles.{name_of}
use Rattle.tce_job.specs.declared.fault.JobFault.{JobFault}
use Rattle.tce_job.specs.declared.fault.JobFault.TheVariants as faults
use Rattle.tce_job.specs.Refusals.{IsFree as IsFreeFault}
use Rattle.tce_batch.specs.Refusals.{IsAt, IsCauseAt, IsKnown, SourcesBelow}
use Rattle.tce_batch.proofs.Causes.{one_cause, no_cause}
use Rattle.tce_command.specs.Refusals.{IsFree, SameRefusal}
use Rattle.tce_command.specs.declared.refusal.Refusal.{Refusal}
use Rattle.tce_run.proofs.BatchOutcomes.{one_batch, one_batch_refusal, not_both_batch}
use Rattle.tce_run.specs.Told.{IsToldAs}
use Rattle.tce_run.proofs.Told.{told_free}
use Rattle.tce_run.specs.BatchDone.{CanRunFormulas, IsBatchRun}
use Rattle.tce_run.specs.BatchRefusals.{CanRunBatch, IsFormulaRefusal, IsBatchRefusal}
use Rattle.tce_run.proofs.Alike.{arrays_alike, same_alike}

-- two refusals that tell one fault are told alike
told_alike : (s : Specification) (f : JobFault) (a b : Refusal) → IsToldAs s f a → IsToldAs s f b → SameRefusal a b
told_alike s (faults.BudgetTooSmall n) a b p q = same_alike a b (p ∙ sym q)
told_alike s (faults.IntermediatesTooLarge n) a b p q = same_alike a b (p ∙ sym q)
told_alike s (faults.Array t u) a b p q = arrays_alike (name_of s t) u a b p q
told_alike s faults.Disk a b p q = same_alike a b (p ∙ sym q)
told_alike s faults.Memory a b p q = same_alike a b (p ∙ sym q)

-- an operand is known to be refused where the disk tells its files
known : (files : Files) (f : JobFault) → IsKnown (Some files) f
known files (faults.BudgetTooSmall n) = tt
known files (faults.IntermediatesTooLarge n) = tt
known files (faults.Array t u) = tt
known files faults.Disk = tt
known files faults.Memory = tt

-- and so are the files of the operands
sources_told : (files : Files) (formulas : List Specification) (budget : ℕ) → CanRunFormulas files formulas budget → ForSome (Some files) (λ others. SourcesBelow others formulas (length formulas))
sources_told files formulas budget can = λ others is. let same : files ≡ others = cc in subst (λ x. SourcesBelow x formulas (length formulas)) same can.sources

-- what can be run is refused for no fault of a formula
free_formula : (files : Files) (formulas : List Specification) (budget formula : ℕ) (f : JobFault) (a : Refusal) → CanRunFormulas files formulas budget → IsCauseAt (Some files) formulas budget formula f
    → IsAt formulas formula (λ number s. IsToldAs s f a) → IsFree a
free_formula files formulas budget formula faults.Disk a can cause told = subst IsFree (sym told.here) tt
free_formula files formulas budget formula faults.Memory a can cause told = subst IsFree (sym told.here) tt
free_formula files formulas budget formula (faults.BudgetTooSmall n) a can cause told =
    absurd (no_cause (Some files) formulas budget formula (faults.BudgetTooSmall n) can.affordable (sources_told files formulas budget can) (λ x. x) cause tt)
free_formula files formulas budget formula (faults.IntermediatesTooLarge n) a can cause told =
    absurd (no_cause (Some files) formulas budget formula (faults.IntermediatesTooLarge n) can.affordable (sources_told files formulas budget can) (λ x. x) cause tt)
free_formula files formulas budget formula (faults.Array t u) a can cause told =
    absurd (no_cause (Some files) formulas budget formula (faults.Array t u) can.affordable (sources_told files formulas budget can) (λ x. x) cause tt)

pub granted_batch : (files : Files) (spec : List ℕ) (budget : ℕ) (a : Refusal) → CanRunBatch files spec budget → IsBatchRefusal files spec budget a → IsFree a
granted_batch files spec budget a (formulas, specified, can) (inl p) = not_both_batch files spec formulas a specified p
granted_batch files spec budget a (formulas, specified, can) (inr (others, also, p)) =
    free_formula files others budget p.formula p.fault a (subst (λ (x : List Specification). CanRunFormulas files x budget) (one_batch files spec formulas others specified also) can) p.cause p.told

-- two faults of formulas are one
one_told : (formulas : List Specification) (formula other : ℕ) (f due : JobFault) (a b : Refusal) → formula ≡ other → f ≡ due → IsAt formulas formula (λ number s. IsToldAs s f a)
    → IsAt formulas other (λ number s. IsToldAs s due b) → SameRefusal a b
one_told formulas formula other f due a b same is p q =
    let number : p.number ≡ q.number = omega (arith, p.counted, q.counted, same) in
    let place : slice_get formulas p.number ≡ slice_get formulas q.number = ap (slice_get formulas) number in
    let found : Some p.specification ≡ Some q.specification = sym p.at ∙ place ∙ q.at in
    let one : p.specification ≡ q.specification = cc in
    let first : IsToldAs q.specification due a = subst (λ (s : Specification). IsToldAs s due a) one (subst (λ g. IsToldAs p.specification g a) is p.here) in
    told_alike q.specification due a b first q.here

free_at : (formulas : List Specification) (formula : ℕ) (f : JobFault) (a : Refusal) → IsAt formulas formula (λ number s. IsToldAs s f a) → IsFreeFault f → IsFree a
free_at formulas formula f a p free = told_free p.specification f a p.here free

one_formula : (files : Files) (formulas : List Specification) (budget : ℕ) (a b : Refusal) → IsFormulaRefusal files formulas budget a → IsFormulaRefusal files formulas budget b → (IsFree b → ⊥) → IsFree a ⊎ SameRefusal a b
one_formula files formulas budget a b p q free =
    elim (one_cause (Some files) formulas budget p.formula q.formula p.fault q.fault p.cause (λ h. free (free_at formulas q.formula q.fault b q.told h)) q.cause (known files q.fault)) [
      | inl same ↦ inr (one_told formulas p.formula q.formula p.fault q.fault a b same.0 same.1 p.told q.told)
      | inr is_free ↦ inl (free_at formulas p.formula p.fault a p.told is_free)
    ]

pub alone_batch : (files : Files) (spec : List ℕ) (budget : ℕ) (a b : Refusal) → IsBatchRefusal files spec budget a → IsBatchRefusal files spec budget b → (IsFree b → ⊥) → IsFree a ⊎ SameRefusal a b
alone_batch files spec budget a b (inl p) (inl q) free = one_batch_refusal spec (file files spec) a b p q free
alone_batch files spec budget a b (inl p) (inr (formulas, specified, q)) free = inl (not_both_batch files spec formulas a specified p)
alone_batch files spec budget a b (inr (formulas, specified, p)) (inl q) free = absurd (free (not_both_batch files spec formulas b specified q))
alone_batch files spec budget a b (inr (formulas, specified, p)) (inr (others, also, q)) free =
    one_formula files others budget a b (subst (λ (x : List Specification). IsFormulaRefusal files x budget a) (one_batch files spec formulas others specified also) p) q free

pub possible_batch : (files : Files) (after : Option Files) (taken taken_after : List (ℕ × ℕ)) (spec : List ℕ) (budget : ℕ) (report : List ℕ) → IsBatchRun (Some files) after taken taken_after spec budget report → CanRunBatch files spec budget
possible_batch files after taken taken_after spec budget report ran = (ran.formulas, ran.specified files refl, ran.able files refl)
