-- Several formulas are refused for one reason.
use Rattle.std.proofs.Common.{inl, inr, ◌⊎◌, ◌≡◌, ◌≢◌, ℕ, ◌+◌, ◌<◌, ◌≤◌, List, length, Option, Some, None, refl, sym, subst, ◌∙◌, ap, arith}
use Rattle.std.specs.Prelude.{⊤, slice_get, IsSomeAnd}
use Rattle.std.specs.Option.{ForSome}
use Rattle.std.proofs.lemmas.Bool.{cases_lt}
use Rattle.std.proofs.lemmas.Option.{slice_get_within}
use Rattle.tce_outside.specs.Files.{Files, file}
use Rattle.tce_array.specs.declared.fault.ArrayFault.{ArrayFault}
use Rattle.tce_array.specs.declared.fault.ArrayFault.TheVariants as array_fault
use Rattle.tce_array.specs.Faults.{IsFault}
use Rattle.tce_spec.specs.Specification.{Specification}
use Rattle.tce_spec.specs.Operands.{shape_of}
use Rattle.tce_job.specs.TensorFiles.{file_of}
use Rattle.tce_job.specs.Opened.{operand, operand_count, HasArray}
use Rattle.tce_job.specs.declared.fault.JobFault.{JobFault}
use Rattle.tce_job.specs.declared.fault.JobFault.TheVariants.{BudgetTooSmall, IntermediatesTooLarge, Array, Disk, Memory}
use Rattle.tce_job.specs.Refusals.{IsAffordable, IsCause, IsFree}
use Rattle.tce_job.proofs.Causes.{one_reason, no_reason, any_refused, no_fault, one_fault}
use Rattle.tce_batch.specs.BatchCode.{results_before}
use Rattle.tce_batch.specs.Refusals.{AffordableBelow, SourcesBelow, HasSources, IsSource, IsRefusedSource, IsAt, IsCauseAt, IsKnown}

-- the fault of a formula that costs too much
abbrev CostsAt : List Specification → ℕ → ℕ → JobFault → Type 0
CostsAt batch budget formula f = IsAt batch formula (λ number s. AffordableBelow batch budget number × IsCause (λ _. ⊥) s budget f)

-- and of one with an operand that is refused
abbrev RefusedAt : Option Files → List Specification → ℕ → ℕ → ℕ → ArrayFault → Type 0
RefusedAt told batch budget formula t f =
    IsAt batch formula (λ number s. AffordableBelow batch budget (length batch) × (f ≢ array_fault.Disk) × (t < length s.declarations.tensors)
    × ForSome told (λ files. SourcesBelow files batch number × IsRefusedSource files s (results_before batch number) t f))

one_place : (batch : List Specification) (k l : ℕ) (s u : Specification) → k ≡ l → slice_get batch k ≡ Some s → slice_get batch l ≡ Some u → s ≡ u
one_place batch k l s u same at there = let place : slice_get batch k ≡ slice_get batch l = ap (slice_get batch) same in cc

-- what can be afforded does not cost too much
costs_nothing : (s : Specification) (budget : ℕ) (f : JobFault) → IsAffordable s budget → (IsFree f → ⊥) → IsCause (λ _. ⊥) s budget f → ⊥
costs_nothing s budget f able free why = no_reason None s budget f able (λ files is. absurd (cc)) free why

cost_first : (batch : List Specification) (budget formula : ℕ) (f : JobFault) → CostsAt batch budget formula f → (IsFree f → ⊥) → AffordableBelow batch budget (length batch) → ⊥
cost_first batch budget formula f a free able = costs_nothing a.specification budget f (able a.number a.specification (slice_get_within batch a.number a.specification a.at) a.at) free a.here.1

two_costs : (batch : List Specification) (budget formula other : ℕ) (f due : JobFault) → CostsAt batch budget formula f → CostsAt batch budget other due → (IsFree f → ⊥) → (IsFree due → ⊥) → (formula ≡ other) × (f ≡ due)
two_costs batch budget formula other f due a b free none = by_place (cases_lt a.number b.number) (cases_lt b.number a.number)
  where
    by_place : (a.number < b.number) ⊎ (b.number ≤ a.number) → (b.number < a.number) ⊎ (a.number ≤ b.number) → (formula ≡ other) × (f ≡ due)
    by_place (inl before) after = absurd (costs_nothing a.specification budget f (b.here.0 a.number a.specification before a.at) free a.here.1)
    by_place (inr past) (inl before) = absurd (costs_nothing b.specification budget due (a.here.0 b.number b.specification before b.at) none b.here.1)
    by_place (inr past) (inr behind) =
        let same : a.number ≡ b.number = omega (arith, past, behind) in
        let is : a.specification ≡ b.specification = one_place batch a.number b.number a.specification b.specification same a.at b.at in
        let here : IsCause (λ _. ⊥) b.specification budget f = subst (λ (s : Specification). IsCause (λ _. ⊥) s budget f) is a.here.1 in
        let reason : (f ≡ due) ⊎ IsFree f = one_reason None b.specification budget f due (any_refused None b.specification budget f here) none b.here.1 in (
          a.counted ∙ ap (λ n. n + 1) same ∙ sym b.counted,
          elim reason [
            | inl one ↦ one
            | inr is_free ↦ absurd (free is_free)
          ],
        )

-- an operand that is refused has no array
no_source : (files : Files) (s : Specification) (made : List ℕ) (t count : ℕ) (f : ArrayFault) (r : IsRefusedSource files s made t f) → f ≢ array_fault.Disk → HasSources files s made count → r.number < count → ⊥
no_source files s made t count f r real has less =
    no_fault (shape_of s t) (file files (file_of s t)) f (subst (HasArray files s) (sym r.tensor) (has r.number less (subst (IsSource made) r.tensor r.source))) r.fault_is real

two_operands : (files : Files) (s : Specification) (made : List ℕ) (t u : ℕ) (f h : ArrayFault) → IsRefusedSource files s made t f → IsRefusedSource files s made u h → f ≢ array_fault.Disk → h ≢ array_fault.Disk → Array t f ≡ Array u h
two_operands files s made t u f h r q real true_one = by_place (cases_lt r.number q.number) (cases_lt q.number r.number)
  where
    by_place : (r.number < q.number) ⊎ (q.number ≤ r.number) → (q.number < r.number) ⊎ (r.number ≤ q.number) → Array t f ≡ Array u h
    by_place (inl before) after = absurd (no_source files s made t q.number f r real q.before before)
    by_place (inr past) (inl before) = absurd (no_source files s made u r.number h q true_one r.before before)
    by_place (inr past) (inr behind) =
        let same : r.number ≡ q.number = omega (arith, past, behind) in
        let tensors : t ≡ u = r.tensor ∙ ap (operand s) same ∙ sym q.tensor in
        let faults : f ≡ h = one_fault (shape_of s u) (file files (file_of s u)) f h (subst (λ x. IsFault (shape_of s x) (file files (file_of s x)) f) tensors r.fault_is) q.fault_is real true_one in
        ap (λ x. Array x f) tensors ∙ ap (Array u) faults

two_sources : (files : Files) (batch : List Specification) (budget formula other t u : ℕ) (f h : ArrayFault) → RefusedAt (Some files) batch budget formula t f → RefusedAt (Some files) batch budget other u h
    → (formula ≡ other) × (Array t f ≡ Array u h)
two_sources files batch budget formula other t u f h a b = by_place (cases_lt a.number b.number) (cases_lt b.number a.number)
  where
    by_place : (a.number < b.number) ⊎ (b.number ≤ a.number) → (b.number < a.number) ⊎ (a.number ≤ b.number) → (formula ≡ other) × (Array t f ≡ Array u h)
    by_place (inl before) after =
        let r = (a.here.3 files refl).1 in
        absurd (no_source files a.specification (results_before batch a.number) t (operand_count a.specification) f r a.here.1 ((b.here.3 files refl).0 a.number a.specification before a.at) r.one_of_them)
    by_place (inr past) (inl before) =
        let q = (b.here.3 files refl).1 in
        absurd (no_source files b.specification (results_before batch b.number) u (operand_count b.specification) h q b.here.1 ((a.here.3 files refl).0 b.number b.specification before b.at) q.one_of_them)
    by_place (inr past) (inr behind) =
        let same : a.number ≡ b.number = omega (arith, past, behind) in
        let is : a.specification ≡ b.specification = one_place batch a.number b.number a.specification b.specification same a.at b.at in
        let r : IsRefusedSource files b.specification (results_before batch b.number) t f =
        subst (λ (s : Specification). IsRefusedSource files s (results_before batch b.number) t f) is (subst (λ (n : ℕ). IsRefusedSource files a.specification (results_before batch n) t f) same (a.here.3 files refl).1) in (
          a.counted ∙ ap (λ n. n + 1) same ∙ sym b.counted,
          two_operands files b.specification (results_before batch b.number) t u f h r (b.here.3 files refl).1 a.here.1 b.here.1,
        )

both_told : (told : Option Files) (batch : List Specification) (budget formula other t u : ℕ) (f h : ArrayFault) → RefusedAt told batch budget formula t f → RefusedAt told batch budget other u h → IsSomeAnd told (λ _. ⊤)
    → (formula ≡ other) × (Array t f ≡ Array u h)
both_told None batch budget formula other t u f h a b known = absurd known
both_told (Some files) batch budget formula other t u f h a b known = two_sources files batch budget formula other t u f h a b

-- a cause is the one that is answered
pub one_cause : (told : Option Files) (batch : List Specification) (budget formula other : ℕ) (f due : JobFault) → IsCauseAt told batch budget formula f → (IsFree due → ⊥) → IsCauseAt told batch budget other due → IsKnown told due
    → ((formula ≡ other) × (f ≡ due)) ⊎ IsFree f
one_cause told batch budget formula other Disk due a free b known = inr tt
one_cause told batch budget formula other Memory due a free b known = inr tt
one_cause told batch budget formula other f Disk a free b known = absurd (free tt)
one_cause told batch budget formula other f Memory a free b known = absurd (free tt)
one_cause told batch budget formula other (BudgetTooSmall n) (BudgetTooSmall m) a free b known = inl (two_costs batch budget formula other (BudgetTooSmall n) (BudgetTooSmall m) a b (λ x. x) free)
one_cause told batch budget formula other (BudgetTooSmall n) (IntermediatesTooLarge m) a free b known = inl (two_costs batch budget formula other (BudgetTooSmall n) (IntermediatesTooLarge m) a b (λ x. x) free)
one_cause told batch budget formula other (IntermediatesTooLarge n) (BudgetTooSmall m) a free b known = inl (two_costs batch budget formula other (IntermediatesTooLarge n) (BudgetTooSmall m) a b (λ x. x) free)
one_cause told batch budget formula other (IntermediatesTooLarge n) (IntermediatesTooLarge m) a free b known = inl (two_costs batch budget formula other (IntermediatesTooLarge n) (IntermediatesTooLarge m) a b (λ x. x) free)
one_cause told batch budget formula other (BudgetTooSmall n) (Array u h) a free b known = absurd (cost_first batch budget formula (BudgetTooSmall n) a (λ x. x) b.here.0)
one_cause told batch budget formula other (IntermediatesTooLarge n) (Array u h) a free b known = absurd (cost_first batch budget formula (IntermediatesTooLarge n) a (λ x. x) b.here.0)
one_cause told batch budget formula other (Array t f) (BudgetTooSmall m) a free b known = absurd (cost_first batch budget other (BudgetTooSmall m) b free a.here.0)
one_cause told batch budget formula other (Array t f) (IntermediatesTooLarge m) a free b known = absurd (cost_first batch budget other (IntermediatesTooLarge m) b free a.here.0)
one_cause told batch budget formula other (Array t f) (Array u h) a free b known = inl (both_told told batch budget formula other t u f h a b known)

no_operand : (told : Option Files) (batch : List Specification) (budget other u : ℕ) (h : ArrayFault) → ForSome told (λ files. SourcesBelow files batch (length batch)) → RefusedAt told batch budget other u h → IsSomeAnd told (λ _. ⊤) → ⊥
no_operand None batch budget other u h sources b known = known
no_operand (Some files) batch budget other u h sources b known =
    let q = (b.here.3 files refl).1 in
    no_source files b.specification (results_before batch b.number) u (operand_count b.specification) h q b.here.1
    (sources files refl b.number b.specification (slice_get_within batch b.number b.specification b.at) b.at) q.one_of_them

-- what was run had no cause to be refused
pub no_cause : (told : Option Files) (batch : List Specification) (budget other : ℕ) (due : JobFault) → AffordableBelow batch budget (length batch) → ForSome told (λ files. SourcesBelow files batch (length batch))
    → (IsFree due → ⊥) → IsCauseAt told batch budget other due → IsKnown told due → ⊥
no_cause told batch budget other Disk able sources free b known = free tt
no_cause told batch budget other Memory able sources free b known = free tt
no_cause told batch budget other (BudgetTooSmall m) able sources free b known = cost_first batch budget other (BudgetTooSmall m) b free able
no_cause told batch budget other (IntermediatesTooLarge m) able sources free b known = cost_first batch budget other (IntermediatesTooLarge m) b free able
no_cause told batch budget other (Array u h) able sources free b known = no_operand told batch budget other u h sources b known
