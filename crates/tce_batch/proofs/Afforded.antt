-- The costs of formulas.
use Rattle.std.proofs.Common.{inl, inr, ◌⊎◌, ◌≡◌, ◌≢◌, ℕ, ◌+◌, ◌<◌, ◌≤◌, List, [], ◌∷◌, length, get_or, Option, Some, Result, Ok, Err, sym, ◌∙◌, subst, arith}
use Rattle.std.specs.Prelude.{OnOk, IfOk, IfErr, slice_get}
use Rattle.std.proofs.lemmas.Bool.{cases_lt}
use Rattle.std.proofs.lemmas.Option.{slice_get-get_or}
use Rattle.tce_outside.specs.Files.{Files}
use Rattle.tce_spec.specs.Specification.{Specification}
use Rattle.tce_job.specs.declared.fault.JobFault.{JobFault}
use Rattle.tce_job.specs.declared.fault.JobFault.TheVariants.{BudgetTooSmall, IntermediatesTooLarge, Array, Disk, Memory}
use Rattle.tce_job.specs.Refusals.{IsCause, IsFree}
use Rattle.tce_batch.specs.Refusals.{AffordableBelow, IsNamed, IsCauseAt}

pub on_ok_as : {A E P : Type 0} (result : Result A E) → P → OnOk result P
on_ok_as (Ok a) p = p
on_ok_as (Err f) p = tt

pub if_ok : {A : Type 0} {P Q : A → Type 0} (result : Result A JobFault) → ((a : A) → P a → Q a) → IfOk result P → IfOk result Q
if_ok (Ok a) more p = more a p
if_ok (Err f) more p = tt

pub if_err : {A : Type 0} {P Q : JobFault → Type 0} (result : Result A JobFault) → ((f : JobFault) → P f → Q f) → IfErr result P → IfErr result Q
if_err (Ok a) more p = tt
if_err (Err f) more p = more f p

-- what holds of a specification holds of the one at its place
pub at_place : (P : Specification → Type 0) (spec s : Specification) (found : Option Specification) → found ≡ Some spec → P spec → found ≡ Some s → P s
at_place P spec s found is p at = let same : spec ≡ s = cc in subst P same p

-- there is one at each place
pub some_at : (batch : List Specification) (number : ℕ) → number < length batch → (s : Specification) × (slice_get batch number ≡ Some s)
some_at [] number within = absurd (omega (arith, within))
some_at (s ∷ ss) number within = (get_or (s ∷ ss) number s, slice_get-get_or (s ∷ ss) number s within)

-- what holds of the first, and of one more
pub below_more : (P : ℕ → Specification → Type 0) (batch : List Specification) (number : ℕ) → ((k : ℕ) (s : Specification) → k < number → slice_get batch k ≡ Some s → P k s)
    → ((s : Specification) → slice_get batch number ≡ Some s → P number s) → (k : ℕ) (s : Specification) → k < number + 1 → slice_get batch k ≡ Some s → P k s
below_more P batch number below here k s less at = by_place (cases_lt k number)
  where
    by_place : (k < number) ⊎ (number ≤ k) → P k s
    by_place (inl first) = below k s first at
    by_place (inr last) =
        let same : k ≡ number = omega (arith, less, last) in
        subst (λ (n : ℕ). P n s) (sym same) (here s (subst (λ (n : ℕ). slice_get batch n ≡ Some s) same at))

-- a formula that costs too much is why the batch is refused
cost_cause : (told : Option Files) (batch : List Specification) (budget number formula : ℕ) (f : JobFault) (s : Specification) → slice_get batch number ≡ Some s → number < length batch
    → AffordableBelow batch budget number → IsCause (λ _. ⊥) s budget f → IsNamed number f formula → IsCauseAt told batch budget formula f
cost_cause told batch budget number formula (BudgetTooSmall n) s at within below why named = record { number = number; specification = s; counted = named; at = at; here = (below, why) }
cost_cause told batch budget number formula (IntermediatesTooLarge n) s at within below why named = record { number = number; specification = s; counted = named; at = at; here = (below, why) }
cost_cause told batch budget number formula (Array t u) s at within below why named = absurd why.1
cost_cause told batch budget number formula Disk s at within below why named = record { some = omega (arith, named); within = omega (arith, named, within) }
cost_cause told batch budget number formula Memory s at within below why named = record { some = omega (arith, named); within = omega (arith, named, within) }

pub told_of_first : (number formula : ℕ) (f : JobFault) → IsNamed number f formula → IsFree f → formula ≡ 1
told_of_first number formula (BudgetTooSmall n) named free = absurd free
told_of_first number formula (IntermediatesTooLarge n) named free = absurd free
told_of_first number formula (Array t u) named free = absurd free
told_of_first number formula Disk named free = named
told_of_first number formula Memory named free = named

pub cost_fault : (told : Option Files) (batch : List Specification) (budget number formula : ℕ) (f fault : JobFault) → number < length batch → AffordableBelow batch budget number
    → ((s : Specification) → slice_get batch number ≡ Some s → IsCause (λ _. ⊥) s budget f) → f ≢ Disk → fault ≡ f → IsNamed number f formula
    → (fault ≢ Disk) × (IsFree fault → formula ≡ 1) × IsCauseAt told batch budget formula fault
cost_fault told batch budget number formula f fault within below why real is named =
    let (s, at) = some_at batch number within in (
      (λ d. real (sym is ∙ d)),
      (λ free. told_of_first number formula f named (subst IsFree is free)),
      subst (IsCauseAt told batch budget formula) (sym is) (cost_cause told batch budget number formula f s at within below (why s at) named),
    )
