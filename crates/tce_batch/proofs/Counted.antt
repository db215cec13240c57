-- Faults of the disk that were counted up to a formula, and by its call.
use Rattle.std.proofs.Common.{◌≡◌, ◌⊎◌, ℕ, ◌+◌, ◌<◌, ◌≤◌, List, Option, Some, Result, Err, inl, inr, sym, ap, ◌∙◌, subst, arith}
use Rattle.std.specs.Option.{ForSome}
use Rattle.std.proofs.lemmas.Bool.{cases_lt}
use Rattle.tce_outside.specs.Files.{Files}
use Rattle.tce_spec.specs.Specification.{Specification}
use Rattle.tce_job.specs.Opened.{operand, HasArray}
use Rattle.tce_job.specs.declared.fault.JobFault.{JobFault}
use Rattle.tce_job.specs.declared.fault.JobFault.TheVariants.{Disk}
use Rattle.tce_batch.specs.Refusals.{IsSource, HasSources}

pub fault_of : {A : Type 0} (fault : JobFault) (given : Result A JobFault) → given ≡ Err fault → fault ≡ Disk → given ≡ Err Disk
fault_of fault given is failed = is ∙ ap Err failed

pub fault_is : {A : Type 0} (fault : JobFault) (given : Result A JobFault) → given ≡ Err fault → given ≡ Err Disk → fault ≡ Disk
fault_is fault given is failed = let same : Err fault ≡ Err Disk = sym is ∙ failed in cc

-- the file of one operand more is there, unless it is an earlier result
pub sources_more : (start now : Option Files) (s : Specification) (made : List ℕ) (k t : ℕ) → t ≡ operand s k → now ≡ start → ForSome start (λ files. HasSources files s made k)
    → ForSome now (λ files. IsSource made t → HasArray files s t) → ForSome start (λ files. HasSources files s made (k + 1))
sources_more start now s made k t is same front here = λ files told d less source. by_place files told d less source (cases_lt d k)
  where
    by_place : (files : Files) → start ≡ Some files → (d : ℕ) → d < k + 1 → IsSource made (operand s d) → (d < k) ⊎ (k ≤ d) → HasArray files s (operand s d)
    by_place files told d less source (inl first) = front files told d first source
    by_place files told d less source (inr last) =
        let at : d ≡ k = omega (arith, less, last) in
        let one : t ≡ operand s d = is ∙ ap (operand s) (sym at) in
        subst (λ u. HasArray files s u) one (here files (same ∙ told) (subst (IsSource made) (sym one) source))
