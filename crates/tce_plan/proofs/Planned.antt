-- What is answered for the file of a specification, by what is for the specification.
use Rattle.std.proofs.Common.{◌≡◌, sym, subst, ℕ, List, Option, Result, Ok, Err}
use Rattle.std.specs.Prelude.{IfErr}
use Rattle.tce_outside.specs.Files.{Files}
use Rattle.tce_command.specs.declared.refusal.Refusal.{Refusal}
use Rattle.tce_command.specs.declared.refusal.Refusal.TheVariants.{Disk, Memory}
use Rattle.tce_command.specs.Source.{MayRefuseSource}
use Rattle.tce_plan.specs.Refusals.{IsPlanRefusal, IsPlanRefusalOn}

-- memory may be wanting at any place
pub memory_refused : (told : Option Files) (spec : List ℕ) (a : Refusal) → a ≡ Memory → IsPlanRefusalOn told spec a
memory_refused told spec a is = (subst (MayRefuseSource spec) (sym is) tt, λ files there. subst (IsPlanRefusal files spec) (sym is) tt)

-- and want of it is no failure of the disk
pub no_failure : {A : Type 0} (r : Result A Refusal) → IfErr r (λ a. a ≡ Memory) → r ≡ Err Disk → ⊥
no_failure (Ok x) only failed = absurd (cc)
no_failure (Err a) only failed = absurd (cc)
