-- The command has one answer.
use Rattle.std.specs.Prelude.{◌⊎◌, ℕ, List, Option, Some}
use Rattle.tce_outside.specs.Files.{Files}
use Rattle.tce_command.specs.Refusals.{IsFree, SameRefusal}
use Rattle.tce_command.specs.declared.refusal.Refusal.{Refusal}
use Rattle.tce_run.specs.Done.{IsRun}
use Rattle.tce_run.specs.Refusals.{CanRunFile, IsRunRefusal}

-- what can be run is not refused, and what is refused has one reason, but where the disk fails or memory is wanting; and what is run could be run
pub record RunsHaveOneAnswer : Type 0 where
  pub granted : (files : Files) (spec : List ℕ) (budget : ℕ) (a : Refusal) → CanRunFile files spec budget → IsRunRefusal files spec budget a → IsFree a
  pub alone : (files : Files) (spec : List ℕ) (budget : ℕ) (a b : Refusal) → IsRunRefusal files spec budget a → IsRunRefusal files spec budget b → (IsFree b → ⊥) → IsFree a ⊎ SameRefusal a b
  pub possible : (files : Files) (after : Option Files) (taken taken_after : List (ℕ × ℕ)) (spec : List ℕ) (budget : ℕ) (report : List ℕ)
      → IsRun (Some files) after taken taken_after spec budget report → CanRunFile files spec budget
