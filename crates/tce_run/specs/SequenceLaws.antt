-- The commands have one answer.
use Rattle.std.specs.Prelude.{◌⊎◌, ℕ, List, Option, Some}
use Rattle.tce_outside.specs.Files.{Files}
use Rattle.tce_command.specs.Refusals.{IsFree, SameRefusal}
use Rattle.tce_command.specs.declared.refusal.Refusal.{Refusal}
use Rattle.tce_run.specs.BatchDone.{IsBatchRun}
use Rattle.tce_run.specs.BatchRefusals.{CanRunBatch, IsBatchRefusal}
use Rattle.tce_run.specs.SpillDone.{IsSpillRun}
use Rattle.tce_run.specs.SpillRefusals.{CanSpill, IsSpillRefusal}

-- formulas that can be run are not refused, and what is refused has one reason, but where the disk fails or memory is wanting; and what is run could be run
pub record BatchesHaveOneAnswer : Type 0 where
  pub granted : (files : Files) (spec : List ℕ) (budget : ℕ) (a : Refusal) → CanRunBatch files spec budget → IsBatchRefusal files spec budget a → IsFree a
  pub alone : (files : Files) (spec : List ℕ) (budget : ℕ) (a b : Refusal) → IsBatchRefusal files spec budget a → IsBatchRefusal files spec budget b → (IsFree b → ⊥) → IsFree a ⊎ SameRefusal a b
  pub possible : (files : Files) (after : Option Files) (taken taken_after : List (ℕ × ℕ)) (spec : List ℕ) (budget : ℕ) (report : List ℕ)
      → IsBatchRun (Some files) after taken taken_after spec budget report → CanRunBatch files spec budget

-- the same of a tree that is run in pieces
pub record SpillsHaveOneAnswer : Type 0 where
  pub granted : (files : Files) (spec : List ℕ) (budget limit : ℕ) (a : Refusal) → CanSpill files spec budget limit → IsSpillRefusal files spec budget limit a → IsFree a
  pub alone : (files : Files) (spec : List ℕ) (budget limit : ℕ) (a b : Refusal) → IsSpillRefusal files spec budget limit a → IsSpillRefusal files spec budget limit b → (IsFree b → ⊥) → IsFree a ⊎ SameRefusal a b
  pub possible : (files : Files) (after : Option Files) (taken taken_after : List (ℕ × ℕ)) (spec : List ℕ) (budget limit : ℕ) (report : List ℕ)
      → IsSpillRun (Some files) after taken taken_after spec budget limit report → CanSpill files spec budget limit
