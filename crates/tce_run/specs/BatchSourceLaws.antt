-- The file of several formulas has one outcome.
use Rattle.std.specs.Prelude.{◌≡◌, ◌⊎◌, ℕ, List, Option}
use Rattle.tce_outside.specs.Files.{Files, file}
use Rattle.tce_spec.specs.Specification.{Specification}
use Rattle.tce_command.specs.Refusals.{IsFree, SameRefusal}
use Rattle.tce_command.specs.declared.refusal.Refusal.{Refusal}
use Rattle.tce_run.specs.BatchSource.{HasBatch, IsBatchSourceRefusal}

-- it specifies one list of formulas; it is refused for one reason, but for want of memory or a failing disk; and not both
pub record BatchSourcesHaveOneOutcome : Type 0 where
  pub one : (files : Files) (spec : List ℕ) (batch other : List Specification) → HasBatch files spec batch → HasBatch files spec other → batch ≡ other
  pub one_refusal : (name : List ℕ) (found : Option (List ℕ)) (a b : Refusal) → IsBatchSourceRefusal name found a → IsBatchSourceRefusal name found b → (IsFree b → ⊥) → IsFree a ⊎ SameRefusal a b
  pub not_both : (files : Files) (spec : List ℕ) (batch : List Specification) (a : Refusal) → HasBatch files spec batch → IsBatchSourceRefusal spec (file files spec) a → IsFree a
