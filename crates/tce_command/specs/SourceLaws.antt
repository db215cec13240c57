-- The file of a specification has one outcome.
use Rattle.std.specs.Prelude.{◌≡◌, ◌⊎◌, ℕ, List, Option}
use Rattle.tce_outside.specs.Files.{Files, file}
use Rattle.tce_spec.specs.Specification.{Specification}
use Rattle.tce_command.specs.Refusals.{IsFree, SameRefusal}
use Rattle.tce_command.specs.declared.refusal.Refusal.{Refusal}
use Rattle.tce_command.specs.Source.{HasSpecification, IsSourceRefusal}

-- it specifies one thing; it is refused for one reason, but for want of memory or a failing disk; and not both
pub record SourcesHaveOneOutcome : Type 0 where
  pub one : (files : Files) (spec : List ℕ) (s t : Specification) → HasSpecification files spec s → HasSpecification files spec t → s ≡ t
  pub one_refusal : (name : List ℕ) (found : Option (List ℕ)) (a b : Refusal) → IsSourceRefusal name found a → IsSourceRefusal name found b → (IsFree b → ⊥) → IsFree a ⊎ SameRefusal a b
  pub not_both : (files : Files) (spec : List ℕ) (s : Specification) (a : Refusal) → HasSpecification files spec s → IsSourceRefusal spec (file files spec) a → IsFree a
