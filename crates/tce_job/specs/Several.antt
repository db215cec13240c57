-- Several specifications that are run one after the other: the files they leave, and what they take.
use Rattle.std.specs.Prelude.{◌≡◌, ◌≢◌, ℕ, List, [], ◌∷◌, ◌++◌, All, Option}
use Rattle.std.specs.Option.{option_map}
use Rattle.std.specs.List.{AllZip}
use Rattle.tce_outside.specs.Files.{Files, file}
use Rattle.tce_nesting.specs.declared.plan.Plan.{Plan}
use Rattle.tce_search.specs.LeastPlan.{IsLeastPlan}
use Rattle.tce_spec.specs.Specification.{Specification}
use Rattle.tce_job.specs.TensorFiles.{file_of}
use Rattle.tce_job.specs.ResultBytes.{with_result}
use Rattle.tce_job.specs.Prepared.{taking_of}

-- each over the files that the ones in front of it left
abbrev pub files_after : List Specification → Files → Files
files_after [] files = files
files_after (s ∷ ss) files = files_after ss (with_result s files)

-- no file differs but those of the results
abbrev pub OnlyResultsDiffer : List Specification → Option Files → Option Files → Type 0
OnlyResultsDiffer ss before after =
    (name : List ℕ) → All (λ (s : Specification). name ≢ file_of s s.result) ss → option_map (λ files. file files name) after ≡ option_map (λ files. file files name) before

-- the takings by these plans
abbrev pub takings_of : ℕ → List Specification → List Plan → List (ℕ × ℕ)
takings_of budget [] plans = []
takings_of budget (s ∷ ss) [] = []
takings_of budget (s ∷ ss) (plan ∷ plans) = taking_of s budget plan ∷ takings_of budget ss plans

-- each by a least plan: its memory and its words for tiles were taken in turn
pub record HasTakenEach (ss : List Specification) (budget : ℕ) (before after : List (ℕ × ℕ)) : Type 0 where
  pub plans : List Plan
  pub least : AllZip (λ (s : Specification) (plan : Plan). IsLeastPlan s.declarations.space s.tree plan) ss plans
  pub taken : after ≡ before ++ takings_of budget ss plans
