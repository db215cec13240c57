-- A law of what texts of several formulas specify.
use Rattle.std.specs.Prelude.{◌≡◌, ℕ, List, Result}
use Rattle.tce_spec.specs.Faults.{Fault}
use Rattle.tce_spec.specs.Specification.{Specification}
use Rattle.tce_batch.specs.Outcome.{IsBatchOutcome}

-- every text has one outcome as a batch
abbrev pub EveryTextHasOneBatch : Type 0
EveryTextHasOneBatch =
    (text : List ℕ) → (found : Result (List Specification) Fault) × IsBatchOutcome text found × ((other : Result (List Specification) Fault) → IsBatchOutcome text other → other ≡ found)
