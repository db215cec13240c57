-- A law of what texts specify.
use Rattle.std.specs.Prelude.{◌≡◌, ℕ, List, Result}
use Rattle.tce_spec.specs.Faults.{Fault}
use Rattle.tce_spec.specs.Specification.{Specification}
use Rattle.tce_spec.specs.Outcome.{IsOutcome}

-- every text has one outcome
abbrev pub EveryTextHasOneOutcome : Type 0
EveryTextHasOneOutcome =
    (text : List ℕ) → (found : Result Specification Fault) × IsOutcome text found × ((other : Result Specification Fault) → IsOutcome text other → other ≡ found)
