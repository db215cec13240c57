-- Laws of the texts of declarations.
use Rattle.std.specs.Prelude.{◌≡◌, ℕ, List, Option, Result}
use Rattle.tce_spec.specs.Faults.{Fault}
use Rattle.tce_spec.specs.Text.{Head, IsHead, IsClosing}

-- every text has one head, or one fault in its place; and the lines behind a formula have one fault, or none
pub record EveryTextHasOneReading : Type 0 where
  pub head : (text : List ℕ) → (found : Result Head Fault) × IsHead text found × ((other : Result Head Fault) → IsHead text other → other ≡ found)
  pub closing : (line : ℕ) (text : List ℕ) → (found : Option Fault) × IsClosing line text found × ((other : Option Fault) → IsClosing line text other → other ≡ found)
