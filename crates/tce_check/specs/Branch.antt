-- Rows that put some loops above all others of a node, one after another.
use Rattle.std.specs.Prelude.{◌≡◌, ℕ, ◌<◌, ◌≤◌, ◌⊎◌, List, [], ◌∷◌, ◌++◌, IsTrue}
use Rattle.std.specs.List.{All}
use Rattle.tce_space.specs.IndexSet.{has, count, IsWithin}
use Rattle.tce_fusion.specs.Row.{Row}
use Rattle.tce_check.specs.Kept.{IsRowAt, IsUppermost, HasKept}
use Rattle.tce_check.specs.declared.branch.Branch.{Branch}
use Rattle.tce_check.specs.declared.uppermost.Turn.{Turn}

-- the row puts no other of the rest above the loop, at each turn
abbrev pub Passes : List Turn → Row → Type 0
Passes turns row = All (λ turn. IsUppermost turn.rest row turn.index) turns

-- one loop of the rest has its turn, and is no longer one of the rest
pub record IsAfter (branch : Branch) (index : ℕ) (next : Branch) : Type 0 where
  pub turns : next.turns.items ≡ branch.turns.items ++ (record { rest = branch.rest; index = index }) ∷ []
  pub within : IsWithin next.rest branch.rest
  pub fewer : count next.rest < count branch.rest

-- of the rows from one place up to another, each that passes costs as much as the limit or has one kept that stands for it
abbrev pub AreGathered : Branch → ℕ → List Row → ℕ → ℕ → List ℕ → ℕ → Type 0
AreGathered branch limit rows from until places kept =
    (k : ℕ) (row : Row) → from ≤ k → k < until → IsRowAt rows k row → Passes branch.turns.items row → (limit ≤ row.cost) ⊎ HasKept branch.rest rows places kept row
