-- Parts of some loops that a row puts above all others of them, and conflicts that they show.
use Rattle.std.specs.Prelude.{ℕ, List}
use Rattle.std.specs.List.{All}
use Rattle.tce_fusion.specs.Relation.{above, HasNoConflict}
use Rattle.tce_fusion.specs.Row.{Row, rows_joined}
use Rattle.tce_nesting.specs.Ends.{IsTopOf}

-- each of these is such a part
abbrev pub AreTops : ℕ → Row → List ℕ → Type 0
AreTops loops row tops = All (IsTopOf loops (above row.classes)) tops

-- a row has a conflict with each that has these parts
abbrev pub HasConflict : ℕ → List ℕ → Row → Type 0
HasConflict loops tops right = (left : Row) → AreTops loops left tops → HasNoConflict loops (rows_joined left right) → ⊥
