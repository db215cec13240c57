-- The canonical text of a specification.
use Rattle.std.specs.Prelude.{ℕ, List}
use Rattle.tce_spec.specs.Statements.{canonical}
use Rattle.tce_spec.specs.Specification.{Specification}

-- a line for each range, for the neighbours of one range among the indexes and for each tensor, and the formula with no more parentheses than it needs
abbrev pub canonical_of : Specification → List ℕ
canonical_of s = canonical s.declarations s.result s.indexes s.tree
