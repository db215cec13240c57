-- The places of a formula where names stand.
use Rattle.std.specs.Prelude.{⊤, ℕ, IsTrue, List, [], ◌∷◌, ◌++◌, Option}
use Rattle.std.specs.declared.option.Option.TheVariants.{None}
use Rattle.std.specs.Option.{option_or}
use Rattle.tce_grammar.specs.Formula.{Formula, tensor, constant, sum, binary}
use Rattle.tce_grammar.specs.Grammar.{AreNames, AreSome}
use Rattle.tce_space.specs.Name.{is_name}

-- a tensor with the indexes in its brackets, or the list of a sum
pub data Place : Type 0 where
  reference : List ℕ → List (List ℕ) → Place
  listing : List (List ℕ) → Place

-- the places of a formula, from the left
abbrev pub places : Formula → List Place
places (tensor name indexes) = reference name indexes ∷ []
places (constant digits) = []
places (sum indexes operand) = listing indexes ∷ places operand
places (binary operator left right) = places left ++ places right

-- what is found at the leftmost place where something is
abbrev pub first_at : (Place → Option (List ℕ)) → List Place → Option (List ℕ)
first_at found [] = None
first_at found (place ∷ rest) = option_or (found place) (first_at found rest)

-- the digits of the constants
abbrev pub constants : Formula → List (List ℕ)
constants (tensor name indexes) = []
constants (constant digits) = digits ∷ []
constants (sum indexes operand) = constants operand
constants (binary operator left right) = constants left ++ constants right

-- names stand where names do, and each sum lists an index
abbrev pub IsNamed : Formula → Type 0
IsNamed (tensor name indexes) = IsTrue (is_name name) × AreNames indexes
IsNamed (constant digits) = ⊤
IsNamed (sum indexes operand) = AreSome indexes × AreNames indexes × IsNamed operand
IsNamed (binary operator left right) = IsNamed left × IsNamed right
