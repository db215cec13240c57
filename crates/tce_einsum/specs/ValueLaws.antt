-- The laws by which a sum of products is computed in any order: of the value of a tree, for all contents of the tensors.
use Rattle.std.specs.Prelude.{◌≡◌, ℕ, false, IsTrue, List, ◌∷◌, ◌++◌}
use Rattle.tce_space.specs.Limits.{max_indexes}
use Rattle.tce_space.specs.IndexSet.{has}
use Rattle.tce_tree.specs.ContractionTree.{ContractionTree, multiply, binary, sum, dims}
use Rattle.tce_tree.specs.WellFormed.{among, indexes_below, is_distinct}
use Rattle.tce_tree.specs.Value.{Assignment, Elements, value}

-- the value of a tree depends on none of these indexes
abbrev pub LacksIndexes : ContractionTree → List ℕ → Type 0
LacksIndexes tree indexes = (i : ℕ) → IsTrue (among indexes i) → has (dims tree) i ≡ false

-- a sum moves out of a product whose right operand has none of its indexes
abbrev pub SumsMoveOutOfLeftOperands : Type 0
SumsMoveOutOfLeftOperands =
    (e : Elements) (indexes : List ℕ) (left right : ContractionTree) (a : Assignment) → IsTrue (indexes_below max_indexes right) → LacksIndexes right indexes
    → value e (binary multiply (sum indexes left) right) a ≡ value e (sum indexes (binary multiply left right)) a

-- and out of one whose left operand has none of them
abbrev pub SumsMoveOutOfRightOperands : Type 0
SumsMoveOutOfRightOperands =
    (e : Elements) (indexes : List ℕ) (left right : ContractionTree) (a : Assignment) → IsTrue (indexes_below max_indexes left) → LacksIndexes left indexes
    → value e (binary multiply left (sum indexes right)) a ≡ value e (sum indexes (binary multiply left right)) a

-- the operands of a product may change places
abbrev pub ProductsCommute : Type 0
ProductsCommute =
    (e : Elements) (left right : ContractionTree) (a : Assignment) → value e (binary multiply left right) a ≡ value e (binary multiply right left) a

-- products may be grouped to either side
abbrev pub ProductsAssociate : Type 0
ProductsAssociate =
    (e : Elements) (x y z : ContractionTree) (a : Assignment)
    → value e (binary multiply (binary multiply x y) z) a ≡ value e (binary multiply x (binary multiply y z)) a

-- a sum of a sum is one sum over the indexes of both
abbrev pub SumsJoin : Type 0
SumsJoin =
    (e : Elements) (outer inner : List ℕ) (operand : ContractionTree) (a : Assignment)
    → value e (sum outer (sum inner operand)) a ≡ value e (sum (outer ++ inner) operand) a

-- neighbours in the list of a sum may change places
abbrev pub SumsExchange : Type 0
SumsExchange =
    (e : Elements) (i j : ℕ) (rest : List ℕ) (operand : ContractionTree) (a : Assignment)
    → value e (sum (i ∷ j ∷ rest) operand) a ≡ value e (sum (j ∷ i ∷ rest) operand) a

-- the indexes of a sum may be listed in any order
abbrev pub SumsHaveNoOrder : Type 0
SumsHaveNoOrder =
    (e : Elements) (is js : List ℕ) (operand : ContractionTree) (a : Assignment) → IsTrue (is_distinct is) → IsTrue (is_distinct js)
    → ((i : ℕ) → among is i ≡ among js i) → value e (sum is operand) a ≡ value e (sum js operand) a
