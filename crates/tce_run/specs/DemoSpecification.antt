-- What the text of the demonstration specifies.
use Rattle.std.specs.Prelude.{◌≡◌, ℕ, ◌≤◌, min, List, [], ◌∷◌, ◌++◌, map, codes}
use Rattle.std.specs.declared.result.Result.TheVariants.{Ok}
use Rattle.tce_space.specs.Space.{Range, Index, IndexSpace}
use Rattle.tce_tree.specs.ContractionTree.{ContractionTree, multiply, leaf, binary, sum}
use Rattle.tce_spec.specs.Declarations.{Declarations, Tensor}
use Rattle.tce_tools.specs.Demo.{demo_text}
use Rattle.tce_spec.specs.Specification.{Specification}
use Rattle.tce_spec.specs.Outcome.{IsOutcome}

-- the text of the demonstration with these extents specifies this
abbrev pub IsDemoOf : ℕ → ℕ → Specification → Type 0
IsDemoOf v o s = IsOutcome (demo_text v o) (Ok s)

-- the extents of the two ranges
abbrev pub IsExtent : ℕ → Type 0
IsExtent n = (1 ≤ n) × (n ≤ 32)

abbrev pub range_of : List ℕ → ℕ → Range
range_of name extent = record { name = name; extent = extent; edge = min extent 4 }

-- the indexes of one range, by their letters
abbrev pub indexes_of : List ℕ → ℕ → List Index
indexes_of letters number = map (λ letter. record { name = letter ∷ []; of_range = number }) letters

abbrev pub tensor_of : List ℕ → List ℕ → Tensor
tensor_of name ranges = record { name = name; ranges = ranges }

abbrev pub demo_space : ℕ → ℕ → IndexSpace
demo_space v o = record { ranges = range_of (codes "V") v ∷ range_of (codes "O") o ∷ []; indexes = indexes_of (codes "abcdef") 0 ++ indexes_of (codes "ijkl") 1 }

abbrev pub demo_tensors : List Tensor
demo_tensors =
    tensor_of (codes "demoA") (0 ∷ 0 ∷ 1 ∷ 1 ∷ []) ∷ tensor_of (codes "demoB") (0 ∷ 0 ∷ 0 ∷ 1 ∷ []) ∷ tensor_of (codes "demoC") (0 ∷ 0 ∷ 1 ∷ 1 ∷ [])
    ∷ tensor_of (codes "demoD") (0 ∷ 0 ∷ 0 ∷ 1 ∷ []) ∷ tensor_of (codes "demoS") (0 ∷ 0 ∷ 1 ∷ 1 ∷ []) ∷ []

abbrev pub demo_declarations : ℕ → ℕ → Declarations
demo_declarations v o = record { space = demo_space v o; tensors = demo_tensors }

-- the sum over e and l, then over d and f, then over c and k
abbrev pub first_sum : ContractionTree
first_sum = sum (4 ∷ 9 ∷ []) (binary multiply (leaf 1 (1 ∷ 4 ∷ 5 ∷ 9 ∷ [])) (leaf 3 (2 ∷ 3 ∷ 4 ∷ 9 ∷ [])))

abbrev pub second_sum : ContractionTree
second_sum = sum (3 ∷ 5 ∷ []) (binary multiply first_sum (leaf 2 (3 ∷ 5 ∷ 7 ∷ 8 ∷ [])))

abbrev pub demo_tree : ContractionTree
demo_tree = sum (2 ∷ 8 ∷ []) (binary multiply second_sum (leaf 0 (0 ∷ 2 ∷ 6 ∷ 8 ∷ [])))

abbrev pub demo_specification : ℕ → ℕ → Specification
demo_specification v o = record { declarations = demo_declarations v o; result = 4; indexes = 0 ∷ 1 ∷ 6 ∷ 7 ∷ []; tree = demo_tree }

-- a specification of the demonstration
pub record IsDemo (s : Specification) : Type 0 where
  pub v : ℕ
  pub o : ℕ
  pub v_within : IsExtent v
  pub o_within : IsExtent o
  pub is : s ≡ demo_specification v o
