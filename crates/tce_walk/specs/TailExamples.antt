-- Bounds on touches, computed.
use Rattle.std.specs.Prelude.{◌≡◌, [], ◌∷◌, codes}
use Rattle.tce_space.specs.Space.{IndexSpace}
use Rattle.tce_tree.specs.ContractionTree.{ContractionTree, leaf, constant, binary, sum, multiply}
use Rattle.tce_tree.specs.Examples.{two_sums}
use Rattle.tce_code.specs.Examples.{planned, alone, fused_sum}
use Rattle.tce_code.specs.Generation.{code_of}
use Rattle.tce_walk.specs.Touches.{touch_bound}

-- one index i of extent 5 and tile 2
abbrev pub five_by_two : IndexSpace
five_by_two = record { ranges = (record { name = codes "N"; extent = 5; edge = 2 }) ∷ []; indexes = (record { name = codes "i"; of_range = 0 }) ∷ [] }

-- i, k and l of extent 2 with tiles 1, 2 and 2, j of extent 3 and tile 1
abbrev pub small : IndexSpace
small = record {
  ranges = (record { name = codes "I"; extent = 2; edge = 1 }) ∷ (record { name = codes "J"; extent = 3; edge = 1 }) ∷ (record { name = codes "K"; extent = 2; edge = 2 }) ∷ [];
  indexes = (record { name = codes "i"; of_range = 0 }) ∷ (record { name = codes "j"; of_range = 1 }) ∷ (record { name = codes "k"; of_range = 2 }) ∷ (record { name = codes "l"; of_range = 2 }) ∷ [];
}

-- `A[i] * B[i]`, `2 * A[i]` and `sum{i}(A[i] * B[i])`
abbrev pub pairs : ContractionTree
pairs = binary multiply (leaf 0 (0 ∷ [])) (leaf 1 (0 ∷ []))

abbrev pub doubled : ContractionTree
doubled = binary multiply (constant 2) (leaf 0 (0 ∷ []))

abbrev pub dot : ContractionTree
dot = sum (0 ∷ []) pairs

pub record WorkedTouches : Type 0 where
  -- one tail of three blocks
  pub tiled : touch_bound five_by_two pairs (code_of (alone (0 ∷ [])) pairs) ≡ 9
  -- turn by turn, since an operand is a constant
  pub constants : touch_bound five_by_two doubled (code_of (alone (0 ∷ [])) doubled) ≡ 15
  -- a product joined to its sum is one tail; apart they are two
  pub joined : touch_bound five_by_two dot (code_of (planned ((0 ∷ []) ∷ [] ∷ []) ((0 ∷ []) ∷ (0 ∷ []) ∷ [])) dot) ≡ 9
  pub apart : touch_bound five_by_two dot (code_of (planned ([] ∷ [] ∷ []) ((0 ∷ []) ∷ (0 ∷ []) ∷ [])) dot) ≡ 18
  -- the loops over i and k; then in each of three turns of j those over l and over i: 2 * 3 + 3 * (3 + 2 * 3)
  pub nested : touch_bound small two_sums (code_of fused_sum two_sums) ≡ 33
