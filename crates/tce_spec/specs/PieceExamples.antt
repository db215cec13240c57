-- Worked specifications of pieces.
use Rattle.std.specs.Prelude.{◌≡◌, ℕ, List, [], ◌∷◌, codes}
use Rattle.tce_tree.specs.ContractionTree.{leaf, binary, sum, multiply}
use Rattle.tce_tree.specs.Examples.{two_sums}
use Rattle.tce_space.specs.Space.{IndexSpace, Range, Index}
use Rattle.tce_spec.specs.Declarations.{Tensor}
use Rattle.tce_spec.specs.Specification.{Specification}
use Rattle.tce_spec.specs.CutExamples.{cut_at}
use Rattle.tce_spec.specs.PieceSpecification.{piece_of}

abbrev pub range_of : List ℕ → ℕ → Range
range_of name extent = record { name = name; extent = extent; edge = 1 }

abbrev pub index_of : List ℕ → ℕ → Index
index_of name range = record { name = name; of_range = range }

-- i of extent 5, j of extent 7, k and l of extent 2
abbrev pub short_space : IndexSpace
short_space = record {
  ranges = range_of (codes "I") 5 ∷ range_of (codes "J") 7 ∷ range_of (codes "K") 2 ∷ [];
  indexes = index_of (codes "i") 0 ∷ index_of (codes "j") 1 ∷ index_of (codes "k") 2 ∷ index_of (codes "l") 2 ∷ [];
}

abbrev pub tensor : List ℕ → List ℕ → Tensor
tensor name ranges = record { name = name; ranges = ranges }

-- `C[i,j] = sum{k}(A[i,k]) * sum{l}(B[j,l])`, and a tensor that is not used
abbrev pub whole : Specification
whole = record {
  declarations = record { space = short_space; tensors = tensor (codes "A") (0 ∷ 2 ∷ []) ∷ tensor (codes "B") (1 ∷ 2 ∷ []) ∷ tensor (codes "C") (0 ∷ 1 ∷ []) ∷ tensor (codes "D") (0 ∷ []) ∷ [] };
  result = 2;
  indexes = 0 ∷ 1 ∷ [];
  tree = two_sums;
}

pub record WorkedSpecifications : Type 0 where
  pub second : piece_of whole (cut_at 1) 1 ≡ record {
    declarations = record { space = short_space; tensors = tensor (codes "B") (1 ∷ 2 ∷ []) ∷ tensor (codes "spill-1") (1 ∷ []) ∷ [] };
    result = 1;
    indexes = 1 ∷ [];
    tree = sum (3 ∷ []) (leaf 0 (1 ∷ 3 ∷ []));
  }
  pub above_second : piece_of whole (cut_at 1) 2 ≡ record {
    declarations = record { space = short_space; tensors = tensor (codes "A") (0 ∷ 2 ∷ []) ∷ tensor (codes "spill-1") (1 ∷ []) ∷ tensor (codes "C") (0 ∷ 1 ∷ []) ∷ [] };
    result = 2;
    indexes = 0 ∷ 1 ∷ [];
    tree = binary multiply (sum (2 ∷ []) (leaf 0 (0 ∷ 2 ∷ []))) (leaf 1 (1 ∷ []));
  }
