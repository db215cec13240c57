-- Worked results.
use Rattle.std.specs.Prelude.{◌≡◌, ℕ, List, [], ◌∷◌, ◌++◌, slice_index_or, codes}
use Rattle.std.specs.List.{flat_map}
use Rattle.tce_base.specs.Word.{word_bytes}
use Rattle.tce_space.specs.Space.{Index}
use Rattle.tce_tree.specs.ContractionTree.{leaf, binary, multiply, sum}
use Rattle.tce_spec.specs.Declarations.{Tensor}
use Rattle.tce_spec.specs.Specification.{Specification}
use Rattle.tce_job.specs.TensorFiles.{file_of}
use Rattle.tce_job.specs.ResultBytes.{result_from}

-- a file of the first version with these numbers: the rank, the extents, the edges and the words
abbrev pub array : List ℕ → List ℕ
array numbers = codes "TCARRAY1" ++ flat_map (word_bytes 8) numbers

-- a file of the second version with words of four bytes: the rank, the width, the extents and the edges, and the words
abbrev pub narrow_array : List ℕ → List ℕ → List ℕ
narrow_array numbers words = codes "TCARRAY2" ++ flat_map (word_bytes 8) numbers ++ flat_map (word_bytes 4) words

-- the bytes of the tensors' files, by number
abbrev pub files : List (List ℕ) → ℕ → List ℕ
files contents t = slice_index_or contents t []

abbrev pub index : List ℕ → Index
index name = record { name = name; of_range = 0 }

abbrev pub tensor : List ℕ → List ℕ → Tensor
tensor name ranges = record { name = name; ranges = ranges }

-- `C[i,j] = A[i] * B[j]`
abbrev pub outer : ℕ → Specification
outer n = record {
  declarations = record {
    space = record { ranges = record { name = codes "N"; extent = n; edge = 1 } ∷ []; indexes = index (codes "i") ∷ index (codes "j") ∷ [] };
    tensors = tensor (codes "A") (0 ∷ []) ∷ tensor (codes "B") (0 ∷ []) ∷ tensor (codes "C") (0 ∷ 0 ∷ []) ∷ [];
  };
  result = 2;
  indexes = 0 ∷ 1 ∷ [];
  tree = binary multiply (leaf 0 (0 ∷ [])) (leaf 1 (1 ∷ []));
}

-- `C[i,j] = sum{k}(A[i,k] * B[k,j])`
abbrev pub matrix_product : ℕ → ℕ → Specification
matrix_product n edge = record {
  declarations = record {
    space = record { ranges = record { name = codes "N"; extent = n; edge = edge } ∷ []; indexes = index (codes "i") ∷ index (codes "j") ∷ index (codes "k") ∷ [] };
    tensors = tensor (codes "A") (0 ∷ 0 ∷ []) ∷ tensor (codes "B") (0 ∷ 0 ∷ []) ∷ tensor (codes "C") (0 ∷ 0 ∷ []) ∷ [];
  };
  result = 2;
  indexes = 0 ∷ 1 ∷ [];
  tree = sum (2 ∷ []) (binary multiply (leaf 0 (0 ∷ 2 ∷ [])) (leaf 1 (2 ∷ 1 ∷ [])));
}

-- (-1, 5) in four bytes each, and (3, 4)
abbrev pub outer_files : List (List ℕ)
outer_files = narrow_array (1 ∷ 4 ∷ 2 ∷ 1 ∷ []) (4294967295 ∷ 5 ∷ []) ∷ array (1 ∷ 2 ∷ 1 ∷ 3 ∷ 4 ∷ []) ∷ []

-- the numbers 1 to 9 in tiles of 2 by 2, with 7 as padding, and twice the identity
abbrev pub tiled_files : List (List ℕ)
tiled_files =
    array (2 ∷ 3 ∷ 3 ∷ 2 ∷ 2 ∷ 1 ∷ 2 ∷ 4 ∷ 5 ∷ 3 ∷ 7 ∷ 6 ∷ 7 ∷ 7 ∷ 8 ∷ 7 ∷ 7 ∷ 9 ∷ 7 ∷ 7 ∷ 7 ∷ [])
    ∷ array (2 ∷ 3 ∷ 3 ∷ 2 ∷ 2 ∷ 2 ∷ 0 ∷ 0 ∷ 2 ∷ 0 ∷ 0 ∷ 0 ∷ 0 ∷ 0 ∷ 0 ∷ 0 ∷ 0 ∷ 2 ∷ 0 ∷ 0 ∷ 0 ∷ [])
    ∷ []

pub record WorkedResults : Type 0 where
  pub outer_file : file_of (outer 2) 2 ≡ codes "C.tca"
  pub outer_words : result_from (outer 2) (files outer_files) ≡ array (2 ∷ 2 ∷ 2 ∷ 1 ∷ 1 ∷ 18446744073709551613 ∷ 18446744073709551612 ∷ 15 ∷ 20 ∷ [])
  pub tiled_words : result_from (matrix_product 3 2) (files tiled_files)
      ≡ array (2 ∷ 3 ∷ 3 ∷ 2 ∷ 2 ∷ 2 ∷ 4 ∷ 8 ∷ 10 ∷ 6 ∷ 0 ∷ 12 ∷ 0 ∷ 14 ∷ 16 ∷ 0 ∷ 0 ∷ 18 ∷ 0 ∷ 0 ∷ 0 ∷ [])
