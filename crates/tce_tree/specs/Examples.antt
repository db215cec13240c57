-- Worked trees, with what the definitions give for them.
use Rattle.std.specs.Prelude.{◌≡◌, ℕ, ◌-◌, ◌^◌, None, Some, List, [], ◌∷◌, map, slice_index, slice_index_or, codes}
use Rattle.std.specs.List.{range_with_len}
use Rattle.tce_space.specs.Box.{place, places}
use Rattle.tce_space.specs.IndexSet.{set_of}
use Rattle.tce_space.specs.Space.{IndexSpace}
use Rattle.tce_tree.specs.ContractionTree.{ContractionTree, leaf, constant, binary, sum, multiply, add, subtract, nodes, operations, node_dims, node_loops, parent}
use Rattle.tce_tree.specs.Value.{Elements, assignment, value}
use Rattle.tce_tree.specs.Faults.{no_operation, sum_over_absent, too_many_loops, volume_too_large, fault_of}

-- `A[i] * B[j]`, over the indexes i, j
abbrev pub outer_product : ContractionTree
outer_product = binary multiply (leaf 0 (0 ∷ [])) (leaf 1 (1 ∷ []))

-- `(sum{k}(A[i,k])) * (sum{l}(B[j,l]))`, over the indexes i, j, k, l
abbrev pub two_sums : ContractionTree
two_sums = binary multiply (sum (2 ∷ []) (leaf 0 (0 ∷ 2 ∷ []))) (sum (3 ∷ []) (leaf 1 (1 ∷ 3 ∷ [])))

-- `sum{c,k}(sum{d,f}(sum{e,l}(B[b,e,f,l] * D[c,d,e,l]) * C[d,f,j,k]) * A[a,c,i,k])`, over the indexes a to f and i to l
abbrev pub first_sum : ContractionTree
first_sum = sum (4 ∷ 9 ∷ []) (binary multiply (leaf 1 (1 ∷ 4 ∷ 5 ∷ 9 ∷ [])) (leaf 3 (2 ∷ 3 ∷ 4 ∷ 9 ∷ [])))

abbrev pub second_sum : ContractionTree
second_sum = sum (3 ∷ 5 ∷ []) (binary multiply first_sum (leaf 2 (3 ∷ 5 ∷ 7 ∷ 8 ∷ [])))

abbrev pub three_sums : ContractionTree
three_sums = sum (2 ∷ 8 ∷ []) (binary multiply second_sum (leaf 0 (0 ∷ 2 ∷ 6 ∷ 8 ∷ [])))

-- `2 * A[i] - B[i] + 1`
abbrev pub affine : ContractionTree
affine = binary add (binary subtract (binary multiply (constant 2) (leaf 0 (0 ∷ []))) (leaf 1 (0 ∷ []))) (constant 1)

-- `sum{i}(A[i,i])`
abbrev pub trace : ContractionTree
trace = sum (0 ∷ []) (leaf 0 (0 ∷ 0 ∷ []))

-- a product whose loops are the indexes 0 to 10
abbrev pub eleven_loops : ContractionTree
eleven_loops = binary multiply (leaf 0 (0 ∷ 1 ∷ 2 ∷ 3 ∷ 4 ∷ 5 ∷ 6 ∷ 7 ∷ [])) (leaf 1 (8 ∷ 9 ∷ 10 ∷ []))

-- `sum{i,j,k}((A[i] * B[j]) * C[k])`
abbrev pub three_vectors : ContractionTree
three_vectors = sum (0 ∷ 1 ∷ 2 ∷ []) (binary multiply (binary multiply (leaf 0 (0 ∷ [])) (leaf 1 (1 ∷ []))) (leaf 2 (2 ∷ [])))

-- eleven indexes a to k of one range
abbrev pub space_of : ℕ → IndexSpace
space_of extent = record {
  ranges = (record { name = codes "N"; extent = extent; edge = 1 }) ∷ [];
  indexes = map (λ letter. record { name = letter ∷ []; of_range = 0 }) (codes "abcdefghijk");
}

-- tensors of these words in row-major order, where all extents are the same
abbrev pub stored : ℕ → List (List ℕ) → Elements
stored extent tensors = record {
  extent = λ i. extent;
  cell = λ tensor at. slice_index (slice_index_or tensors tensor []) (place (map (λ x. extent) at) at);
}

-- tensors of ones, where the first six indexes have extent 3 and the others extent 2
abbrev pub ones : Elements
ones = record { extent = λ i. slice_index (3 ∷ 3 ∷ 3 ∷ 3 ∷ 3 ∷ 3 ∷ 2 ∷ 2 ∷ 2 ∷ 2 ∷ []) i; cell = λ tensor at. 1 }

-- the values at all places, in row-major order, of a tree over these indexes
abbrev pub values : Elements → ContractionTree → List ℕ → List ℕ
values e tree indexes = map (λ at. value e tree (assignment indexes at)) (places (map e.extent indexes))

abbrev pub numbers : ContractionTree → List ℕ
numbers tree = range_with_len 0 (operations tree)

pub record WorkedNodes : Type 0 where
  pub outer_nodes : nodes outer_product ≡ outer_product ∷ []
  pub outer_dims : map (node_dims outer_product) (numbers outer_product) ≡ set_of (0 ∷ 1 ∷ []) ∷ []
  pub outer_parents : map (parent outer_product) (numbers outer_product) ≡ None ∷ []
  pub sums_nodes : nodes two_sums ≡ sum (2 ∷ []) (leaf 0 (0 ∷ 2 ∷ [])) ∷ sum (3 ∷ []) (leaf 1 (1 ∷ 3 ∷ [])) ∷ two_sums ∷ []
  pub sums_dims : map (node_dims two_sums) (numbers two_sums) ≡ set_of (0 ∷ []) ∷ set_of (1 ∷ []) ∷ set_of (0 ∷ 1 ∷ []) ∷ []
  pub sums_loops : map (node_loops two_sums) (numbers two_sums) ≡ set_of (0 ∷ 2 ∷ []) ∷ set_of (1 ∷ 3 ∷ []) ∷ set_of (0 ∷ 1 ∷ []) ∷ []
  pub sums_parents : map (parent two_sums) (numbers two_sums) ≡ Some 2 ∷ Some 2 ∷ None ∷ []
  pub long_dims : map (node_dims three_sums) (numbers three_sums)
      ≡ set_of (1 ∷ 2 ∷ 3 ∷ 4 ∷ 5 ∷ 9 ∷ []) ∷ set_of (1 ∷ 2 ∷ 3 ∷ 5 ∷ []) ∷ set_of (1 ∷ 2 ∷ 3 ∷ 5 ∷ 7 ∷ 8 ∷ [])
      ∷ set_of (1 ∷ 2 ∷ 7 ∷ 8 ∷ []) ∷ set_of (0 ∷ 1 ∷ 2 ∷ 6 ∷ 7 ∷ 8 ∷ []) ∷ set_of (0 ∷ 1 ∷ 6 ∷ 7 ∷ []) ∷ []
  pub long_loops : map (node_loops three_sums) (numbers three_sums)
      ≡ set_of (1 ∷ 2 ∷ 3 ∷ 4 ∷ 5 ∷ 9 ∷ []) ∷ set_of (1 ∷ 2 ∷ 3 ∷ 4 ∷ 5 ∷ 9 ∷ []) ∷ set_of (1 ∷ 2 ∷ 3 ∷ 5 ∷ 7 ∷ 8 ∷ [])
      ∷ set_of (1 ∷ 2 ∷ 3 ∷ 5 ∷ 7 ∷ 8 ∷ []) ∷ set_of (0 ∷ 1 ∷ 2 ∷ 6 ∷ 7 ∷ 8 ∷ []) ∷ set_of (0 ∷ 1 ∷ 2 ∷ 6 ∷ 7 ∷ 8 ∷ []) ∷ []
  pub long_parents : map (parent three_sums) (numbers three_sums) ≡ Some 1 ∷ Some 2 ∷ Some 3 ∷ Some 4 ∷ Some 5 ∷ None ∷ []

pub record WorkedValues : Type 0 where
  pub outer : values (stored 2 ((1 ∷ 2 ∷ []) ∷ (3 ∷ 4 ∷ []) ∷ [])) outer_product (0 ∷ 1 ∷ []) ≡ 3 ∷ 4 ∷ 6 ∷ 8 ∷ []
  pub added : values (stored 2 ((1 ∷ 2 ∷ []) ∷ (3 ∷ 4 ∷ []) ∷ [])) (binary add (leaf 0 (0 ∷ [])) (leaf 1 (1 ∷ []))) (0 ∷ 1 ∷ []) ≡ 4 ∷ 5 ∷ 5 ∷ 6 ∷ []
  pub sums : values (stored 2 ((1 ∷ 2 ∷ 3 ∷ 4 ∷ []) ∷ (5 ∷ 6 ∷ 7 ∷ 8 ∷ []) ∷ [])) two_sums (0 ∷ 1 ∷ []) ≡ 33 ∷ 45 ∷ 77 ∷ 105 ∷ []
  pub long : value ones three_sums (assignment (0 ∷ 1 ∷ 6 ∷ 7 ∷ []) (2 ∷ 1 ∷ 0 ∷ 1 ∷ [])) ≡ 324
  pub wrapped : values (stored 2 (((2 ^ 63) ∷ (2 ^ 64 - 1) ∷ []) ∷ (2 ∷ (2 ^ 64 - 1) ∷ []) ∷ [])) (binary multiply (leaf 0 (0 ∷ [])) (leaf 1 (0 ∷ []))) (0 ∷ []) ≡ 0 ∷ 1 ∷ []
  pub affine_words : values (stored 2 ((1 ∷ 2 ∷ []) ∷ (5 ∷ 5 ∷ []) ∷ [])) affine (0 ∷ []) ≡ 18446744073709551614 ∷ 0 ∷ []
  pub diagonal : values (stored 2 ((1 ∷ 2 ∷ 3 ∷ 4 ∷ []) ∷ [])) trace [] ≡ 5 ∷ []
  pub constants : values (stored 2 []) (binary add (constant 2) (constant 3)) [] ≡ 5 ∷ []

pub record WorkedFaults : Type 0 where
  pub accepted : fault_of (space_of 2) two_sums ≡ None
  pub nothing : fault_of (space_of 2) (constant 3) ≡ Some no_operation
  pub absent : fault_of (space_of 2) (sum (10 ∷ []) (leaf 0 (0 ∷ []))) ≡ Some (sum_over_absent (codes "k"))
  pub first_absent : fault_of (space_of 2) (sum (0 ∷ 9 ∷ 3 ∷ []) (leaf 0 (0 ∷ []))) ≡ Some (sum_over_absent (codes "j"))
  pub absent_constant : fault_of (space_of 2) (sum (8 ∷ []) (constant 3)) ≡ Some (sum_over_absent (codes "i"))
  pub many_loops : fault_of (space_of 1) eleven_loops ≡ Some (too_many_loops 0)
  pub large_volume : fault_of (space_of 4294967295) three_vectors ≡ Some (volume_too_large 1)
