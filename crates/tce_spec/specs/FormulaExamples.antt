-- Formula lines that were judged by hand, over some declarations.
use Rattle.std.specs.Prelude.{◌≡◌, ℕ, List, [], ◌∷◌, ◌++◌, map, codes, Option, replicate, flat_map}
use Rattle.std.specs.declared.option.Option.TheVariants.{Some, None}
use Rattle.std.specs.List.{AllByRecursion}
use Rattle.tce_space.specs.Space.{Range, Index}
use Rattle.tce_grammar.specs.Grammar.{Line, skipped, bad, says, IsLine, range, index, declaration, formula}
use Rattle.tce_tree.specs.ContractionTree.{ContractionTree, leaf, constant, binary, sum, multiply, add, subtract}
use Rattle.tce_tree.specs.Faults.{no_operation, sum_over_absent, too_many_loops, volume_too_large}
use Rattle.tce_spec.specs.Declarations.{Declarations, Tensor}
use Rattle.tce_spec.specs.Faults.{Fault, bad_text, too_many_nodes, unknown_name, bad_number, rank_differs, range_differs, index_twice, result_is_operand, tree, result_indices}
use Rattle.tce_spec.specs.FormulaFaults.{formula_fault}
use Rattle.tce_spec.specs.Meaning.{meaning}

abbrev range_of : List ℕ → ℕ → Range
range_of name extent = record { name = name; extent = extent; edge = 1 }

-- the indexes of one range, by their letters
abbrev indexes_of : List ℕ → ℕ → List Index
indexes_of letters number = map (λ letter. record { name = letter ∷ []; of_range = number }) letters

abbrev tensor_of : List ℕ → List ℕ → Tensor
tensor_of name ranges = record { name = name; ranges = ranges }

-- i, j, k of extent 2, m of extent 3, x, y, z of extent 2 ^ 32 - 1 and a to h, p, q, r of extent 1
abbrev pub declared : Declarations
declared = record {
  space = record {
    ranges = range_of (codes "N") 2 ∷ range_of (codes "M") 3 ∷ range_of (codes "L") 4294967295 ∷ range_of (codes "O") 1 ∷ [];
    indexes = indexes_of (codes "ijk") 0 ++ (indexes_of (codes "m") 1 ++ (indexes_of (codes "xyz") 2 ++ indexes_of (codes "abcdefghpqr") 3));
  };
  tensors =
      tensor_of (codes "A") (0 ∷ 0 ∷ []) ∷ tensor_of (codes "B") (0 ∷ []) ∷ tensor_of (codes "C") (0 ∷ 0 ∷ [])
      ∷ tensor_of (codes "D") (0 ∷ []) ∷ tensor_of (codes "E") (0 ∷ []) ∷ tensor_of (codes "S") ([])
      ∷ tensor_of (codes "V") (1 ∷ []) ∷ tensor_of (codes "X") (2 ∷ []) ∷ tensor_of (codes "O") (replicate 8 3) ∷ tensor_of (codes "P") (replicate 3 3) ∷ [];
}

-- the fault of a line, as line 6
abbrev pub line_fault : Line → Option Fault
line_fault skipped = Some (bad_text 6)
line_fault bad = Some (bad_text 6)
line_fault (says (range name extent edge)) = Some (bad_text 6)
line_fault (says (index name names)) = Some (bad_text 6)
line_fault (says (declaration name ranges)) = Some (bad_text 6)
line_fault (says (formula result indexes f)) = formula_fault 6 declared result indexes f

pub record Example : Type 0 where
  pub text : List ℕ
  pub fault : Option Fault

abbrev accepted : List ℕ → Example
accepted text = record { text = text; fault = None }

abbrev refused : List ℕ → Fault → Example
refused text fault = record { text = text; fault = Some fault }

-- `S[] = 1 + 1 + ..` with so many additions
abbrev added_ones : ℕ → List ℕ
added_ones n = codes "S[] = 1" ++ flat_map (λ text. text) (replicate n (codes "+1"))

abbrev pub examples : List Example
examples =
    accepted (codes "C[i,j] = B[i] * E[j]") ∷
    accepted (codes "C[j,i] = B[i] + E[j]") ∷
    accepted (codes "C[i,j] = sum{k}(A[i,k] * A[k,j])") ∷
    accepted (codes "S[] = sum{i}(A[i,i])") ∷
    accepted (codes "D[i] = 2 * B[i] - E[i] + 1") ∷
    accepted (codes "S[] = 0 + 18446744073709551615") ∷
    accepted (codes "C[i,j] = sum{k}(A[i,k]) * sum{k}(A[k,j])") ∷
    accepted (added_ones 32) ∷
    refused (added_ones 33) (too_many_nodes 6) ∷
    refused (added_ones 33 ++ codes " + Z[]") (too_many_nodes 6) ∷
    refused (codes "Z[w] = Y[i] * 07") (unknown_name 6 (codes "Z")) ∷
    refused (codes "C[i,w] = Z[i] * 2") (unknown_name 6 (codes "w")) ∷
    refused (codes "S[] = sum{i,w}(Z[v])") (unknown_name 6 (codes "w")) ∷
    refused (codes "S[] = 2 * (Z[w] + Y[])") (unknown_name 6 (codes "Z")) ∷
    refused (codes "S[] = B[N] + Z[]") (unknown_name 6 (codes "N")) ∷
    refused (codes "S[i] = B[i,j] * 07 * Z[]") (unknown_name 6 (codes "Z")) ∷
    refused (codes "D[i] = 07 * B[i,j]") (bad_number 6) ∷
    refused (codes "S[] = 1 + 00") (bad_number 6) ∷
    refused (codes "S[] = sum{i}(B[i] * 18446744073709551616)") (bad_number 6) ∷
    refused (codes "S[i] = B[i,j] * V[i]") (rank_differs 6 (codes "S")) ∷
    refused (codes "C[i,m] = V[i] * B[i,j]") (rank_differs 6 (codes "B")) ∷
    refused (codes "C[i,m] = V[i] * B[i]") (range_differs 6 (codes "m")) ∷
    refused (codes "C[i,i] = A[j,m] * V[k]") (range_differs 6 (codes "m")) ∷
    refused (codes "S[] = sum{i,i}(V[i])") (range_differs 6 (codes "i")) ∷
    refused (codes "C[j,j] = sum{i,i}(C[i,i])") (index_twice 6 (codes "j")) ∷
    refused (codes "S[] = sum{i,j,j,i}(A[i,j])") (index_twice 6 (codes "j")) ∷
    refused (codes "S[] = B[i] + sum{i,j,i}(S[])") (index_twice 6 (codes "i")) ∷
    refused (codes "C[i,j] = B[i] * sum{k}(C[i,j])") (result_is_operand 6 (codes "C")) ∷
    refused (codes "S[] = 3") (tree 6 no_operation) ∷
    refused (codes "D[j] = B[i]") (tree 6 no_operation) ∷
    refused (codes "D[i] = sum{k}(B[i])") (tree 6 (sum_over_absent (codes "k"))) ∷
    refused (codes "S[] = sum{i}(3)") (tree 6 (sum_over_absent (codes "i"))) ∷
    refused (codes "S[] = O[a,b,c,d,e,f,g,h] * P[p,q,r]") (tree 6 (too_many_loops 0)) ∷
    refused (codes "S[] = sum{x,y,z}((X[x] * X[y]) * X[z])") (tree 6 (volume_too_large 1)) ∷
    refused (codes "D[i] = B[i] * E[j]") (result_indices 6) ∷
    refused (codes "C[i,j] = B[i] * E[i]") (result_indices 6) ∷
    refused (codes "D[i] = sum{i}(B[i])") (result_indices 6) ∷
    []

abbrev pub ExamplesHaveTheirFaults : Type 0
ExamplesHaveTheirFaults = AllByRecursion (λ (e : Example). (l : Line) × IsLine e.text l × (line_fault l ≡ e.fault)) examples

-- what a line means
abbrev pub line_meaning : Line → Option ContractionTree
line_meaning skipped = None
line_meaning bad = None
line_meaning (says (range name extent edge)) = None
line_meaning (says (index name names)) = None
line_meaning (says (declaration name ranges)) = None
line_meaning (says (formula result indexes f)) = Some (meaning declared f)

pub record MeaningExample : Type 0 where
  pub text : List ℕ
  pub of_tree : ContractionTree

abbrev means : List ℕ → ContractionTree → MeaningExample
means text of_tree = record { text = text; of_tree = of_tree }

abbrev pub meaning_examples : List MeaningExample
meaning_examples =
    means (codes "C[i,j] = B[i] * E[j]") (binary multiply (leaf 1 (0 ∷ [])) (leaf 4 (1 ∷ []))) ∷
    means (codes "D[i] = 2 * B[i] - E[i] + 1") (binary add (binary subtract (binary multiply (constant 2) (leaf 1 (0 ∷ []))) (leaf 4 (0 ∷ []))) (constant 1)) ∷
    means (codes "D[i] = B[i] - (E[i] - 10)") (binary subtract (leaf 1 (0 ∷ [])) (binary subtract (leaf 4 (0 ∷ [])) (constant 10))) ∷
    means (codes "S[] = sum{j,i}(A[i,j] * V[m])") (sum (1 ∷ 0 ∷ []) (binary multiply (leaf 0 (0 ∷ 1 ∷ [])) (leaf 6 (3 ∷ [])))) ∷
    []

abbrev pub ExamplesMeanTheirTrees : Type 0
ExamplesMeanTheirTrees = AllByRecursion (λ (e : MeaningExample). (l : Line) × IsLine e.text l × (line_meaning l ≡ Some e.of_tree)) meaning_examples
