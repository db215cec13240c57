-- What worked parts leave.
use Rattle.std.specs.Prelude.{◌≡◌, ℕ, List, [], ◌∷◌, map, Option}
use Rattle.std.specs.List.{fold}
use Rattle.std.specs.declared.option.Option.TheVariants.{Some, None}
use Rattle.tce_space.specs.IndexSet.{set_of}
use Rattle.tce_tree.specs.ContractionTree.{leaf, binary, sum, multiply, node}
use Rattle.tce_tree.specs.Examples.{stored}
use Rattle.tce_tree.specs.Value.{Assignment}
use Rattle.tce_block.specs.Parts.{Part}
use Rattle.tce_walk.specs.Parts.{node_after_part}
use Rattle.tce_code.specs.Execution.{Setting}

-- `sum{j}(A[i,j])`, and `sum{j}(A[i] * B[j])` with j fused, over the indexes i, j of extent 3
abbrev pub rows : Setting
rows = record {
  tree = sum (1 ∷ []) (leaf 0 (0 ∷ 1 ∷ []));
  fusion = set_of [] ∷ [];
  elements = stored 3 ((1 ∷ 2 ∷ 3 ∷ 4 ∷ 5 ∷ 6 ∷ 7 ∷ 8 ∷ 9 ∷ []) ∷ []);
}

abbrev pub products : Setting
products = record {
  tree = sum (1 ∷ []) (binary multiply (leaf 0 (0 ∷ [])) (leaf 1 (1 ∷ [])));
  fusion = set_of (1 ∷ []) ∷ set_of [] ∷ [];
  elements = stored 3 ((1 ∷ 2 ∷ 3 ∷ []) ∷ (4 ∷ 5 ∷ 6 ∷ []) ∷ []);
}

-- the parts of both loops, and of that over j alone, where j has an edge of 2
abbrev pub first_columns : Part
first_columns = record { from = 0 ∷ 0 ∷ []; len = 3 ∷ 2 ∷ [] }

abbrev pub last_column : Part
last_column = record { from = 0 ∷ 2 ∷ []; len = 3 ∷ 1 ∷ [] }

abbrev pub first_turns : Part
first_turns = record { from = 0 ∷ []; len = 2 ∷ [] }

abbrev pub last_turn : Part
last_turn = record { from = 2 ∷ []; len = 1 ∷ [] }

-- i at 1
abbrev pub second_row : Assignment
second_row = λ i. 1

-- the words of node `u` at i from 0 to 3, the last of which is no place, after some parts of the tail of node 0, where all places hold 70 before
abbrev pub words_after : Setting → List ℕ → Option ℕ → ℕ → List Part → List ℕ
words_after s order joined u parts =
    map (λ x. fold (λ state part. node_after_part s order second_row part 0 joined (node s.tree 0) state) (λ w p. 70) parts u (x ∷ [])) (0 ∷ 1 ∷ 2 ∷ 3 ∷ [])

pub record WorkedParts : Type 0 where
  -- sums of rows
  pub summed_first : words_after rows (0 ∷ 1 ∷ []) None 0 (first_columns ∷ []) ≡ 73 ∷ 79 ∷ 85 ∷ 70 ∷ []
  pub summed : words_after rows (0 ∷ 1 ∷ []) None 0 (first_columns ∷ last_column ∷ []) ≡ 76 ∷ 85 ∷ 94 ∷ 70 ∷ []
  -- products, of which each place has the last
  pub set_first : words_after products (0 ∷ 1 ∷ []) None 0 (first_columns ∷ []) ≡ 5 ∷ 10 ∷ 15 ∷ 70 ∷ []
  pub set : words_after products (0 ∷ 1 ∷ []) None 0 (first_columns ∷ last_column ∷ []) ≡ 6 ∷ 12 ∷ 18 ∷ 70 ∷ []
  -- one row of them
  pub set_row : words_after products (1 ∷ []) None 0 (first_turns ∷ last_turn ∷ []) ≡ 70 ∷ 12 ∷ 70 ∷ 70 ∷ []
  -- joined to their sum
  pub joined_products : words_after products (0 ∷ 1 ∷ []) (Some 1) 0 (first_columns ∷ last_column ∷ []) ≡ 6 ∷ 12 ∷ 18 ∷ 70 ∷ []
  pub joined_sums_first : words_after products (0 ∷ 1 ∷ []) (Some 1) 1 (first_columns ∷ []) ≡ 79 ∷ 88 ∷ 97 ∷ 70 ∷ []
  pub joined_sums : words_after products (0 ∷ 1 ∷ []) (Some 1) 1 (first_columns ∷ last_column ∷ []) ≡ 85 ∷ 100 ∷ 115 ∷ 70 ∷ []
  -- and alone they leave the sum
  pub sums_alone : words_after products (0 ∷ 1 ∷ []) None 1 (first_columns ∷ last_column ∷ []) ≡ 70 ∷ 70 ∷ 70 ∷ 70 ∷ []
