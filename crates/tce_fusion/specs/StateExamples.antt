-- Worked states, with what the definitions give for them.
use Rattle.std.specs.Prelude.{◌≡◌, ℕ, List, [], ◌∷◌, map, filter}
use Rattle.tce_space.specs.IndexSet.{set_of, empty}
use Rattle.tce_tree.specs.ContractionTree.{left_tree, right_tree}
use Rattle.tce_tree.specs.Examples.{two_sums}
use Rattle.tce_fusion.specs.Examples.{short_space}
use Rattle.tce_fusion.specs.Relation.{Relation, none, above, joined, HasNoConflict, Allows, cut, IsCoarser}
use Rattle.tce_fusion.specs.State.{state, cost, operands_joined, operands_cost}
use Rattle.tce_fusion.specs.Row.{Row, leaf_row, rows_at}
use Rattle.tce_fusion.specs.Cover.{left_rows, right_rows, RootBelow, Covers}

-- for each of the indexes those that it is above
abbrev pub lower_indexes : List ℕ → Relation → List (List ℕ)
lower_indexes indexes r = map (λ i. filter (r i) indexes) indexes

-- nothing fused; i fused at the first sum; j at the second; both
abbrev pub unfused : List ℕ
unfused = empty ∷ empty ∷ empty ∷ []

abbrev pub first_fused : List ℕ
first_fused = set_of (0 ∷ []) ∷ empty ∷ empty ∷ []

abbrev pub second_fused : List ℕ
second_fused = empty ∷ set_of (1 ∷ []) ∷ empty ∷ []

abbrev pub both_fused : List ℕ
both_fused = set_of (0 ∷ []) ∷ set_of (1 ∷ []) ∷ empty ∷ []

-- the states of both sums of `(sum{k}(A[i,k])) * (sum{l}(B[j,l]))`, and what they have at the root
pub record WorkedStates : Type 0 where
  pub first_cost : cost short_space unfused 0 (left_tree two_sums) ≡ 5
  pub first_without : lower_indexes (0 ∷ 1 ∷ []) (state unfused 0 (left_tree two_sums)) ≡ [] ∷ [] ∷ []
  pub first_cost_fused : cost short_space both_fused 0 (left_tree two_sums) ≡ 1
  pub first_with : lower_indexes (0 ∷ 1 ∷ 2 ∷ 3 ∷ []) (state both_fused 0 (left_tree two_sums)) ≡ lower_indexes (0 ∷ 1 ∷ 2 ∷ 3 ∷ []) (above (set_of (0 ∷ []) ∷ []))
  pub second_cost : cost short_space unfused 1 (right_tree two_sums) ≡ 7
  pub second_cost_fused : cost short_space both_fused 1 (right_tree two_sums) ≡ 1
  pub second_with : lower_indexes (0 ∷ 1 ∷ 2 ∷ 3 ∷ []) (state both_fused 1 (right_tree two_sums)) ≡ lower_indexes (0 ∷ 1 ∷ 2 ∷ 3 ∷ []) (above (set_of (1 ∷ []) ∷ []))
  pub no_sum : operands_cost short_space unfused 0 two_sums ≡ 12
  pub first_sum : operands_cost short_space first_fused 0 two_sums ≡ 8
  pub second_sum : operands_cost short_space second_fused 0 two_sums ≡ 6
  -- i is above j on one side, and j above i on the other
  pub conflict : lower_indexes (0 ∷ 1 ∷ []) (operands_joined both_fused 0 two_sums) ≡ (1 ∷ []) ∷ (0 ∷ []) ∷ []

-- joins, allowed sets, cuts and comparisons of the indexes 0 to 3
pub record WorkedRelations : Type 0 where
  pub conflict : HasNoConflict (set_of (0 ∷ 1 ∷ [])) (joined (above (set_of (0 ∷ []) ∷ [])) (above (set_of (1 ∷ []) ∷ []))) → ⊥
  pub with_none : lower_indexes (0 ∷ 1 ∷ 2 ∷ 3 ∷ []) (joined (above (set_of (0 ∷ 1 ∷ []) ∷ set_of (2 ∷ []) ∷ [])) none)
      ≡ lower_indexes (0 ∷ 1 ∷ 2 ∷ 3 ∷ []) (above (set_of (0 ∷ 1 ∷ []) ∷ set_of (2 ∷ []) ∷ set_of (3 ∷ []) ∷ []))
  pub divided : lower_indexes (0 ∷ 1 ∷ 2 ∷ []) (joined (above (set_of (0 ∷ []) ∷ [])) (above (set_of (0 ∷ 1 ∷ []) ∷ [])))
      ≡ lower_indexes (0 ∷ 1 ∷ 2 ∷ []) (above (set_of (0 ∷ []) ∷ set_of (1 ∷ []) ∷ set_of (2 ∷ []) ∷ []))
  pub allowed : Allows (set_of (0 ∷ 1 ∷ 2 ∷ 3 ∷ [])) (above (set_of (0 ∷ 1 ∷ []) ∷ set_of (2 ∷ []) ∷ set_of (3 ∷ []) ∷ [])) (set_of (0 ∷ 1 ∷ []))
  pub refused : Allows (set_of (0 ∷ 1 ∷ 2 ∷ 3 ∷ [])) (above (set_of (0 ∷ 1 ∷ []) ∷ set_of (2 ∷ []) ∷ set_of (3 ∷ []) ∷ [])) (set_of (0 ∷ 2 ∷ [])) → ⊥
  pub restricted : lower_indexes (0 ∷ 1 ∷ 2 ∷ 3 ∷ []) (cut (set_of (0 ∷ 1 ∷ 2 ∷ [])) (above (set_of (0 ∷ 1 ∷ []) ∷ set_of (2 ∷ []) ∷ set_of (3 ∷ []) ∷ [])))
      ≡ lower_indexes (0 ∷ 1 ∷ 2 ∷ 3 ∷ []) (above (set_of (0 ∷ 1 ∷ []) ∷ set_of (2 ∷ []) ∷ []))
  pub none_is_coarser : IsCoarser (set_of (0 ∷ 1 ∷ [])) none (above (set_of (0 ∷ []) ∷ []))
  pub finer : IsCoarser (set_of (0 ∷ 1 ∷ [])) (above (set_of (0 ∷ []) ∷ [])) none → ⊥
  pub one_class_is_coarser : IsCoarser (set_of (0 ∷ 1 ∷ [])) (above (set_of (0 ∷ 1 ∷ []) ∷ [])) none
  pub other_pairs : IsCoarser (set_of (0 ∷ 1 ∷ 2 ∷ [])) (above (set_of (0 ∷ []) ∷ [])) (above (set_of (0 ∷ 1 ∷ []) ∷ [])) → ⊥

-- the tables of both sums: nothing fused, and the one index
abbrev pub two_tables : List (List Row)
two_tables =
    (record { classes = []; cost = 5 } ∷ record { classes = set_of (0 ∷ []) ∷ []; cost = 1 } ∷ [])
    ∷ (record { classes = []; cost = 7 } ∷ record { classes = set_of (1 ∷ []) ∷ []; cost = 1 } ∷ []) ∷ []

-- without the row of the first sum where nothing is fused
abbrev pub short_tables : List (List Row)
short_tables = (record { classes = set_of (0 ∷ []) ∷ []; cost = 1 } ∷ []) ∷ (record { classes = []; cost = 7 } ∷ record { classes = set_of (1 ∷ []) ∷ []; cost = 1 } ∷ []) ∷ []

pub record WorkedCovers : Type 0 where
  pub leaves : (left_rows two_sums two_tables 0 ≡ leaf_row ∷ []) × (right_rows two_sums two_tables 0 ≡ leaf_row ∷ [])
  pub operands : (left_rows two_sums two_tables 2 ≡ rows_at two_tables 0) × (right_rows two_sums two_tables 2 ≡ rows_at two_tables 1)
  pub covers : Covers short_space two_sums two_tables 6
  pub too_much : RootBelow two_sums two_tables 7 → ⊥
  pub row_is_needed : Covers short_space two_sums short_tables 8 → ⊥
