-- The tables of two sums cover, with the total 6 and no greater one, and not without the row of the first sum where nothing is fused.
use Rattle.std.proofs.Common.{◌≡◌, ℕ, zero, suc, ◌+◌, ◌^◌, ◌<◌, ◌≤◌, ◌⊎◌, true, false, not, ◌||◌, List, [], ◌∷◌, eqb, get_or, refl, sym, ap, ◌∙◌, subst, inl, inr, arith}
use Rattle.std.specs.List.{All, Any}
use Rattle.std.proofs.lemmas.Bool.{cases_Bool, cases_eq, false≢true, both_ways, and_parts, and_from, or_cases, or_left, not-true, false_from_ne_true}
use Rattle.std.proofs.lemmas.List.Elements.{All-cons, All-nil}
use Rattle.std.proofs.lemmas.Nat.Bits.{bit_at-pow_other}
use Rattle.tce_space.specs.IndexSet.{has, union, minus, with_index, members, volume, IsWithin}
use Rattle.tce_space.specs.Space.{IndexSpace}
use Rattle.tce_space.proofs.IndexSetLaws.{has-empty}
use Rattle.tce_tree.specs.ContractionTree.{ContractionTree, node, node_dims, node_loops, in_subtree, parent}
use Rattle.tce_tree.specs.FlatTree.{first_number_of, left_of, right_of}
use Rattle.tce_tree.specs.Examples.{two_sums}
use Rattle.tce_tree.proofs.Parents.{parent_is}
use Rattle.tce_fusion.specs.Examples.{short_space}
use Rattle.tce_fusion.specs.Relation.{above, joined, HasNoConflict, IsCoarser}
use Rattle.tce_fusion.specs.Row.{Row, leaf_row, rows_at, rows_joined, step_relation, StandsForStep}
use Rattle.tce_fusion.specs.Cover.{left_rows, right_rows, StepsCovered, NodeCovered, NodesCovered, RootBelow, Covers}
use Rattle.tce_fusion.proofs.StateChoices.{same_members}
use Rattle.tce_fusion.specs.StateExamples.{two_tables, short_tables, WorkedCovers}

has_other : (k i : ℕ) → (i ≡ k → ⊥) → has (2 ^ k) i ≡ false
unfolding has
has_other k i ne = ap (λ b. eqb b 1) (bit_at-pow_other k i ne)

-- a part of a set of one index is empty or the set
one_index : (k fused : ℕ) → has (2 ^ k) k ≡ true → IsWithin fused (2 ^ k) → (fused ≡ 0) ⊎ (fused ≡ 2 ^ k)
one_index k fused itself within =
    elim (cases_Bool (has fused k)) [
      | inl t ↦ inr (same_members fused (2 ^ k) (λ i. elim (cases_eq i k) [
        | inl e ↦ subst (λ j. has fused j ≡ has (2 ^ k) j) (sym e) (t ∙ sym itself)
        | inr ne ↦ out i ne ∙ sym (has_other k i ne)
      ]))
      | inr f ↦ inl (same_members fused 0 (λ i. elim (cases_eq i k) [
        | inl e ↦ subst (λ j. has fused j ≡ has 0 j) (sym e) (f ∙ sym (has-empty k))
        | inr ne ↦ out i ne ∙ sym (has-empty i)
      ]))
    ]
  where
    out : (i : ℕ) → (i ≡ k → ⊥) → has fused i ≡ false
    out i ne = false_from_ne_true (has fused i) (λ h. both_ways (has (2 ^ k) i) (has_other k i ne) (within i h))

no_classes : (outer : ℕ) (left right : Row) (fused : ℕ) → IsCoarser outer (above []) (step_relation left right fused)
no_classes outer left right fused i j p q h = absurd (false≢true h)

one_class : (outer : ℕ) (left right : Row) (fused : ℕ) → IsCoarser outer (above (fused ∷ [])) (step_relation left right fused)
one_class outer left right fused i j p q h =
    let parts = and_parts (not (has fused j)) (has fused i || false) h in
    and_from (has fused i) (not (has fused j) || rows_joined left right i j)
    (elim (or_cases (has fused i) false parts.1) [ inl x ↦ x | inr x ↦ absurd (false≢true x) ])
    (or_left (not (has fused j)) (rows_joined left right i j) parts.0)

-- a node of two leaves has one pair of rows
leaf_pair : (space : IndexSpace) (tree : ContractionTree) (tables : List (List Row)) (outer v : ℕ) → left_rows tree tables v ≡ leaf_row ∷ [] → right_rows tree tables v ≡ leaf_row ∷ []
    → StepsCovered space tree outer v (rows_at tables v) leaf_row leaf_row → NodeCovered space tree tables outer v
leaf_pair space tree tables outer v is_left is_right covered =
    subst (λ ls. All (λ l. All (λ r. HasNoConflict (node_loops tree v) (rows_joined l r) → StepsCovered space tree outer v (rows_at tables v) l r) (right_rows tree tables v)) ls) (sym is_left)
    (All-cons (λ l. All (λ r. HasNoConflict (node_loops tree v) (rows_joined l r) → StepsCovered space tree outer v (rows_at tables v) l r) (right_rows tree tables v)) leaf_row []
    (subst (λ rs. All (λ r. HasNoConflict (node_loops tree v) (rows_joined leaf_row r) → StepsCovered space tree outer v (rows_at tables v) leaf_row r) rs) (sym is_right)
    (All-cons (λ r. HasNoConflict (node_loops tree v) (rows_joined leaf_row r) → StepsCovered space tree outer v (rows_at tables v) leaf_row r) leaf_row [] (λ quiet. covered)
    (All-nil (λ r. HasNoConflict (node_loops tree v) (rows_joined leaf_row r) → StepsCovered space tree outer v (rows_at tables v) leaf_row r))))
    (All-nil (λ l. All (λ r. HasNoConflict (node_loops tree v) (rows_joined l r) → StepsCovered space tree outer v (rows_at tables v) l r) (right_rows tree tables v))))

first_steps : StepsCovered short_space two_sums (node_loops two_sums 2) 0 (rows_at two_tables 0) leaf_row leaf_row
unfolding node node_dims union minus with_index members has volume
first_steps fused within allowed = elim (one_index 0 fused refl within) [
  | inl e ↦ subst (λ s. Any (StandsForStep short_space two_sums (node_loops two_sums 2) 0 leaf_row leaf_row s) (rows_at two_tables 0)) (sym e)
      (0, record { classes = []; cost = 5 }, omega arith, refl, record { coarser = no_classes (node_loops two_sums 2) leaf_row leaf_row 0; cheap = omega arith })
  | inr e ↦ subst (λ s. Any (StandsForStep short_space two_sums (node_loops two_sums 2) 0 leaf_row leaf_row s) (rows_at two_tables 0)) (sym e)
      (1, record { classes = 1 ∷ []; cost = 1 }, omega arith, refl, record { coarser = one_class (node_loops two_sums 2) leaf_row leaf_row 1; cheap = omega arith })
]

second_steps : StepsCovered short_space two_sums (node_loops two_sums 2) 1 (rows_at two_tables 1) leaf_row leaf_row
unfolding node node_dims union minus with_index members has volume
second_steps fused within allowed = elim (one_index 1 fused refl within) [
  | inl e ↦ subst (λ s. Any (StandsForStep short_space two_sums (node_loops two_sums 2) 1 leaf_row leaf_row s) (rows_at two_tables 1)) (sym e)
      (0, record { classes = []; cost = 7 }, omega arith, refl, record { coarser = no_classes (node_loops two_sums 2) leaf_row leaf_row 0; cheap = omega arith })
  | inr e ↦ subst (λ s. Any (StandsForStep short_space two_sums (node_loops two_sums 2) 1 leaf_row leaf_row s) (rows_at two_tables 1)) (sym e)
      (1, record { classes = 2 ∷ []; cost = 1 }, omega arith, refl, record { coarser = one_class (node_loops two_sums 2) leaf_row leaf_row 2; cheap = omega arith })
]

first_covered : NodeCovered short_space two_sums two_tables (node_loops two_sums 2) 0
unfolding left_of right_of first_number_of node
first_covered = leaf_pair short_space two_sums two_tables (node_loops two_sums 2) 0 refl refl first_steps

second_covered : NodeCovered short_space two_sums two_tables (node_loops two_sums 2) 1
unfolding left_of right_of first_number_of node
second_covered = leaf_pair short_space two_sums two_tables (node_loops two_sums 2) 1 refl refl second_steps

both_covered : NodesCovered short_space two_sums two_tables
unfolding parent in_subtree node
both_covered zero p is = let q : 2 ≡ p = cc in subst (λ k. NodeCovered short_space two_sums two_tables (node_loops two_sums k) 0) q first_covered
both_covered (suc zero) p is = let q : 2 ≡ p = cc in subst (λ k. NodeCovered short_space two_sums two_tables (node_loops two_sums k) 1) q second_covered
both_covered (suc (suc v)) p is = let up = parent_is two_sums (suc (suc v)) p is in absurd (omega (arith, up.above, up.inside))

at_root : RootBelow two_sums two_tables 6
unfolding left_of right_of first_number_of node node_loops with_index union minus has
at_root zero d low zero e high quiet = omega arith
at_root zero d low (suc zero) e high quiet = omega arith
at_root zero d low (suc (suc k)) e high quiet = absurd (omega arith)
at_root (suc zero) d low zero e high quiet = omega arith
at_root (suc zero) d low (suc zero) e high quiet = absurd (quiet 0 1 refl refl refl refl)
at_root (suc zero) d low (suc (suc k)) e high quiet = absurd (omega arith)
at_root (suc (suc k)) d low m e high quiet = absurd (omega arith)

-- one class has no conflict with no classes
quiet_class : (loops class : ℕ) → HasNoConflict loops (joined (above []) (above (class ∷ [])))
quiet_class loops class i j li lj ij ji =
    let upper = and_parts (not (has class j)) (has class i || false) ij in
    let lower = and_parts (not (has class i)) (has class j || false) ji in
    elim (or_cases (has class i) false upper.1) [
      | inl x ↦ both_ways (has class i) (not-true (has class i) lower.0) x
      | inr x ↦ false≢true x
    ]

too_much : RootBelow two_sums two_tables 7 → ⊥
unfolding left_of right_of first_number_of node with_index
too_much below = let h : 7 ≤ 5 + 1 = below 0 leaf_row (omega arith) 1 leaf_row (omega arith) (quiet_class (node_loops two_sums 2) 2) in omega (arith, h)

-- the one row is not coarser than the state where nothing is fused
no_row_stands : Any (StandsForStep short_space two_sums (node_loops two_sums 2) 0 leaf_row leaf_row 0) (rows_at short_tables 0) → ⊥
unfolding node_loops node union with_index minus has
no_row_stands found = go found.0 found.1 found.2 found.3 found.4
  where
    go : (k : ℕ) (row : Row) → k < 1 → get_or (rows_at short_tables 0) k row ≡ row → StandsForStep short_space two_sums (node_loops two_sums 2) 0 leaf_row leaf_row 0 row → ⊥
    go zero row low is stands =
        let here = subst (StandsForStep short_space two_sums (node_loops two_sums 2) 0 leaf_row leaf_row 0) (sym is) stands in
        false≢true (here.coarser 0 1 refl refl refl)
    go (suc k) row low is stands = absurd (omega arith)

row_is_needed : Covers short_space two_sums short_tables 8 → ⊥
unfolding left_of right_of first_number_of node parent in_subtree
row_is_needed cover =
    no_row_stands (cover.nodes 0 2 refl 0 leaf_row (omega arith) 0 leaf_row (omega arith) (λ i j li lj ij ji. false≢true ij) 0
    (λ i m. absurd (both_ways (has 0 i) (has-empty i) m)) (λ i j p out inn ij. false≢true ij))

pub worked_covers : WorkedCovers
unfolding left_of right_of first_number_of node
worked_covers = record {
  leaves = (refl, refl);
  operands = (refl, refl);
  covers = record { nodes = both_covered; root = at_root };
  too_much = too_much;
  row_is_needed = row_is_needed;
}
