-- Coarser relations in place of others: joins, allowed sets and cuts.
use Rattle.std.proofs.Common.{◌≤◌, ◌≡◌, ℕ, true, not, ◌||◌, ◌⊎◌, inl, inr, arith}
use Rattle.std.specs.Prelude.{IsTrue}
use Rattle.std.proofs.lemmas.Bool.{or_cases, or_left, or_right, and_parts, and_from, cases_Bool}
use Rattle.tce_space.specs.IndexSet.{has, IsWithin}
use Rattle.tce_fusion.specs.Relation.{Relation, none, above, joined, HasNoConflict, Allows, cut, IsCoarser}
use Rattle.tce_fusion.specs.Row.{Row, leaf_row, StandsFor, rows_joined}
use Rattle.tce_fusion.specs.StateLaws.{StandTogether}

pub coarser_through : (loops : ℕ) (r s t : Relation) → IsCoarser loops r s → IsCoarser loops s t → IsCoarser loops r t
coarser_through loops r s t first second i j p q h = second i j p q (first i j p q h)

-- the join of coarser relations is coarser
pub coarser_joined : (loops : ℕ) (a b c d : Relation) → IsCoarser loops c a → IsCoarser loops d b → IsCoarser loops (joined c d) (joined a b)
coarser_joined loops a b c d left right i j p q h =
    elim (or_cases (c i j) (d i j) h) [
      | inl x ↦ or_left (a i j) (b i j) (left i j p q x)
      | inr y ↦ or_right (a i j) (b i j) (right i j p q y)
    ]

-- where a relation has no conflict, a coarser one has none
pub coarser_has_no_conflict : (loops : ℕ) (r s : Relation) → IsCoarser loops s r → HasNoConflict loops r → HasNoConflict loops s
coarser_has_no_conflict loops r s coarser quiet i j p q x y = quiet i j p q (coarser i j p q x) (coarser j i q p y)

-- what a relation allows, a coarser one allows
pub coarser_allows : (loops : ℕ) (r s : Relation) (fused : ℕ) → IsWithin fused loops → IsCoarser loops s r → Allows loops r fused → Allows loops s fused
coarser_allows loops r s fused within coarser allowed i j p out inn x = allowed i j p out inn (coarser i j p (within j inn) x)

cut_parts : (fused : ℕ) (r : Relation) (i j : ℕ) → IsTrue (cut fused r i j) → IsTrue (has fused i) × (IsTrue (not (has fused j)) ⊎ IsTrue (r i j))
cut_parts fused r i j h =
    let parts = and_parts (has fused i) (not (has fused j) || r i j) h in
    (parts.0, or_cases (not (has fused j)) (r i j) parts.1)

-- the cut of a coarser relation is coarser, on all indexes
pub coarser_cut : (loops outer : ℕ) (r s : Relation) (fused : ℕ) → IsWithin fused loops → IsCoarser loops s r → IsCoarser outer (cut fused s) (cut fused r)
coarser_cut loops outer r s fused within coarser i j p q h =
    let parts = cut_parts fused s i j h in
    elim parts.1 [
      | inl out ↦ and_from (has fused i) (not (has fused j) || r i j) parts.0 (or_left (not (has fused j)) (r i j) out)
      | inr x ↦ elim (cases_Bool (has fused j)) [
        | inl inn ↦ and_from (has fused i) (not (has fused j) || r i j) parts.0 (or_right (not (has fused j)) (r i j) (coarser i j (within i parts.0) (within j inn) x))
        | inr out ↦ let e : not (has fused j) ≡ true = grind arith in and_from (has fused i) (not (has fused j) || r i j) parts.0 (or_left (not (has fused j)) (r i j) e)
      ]
    ]

pub rows_stand_together : (outer loops : ℕ) (left right : Relation) (left_cost right_cost : ℕ) (x y : Row) → StandsFor loops left left_cost x → StandsFor loops right right_cost y
    → StandTogether outer loops left right left_cost right_cost x y
rows_stand_together outer loops left right left_cost right_cost x y for_left for_right = record {
  joins = λ quiet. coarser_has_no_conflict loops (joined left right) (rows_joined x y) coarser quiet;
  allows = λ fused within allowed. coarser_allows loops (joined left right) (rows_joined x y) fused within coarser allowed;
  coarser = λ fused within. coarser_cut loops outer (joined left right) (rows_joined x y) fused within coarser;
  cheap = omega (arith, for_left.cheap, for_right.cheap);
}
  where
    coarser : IsCoarser loops (rows_joined x y) (joined left right)
    coarser = coarser_joined loops left right (above x.classes) (above y.classes) for_left.coarser for_right.coarser

pub leaf_row_stands : (outer : ℕ) → StandsFor outer none 0 leaf_row
leaf_row_stands outer = record { coarser = λ i j p q h. h; cheap = omega arith }

-- what stands for a coarser state that costs no more stands for the state
pub stands_through : (outer : ℕ) (r s : Relation) (m n : ℕ) (x : Row) → IsCoarser outer s r → n ≤ m → StandsFor outer s n x → StandsFor outer r m x
stands_through outer r s m n x coarser cheap stands = record {
  coarser = coarser_through outer (above x.classes) s r stands.coarser coarser;
  cheap = omega (arith, stands.cheap, cheap);
}
