-- Two nestings without conflict have a joined one.
use Rattle.std.proofs.Common.{◌≡◌, ℕ, ◌+◌, ◌<◌, ◌≤◌, ◌⊎◌, ◌&&◌, ◌||◌, Bool, not, true, false, List, [], ◌∷◌, ◌∙◌, inl, inr, refl, arith}
use Rattle.std.specs.Prelude.{IsTrue}
use Rattle.std.proofs.lemmas.Bool.{cases_Bool, false≢true, both_ways, and_parts, and_from, false_from_ne_true}
use Rattle.tce_space.specs.IndexSet.{IsIndexSet, has}
use Rattle.tce_space.proofs.IndexSetLaws.{has_below}
use Rattle.tce_tree.proofs.Lists.{same_truth}
use Rattle.tce_fusion.specs.Relation.{Relation, above, joined, HasNoConflict}
use Rattle.tce_fusion.specs.StateClasses.{in_class}
use Rattle.tce_fusion.specs.Row.{Row, rows_joined}
use Rattle.tce_fusion.proofs.ClassLists.{tally, tally-bound, tally-le, tally-lt, AreLevels, levels}
use Rattle.tce_fusion.proofs.StateClasses.{Divides, divides-joined}
use Rattle.tce_nesting.specs.Classes.{IsJoinOf}
use Rattle.tce_search.specs.Steps.{IsRowJoin}

one_more : (ci cj ck rki rkj rij : Bool) → (rkj ≡ true → (rki ≡ true) ⊎ (rij ≡ true)) → (not cj && (ck || rkj)) ≡ true
    → ((not ci && (ck || rki)) ≡ true) ⊎ ((not cj && (ci || rij)) ≡ true)
one_more true false ck rki rkj rij rest h = inr refl
one_more ci true ck rki rkj rij rest h = absurd (false≢true h)
one_more false false true rki rkj rij rest h = inl refl
one_more false false false rki rkj rij rest h = rest h

divides-above : (cs : List ℕ) → Divides (above cs)
divides-above [] i j k h = absurd (false≢true h)
divides-above (c ∷ cs) i j k h = one_more (has c i) (has c j) (has c k) (above cs k i) (above cs k j) (above cs i j) (divides-above cs i j k) h

module _ (loops : ℕ) (r s : Relation) (is_set : IsIndexSet loops) (divides : Divides (joined r s)) (quiet : HasNoConflict loops (joined r s)) where
  -- how many loops are above an index
  rank : ℕ → ℕ
  rank i = tally (λ k. has loops k && joined r s k i) 24

  rank-bound : (i : ℕ) → rank i < 0 + 25
  unfolding rank
  rank-bound i = omega (arith, tally-bound (λ k. has loops k && joined r s k i) 24)

  rank-above : (i j : ℕ) → has loops i ≡ true → has loops j ≡ true → joined r s i j ≡ true → rank i < rank j
  unfolding rank
  rank-above i j li lj h =
      tally-lt (λ k. has loops k && joined r s k i) (λ k. has loops k && joined r s k j) 24 i (has_below loops i is_set li)
      (false_from_ne_true (has loops i && joined r s i i) (λ t. let p = and_parts (has loops i) (joined r s i i) t in quiet i i li li p.1 p.1))
      (and_from (has loops i) (joined r s i j) li h)
      (λ k l t. let p = and_parts (has loops k) (joined r s k i) t in
      elim (divides j i k p.1) [
        | inl x ↦ and_from (has loops k) (joined r s k j) p.0 x
        | inr x ↦ absurd (quiet i j li lj h x)
      ])

  rank-not_above : (i j : ℕ) → joined r s i j ≡ false → rank j ≤ rank i
  unfolding rank
  rank-not_above i j f =
      tally-le (λ k. has loops k && joined r s k j) (λ k. has loops k && joined r s k i) 24
      (λ k l t. let p = and_parts (has loops k) (joined r s k j) t in
      elim (divides i j k p.1) [
        | inl x ↦ and_from (has loops k) (joined r s k i) p.0 x
        | inr x ↦ absurd (both_ways (joined r s i j) f x)
      ])

  classes_of : (classes : List ℕ) × IsJoinOf loops r s classes
  classes_of = (found.0, record { placed = placed; relation = relation })
    where
      found : (classes : List ℕ) × AreLevels loops rank 0 25 classes
      found = levels loops rank is_set 0 25

      placed : (i : ℕ) → in_class found.0 i ≡ has loops i
      placed i = same_truth (in_class found.0 i) (has loops i) (λ h. (found.1.member i h).0) (λ h. found.1.every i h (omega arith) (rank-bound i))

      relation : (i j : ℕ) → IsTrue (has loops i) → IsTrue (has loops j) → above found.0 i j ≡ joined r s i j
      relation i j li lj = same_truth (above found.0 i j) (joined r s i j)
          (λ h. elim (cases_Bool (joined r s i j)) [
            | inl x ↦ x
            | inr f ↦ let less = (found.1.upper i j h).1 (placed j ∙ lj) in absurd (omega (arith, less, rank-not_above i j f))
          ])
          (λ h. found.1.lower i j (placed i ∙ li) (λ k. rank-above i j li lj h))

-- so have two rows
pub joined_row : (loops : ℕ) (left right : Row) → IsIndexSet loops → HasNoConflict loops (rows_joined left right) → (row : Row) × IsRowJoin loops left right row
joined_row loops left right is_set quiet =
    let found = classes_of loops (above left.classes) (above right.classes) is_set
    (divides-joined (above left.classes) (above right.classes) (divides-above left.classes) (divides-above right.classes)) quiet in
    (record { classes = found.0; cost = left.cost + right.cost }, record { classes = found.1; cost = refl })
