-- Sums of words over ranges, and that the sequence of the indexes of a sum does not matter.
use Rattle.std.proofs.Common.{◌≡◌, ◌∙◌, ℕ, zero, suc, sym, ap, arith, refl, List, ◌∷◌, true, eqb, [], inl, inr}
use Rattle.std.proofs.lemmas.Bool.{false≢true, eqb-true, eqb-false, cases_Bool, ne_eqb, cases_eq}
use Rattle.tce_base.specs.Word.{wrapping_add}
use Rattle.tce_base.proofs.Words.{zero-plus, plus_middle}
use Rattle.tce_tree.specs.Value.{sum_below, Assignment, with_number, sum_over}
use Rattle.tce_tree.proofs.Values.{sum_below-same}
use Rattle.tce_tree.proofs.Assignments.{with_number_comm}
use Rattle.tce_tree.specs.WellFormed.{among, is_distinct}
use Rattle.tce_tree.proofs.Permutations.{without, among-without_other, among-without_same, distinct-without}
use Rattle.tce_tree.proofs.Lists.{among_first, distinct_first, distinct_later}

pub sum_below-plus : (n : ℕ) (f g : ℕ → ℕ) → sum_below n (λ x. wrapping_add (f x) (g x)) ≡ wrapping_add (sum_below n f) (sum_below n g)
sum_below-plus zero f g = sym (zero-plus 0 (omega arith))
sum_below-plus (suc n) f g =
    ap (λ s. wrapping_add s (wrapping_add (f n) (g n))) (sum_below-plus n f g) ∙ plus_middle (sum_below n f) (sum_below n g) (f n) (g n)

pub sum_below-zero : (n : ℕ) → sum_below n (λ x. 0) ≡ 0
sum_below-zero zero = refl
sum_below-zero (suc n) = ap (λ s. wrapping_add s 0) (sum_below-zero n) ∙ zero-plus 0 (omega arith)

pub sum_below_swap : (n m : ℕ) (g : ℕ → ℕ → ℕ) → sum_below n (λ x. sum_below m (λ y. g x y)) ≡ sum_below m (λ y. sum_below n (λ x. g x y))
sum_below_swap zero m g = sym (sum_below-zero m)
sum_below_swap (suc n) m g =
    ap (λ s. wrapping_add s (sum_below m (λ y. g n y))) (sum_below_swap n m g)
    ∙ sym (sum_below-plus m (λ y. sum_below n (λ x. g x y)) (λ y. g n y))

-- the sequence of the indexes of a sum does not matter
pub sum_over_swap : (extent : ℕ → ℕ) (i j : ℕ) (rest : List ℕ) (f : Assignment → ℕ) (a : Assignment) → (i ≡ j → ⊥)
    → sum_over extent (i ∷ j ∷ rest) f a ≡ sum_over extent (j ∷ i ∷ rest) f a
sum_over_swap extent i j rest f a ne =
    sum_below_swap (extent i) (extent j) (λ x y. sum_over extent rest f (with_number (with_number a i x) j y))
    ∙ sum_below-same (extent j) _ (λ y. sum_below (extent i) (λ x. sum_over extent rest f (with_number (with_number a j y) i x)))
    (λ y l. sum_below-same (extent i) _ (λ x. sum_over extent rest f (with_number (with_number a j y) i x))
    (λ x k. ap (sum_over extent rest f) (with_number_comm a i x j y ne)))

pub sum_over_front : (extent : ℕ → ℕ) (i : ℕ) (indexes : List ℕ) (f : Assignment → ℕ) (a : Assignment) → among indexes i ≡ true
    → sum_over extent indexes f a ≡ sum_over extent (i ∷ without i indexes) f a
sum_over_front extent i [] f a h = absurd (false≢true h)
sum_over_front extent i (x ∷ xs) f a h =
    elim (cases_Bool (eqb x i)) [
      | inl e ↦ rw e (ap (λ k. sum_over extent (k ∷ xs) f a) (eqb-true x i e))
      | inr e ↦ rw e
          (sum_below-same (extent x) _ (λ y. sum_over extent (i ∷ without i xs) f (with_number a x y))
          (λ y l. sum_over_front extent i xs f (with_number a x y) (rw e at h))
          ∙ sum_over_swap extent x i (without i xs) f a (λ q. eqb-false x i e q))
    ]

pub sum_over_permuted : (extent : ℕ → ℕ) (xs ys : List ℕ) (f : Assignment → ℕ) (a : Assignment)
    → is_distinct xs ≡ true → is_distinct ys ≡ true → ((i : ℕ) → among xs i ≡ among ys i) → sum_over extent xs f a ≡ sum_over extent ys f a
sum_over_permuted extent [] [] f a d e h = refl
sum_over_permuted extent [] (y ∷ ys) f a d e h = absurd (false≢true (h y ∙ among_first y ys))
sum_over_permuted extent (x ∷ xs) ys f a d e h =
    sum_below-same (extent x) _ (λ y. sum_over extent (without x ys) f (with_number a x y))
    (λ y l. sum_over_permuted extent xs (without x ys) f (with_number a x y) (distinct_later x xs d) (distinct-without x ys e)
    (λ i. elim (cases_eq i x) [
      | inl q ↦ ap (among xs) q ∙ distinct_first x xs d ∙ sym (among-without_same x ys e) ∙ ap (among (without x ys)) (sym q)
      | inr q ↦ (rw (ne_eqb x i (λ r. q (sym r))) at (h i)) ∙ sym (among-without_other x ys i q)
    ]))
    ∙ sym (sum_over_front extent x ys f a (sym (h x) ∙ among_first x xs))
