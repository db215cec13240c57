-- Sums over loops whose words are the same wherever the loops are.
use Rattle.std.proofs.Common.{◌≡◌, ℕ, ◌<◌, true, false, List, [], ◌∷◌, refl, sym, ap, ◌∙◌, inl, inr, arith}
use Rattle.std.proofs.lemmas.Bool.{cases_Bool, false≢true}
use Rattle.tce_tree.specs.Value.{Assignment, with_number, sum_over}
use Rattle.tce_tree.specs.WellFormed.{among}
use Rattle.tce_tree.proofs.Lists.{among_first, among_later, among_cases}
use Rattle.tce_tree.proofs.Values.{sum_below-same}
use Rattle.tce_tree.proofs.Assignments.{with-same, with-other}
use Rattle.tce_tree.proofs.Sums.{sum_below-zero}

-- the numbers of the loops are below their extents, and all others are those of `a`
pub record IsBelow (extent : ℕ → ℕ) (is : List ℕ) (a b : Assignment) : Type 0 where
  pub below : (i : ℕ) → among is i ≡ true → b i < extent i
  pub others : (i : ℕ) → among is i ≡ false → b i ≡ a i

pub later_below : (extent : ℕ → ℕ) (i : ℕ) (rest : List ℕ) (a b : Assignment) (x : ℕ) → x < extent i → IsBelow extent rest (with_number a i x) b → IsBelow extent (i ∷ rest) a b
later_below extent i rest a b x low h = record {
  below = λ j m.
      elim (cases_Bool (among rest j)) [
        | inl t ↦ h.below j t
        | inr f ↦ elim (among_cases i rest j m) [
          | inl e ↦ here j e f
          | inr t ↦ absurd (false≢true (sym f ∙ t))
        ]
      ];
  others = λ j m.
      let other : j ≡ i → ⊥ = λ e. false≢true (sym m ∙ ap (among (i ∷ rest)) e ∙ among_first i rest) in
      let out : among rest j ≡ false = elim (cases_Bool (among rest j)) [ inl t ↦ absurd (false≢true (sym m ∙ among_later i rest j t)) | inr f ↦ f ] in
      h.others j out ∙ with-other a i x j other;
}
  where
    here : (j : ℕ) → i ≡ j → among rest j ≡ false → b j < extent j
    here j e f =
        let same : b j ≡ x = h.others j f ∙ ap (with_number a i x) (sym e) ∙ with-same a i x in
        omega (arith, same, low, ap extent e)

pub sum_over_same : (extent : ℕ → ℕ) (is : List ℕ) (f g : Assignment → ℕ) (a : Assignment) → ((b : Assignment) → IsBelow extent is a b → f b ≡ g b)
    → sum_over extent is f a ≡ sum_over extent is g a
sum_over_same extent [] f g a h = h a (record { below = λ i m. absurd (false≢true m); others = λ i m. refl })
sum_over_same extent (i ∷ rest) f g a h =
    sum_below-same (extent i) _ (λ x. sum_over extent rest g (with_number a i x)) (λ x low.
    sum_over_same extent rest f g (with_number a i x) (λ b here. h b (later_below extent i rest a b x low here)))

pub sum_over-zero : (extent : ℕ → ℕ) (is : List ℕ) (a : Assignment) → sum_over extent is (λ b. 0) a ≡ 0
sum_over-zero extent [] a = refl
sum_over-zero extent (i ∷ rest) a = sum_below-same (extent i) _ (λ x. 0) (λ x low. sum_over-zero extent rest (with_number a i x)) ∙ sum_below-zero (extent i)
