-- The same candidates in another order.
use Rattle.std.proofs.Common.{◌≡◌, ℕ, ◌<◌, ◌⊎◌, List, length, get_or, inl, inr, refl, arith, ◌∙◌, sym, subst}
use Rattle.std.specs.List.{AllPairs, Any, swap}
use Rattle.std.specs.List.Sorted.{IsPermutation}
use Rattle.std.proofs.lemmas.Bool.{cases_eq, cases_order}
use Rattle.std.proofs.lemmas.List.Edits.{swapped_from_swap, length-swap}
use Rattle.std.proofs.lemmas.List.Sorted.{Contains-permutation, IsPermutation-keeps}
use Rattle.tce_search.specs.declared.candidate.Candidate.{Candidate}
use Rattle.tce_search.specs.Candidates.{Stands, StandForAll, AreApart}

Any-permuted : {X : Type 0} (P : X → Type 0) (xs ys : List X) → IsPermutation xs ys → Any P xs → Any P ys
Any-permuted P xs ys moved found =
    let inn = Contains-permutation xs ys found.1 moved (found.0, found.2, found.3) in
    (inn.0, found.1, inn.1, inn.2, found.4)

pub stand_permuted : (outer : ℕ) (xs ys : List Candidate) → IsPermutation xs ys → StandForAll outer xs ys
stand_permuted outer xs ys moved relation limit found = Any-permuted (Stands outer relation limit) xs ys moved found

-- where `a` and `b` are exchanged, what is at `i` was at `s`
abbrev IsMoved : ℕ → ℕ → ℕ → ℕ → Type 0
IsMoved a b i s = ((i ≡ a) × (s ≡ b)) ⊎ (((i ≡ b) × (s ≡ a)) ⊎ ((i ≡ a → ⊥) × (i ≡ b → ⊥) × (s ≡ i)))

stay_apart : (a b i j s t : ℕ) → IsMoved a b i s → IsMoved a b j t → (i ≡ j → ⊥) → s ≡ t → ⊥
stay_apart a b i j s t (inl x) (inl y) other same = other (x.0 ∙ sym y.0)
stay_apart a b i j s t (inl x) (inr (inl y)) other same = other (x.0 ∙ sym y.1 ∙ sym same ∙ x.1 ∙ sym y.0)
stay_apart a b i j s t (inl x) (inr (inr y)) other same = y.1 (sym y.2 ∙ sym same ∙ x.1)
stay_apart a b i j s t (inr (inl x)) (inl y) other same = other (x.0 ∙ sym y.1 ∙ sym same ∙ x.1 ∙ sym y.0)
stay_apart a b i j s t (inr (inl x)) (inr (inl y)) other same = other (x.0 ∙ sym y.0)
stay_apart a b i j s t (inr (inl x)) (inr (inr y)) other same = y.0 (sym y.2 ∙ sym same ∙ x.1)
stay_apart a b i j s t (inr (inr x)) (inl y) other same = x.1 (sym x.2 ∙ same ∙ y.1)
stay_apart a b i j s t (inr (inr x)) (inr (inl y)) other same = x.0 (sym x.2 ∙ same ∙ y.1)
stay_apart a b i j s t (inr (inr x)) (inr (inr y)) other same = other (sym x.2 ∙ same ∙ y.2)

module _ {X : Type 0} (R : X → X → Type 0) (turns : (x y : X) → R x y → R y x) where
  of_any_two : (xs : List X) → AllPairs R xs → (i j : ℕ) (d : X) → (i ≡ j → ⊥) → i < length xs → j < length xs → R (get_or xs i d) (get_or xs j d)
  of_any_two xs all i j d other low high = elim (cases_order i j) [
    | inl same ↦ absurd (other same)
    | inr (inl below) ↦ all i j d below high
    | inr (inr above) ↦ turns (get_or xs j d) (get_or xs i d) (all j i d above low)
  ]

  module _ (xs : List X) (a b : ℕ) (low_a : a < length xs) (low_b : b < length xs) where
    moved_from : (i : ℕ) (d : X) → i < length xs → (s : ℕ) × (s < length xs) × (get_or (swap xs a b) i d ≡ get_or xs s d) × IsMoved a b i s
    moved_from i d low =
        let swapped = swapped_from_swap xs (swap xs a b) a b d low_a low_b refl in
        elim (cases_eq i a) [
          | inl at_a ↦ (b, low_b, subst (λ n. get_or (swap xs a b) n d ≡ get_or xs b d) (sym at_a) swapped.0, inl (at_a, refl))
          | inr not_a ↦ elim (cases_eq i b) [
            | inl at_b ↦ (a, low_a, subst (λ n. get_or (swap xs a b) n d ≡ get_or xs a d) (sym at_b) swapped.1, inr (inl (at_b, refl)))
            | inr not_b ↦ (i, low, swapped.2 i not_a not_b, inr (inr (not_a, not_b, refl)))
          ]
        ]

    AllPairs-swapped : AllPairs R xs → AllPairs R (swap xs a b)
    AllPairs-swapped all i j d order low =
        let high : j < length xs = omega (arith, low, length-swap xs a b) in
        let one = moved_from i d (omega (arith, order, high)) in
        let two = moved_from j d high in
        let other : one.0 ≡ two.0 → ⊥ = stay_apart a b i j one.0 two.0 one.3 two.3 (λ same. omega (arith, order, same)) in
        subst (λ x. R x (get_or (swap xs a b) j d)) (sym one.2)
        (subst (R (get_or xs one.0 d)) (sym two.2) (of_any_two xs all one.0 two.0 d other one.1 two.1))

  pub AllPairs-permuted : (xs ys : List X) → IsPermutation xs ys → AllPairs R xs → AllPairs R ys
  AllPairs-permuted xs ys moved all = IsPermutation-keeps xs (AllPairs R) all (λ l i j low high pairs. AllPairs-swapped l i j low high pairs) ys moved

pub apart_permuted : (outer : ℕ) (xs ys : List Candidate) → IsPermutation xs ys → AllPairs (AreApart outer) xs → AllPairs (AreApart outer) ys
apart_permuted outer = AllPairs-permuted (AreApart outer) (λ x y apart. (apart.1, apart.0))
