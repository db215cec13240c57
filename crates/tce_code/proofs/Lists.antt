-- Lists without repetition, and what stands in their first part.
use Rattle.std.proofs.Common.{◌≡◌, ℕ, zero, suc, ◌≤◌, ◌⊎◌, true, false, eqb, List, [], ◌∷◌, length, drop, take, sym, ap, ◌∙◌, inl, inr, arith}
use Rattle.std.proofs.lemmas.Bool.{or_cases, or_left, or_right, true≢false, false≢true, eqb-true}
use Rattle.tce_tree.specs.WellFormed.{among, is_distinct}
use Rattle.tce_tree.proofs.Lists.{distinct_first, distinct_later}

pub among-take_more : (m n : ℕ) (xs : List ℕ) (i : ℕ) → m ≤ n → among (take m xs) i ≡ true → among (take n xs) i ≡ true
among-take_more zero n xs i l h = absurd (false≢true h)
among-take_more (suc m) zero xs i l h = absurd (omega arith)
among-take_more (suc m) (suc n) [] i l h = absurd (false≢true h)
among-take_more (suc m) (suc n) (x ∷ xs) i l h =
    elim (or_cases (eqb x i) (among (take m xs) i) h) [
      | inl e ↦ or_left (eqb x i) _ e
      | inr e ↦ or_right (eqb x i) _ (among-take_more m n xs i (omega arith) e)
    ]

pub among-drop : (n : ℕ) (xs : List ℕ) (i : ℕ) → among (drop n xs) i ≡ true → among xs i ≡ true
among-drop zero xs i h = h
among-drop (suc n) [] i h = h
among-drop (suc n) (x ∷ xs) i h = or_right (eqb x i) _ (among-drop n xs i h)

-- what stands in the first part or in the rest
pub among-parts : (n : ℕ) (xs : List ℕ) (i : ℕ) → among xs i ≡ true → (among (take n xs) i ≡ true) ⊎ (among (drop n xs) i ≡ true)
among-parts zero xs i h = inr h
among-parts (suc n) [] i h = absurd (false≢true h)
among-parts (suc n) (x ∷ xs) i h =
    elim (or_cases (eqb x i) (among xs i) h) [
      | inl e ↦ inl (or_left (eqb x i) _ e)
      | inr e ↦ elim (among-parts n xs i e) [
        | inl k ↦ inl (or_right (eqb x i) _ k)
        | inr k ↦ inr k
      ]
    ]

-- and never in both
pub distinct-apart : (n : ℕ) (xs : List ℕ) (i : ℕ) → is_distinct xs ≡ true → among (take n xs) i ≡ true → among (drop n xs) i ≡ true → ⊥
distinct-apart zero xs i d h k = false≢true h
distinct-apart (suc n) [] i d h k = false≢true h
distinct-apart (suc n) (x ∷ xs) i d h k =
    elim (or_cases (eqb x i) (among (take n xs) i) h) [
      | inl e ↦ true≢false (sym (ap (among xs) (eqb-true x i e) ∙ among-drop n xs i k) ∙ distinct_first x xs d)
      | inr e ↦ distinct-apart n xs i (distinct_later x xs d) e k
    ]

pub distinct-drop : (n : ℕ) (xs : List ℕ) → is_distinct xs ≡ true → is_distinct (drop n xs) ≡ true
distinct-drop zero xs d = d
distinct-drop (suc n) [] d = d
distinct-drop (suc n) (x ∷ xs) d = distinct-drop n xs (distinct_later x xs d)

-- one number further
pub drop_next : (n : ℕ) (xs : List ℕ) (i : ℕ) (rest : List ℕ) → drop n xs ≡ i ∷ rest → drop (suc n) xs ≡ rest
drop_next zero [] i rest h = absurd (let k : ⊥ = cc in k)
drop_next zero (x ∷ xs) i rest h = let k : xs ≡ rest = cc in k
drop_next (suc n) [] i rest h = absurd (let k : ⊥ = cc in k)
drop_next (suc n) (x ∷ xs) i rest h = drop_next n xs i rest h

pub among-take_next : (n : ℕ) (xs : List ℕ) (i : ℕ) (rest : List ℕ) (j : ℕ) → drop n xs ≡ i ∷ rest
    → among (take (suc n) xs) j ≡ true → (among (take n xs) j ≡ true) ⊎ (j ≡ i)
among-take_next zero [] i rest j h k = absurd (false≢true k)
among-take_next zero (x ∷ xs) i rest j h k =
    elim (or_cases (eqb x j) false k) [
      | inl e ↦ let q = eqb-true x j e in inr (let r : x ≡ i = cc in sym q ∙ r)
      | inr e ↦ absurd (false≢true e)
    ]
among-take_next (suc n) [] i rest j h k = absurd (false≢true k)
among-take_next (suc n) (x ∷ xs) i rest j h k =
    elim (or_cases (eqb x j) (among (take (suc n) xs) j) k) [
      | inl e ↦ inl (or_left (eqb x j) _ e)
      | inr e ↦ elim (among-take_next n xs i rest j h e) [
        | inl q ↦ inl (or_right (eqb x j) _ q)
        | inr q ↦ inr q
      ]
    ]

pub drop-end : (n : ℕ) (xs : List ℕ) → drop n xs ≡ [] → length xs ≤ n
drop-end zero [] h = omega arith
drop-end zero (x ∷ xs) h = absurd (let k : ⊥ = cc in k)
drop-end (suc n) [] h = omega arith
drop-end (suc n) (x ∷ xs) h = omega (arith, drop-end n xs h)
