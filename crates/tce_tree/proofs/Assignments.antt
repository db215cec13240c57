-- Numbers of indexes, and lists of them.
use Rattle.std.proofs.Common.{◌≡◌, ℕ, refl, ◌∙◌, sym, inl, inr, true, List, [], ◌∷◌, map, ap, ◌<◌, arith, eqb}
use Rattle.std.proofs.lemmas.Bool.{eq-eqb, ne_eqb, cases_eq, false≢true, eqb-true, or_cases}
use mathlib.Core.Path.{fun_ext}
use Rattle.tce_space.specs.Box.{IsInside}
use Rattle.tce_space.specs.Tiling.{ArePositive}
use Rattle.tce_tree.specs.Value.{Assignment, with_number, assignment}
use Rattle.tce_tree.specs.WellFormed.{among}
use Rattle.tce_tree.proofs.Lists.{among_rest, among_first, among_later}

pub with-same : (a : Assignment) (i x : ℕ) → with_number a i x i ≡ x
with-same a i x = rw (eq-eqb i i refl) refl

pub with-other : (a : Assignment) (i x j : ℕ) → (j ≡ i → ⊥) → with_number a i x j ≡ a j
with-other a i x j ne = rw (ne_eqb j i ne) refl

pub with_number_comm : (a : Assignment) (i x j y : ℕ) → (i ≡ j → ⊥) → with_number (with_number a i x) j y ≡ with_number (with_number a j y) i x
with_number_comm a i x j y ne = fun_ext (λ k.
    elim (cases_eq k i) [
      | inl p ↦ rw (eq-eqb k i p, ne_eqb k j (λ q. ne (sym p ∙ q))) refl
      | inr p ↦ rw (ne_eqb k i p) refl
    ])

-- the numbers of the indexes of a list, taken back from their coordinates
pub assignment-at : (js : List ℕ) (a : Assignment) (i : ℕ) → among js i ≡ true → assignment js (map a js) i ≡ a i
assignment-at [] a i m = absurd (false≢true m)
assignment-at (j ∷ js) a i m =
    elim (cases_eq i j) [
      | inl q ↦ ap (assignment (j ∷ js) (map a (j ∷ js))) q ∙ with-same (assignment js (map a js)) j (a j) ∙ ap a (sym q)
      | inr q ↦ with-other (assignment js (map a js)) j (a j) i q ∙ assignment-at js a i (among_rest j js i q m)
    ]

-- the numbers lie in the extents
pub assignment_inside : (extent : ℕ → ℕ) (js at : List ℕ) (i : ℕ) → IsInside (map extent js) at → among js i ≡ true → assignment js at i < extent i
assignment_inside extent [] at i h m = absurd (false≢true m)
assignment_inside extent (j ∷ js) [] i h m = absurd h
assignment_inside extent (j ∷ js) (x ∷ xs) i h m =
    elim (cases_eq i j) [
      | inl q ↦
          let first : x < extent j = h.0 in
          let here : assignment (j ∷ js) (x ∷ xs) i ≡ x = ap (assignment (j ∷ js) (x ∷ xs)) q ∙ with-same (assignment js xs) j x in
          omega (arith, first, here, ap extent q)
      | inr q ↦
          let later : assignment js xs i < extent i = assignment_inside extent js xs i h.1 (among_rest j js i q m) in
          omega (arith, later, with-other (assignment js xs) j x i q)
    ]

-- lists of numbers at the same indexes that are the same
pub same_at : (xs : List ℕ) (a b : Assignment) (i : ℕ) → map a xs ≡ map b xs → among xs i ≡ true → a i ≡ b i
same_at [] a b i h m = absurd (false≢true m)
same_at (x ∷ xs) a b i h m =
    let first : a x ≡ b x = cc in
    let later : map a xs ≡ map b xs = cc in
    elim (or_cases (eqb x i) (among xs i) m) [
      | inl e ↦ ap a (sym (eqb-true x i e)) ∙ first ∙ ap b (eqb-true x i e)
      | inr e ↦ same_at xs a b i later e
    ]

pub numbers_inside : (extent : ℕ → ℕ) (a : Assignment) (xs : List ℕ) → ((i : ℕ) → among xs i ≡ true → a i < extent i) → IsInside (map extent xs) (map a xs)
numbers_inside extent a [] h = tt
numbers_inside extent a (x ∷ xs) h = (h x (among_first x xs), numbers_inside extent a xs (λ i m. h i (among_later x xs i m)))

pub all_positive : (extent : ℕ → ℕ) (order : List ℕ) → ((i : ℕ) → among order i ≡ true → 0 < extent i) → ArePositive (map extent order)
all_positive extent [] h = tt
all_positive extent (i ∷ order) h = (h i (among_first i order), all_positive extent order (λ j m. h j (among_later i order j m)))
