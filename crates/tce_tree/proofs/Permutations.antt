-- Lists without repetition that have the same members are permutations of each other.
use Rattle.std.proofs.Common.{◌≡◌, ℕ, zero, suc, ◌+◌, ◌≤◌, Bool, true, false, cond, ◌||◌, eqb, count_by, List, [], ◌∷◌, filter, refl, sym, ap, ◌∙◌, subst, inl, inr, arith}
use Rattle.std.specs.List.{range_with_len}
use Rattle.std.specs.List.Sorted.{IsPermutation}
use Rattle.std.proofs.lemmas.Bool.{or_left, false≢true, true≢false, cases_Bool, cases_eq, eqb-true, eqb-false, eq-eqb, ne_eqb, false_from_ne_true}
use Rattle.std.proofs.lemmas.List.Sums.{sum_by-cons}
use Rattle.std.proofs.lemmas.List.Sorted.{IsPermutation-refl, IsPermutation-sym, IsPermutation-trans, IsPermutation-cons, IsPermutation-middle, sum_by-IsPermutation, Contains-permutation}
use Rattle.tce_space.specs.IndexSet.{has, members, IsIndexSet}
use Rattle.tce_space.proofs.IndexSetLaws.{has_below}
use Rattle.tce_tree.specs.WellFormed.{among, is_distinct}
use Rattle.tce_tree.proofs.Lists.{among_first, among_cases, among-contains, contains-among, among-filter, filter-among, among-range, same_truth, distinct_first, distinct_later, distinct_from}

-- a list without the first `i` in it
abbrev pub without : ℕ → List ℕ → List ℕ
without i [] = []
without i (x ∷ xs) = cond (eqb x i) xs (x ∷ without i xs)

pub among-without_other : (i : ℕ) (xs : List ℕ) (j : ℕ) → (j ≡ i → ⊥) → among (without i xs) j ≡ among xs j
among-without_other i [] j ne = refl
among-without_other i (x ∷ xs) j ne =
    elim (cases_Bool (eqb x i)) [
      | inl e ↦ rw (e, ne_eqb x j (λ q. ne (sym q ∙ eqb-true x i e))) refl
      | inr e ↦ rw e (ap (λ b. eqb x j || b) (among-without_other i xs j ne))
    ]

pub among-without_same : (i : ℕ) (xs : List ℕ) → is_distinct xs ≡ true → among (without i xs) i ≡ false
among-without_same i [] d = refl
among-without_same i (x ∷ xs) d =
    elim (cases_Bool (eqb x i)) [
      | inl e ↦ rw e (ap (among xs) (sym (eqb-true x i e)) ∙ distinct_first x xs d)
      | inr e ↦ rw (e, e) (among-without_same i xs (distinct_later x xs d))
    ]

pub distinct-without : (i : ℕ) (xs : List ℕ) → is_distinct xs ≡ true → is_distinct (without i xs) ≡ true
distinct-without i [] d = refl
distinct-without i (x ∷ xs) d =
    elim (cases_Bool (eqb x i)) [
      | inl e ↦ rw e (distinct_later x xs d)
      | inr e ↦ rw e (distinct_from x (without i xs) (among-without_other i xs x (eqb-false x i e) ∙ distinct_first x xs d) (distinct-without i xs (distinct_later x xs d)))
    ]

-- and with it in front
pub without_permutes : (i : ℕ) (xs : List ℕ) → among xs i ≡ true → IsPermutation xs (i ∷ without i xs)
without_permutes i [] h = absurd (false≢true h)
without_permutes i (x ∷ xs) h =
    elim (cases_Bool (eqb x i)) [
      | inl e ↦ rw e (subst (λ y. IsPermutation (x ∷ xs) (y ∷ xs)) (eqb-true x i e) (IsPermutation-refl (x ∷ xs)))
      | inr e ↦ rw e
          (IsPermutation-trans (x ∷ xs) (x ∷ i ∷ without i xs) (i ∷ x ∷ without i xs)
          (IsPermutation-cons x xs (i ∷ without i xs) (without_permutes i xs (rw e at h)))
          (IsPermutation-middle (x ∷ []) i (without i xs)))
    ]

pub permutation_from : (xs ys : List ℕ) → is_distinct xs ≡ true → is_distinct ys ≡ true → ((i : ℕ) → among xs i ≡ among ys i) → IsPermutation xs ys
permutation_from [] [] d e h = IsPermutation-refl []
permutation_from [] (y ∷ ys) d e h = absurd (false≢true (h y ∙ among_first y ys))
permutation_from (x ∷ xs) ys d e h =
    IsPermutation-trans (x ∷ xs) (x ∷ without x ys) ys
    (IsPermutation-cons x xs (without x ys) (permutation_from xs (without x ys) (distinct_later x xs d) (distinct-without x ys e) same))
    (IsPermutation-sym ys (x ∷ without x ys) (without_permutes x ys (sym (h x) ∙ among_first x xs)))
  where
    same : (i : ℕ) → among xs i ≡ among (without x ys) i
    same i =
        elim (cases_eq i x) [
          | inl q ↦ ap (among xs) q ∙ distinct_first x xs d ∙ sym (among-without_same x ys e) ∙ ap (among (without x ys)) (sym q)
          | inr q ↦ (rw (ne_eqb x i (λ r. q (sym r))) at (h i)) ∙ sym (among-without_other x ys i q)
        ]

-- how often a number stands in a list
count_one : ℕ → List ℕ → ℕ
count_one i xs = count_by (λ x. eqb x i) xs

counted : (i : ℕ) (xs : List ℕ) → among xs i ≡ true → 1 ≤ count_one i xs
unfolding count_one
counted i [] h = absurd (false≢true h)
counted i (x ∷ xs) h =
    elim (among_cases x xs i h) [
      | inl e ↦ omega (arith, sum_by-cons (λ y. cond (eqb y i) 1 0) x xs, ap {B = ℕ} (λ b. cond b 1 0) (eq-eqb x i e))
      | inr e ↦ omega (arith, sum_by-cons (λ y. cond (eqb y i) 1 0) x xs, counted i xs e)
    ]

distinct-counts : (xs : List ℕ) → ((i : ℕ) → count_one i xs ≤ 1) → is_distinct xs ≡ true
unfolding count_one
distinct-counts [] h = refl
distinct-counts (x ∷ xs) h =
    distinct_from x xs
    (false_from_ne_true (among xs x) (λ q. absurd (let n = h x in
    omega (arith, sum_by-cons (λ y. cond (eqb y x) 1 0) x xs, counted x xs q, ap {B = ℕ} (λ b. cond b 1 0) (eq-eqb x x refl)))))
    (distinct-counts xs (λ i. let n = h i in omega (arith, sum_by-cons (λ y. cond (eqb y i) 1 0) x xs)))

counts-absent : (xs : List ℕ) (i : ℕ) → among xs i ≡ false → count_one i xs ≡ 0
unfolding count_one
counts-absent [] i a = refl
counts-absent (x ∷ xs) i a =
    elim (cases_Bool (eqb x i)) [
      | inl e ↦ absurd (true≢false (sym (or_left (eqb x i) (among xs i) e) ∙ a))
      | inr e ↦ omega (arith, sum_by-cons (λ y. cond (eqb y i) 1 0) x xs, ap {B = ℕ} (λ b. cond b 1 0) e, counts-absent xs i (rw e at a))
    ]

counts-distinct : (xs : List ℕ) (i : ℕ) → is_distinct xs ≡ true → count_one i xs ≤ 1
unfolding count_one
counts-distinct [] i d = omega arith
counts-distinct (x ∷ xs) i d =
    elim (cases_Bool (eqb x i)) [
      | inl e ↦ omega (
        arith,
        sum_by-cons (λ y. cond (eqb y i) 1 0) x xs,
        ap {B = ℕ} (λ b. cond b 1 0) e,
        counts-absent xs i (ap (among xs) (sym (eqb-true x i e)) ∙ distinct_first x xs d),
      )
      | inr e ↦ omega (arith, sum_by-cons (λ y. cond (eqb y i) 1 0) x xs, ap {B = ℕ} (λ b. cond b 1 0) e, counts-distinct xs i (distinct_later x xs d))
    ]

pub distinct-permutation : (xs ys : List ℕ) → is_distinct xs ≡ true → IsPermutation xs ys → is_distinct ys ≡ true
unfolding count_one
distinct-permutation xs ys d p =
    distinct-counts ys (λ i. omega (arith, sum_by-IsPermutation (λ x. cond (eqb x i) 1 0) xs ys p, counts-distinct xs i d))

pub among-permutation : (xs ys : List ℕ) (i : ℕ) → IsPermutation xs ys → among xs i ≡ among ys i
among-permutation xs ys i p =
    same_truth (among xs i) (among ys i)
    (λ h. contains-among ys i (Contains-permutation xs ys i p (among-contains xs i h)))
    (λ h. contains-among xs i (Contains-permutation ys xs i (IsPermutation-sym xs ys p) (among-contains ys i h)))

-- the members of a set, each once
pub distinct-filter : (p : ℕ → Bool) (xs : List ℕ) → is_distinct xs ≡ true → is_distinct (filter p xs) ≡ true
distinct-filter p [] d = refl
distinct-filter p (x ∷ xs) d =
    elim (cases_Bool (p x)) [
      | inl t ↦ rw t
          (distinct_from x (filter p xs)
          (false_from_ne_true (among (filter p xs) x) (λ q. true≢false (sym (among-filter p xs x q).1 ∙ distinct_first x xs d)))
          (distinct-filter p xs (distinct_later x xs d)))
      | inr f ↦ rw f (distinct-filter p xs (distinct_later x xs d))
    ]

range-from : (a n i : ℕ) → among (range_with_len a n) i ≡ true → a ≤ i
range-from a zero i h = absurd (false≢true h)
range-from a (suc n) i h =
    elim (among_cases a (range_with_len (a + 1) n) i h) [
      | inl e ↦ omega arith
      | inr t ↦ let l = range-from (a + 1) n i t in omega arith
    ]

pub distinct-range : (a n : ℕ) → is_distinct (range_with_len a n) ≡ true
distinct-range a zero = refl
distinct-range a (suc n) =
    distinct_from a (range_with_len (a + 1) n)
    (false_from_ne_true (among (range_with_len (a + 1) n) a) (λ q. let l = range-from (a + 1) n a q in absurd (omega arith)))
    (distinct-range (a + 1) n)

pub distinct-members : (set : ℕ) → is_distinct (members set) ≡ true
unfolding members
distinct-members set = distinct-filter (has set) (range_with_len 0 24) (distinct-range 0 24)

pub among-members : (set i : ℕ) → IsIndexSet set → among (members set) i ≡ has set i
unfolding members
among-members set i s =
    same_truth (among (members set) i) (has set i)
    (λ h. (among-filter (has set) (range_with_len 0 24) i h).0)
    (λ h. filter-among (has set) (range_with_len 0 24) i h (among-range 0 24 i (omega arith) (omega (arith, has_below set i s h))))

pub members_has : (set i : ℕ) → among (members set) i ≡ true → has set i ≡ true
unfolding members
members_has set i m = (among-filter (has set) (range_with_len 0 24) i m).0
