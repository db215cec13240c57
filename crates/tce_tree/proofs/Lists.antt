-- What stands in a list of numbers.
use Rattle.std.proofs.Common.{◌≡◌, ℕ, zero, suc, ◌+◌, ◌<◌, ◌≤◌, ◌⊎◌, Bool, true, false, not, eqb, List, [], ◌∷◌, length, filter, get_or, Contains, refl, sym, ap, ◌∙◌, subst, inl, inr, arith, All}
use Rattle.std.specs.List.{list_all, range_with_len}
use Rattle.std.proofs.lemmas.Bool.{or_cases, or_left, or_right, and_parts, and_from, false≢true, cases_Bool, cases_eq, eqb-true, eq-eqb, not-true, not_from_false}
use Rattle.tce_tree.specs.WellFormed.{among, is_distinct}

pub among_first : (x : ℕ) (xs : List ℕ) → among (x ∷ xs) x ≡ true
among_first x xs = or_left (eqb x x) (among xs x) (eq-eqb x x refl)

pub among_later : (x : ℕ) (xs : List ℕ) (i : ℕ) → among xs i ≡ true → among (x ∷ xs) i ≡ true
among_later x xs i h = or_right (eqb x i) (among xs i) h

pub among_cases : (x : ℕ) (xs : List ℕ) (i : ℕ) → among (x ∷ xs) i ≡ true → (x ≡ i) ⊎ (among xs i ≡ true)
among_cases x xs i h = elim (or_cases (eqb x i) (among xs i) h) [ inl e ↦ inl (eqb-true x i e) | inr e ↦ inr e ]

-- by place and by test
pub index-among : (xs : List ℕ) (k i : ℕ) → k < length xs → get_or xs k i ≡ i → among xs i ≡ true
index-among [] k i l e = absurd (omega arith)
index-among (x ∷ xs) zero i l e = or_left (eqb x i) (among xs i) (eq-eqb x i e)
index-among (x ∷ xs) (suc k) i l e = among_later x xs i (index-among xs k i (omega arith) e)

pub contains-among : (xs : List ℕ) (i : ℕ) → Contains xs i → among xs i ≡ true
contains-among xs i c = index-among xs c.0 i c.1 c.2

pub among-contains : (xs : List ℕ) (i : ℕ) → among xs i ≡ true → Contains xs i
among-contains [] i h = absurd (false≢true h)
among-contains (x ∷ xs) i h =
    elim (among_cases x xs i h) [
      | inl e ↦ (0, omega arith, e)
      | inr t ↦ let r = among-contains xs i t in (suc r.0, omega (arith, r.1), r.2)
    ]

-- a test that all numbers pass
pub among-all : (p : ℕ → Bool) (xs : List ℕ) (i : ℕ) → list_all p xs ≡ true → among xs i ≡ true → p i ≡ true
among-all p [] i a h = absurd (false≢true h)
among-all p (x ∷ xs) i a h =
    let parts = and_parts (p x) (list_all p xs) a in
    elim (among_cases x xs i h) [
      | inl e ↦ subst (λ y. p y ≡ true) e parts.0
      | inr t ↦ among-all p xs i parts.1 t
    ]

pub all-among : (p : ℕ → Bool) (xs : List ℕ) → ((i : ℕ) → among xs i ≡ true → p i ≡ true) → list_all p xs ≡ true
all-among p [] f = refl
all-among p (x ∷ xs) f = and_from (p x) (list_all p xs) (f x (among_first x xs)) (all-among p xs (λ i h. f i (among_later x xs i h)))

pub list_all-weaker : (p q : ℕ → Bool) (xs : List ℕ) → ((i : ℕ) → p i ≡ true → q i ≡ true) → list_all p xs ≡ true → list_all q xs ≡ true
list_all-weaker p q xs f h = all-among q xs (λ i m. f i (among-all p xs i h m))

pub among-filter : (p : ℕ → Bool) (xs : List ℕ) (i : ℕ) → among (filter p xs) i ≡ true → (p i ≡ true) × (among xs i ≡ true)
among-filter p [] i h = absurd (false≢true h)
among-filter p (x ∷ xs) i h =
    elim (cases_Bool (p x)) [
      | inl t ↦ elim (among_cases x (filter p xs) i (rw t at h)) [
        | inl e ↦ (ap p (sym e) ∙ t, subst (λ y. among (x ∷ xs) y ≡ true) e (among_first x xs))
        | inr m ↦ let r = among-filter p xs i m in (r.0, among_later x xs i r.1)
      ]
      | inr f ↦ let r = among-filter p xs i (rw f at h) in (r.0, among_later x xs i r.1)
    ]

pub filter-among : (p : ℕ → Bool) (xs : List ℕ) (i : ℕ) → p i ≡ true → among xs i ≡ true → among (filter p xs) i ≡ true
filter-among p [] i t h = h
filter-among p (x ∷ xs) i t h =
    elim (among_cases x xs i h) [
      | inl e ↦ rw (ap p e ∙ t) (or_left (eqb x i) (among (filter p xs) i) (eq-eqb x i e))
      | inr m ↦ elim (cases_Bool (p x)) [
        | inl q ↦ rw q (among_later x (filter p xs) i (filter-among p xs i t m))
        | inr q ↦ rw q (filter-among p xs i t m)
      ]
    ]

pub among-range : (a n i : ℕ) → a ≤ i → i < a + n → among (range_with_len a n) i ≡ true
among-range a zero i g l = absurd (omega arith)
among-range a (suc n) i g l =
    elim (cases_eq a i) [
      | inl e ↦ or_left (eqb a i) (among (range_with_len (a + 1) n) i) (eq-eqb a i e)
      | inr ne ↦ among_later a (range_with_len (a + 1) n) i (among-range (a + 1) n i (omega arith) (omega arith))
    ]

-- two tests that follow from each other are one
pub same_truth : (a b : Bool) → (a ≡ true → b ≡ true) → (b ≡ true → a ≡ true) → a ≡ b
same_truth true b f g = sym (f refl)
same_truth false true f g = g refl
same_truth false false f g = refl

-- a list without repetition
pub distinct_first : (x : ℕ) (xs : List ℕ) → is_distinct (x ∷ xs) ≡ true → among xs x ≡ false
distinct_first x xs d = not-true (among xs x) (and_parts (not (among xs x)) (is_distinct xs) d).0

pub distinct_later : (x : ℕ) (xs : List ℕ) → is_distinct (x ∷ xs) ≡ true → is_distinct xs ≡ true
distinct_later x xs d = (and_parts (not (among xs x)) (is_distinct xs) d).1

pub distinct_from : (x : ℕ) (xs : List ℕ) → among xs x ≡ false → is_distinct xs ≡ true → is_distinct (x ∷ xs) ≡ true
distinct_from x xs a d = and_from (not (among xs x)) (is_distinct xs) (not_from_false (among xs x) a) d

pub among_rest : (j : ℕ) (js : List ℕ) (i : ℕ) → (i ≡ j → ⊥) → among (j ∷ js) i ≡ true → among js i ≡ true
among_rest j js i ne m =
    elim (or_cases (eqb j i) (among js i) m) [
      | inl e ↦ absurd (ne (sym (eqb-true j i e)))
      | inr r ↦ r
    ]

-- what holds of each number of a list holds of those behind the first
pub below_tail : (n : ℕ) (xs : List ℕ) (y : ℕ) (ys : List ℕ) → xs ≡ y ∷ ys → All (λ i. i < n) xs → (k d : ℕ) → k < length ys → get_or ys k d < n
below_tail n xs y ys is all k d l = subst (All (λ i. i < n)) is all (suc k) d (omega arith)
