-- What stands in front in a list: places of first occurrence, and sorted lists.
use Rattle.std.proofs.Common.{◌≡◌, ℕ, zero, suc, ◌<◌, Bool, true, false, cond, eqb, List, [], ◌∷◌, length, take, filter, count_by, refl, sym, ap, ap₂, ◌∙◌, inl, inr, subst, arith, one-add, zero-add}
use Rattle.std.proofs.lemmas.Bool.{cases_Bool, eqb-true, false_from_ne_true, false≢true}
use Rattle.std.proofs.lemmas.List.Sums.{sum_by-cons}
use Rattle.tce_tree.specs.WellFormed.{among}
use Rattle.tce_tree.proofs.Lists.{among_first, among_later, among_cases, among-filter}

-- where it stands first, or the length
abbrev pub place : List ℕ → ℕ → ℕ
place [] i = 0
place (x ∷ xs) i = cond (eqb x i) 0 (suc (place xs i))

-- what stands among the first n of a list stands there first
pub place_in_front : (n : ℕ) (xs : List ℕ) (i : ℕ) → among (take n xs) i ≡ true → (place xs i ≡ place (take n xs) i) × (place xs i < n)
place_in_front zero xs i h = absurd (false≢true h)
place_in_front (suc n) [] i h = absurd (false≢true h)
place_in_front (suc n) (x ∷ xs) i h =
    elim (cases_Bool (eqb x i)) [
      | inl e ↦ (rw e refl, rw e (omega arith))
      | inr e ↦
          let r = place_in_front n xs i (rw e at h) in
          (rw e (ap suc r.0), rw e (omega (arith, r.1)))
    ]

-- what stands early in a list stands among its first
pub among_front : (n : ℕ) (xs : List ℕ) (i : ℕ) → place xs i < n → place xs i < length xs → among (take n xs) i ≡ true
among_front zero xs i l m = absurd (omega arith)
among_front (suc n) [] i l m = absurd (omega arith)
among_front (suc n) (x ∷ xs) i l m =
    elim (cases_Bool (eqb x i)) [
      | inl e ↦ rw e refl
      | inr e ↦ rw e (among_front n xs i (let k = rw e at l in omega arith) (let k = rw e at m in omega arith))
    ]

-- two numbers at one place are equal
pub same_place : (xs : List ℕ) (i j : ℕ) → among xs i ≡ true → place xs i ≡ place xs j → i ≡ j
same_place [] i j h e = absurd (false≢true h)
same_place (x ∷ xs) i j h e =
    elim (cases_Bool (eqb x i)) [
      | inl p ↦ elim (cases_Bool (eqb x j)) [
        | inl q ↦ sym (eqb-true x i p) ∙ eqb-true x j q
        | inr q ↦ let k : 0 ≡ suc (place xs j) = rw (p, q) at e in absurd (omega arith)
      ]
      | inr p ↦ elim (cases_Bool (eqb x j)) [
        | inl q ↦ let k : suc (place xs i) ≡ 0 = rw (p, q) at e in absurd (omega arith)
        | inr q ↦ let k : suc (place xs i) ≡ suc (place xs j) = rw (p, q) at e in same_place xs i j (rw p at h) (omega arith)
      ]
    ]

-- each number of the list stands in R to those after it
abbrev pub Ascends : (ℕ → ℕ → Type 0) → List ℕ → Type 0
Ascends R [] = Unit {0}
Ascends R (x ∷ xs) = ((y : ℕ) → among xs y ≡ true → R x y) × Ascends R xs

pub Ascends-weaker : (R S : ℕ → ℕ → Type 0) (xs : List ℕ)
    → ((x y : ℕ) → among xs x ≡ true → among xs y ≡ true → R x y → S x y) → Ascends R xs → Ascends S xs
Ascends-weaker R S [] f a = tt
Ascends-weaker R S (x ∷ xs) f a = (
  (λ y h. f x y (among_first x xs) (among_later x xs y h) (a.0 y h)),
  Ascends-weaker R S xs (λ u v p q. f u v (among_later x xs u p) (among_later x xs v q)) a.1,
)

pub Ascends-filter : (R : ℕ → ℕ → Type 0) (p : ℕ → Bool) (xs : List ℕ) → Ascends R xs → Ascends R (filter p xs)
Ascends-filter R p [] a = tt
Ascends-filter R p (x ∷ xs) a =
    elim (cases_Bool (p x)) [
      | inl e ↦ rw e ((λ y h. a.0 y (among-filter p xs y h).1), Ascends-filter R p xs a.1)
      | inr e ↦ rw e (Ascends-filter R p xs a.1)
    ]

pub count_yes : (p : ℕ → Bool) (x : ℕ) (xs : List ℕ) → p x ≡ true → count_by p (x ∷ xs) ≡ suc (count_by p xs)
count_yes p x xs e = sum_by-cons (λ y. cond (p y) 1 0) x xs ∙ rw e (one-add _)

pub count_no : (p : ℕ → Bool) (x : ℕ) (xs : List ℕ) → p x ≡ false → count_by p (x ∷ xs) ≡ count_by p xs
count_no p x xs e = sum_by-cons (λ y. cond (p y) 1 0) x xs ∙ rw e (zero-add _)

none_kept : (p : ℕ → Bool) (xs : List ℕ) → ((y : ℕ) → among xs y ≡ true → p y ≡ false) → (filter p xs ≡ []) × (count_by p xs ≡ 0)
none_kept p [] f = (refl, refl)
none_kept p (x ∷ xs) f =
    let e : p x ≡ false = f x (among_first x xs) in
    let r = none_kept p xs (λ y h. f y (among_later x xs y h)) in
    (rw e r.0, count_no p x xs e ∙ r.1)

-- where what passes stands in R to what does not, and R is one-way, what passes stands in front
pub front_is_filter : (R : ℕ → ℕ → Type 0) (p : ℕ → Bool) (xs : List ℕ)
    → ((x y : ℕ) → among xs x ≡ true → among xs y ≡ true → p x ≡ false → p y ≡ true → R x y → ⊥)
    → Ascends R xs → take (count_by p xs) xs ≡ filter p xs
front_is_filter R p [] f a = refl
front_is_filter R p (x ∷ xs) f a =
    elim (cases_Bool (p x)) [
      | inl e ↦
          let n : count_by p (x ∷ xs) ≡ suc (count_by p xs) = count_yes p x xs e in
          rw (n, e) (ap (λ t. x ∷ t) (front_is_filter R p xs (λ u v h k. f u v (among_later x xs u h) (among_later x xs v k)) a.1))
      | inr e ↦
          let none = none_kept p xs (λ y h. false_from_ne_true (p y) (λ t. f x y (among_first x xs) (among_later x xs y h) e t (a.0 y h))) in
          let n : count_by p (x ∷ xs) ≡ 0 = count_no p x xs e ∙ none.1 in
          rw (n, e) (sym none.0)
    ]

rest_among : (R : ℕ → ℕ → Type 0) (x y : ℕ) (xs ys : List ℕ) → ((a b : ℕ) → R a b → R b a → ⊥) → x ≡ y
    → ((z : ℕ) → among xs z ≡ true → R x z) → ((i : ℕ) → among (x ∷ xs) i ≡ true → among (y ∷ ys) i ≡ true)
    → (i : ℕ) → among xs i ≡ true → among ys i ≡ true
rest_among R x y xs ys o e after f i h =
    elim (among_cases y ys i (f i (among_later x xs i h))) [
      | inl s ↦
          let r : R i i = subst (λ z. R z i) (e ∙ s) (after i h) in
          absurd (o i i r r)
      | inr l ↦ l
    ]

-- lists that ascend by one one-way relation and have the same members are equal
pub same_sorted : (R : ℕ → ℕ → Type 0) (xs ys : List ℕ)
    → ((x y : ℕ) → R x y → R y x → ⊥) → Ascends R xs → Ascends R ys
    → ((i : ℕ) → among xs i ≡ true → among ys i ≡ true) → ((i : ℕ) → among ys i ≡ true → among xs i ≡ true) → xs ≡ ys
same_sorted R [] [] o a b f g = refl
same_sorted R [] (y ∷ ys) o a b f g = absurd (false≢true (g y (among_first y ys)))
same_sorted R (x ∷ xs) [] o a b f g = absurd (false≢true (f x (among_first x xs)))
same_sorted R (x ∷ xs) (y ∷ ys) o a b f g =
    let first : x ≡ y = elim (among_cases y ys x (f x (among_first x xs))) [
      | inl e ↦ sym e
      | inr l ↦ elim (among_cases x xs y (g y (among_first y ys))) [
        | inl e ↦ e
        | inr m ↦ absurd (o x y (a.0 y m) (b.0 x l))
      ]
    ] in
    ap₂ (λ u v. u ∷ v) first
    (same_sorted R xs ys o a.1 b.1 (rest_among R x y xs ys o first a.0 f) (rest_among R y x ys xs o (sym first) b.0 g))
