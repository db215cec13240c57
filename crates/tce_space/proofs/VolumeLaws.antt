-- The product of the extents of a set's members, member by member.
use Rattle.std.proofs.Common.{◌≡◌, ℕ, zero, suc, ◌+◌, ◌-◌, ◌*◌, ◌^◌, ◌<◌, ◌≤◌, true, false, cond, List, [], ◌∷◌, ◌++◌, filter, refl, sym, ap, ◌∙◌, subst, arith, add-one, append-nil, ◌⊎◌, inl, inr, le_trans, mul-le-mul}
use Rattle.std.specs.List.{fold, range_with_len}
use Rattle.std.proofs.lemmas.Bool.{cases_Bool}
use Rattle.std.proofs.lemmas.List.Elements.{filter-append}
use Rattle.tce_space.specs.IndexSet.{has, members, volume}
use Rattle.tce_space.proofs.Ranges.{range_next}

fold_push : (f : ℕ → ℕ → ℕ) (a : ℕ) (xs : List ℕ) (y : ℕ) → fold f a (xs ++ y ∷ []) ≡ f (fold f a xs) y
fold_push f a [] y = refl
fold_push f a (x ∷ xs) y = fold_push f (f a x) xs y

-- the product over the members below a bound
abbrev pub product_below : (ℕ → ℕ) → ℕ → ℕ → ℕ
product_below extent set n = fold (λ product i. product * extent i) 1 (filter (has set) (range_with_len 0 n))

pub product_yes : (extent : ℕ → ℕ) (set n : ℕ) → has set n ≡ true → product_below extent set (n + 1) ≡ product_below extent set n * extent n
product_yes extent set n h =
    ap (λ xs. fold (λ p i. p * extent i) 1 (filter (has set) xs)) (range_next n)
    ∙ ap (λ xs. fold (λ p i. p * extent i) 1 xs) (filter-append (has set) (range_with_len 0 n) (n ∷ []) ∙ ap (λ b. filter (has set) (range_with_len 0 n) ++ cond b (n ∷ []) []) h)
    ∙ fold_push (λ p i. p * extent i) 1 (filter (has set) (range_with_len 0 n)) n

pub product_no : (extent : ℕ → ℕ) (set n : ℕ) → has set n ≡ false → product_below extent set (n + 1) ≡ product_below extent set n
product_no extent set n h =
    ap (λ xs. fold (λ p i. p * extent i) 1 (filter (has set) xs)) (range_next n)
    ∙ ap (λ xs. fold (λ p i. p * extent i) 1 xs) (filter-append (has set) (range_with_len 0 n) (n ∷ []) ∙ ap (λ b. filter (has set) (range_with_len 0 n) ++ cond b (n ∷ []) []) h ∙ append-nil (filter (has set) (range_with_len 0 n)))

grows_by : (a b : ℕ) → 0 < b → a ≤ a * b
grows_by a b h = grind arith

product_step : (extent : ℕ → ℕ) (set n : ℕ) → (has set n ≡ true → 0 < extent n) → product_below extent set n ≤ product_below extent set (n + 1)
product_step extent set n pos =
    elim (cases_Bool (has set n)) [
      | inl t ↦ subst (λ x. product_below extent set n ≤ x) (sym (product_yes extent set n t)) (grows_by (product_below extent set n) (extent n) (pos t))
      | inr f ↦ subst (λ x. product_below extent set n ≤ x) (sym (product_no extent set n f)) (omega arith)
    ]

pub product_grows : (extent : ℕ → ℕ) (set n m : ℕ) → ((k : ℕ) → has set k ≡ true → 0 < extent k) → product_below extent set n ≤ product_below extent set (n + m)
product_grows extent set n zero pos = subst (λ k. product_below extent set n ≤ product_below extent set k) same (omega arith)
  where
    same : n ≡ n + 0
    same = omega arith
product_grows extent set n (suc m) pos =
    subst (λ k. product_below extent set n ≤ product_below extent set k) next
    (le_trans (product_grows extent set n m pos) (product_step extent set (n + m) (pos (n + m))))
  where
    next : n + m + 1 ≡ n + suc m
    next = omega arith

pub product_below-volume : (extent : ℕ → ℕ) (set : ℕ) → volume extent set ≡ product_below extent set 24
unfolding volume members
product_below-volume extent set = refl

-- a product above the limit stays above it
pub product_too_large : (extent : ℕ → ℕ) (set n product : ℕ) → ((k : ℕ) → has set k ≡ true → 0 < extent k)
    → n ≤ 24 → product ≡ product_below extent set n → 2 ^ 90 < product → volume extent set ≤ 2 ^ 90 → ⊥
product_too_large extent set n product positive l e large small =
    let up : product_below extent set n ≤ product_below extent set (n + (24 - n)) = product_grows extent set n (24 - n) positive in
    let last : product_below extent set (n + (24 - n)) ≡ product_below extent set 24 = ap (product_below extent set) (full l) in
    omega (arith, e, up, last, product_below-volume extent set, large, small)
  where
    full : n ≤ 24 → n + (24 - n) ≡ 24
    full l = omega arith

-- from some number on there is no member
pub product_rest : (extent : ℕ → ℕ) (set n m : ℕ) → ((k : ℕ) → has set k ≡ true → k < n) → product_below extent set (n + m) ≡ product_below extent set n
product_rest extent set n zero above = ap (product_below extent set) (omega arith)
product_rest extent set n (suc m) above =
    ap (product_below extent set) next
    ∙ product_no extent set (n + m) (none (cases_Bool (has set (n + m))))
    ∙ product_rest extent set n m above
  where
    next : n + suc m ≡ n + m + 1
    next = omega arith

    none : (has set (n + m) ≡ true) ⊎ (has set (n + m) ≡ false) → has set (n + m) ≡ false
    none (inl t) = absurd (omega (arith, above (n + m) t))
    none (inr f) = f

pub product_all : (extent : ℕ → ℕ) (set n : ℕ) → ((k : ℕ) → has set k ≡ true → k < n) → n ≤ 24 → product_below extent set n ≡ volume extent set
product_all extent set n above l =
    sym (product_rest extent set n (24 - n) above) ∙ ap (product_below extent set) (full l) ∙ sym (product_below-volume extent set)
  where
    full : n ≤ 24 → n + (24 - n) ≡ 24
    full l = omega arith

mul_le : (a b c d : ℕ) → a ≤ b → c ≤ d → a * c ≤ b * d
mul_le a b c d p q = mul-le-mul p q

product_within : (extent : ℕ → ℕ) (a b : ℕ) → ((i : ℕ) → has a i ≡ true → has b i ≡ true) → ((k : ℕ) → has b k ≡ true → 0 < extent k)
    → (n : ℕ) → product_below extent a n ≤ product_below extent b n
product_within extent a b sub pos zero = omega arith
product_within extent a b sub pos (suc n) =
    subst (λ k. product_below extent a k ≤ product_below extent b k) (add-one n)
    (elim (cases_Bool (has a n)) [
      | inl t ↦
          subst (λ x. x ≤ product_below extent b (n + 1)) (sym (product_yes extent a n t))
          (subst (λ x. product_below extent a n * extent n ≤ x) (sym (product_yes extent b n (sub n t)))
          (mul_le _ _ _ _ (product_within extent a b sub pos n) (omega arith)))
      | inr f ↦
          subst (λ x. x ≤ product_below extent b (n + 1)) (sym (product_no extent a n f))
          (le_trans (product_within extent a b sub pos n) (product_step extent b n (pos n)))
    ])

-- a part has no greater volume
pub volume_within : (extent : ℕ → ℕ) (a b : ℕ) → ((i : ℕ) → has a i ≡ true → has b i ≡ true) → ((k : ℕ) → has b k ≡ true → 0 < extent k) → volume extent a ≤ volume extent b
volume_within extent a b sub pos =
    subst (λ x. x ≤ volume extent b) (sym (product_below-volume extent a))
    (subst (λ x. product_below extent a 24 ≤ x) (sym (product_below-volume extent b)) (product_within extent a b sub pos 24))
