-- Sums of steps, each as often as a number, and the steps of tiles.
use Rattle.std.proofs.Common.{◌≡◌, ℕ, zero, suc, ◌+◌, ◌-◌, ◌*◌, ◌<◌, ◌≤◌, eqb, if◌then◌else◌, List, [], ◌∷◌, map, length, slice_index, sum_by, refl, sym, ap, ap₂, ◌∙◌, inl, inr, arith}
use Rattle.std.specs.List.{All, range_with_len}
use Rattle.std.proofs.lemmas.Bool.{cases_eq, eq-eqb, ne_eqb}
use Rattle.std.proofs.lemmas.List.Elements.{All-head, All-tail}
use Rattle.std.proofs.lemmas.List.Sums.{sum_by-cons}
use Rattle.tce_space.specs.Box.{product, place}
use Rattle.tce_layout.specs.Places.{steps_to}
use Rattle.tce_exec.specs.OperandWindows.{tile_step, AreTileSteps}

-- ---- sums over the indexes

sum_same : (f g : ℕ → ℕ) (k n : ℕ) → ((i : ℕ) → i < k + n → f i ≡ g i) → sum_by f (range_with_len k n) ≡ sum_by g (range_with_len k n)
sum_same f g k zero h = refl
sum_same f g k (suc n) h =
    sum_by-cons f k (range_with_len (k + 1) n)
    ∙ ap₂ (λ x y. x + y) (h k (omega arith)) (sum_same f g (k + 1) n (λ i l. h i (omega arith)))
    ∙ sym (sum_by-cons g k (range_with_len (k + 1) n))

sum_plus : (f g : ℕ → ℕ) (xs : List ℕ) → sum_by (λ i. f i + g i) xs ≡ sum_by f xs + sum_by g xs
sum_plus f g [] = refl
sum_plus f g (x ∷ xs) = omega (arith, sum_by-cons (λ i. f i + g i) x xs, sum_plus f g xs, sum_by-cons f x xs, sum_by-cons g x xs)

sum_nothing : (f : ℕ → ℕ) (k n : ℕ) → ((i : ℕ) → k ≤ i → f i ≡ 0) → sum_by f (range_with_len k n) ≡ 0
sum_nothing f k zero h = refl
sum_nothing f k (suc n) h = omega (arith, sum_by-cons f k (range_with_len (k + 1) n), h k (omega arith), sum_nothing f (k + 1) n (λ i l. h i (omega arith)))

-- only one index adds to the sum
sum_single : (f : ℕ → ℕ) (x k n : ℕ) → k ≤ x → x < k + n → ((i : ℕ) → (i ≡ x → ⊥) → f i ≡ 0) → sum_by f (range_with_len k n) ≡ f x
sum_single f x k zero low high h = absurd (omega arith)
sum_single f x k (suc n) low high h =
    elim (cases_eq k x) [
      | inl e ↦ omega (arith, sum_by-cons f k (range_with_len (k + 1) n), sum_nothing f (k + 1) n (λ i l. h i (λ q. omega arith)), ap f e)
      | inr e ↦ omega (arith, sum_by-cons f k (range_with_len (k + 1) n), h k e, sum_single f x (k + 1) n (omega arith) (omega arith) h)
    ]

-- ---- steps

abbrev pub sum_of_steps : (ℕ → ℕ) → (ℕ → ℕ) → ℕ
sum_of_steps steps numbers = sum_by (λ i. steps i * numbers i) (range_with_len 0 24)

-- steps from some numbers on, which are not above the others
pub steps_further : (steps : List ℕ) (first numbers : ℕ → ℕ) → ((i : ℕ) → first i ≤ numbers i)
    → steps_to steps first + steps_to steps (λ i. numbers i - first i) ≡ steps_to steps numbers
unfolding steps_to
steps_further steps first numbers low =
    sym (sum_plus (λ i. slice_index steps i * first i) (λ i. slice_index steps i * (numbers i - first i)) (range_with_len 0 24))
    ∙ sum_same _ _ 0 24 (λ i l. together (slice_index steps i) (first i) (numbers i) (low i))
  where
    together : (s x y : ℕ) → x ≤ y → s * x + s * (y - x) ≡ s * y
    together s x y l = let d : ℕ = y - x in let whole : y ≡ x + d = omega arith in ap (λ v. s * x + s * v) refl ∙ (let e : s * (x + d) ≡ s * x + s * d = omega arith in sym e) ∙ ap (λ v. s * v) (sym whole)

steps_here : (p : ℕ) (numbers : ℕ → ℕ) (x : ℕ) → x < 24 → sum_by (λ i. (if eqb x i then p else 0) * numbers i) (range_with_len 0 24) ≡ numbers x * p
steps_here p numbers x l =
    sum_single (λ i. (if eqb x i then p else 0) * numbers i) x 0 24 (omega arith) (omega arith)
    (λ i ne. ap (λ b. (if b then p else 0) * numbers i) (ne_eqb x i (λ e. ne (sym e))) ∙ omega arith)
    ∙ ap (λ b. (if b then p else 0) * numbers x) (eq-eqb x x refl)
    ∙ omega arith

-- the steps of a tile lead to the place of the numbers of its indexes
pub tile_steps_place : (edges indexes : List ℕ) (numbers : ℕ → ℕ) → length edges ≡ length indexes → All (λ i. i < 24) indexes
    → place edges (map numbers indexes) ≡ sum_of_steps (tile_step edges indexes) numbers
tile_steps_place [] [] numbers l known = sym (sum_nothing (λ i. 0 * numbers i) 0 24 (λ i k. omega arith))
tile_steps_place [] (x ∷ xs) numbers l known = absurd (omega arith)
tile_steps_place (e ∷ es) [] numbers l known = absurd (omega arith)
tile_steps_place (e ∷ es) (x ∷ xs) numbers l known =
    let rest : place es (map numbers xs) ≡ sum_of_steps (tile_step es xs) numbers = tile_steps_place es xs numbers (omega arith) (All-tail (λ i. i < 24) x xs known) in
    let here : sum_by (λ i. (if eqb x i then product es else 0) * numbers i) (range_with_len 0 24) ≡ numbers x * product es = steps_here (product es) numbers x (All-head (λ i. i < 24) x xs known) in
    ap₂ (λ m n. m + n) (sym here) rest
    ∙ sym (sum_plus (λ i. (if eqb x i then product es else 0) * numbers i) (λ i. tile_step es xs i * numbers i) (range_with_len 0 24))
    ∙ sum_same _ _ 0 24 (λ i k. again (if eqb x i then product es else 0) (tile_step es xs i) (numbers i))
  where
    again : (a b n : ℕ) → a * n + b * n ≡ (a + b) * n
    again a b n = omega arith

pub steps_of_tile : (edges indexes steps : List ℕ) (numbers : ℕ → ℕ) → AreTileSteps edges indexes steps → steps_to steps numbers ≡ sum_of_steps (tile_step edges indexes) numbers
unfolding steps_to
steps_of_tile edges indexes steps numbers are = sum_same _ _ 0 24 (λ i l. ap (λ s. s * numbers i) (are.steps_are i l))
