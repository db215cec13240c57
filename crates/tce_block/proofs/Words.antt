-- Sums of words.
use Rattle.std.proofs.Common.{◌≡◌, ◌∙◌, ℕ, zero, suc, ◌+◌, ◌-◌, ◌*◌, ◌%◌, ◌<◌, ◌^◌, min, List, [], ◌∷◌, ◌++◌, map, refl, sym, ap, ap₂, inl, inr, arith}
use Rattle.std.specs.List.{flat_map, range_with_len, sum}
use Rattle.std.proofs.Math.Nat.{add-mod-mod, mod-add-mod}
use Rattle.std.proofs.lemmas.Bool.{cases_lt}
use Rattle.std.proofs.lemmas.List.{map-append}
use Rattle.std.proofs.lemmas.List.Sums.{sum_by-append, sum_by-cons}
use Rattle.tce_base.specs.Word.{wrapping_add, wrapping_sum}
use Rattle.tce_base.proofs.Words.{plus_assoc, plus-zero, zero-plus}
use Rattle.tce_tree.specs.Value.{sum_below}
use Rattle.tce_tree.proofs.Values.{sum_below-same, sum_below-lt}
use Rattle.tce_tree.proofs.Sums.{sum_below-plus, sum_below-zero}

-- the sum over a range is that over its first part and over the rest
pub sum_below-split : (m n : ℕ) (f : ℕ → ℕ) → sum_below (n + m) f ≡ wrapping_add (sum_below m f) (sum_below n (λ x. f (m + x)))
sum_below-split m zero f = ap (λ k. sum_below k f) none ∙ sym (plus-zero (sum_below m f) (sum_below-lt m f))
  where
    none : 0 + m ≡ m
    none = omega arith
sum_below-split m (suc n) f =
    ap (λ k. sum_below k f) more ∙ ap₂ wrapping_add (sum_below-split m n f) (ap f turned)
    ∙ plus_assoc (sum_below m f) (sum_below n (λ x. f (m + x))) (f (m + n))
  where
    more : suc n + m ≡ suc (n + m)
    more = omega arith

    turned : n + m ≡ m + n
    turned = omega arith

-- the sum over a range is that over the parts between multiples of an edge
pub sum_below-parts : (n e c : ℕ) (f : ℕ → ℕ) → sum_below (min n (c * e)) f ≡ sum_below c (λ t. sum_below (min ((t + 1) * e) n - t * e) (λ x. f (t * e + x)))
sum_below-parts n e zero f = let none : min n (0 * e) ≡ 0 = omega arith in ap (λ k. sum_below k f) none
sum_below-parts n e (suc c) f =
    let part : ℕ = min ((c + 1) * e) n - c * e in
    let parts : min n (suc c * e) ≡ part + min n (c * e) = ends in
    ap (λ k. sum_below k f) parts
    ∙ sum_below-split (min n (c * e)) part f
    ∙ ap₂ wrapping_add (sum_below-parts n e c f) (elim (cases_lt n (c * e)) [
      | inl short ↦
          let none : part ≡ 0 = omega arith in
          ap (λ k. sum_below k (λ x. f (min n (c * e) + x))) none ∙ sym (ap (λ k. sum_below k (λ x. f (c * e + x))) none)
      | inr long ↦ let here : min n (c * e) ≡ c * e = omega arith in ap (λ k. sum_below part (λ x. f (k + x))) here
    ])
  where
    ends : min n (suc c * e) ≡ (min ((c + 1) * e) n - c * e) + min n (c * e)
    ends = let more : suc c * e ≡ c * e + e = omega arith in let same : (c + 1) * e ≡ c * e + e = omega arith in omega arith

-- the sum of the words of a list
unfoldable pub total : {X : Type 0} → (X → ℕ) → List X → ℕ
total g xs = wrapping_sum (map g xs)

pub total-cons : {X : Type 0} (g : X → ℕ) (x : X) (xs : List X) → g x < 2 ^ 64 → total g (x ∷ xs) ≡ wrapping_add (g x) (total g xs)
unfolding total wrapping_sum wrapping_add
total-cons g x xs h = ap (λ n. n % 2 ^ 64) (sum_by-cons (λ y. y) (g x) (map g xs)) ∙ sym (add-mod-mod (g x) (sum (map g xs)) (2 ^ 64))

pub total-nil : {X : Type 0} (g : X → ℕ) → total g [] ≡ 0
unfolding total wrapping_sum
total-nil g = refl

pub total-append : {X : Type 0} (g : X → ℕ) (xs ys : List X) → total g (xs ++ ys) ≡ wrapping_add (total g xs) (total g ys)
unfolding total wrapping_sum wrapping_add
total-append g xs ys =
    ap (λ l. sum l % 2 ^ 64) (map-append g xs ys)
    ∙ ap (λ n. n % 2 ^ 64) (sum_by-append (λ y. y) (map g xs) (map g ys))
    ∙ sym (mod-add-mod (sum (map g xs)) (2 ^ 64) (sum (map g ys) % 2 ^ 64) ∙ add-mod-mod (sum (map g xs)) (sum (map g ys)) (2 ^ 64))

pub total-lt : {X : Type 0} (g : X → ℕ) (xs : List X) → total g xs < 2 ^ 64
unfolding total wrapping_sum
total-lt g xs = omega arith

pub total-same : {X : Type 0} (g h : X → ℕ) → ((x : X) → g x ≡ h x) → (xs : List X) → total g xs ≡ total h xs
unfolding total
total-same {X = X} g h same xs = ap wrapping_sum (each xs)
  where
    each : (ys : List X) → map g ys ≡ map h ys
    each [] = refl
    each (y ∷ ys) = ap₂ (λ k ks. k ∷ ks) (same y) (each ys)

-- the sum over joined lists
pub total-flat : {X : Type 0} (g : X → ℕ) (h : ℕ → List X) (a n : ℕ) → total g (flat_map h (range_with_len a n)) ≡ sum_below n (λ t. total g (h (a + t)))
unfolding total wrapping_sum
total-flat g h a zero = refl
total-flat g h a (suc n) =
    let first : a + 0 ≡ a = omega arith in
    let one : n + 1 ≡ suc n = omega arith in
    total-append g (h a) (flat_map h (range_with_len (a + 1) n))
    ∙ ap₂ wrapping_add
    (sym (zero-plus (total g (h (a + 0))) (total-lt g (h (a + 0))) ∙ ap (λ i. total g (h i)) first))
    (total-flat g h (a + 1) n ∙ sum_below-same n _ (λ t. total g (h (a + (1 + t)))) (λ t l. let next : a + 1 + t ≡ a + (1 + t) = omega arith in ap (λ i. total g (h i)) next))
    ∙ sym (sum_below-split 1 n (λ t. total g (h (a + t))))
    ∙ ap (λ k. sum_below k (λ t. total g (h (a + t)))) one

-- sums of sums may be exchanged
pub total-sum_below : {X : Type 0} (n : ℕ) (g : ℕ → X → ℕ) (xs : List X) → ((y : ℕ) (x : X) → g y x < 2 ^ 64) → sum_below n (λ y. total (g y) xs) ≡ total (λ x. sum_below n (λ y. g y x)) xs
unfolding total wrapping_sum
total-sum_below n g [] h = sum_below-zero n
total-sum_below n g (x ∷ xs) h =
    sum_below-same n _ (λ y. wrapping_add (g y x) (total (g y) xs)) (λ y l. total-cons (g y) x xs (h y x))
    ∙ sum_below-plus n (λ y. g y x) (λ y. total (g y) xs)
    ∙ ap (wrapping_add (sum_below n (λ y. g y x))) (total-sum_below n g xs h)
    ∙ sym (total-cons (λ z. sum_below n (λ y. g y z)) x xs (sum_below-lt n (λ y. g y x)))
