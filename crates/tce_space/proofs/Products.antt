-- Products of lists.
use Rattle.std.proofs.Common.{◌≡◌, ℕ, zero, suc, ◌+◌, ◌*◌, ◌/◌, ◌↔◌, ◌<◌, ◌≤◌, List, [], ◌∷◌, ◌++◌, length, take, drop, get_or, sym, ap, ◌∙◌, arith, take-append-drop, map, fold}
use Rattle.std.proofs.Math.Nat.{mul-le-mul_left, le-div_iff_mul-le}
use Rattle.std.proofs.lemmas.List.{take_more}
use Rattle.tce_space.specs.Box.{product}
use Rattle.tce_space.specs.Tiling.{ArePositive}

pub product-append : (xs ys : List ℕ) → product (xs ++ ys) ≡ product xs * product ys
product-append [] ys = omega arith
product-append (x ∷ xs) ys = ap (λ p. x * p) (product-append xs ys) ∙ omega arith

pub product_positive : (xs : List ℕ) → ArePositive xs → 0 < product xs
product_positive [] h = omega arith
product_positive (x ∷ xs) h =
    let first : 1 ≤ x = h.0 in
    let rest : 0 < product xs = product_positive xs h.1 in
    omega (arith, mul-le-mul_left (product xs) first)

pub drop_positive : (xs : List ℕ) (n : ℕ) → ArePositive xs → ArePositive (drop n xs)
drop_positive xs zero h = h
drop_positive [] (suc n) h = tt
drop_positive (x ∷ xs) (suc n) h = drop_positive xs n h.1

-- one number more
pub product_more : (xs : List ℕ) (n : ℕ) → n < length xs → product (take (n + 1) xs) ≡ product (take n xs) * get_or xs n 0
product_more xs n h = ap product (take_more xs n 0 h) ∙ product-append (take n xs) (get_or xs n 0 ∷ []) ∙ omega arith

-- the product of some of the first numbers is no larger
pub product_take : (xs : List ℕ) (n : ℕ) → ArePositive xs → product (take n xs) ≤ product xs
product_take xs n h =
    let some : 1 ≤ product (drop n xs) = product_positive (drop n xs) (drop_positive xs n h) in
    omega (arith, ap product (take-append-drop n xs), product-append (take n xs) (drop n xs), mul-le-mul_left (product (take n xs)) some)

-- one step of a running product, and its bound
pub product_step : (xs : List ℕ) (n all : ℕ) → n < length xs → all ≡ product (take n xs) → all * get_or xs n 0 ≡ product (take (n + 1) xs)
product_step xs n all h e = ap (λ p. p * get_or xs n 0) e ∙ sym (product_more xs n h)

pub product_step_le : (xs : List ℕ) (n all : ℕ) → ArePositive xs → n < length xs → all ≡ product (take n xs) → all * get_or xs n 0 ≤ product xs
product_step_le xs n all positive h e = omega (arith, product_step xs n all h e, product_take xs (n + 1) positive)

pub le_times : (a b : ℕ) → 0 < a → b ≤ a * b
le_times zero b h = absurd (omega arith)
le_times (suc a) b h = omega arith

-- a number is within the quotient exactly where the product is within the dividend
pub within_quotient : (a b m : ℕ) → 0 < a → (b ≤ m / a) ↔ (a * b ≤ m)
within_quotient a b m h = (
  (λ l. omega (arith, (le-div_iff_mul-le {k = a} {x = b} {y = m} h).0 l)),
  (λ l. (le-div_iff_mul-le {k = a} {x = b} {y = m} h).1 (omega (arith, l))),
)

pub positive_push : (xs : List ℕ) (y : ℕ) → ArePositive xs → 0 < y → ArePositive (xs ++ y ∷ [])
positive_push [] y h l = (l, tt)
positive_push (x ∷ xs) y h l = (h.0, positive_push xs y h.1 l)

pub fold-product : (f : ℕ → ℕ) (is : List ℕ) (n : ℕ) → fold (λ p i. p * f i) n is ≡ n * product (map f is)
fold-product f [] n = omega arith
fold-product f (i ∷ is) n = fold-product f is (n * f i) ∙ again n (f i) (product (map f is))
  where
    again : (a b c : ℕ) → a * b * c ≡ a * (b * c)
    again a b c = omega arith
