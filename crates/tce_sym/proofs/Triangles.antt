-- Numbers of pairs.
use Rattle.std.proofs.Common.{◌≡◌, ◌∙◌, ℕ, zero, suc, ◌+◌, ◌-◌, ◌*◌, ◌/◌, ◌<◌, ◌≤◌, Bool, true, false, if◌then◌else◌, sym, refl, ap, subst, arith, inl, inr}
use Rattle.std.proofs.Math.Nat.{mul-div_cancel}
use Rattle.std.proofs.lemmas.Bool.{cases_lt}
use Rattle.tce_sym.specs.Storage.{IsPair, pairs}

-- the sum of the numbers below one
abbrev pub tri : ℕ → ℕ
tri zero = 0
tri (suc n) = tri n + n

double : (n : ℕ) → tri (suc n) * 2 ≡ suc n * n
double zero = refl
double (suc n) = let before = double n in omega arith

half : (n m : ℕ) → tri n * 2 ≡ m → m / 2 ≡ tri n
half n m e = ap (λ k. k / 2) (sym e) ∙ mul-div_cancel (tri n) (omega arith)

tri_mono : (n k : ℕ) → tri n ≤ tri (n + k)
tri_mono n zero = let none : n + zero ≡ n = omega arith in let same : tri (n + zero) ≡ tri n = ap tri none in omega arith
tri_mono n (suc k) =
    let less = tri_mono n k in
    let next : n + suc k ≡ suc (n + k) = omega arith in
    let more : tri (n + suc k) ≡ tri (n + k) + (n + k) = ap tri next in
    omega arith

tri_le : (n m : ℕ) → n ≤ m → tri n ≤ tri m
tri_le n m h = let is : n + (m - n) ≡ m = omega arith in subst (λ (k : ℕ). tri n ≤ tri k) is (tri_mono n (m - n))

-- how many pairs have this second coordinate
abbrev pub reach : Bool → ℕ → ℕ
reach true b = b
reach false b = suc b

pairs_are : (negated : Bool) (b : ℕ) → pairs negated b ≡ tri (reach negated b)
pairs_are true zero = refl
pairs_are true (suc b) = let less : b ≡ suc b - 1 = omega arith in half (suc b) (suc b * (suc b - 1)) (double b ∙ ap (λ k. suc b * k) less)
pairs_are false b = half (suc b) (b * (b + 1)) (let twice = double b in omega arith)

in_reach : (negated : Bool) (a b : ℕ) → IsPair negated a b → a < reach negated b
in_reach true a b h = h
in_reach false a b h = omega arith

reach_less : (negated : Bool) (b m : ℕ) → b < m → suc (reach negated b) ≤ reach negated m
reach_less true b m h = omega arith
reach_less false b m h = omega arith

pub pair_below : (negated : Bool) (a b m : ℕ) → IsPair negated a b → b < m → pairs negated b + a < pairs negated m
pair_below negated a b m h l =
    let first = in_reach negated a b h in
    let second : tri (reach negated b) + reach negated b ≤ tri (reach negated m) = tri_le (suc (reach negated b)) (reach negated m) (reach_less negated b m l) in
    omega (arith, pairs_are negated b, pairs_are negated m, first, second)

tri_sum : (n k : ℕ) → tri (n + k) ≡ tri n + n * k + tri k
tri_sum n zero = let none : n + zero ≡ n = omega arith in let same : tri (n + zero) ≡ tri n = ap tri none in omega arith
tri_sum n (suc k) =
    let before = tri_sum n k in
    let next : n + suc k ≡ suc (n + k) = omega arith in
    let last : tri (n + suc k) ≡ tri (n + k) + (n + k) = ap tri next in
    omega arith

-- so many columns on
pub pairs_more : (negated : Bool) (b k : ℕ) → pairs negated (b + k) ≡ pairs negated b + (b + (if negated then 0 else 1)) * k + pairs true k
pairs_more true b k = let sum = tri_sum b k in omega (arith, sum, pairs_are true (b + k), pairs_are true b, pairs_are true k)
pairs_more false b k =
    let sum = tri_sum (suc b) k in
    let next : suc (b + k) ≡ suc b + k = omega arith in
    let same : tri (suc (b + k)) ≡ tri (suc b + k) = ap tri next in
    omega (arith, sum, same, pairs_are false (b + k), pairs_are false b, pairs_are true k)

-- a number is told by its triangle and the rest
tri_apart : (n m a b : ℕ) → a < n → b < m → tri n + a ≡ tri m + b → (n ≡ m) × (a ≡ b)
tri_apart n m a b h k e =
    elim (cases_lt n m) [
      | inl below ↦ absurd (let more : tri n + n ≤ tri m = tri_le (suc n) m (omega arith) in omega arith)
      | inr above ↦ elim (cases_lt m n) [
        | inl below ↦ absurd (let more : tri m + m ≤ tri n = tri_le (suc m) n (omega arith) in omega arith)
        | inr same ↦ (let is : n ≡ m = omega arith in (is, (let tris = ap tri is in omega arith)))
      ]
    ]

reach_apart : (negated : Bool) (b c : ℕ) → reach negated b ≡ reach negated c → b ≡ c
reach_apart true b c e = e
reach_apart false b c e = omega arith

pub pairs_apart : (negated : Bool) (a b c d : ℕ) → IsPair negated a b → IsPair negated c d → pairs negated b + a ≡ pairs negated d + c → (a ≡ c) × (b ≡ d)
pairs_apart negated a b c d h k e =
    let tris : tri (reach negated b) + a ≡ tri (reach negated d) + c = omega (arith, e, pairs_are negated b, pairs_are negated d) in
    let both = tri_apart (reach negated b) (reach negated d) a c (in_reach negated a b h) (in_reach negated c d k) tris in
    (both.1, reach_apart negated b d both.0)

-- each number below the pairs is that of one pair
pub record IsPairAt (negated : Bool) (m t : ℕ) : Type 0 where
  pub first : ℕ
  pub second : ℕ
  pub pair : IsPair negated first second
  pub below : second < m
  pub at : pairs negated second + first ≡ t

record IsTriangleAt (n t : ℕ) : Type 0 where
  row : ℕ
  rest : ℕ
  below : row < n
  inside : rest < row
  at : tri row + rest ≡ t

tri_every : (n t : ℕ) → t < tri n → IsTriangleAt n t
tri_every zero t h = absurd (omega arith)
tri_every (suc n) t h =
    elim (cases_lt t (tri n)) [
      | inl below ↦ (let at = tri_every n t below in record { row = at.row; rest = at.rest; below = omega (arith, at.below); inside = at.inside; at = at.at })
      | inr above ↦ record { row = n; rest = t - tri n; below = omega arith; inside = omega arith; at = omega arith }
    ]

pub pairs_every : (negated : Bool) (m t : ℕ) → t < pairs negated m → IsPairAt negated m t
pairs_every true m t h =
    let at = tri_every m t (omega (arith, pairs_are true m)) in
    record { first = at.rest; second = at.row; pair = at.inside; below = at.below; at = omega (arith, pairs_are true at.row, at.at) }
pairs_every false m t h = turned (tri_every (suc m) t (omega (arith, pairs_are false m)))
  where
    turned : IsTriangleAt (suc m) t → IsPairAt false m t
    turned at = record {
      first = at.rest;
      second = at.row - 1;
      pair = omega (arith, at.inside);
      below = omega (arith, at.inside, at.below);
      at = (let is : suc (at.row - 1) ≡ at.row = omega (arith, at.inside) in omega (arith, pairs_are false (at.row - 1), ap tri is, at.at));
    }

-- there are no more pairs than two coordinates below a number have places
pub pairs_few : (negated : Bool) (m : ℕ) → pairs negated m ≤ m * m
pairs_few true zero = omega (arith, pairs_are true 0)
pairs_few true (suc m) = omega (arith, pairs_are true (suc m), double m)
pairs_few false zero = omega (arith, pairs_are false 0)
pairs_few false (suc m) = omega (arith, pairs_are false (suc m), double (suc m))
