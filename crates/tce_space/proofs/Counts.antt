-- How many tiles there are in each dimension, and together.
use Rattle.std.proofs.Common.{◌≡◌, ℕ, zero, suc, ◌*◌, ◌^◌, ◌<◌, ◌≤◌, List, [], ◌∷◌, length, get_or, All, refl, ap, arith, mul-le-mul}
use Rattle.std.specs.Int.{div_ceil}
use Rattle.std.specs.List.{AllByRecursion}
use Rattle.std.proofs.lemmas.Grind.{div_ceil_times}
use Rattle.std.proofs.lemmas.List.Elements.{recursion_from_All}
use Rattle.tce_space.specs.Box.{product}
use Rattle.tce_space.specs.Tiling.{ArePositive, counts_along}

pub positive_at : (es : List ℕ) (d : ℕ) → ArePositive es → d < length es → 0 < get_or es d 0
positive_at [] d h l = absurd (omega arith)
positive_at (e ∷ es) zero h l = h.0
positive_at (e ∷ es) (suc d) h l = positive_at es d h.1 (omega arith)

pub length-counts_along : (ns es : List ℕ) → length es ≡ length ns → length (counts_along ns es) ≡ length ns
length-counts_along [] [] h = refl
length-counts_along [] (e ∷ es) h = absurd (omega arith)
length-counts_along (n ∷ ns) [] h = absurd (omega arith)
length-counts_along (n ∷ ns) (e ∷ es) h = ap suc (length-counts_along ns es (omega arith))

pub count_at : (ns es : List ℕ) (d : ℕ) → length es ≡ length ns → d < length ns → get_or (counts_along ns es) d 0 ≡ div_ceil (get_or ns d 0) (get_or es d 0)
count_at [] es d h l = absurd (omega arith)
count_at (n ∷ ns) [] d h l = absurd (omega arith)
count_at (n ∷ ns) (e ∷ es) zero h l = refl
count_at (n ∷ ns) (e ∷ es) (suc d) h l = count_at ns es d (omega arith) (omega arith)

-- where the extents are some, the tiles are
pub some_tile : (n e : ℕ) → 0 < n → 0 < e → 0 < div_ceil n e
some_tile n e some positive = above (div_ceil n e) (div_ceil_times n e positive).0
  where
    above : (c : ℕ) → n ≤ c * e → 0 < c
    above zero h = absurd (omega arith)
    above (suc c) h = omega arith

counts_by_recursion : (ns es : List ℕ) → AllByRecursion (λ n. (0 < n) × (n < 2 ^ 32)) ns → ArePositive es → ArePositive (counts_along ns es)
counts_by_recursion [] es h p = tt
counts_by_recursion (n ∷ ns) [] h p = tt
counts_by_recursion (n ∷ ns) (e ∷ es) h p = (some_tile n e h.0.0 p.0, counts_by_recursion ns es h.1 p.1)

pub counts_positive : (ns es : List ℕ) → All (λ n. (0 < n) × (n < 2 ^ 32)) ns → ArePositive es → ArePositive (counts_along ns es)
counts_positive ns es h p = counts_by_recursion ns es (recursion_from_All (λ n. (0 < n) × (n < 2 ^ 32)) ns h) p

pub positive_by_recursion : (ns : List ℕ) → AllByRecursion (λ n. (0 < n) × (n < 2 ^ 32)) ns → ArePositive ns
positive_by_recursion [] h = tt
positive_by_recursion (n ∷ ns) h = (h.0.0, positive_by_recursion ns h.1)

pub sizes_positive : (ns : List ℕ) → All (λ n. (0 < n) × (n < 2 ^ 32)) ns → ArePositive ns
sizes_positive ns h = positive_by_recursion ns (recursion_from_All (λ n. (0 < n) × (n < 2 ^ 32)) ns h)

-- the tiles hold the elements
pub elements_le : (ns es : List ℕ) → length es ≡ length ns → ArePositive es → product ns ≤ product es * product (counts_along ns es)
elements_le [] [] h p = omega arith
elements_le [] (e ∷ es) h p = absurd (omega arith)
elements_le (n ∷ ns) [] h p = absurd (omega arith)
elements_le (n ∷ ns) (e ∷ es) h p =
    let here : n ≤ div_ceil n e * e = (div_ceil_times n e p.0).0 in
    let rest : product ns ≤ product es * product (counts_along ns es) = elements_le ns es (omega arith) p.1 in
    spread n (product ns) (div_ceil n e) e (product es) (product (counts_along ns es)) (mul-le-mul here rest)
  where
    spread : (n p c e q r : ℕ) → n * p ≤ (c * e) * (q * r) → n * p ≤ (e * q) * (c * r)
    spread n p c e q r h = omega (arith, h)
