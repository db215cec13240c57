-- Sums modulo 2 ^ 64, in lanes and from the first word on.
use Rattle.std.proofs.Common.{◌≡◌, ℕ, ◌+◌, ◌%◌, ◌^◌, ◌<◌, ◌≤◌, List, [], ◌∷◌, length, get_or, take, refl, ◌∙◌, ap, arith, sum}
use Rattle.std.specs.Simd.Lanes.{zip2, chunk, fold_l}
use Rattle.std.proofs.lemmas.List.{take_all}
use Rattle.std.proofs.lemmas.List.Sums.{sum_by-append, sum_by-cons, sum_by_more}
use Rattle.std.proofs.lemmas.Simd.{length-chunk}
use Rattle.std.proofs.Math.Seq.{take-add}
use Rattle.tce_base.specs.Word.{wrapping_add, wrapping_sum}

-- the sum of two rows of lanes
pub sum-zip2 : (xs ys : List ℕ) → length xs ≡ length ys → wrapping_sum (zip2 wrapping_add xs ys) ≡ (sum xs + sum ys) % 2 ^ 64
unfolding wrapping_add wrapping_sum
sum-zip2 [] [] same = refl
sum-zip2 [] (y ∷ ys) same = absurd (omega arith)
sum-zip2 (x ∷ xs) [] same = absurd (omega arith)
sum-zip2 (x ∷ xs) (y ∷ ys) same =
    omega (arith, sum-zip2 xs ys (omega arith), sum_by-cons (λ n. n) x xs, sum_by-cons (λ n. n) y ys, sum_by-cons (λ n. n) ((x + y) % 2 ^ 64) (zip2 wrapping_add xs ys))

-- the lanes added up from the first on
pub fold_l-wrapping_add : (a : ℕ) (xs : List ℕ) → a < 2 ^ 64 → fold_l wrapping_add a xs ≡ (a + sum xs) % 2 ^ 64
unfolding wrapping_add
fold_l-wrapping_add a [] fits = omega arith
fold_l-wrapping_add a (x ∷ xs) fits =
    omega (arith, fold_l-wrapping_add ((a + x) % 2 ^ 64) xs (omega arith), sum_by-cons (λ n. n) x xs)

-- the steps of the two loops
pub block_summed : (at n m : ℕ) (ps lanes ys : List ℕ) → length lanes ≡ n → wrapping_sum lanes ≡ wrapping_sum (take at ps) → ys ≡ chunk at n ps → m ≡ at + n → m ≤ length ps → wrapping_sum (zip2 wrapping_add lanes ys) ≡ wrapping_sum (take m ps)
unfolding wrapping_sum
block_summed at n m ps lanes ys many so_far value next le =
    let long : length ys ≡ n = ap length value ∙ length-chunk at n ps (omega arith) in
    let split : sum (take m ps) ≡ sum (take at ps) + sum ys =
    rw (next, take-add at n ps, value) (sum_by-append (λ n. n) (take at ps) (chunk at n ps)) in
    sum-zip2 lanes ys (omega arith) ∙ omega (arith, so_far, split)

pub word_summed : (at x total : ℕ) (ps : List ℕ) → total ≡ wrapping_sum (take at ps) → x ≡ get_or ps at 0 → at < length ps → (total + x) % 2 ^ 64 ≡ wrapping_sum (take (at + 1) ps)
unfolding wrapping_sum
word_summed at x total ps so_far value lt = omega (arith, so_far, value, sum_by_more (λ n. n) ps at 0 lt)

pub all_summed : (at total : ℕ) (ps : List ℕ) → total ≡ wrapping_sum (take at ps) → length ps ≤ at → total ≡ wrapping_sum ps
all_summed at total ps so_far past = so_far ∙ ap wrapping_sum (take_all at ps past)

-- from the lanes to the words that are left
pub lanes_summed : (at from : ℕ) (ps lanes : List ℕ) → wrapping_sum lanes ≡ wrapping_sum (take at ps) → from ≤ at → at ≤ from → fold_l wrapping_add 0 lanes ≡ wrapping_sum (take from ps)
unfolding wrapping_sum
lanes_summed at from ps lanes so_far le ge =
    let same : at ≡ from = omega arith in
    fold_l-wrapping_add 0 lanes (omega arith) ∙ omega arith ∙ so_far ∙ ap (λ k. wrapping_sum (take k ps)) same
