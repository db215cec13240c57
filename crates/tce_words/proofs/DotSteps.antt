-- Sums of products along two runs.
use Rattle.std.proofs.Common.{◌≡◌, ℕ, ◌+◌, ◌*◌, ◌%◌, ◌^◌, ◌<◌, ◌≤◌, List, [], ◌∷◌, length, map, take, replicate, slice_index, slice_range, sum, refl, sym, ap, ◌∙◌, arith}
use Rattle.std.specs.Simd.Lanes.{zip2}
use Rattle.std.proofs.lemmas.List.{take_all}
use Rattle.std.proofs.lemmas.List.Sums.{sum_by-cons, sum_by_more}
use Rattle.std.proofs.lemmas.Nat.{mul-mod_second}
use Rattle.std.proofs.lemmas.Simd.{length-zip2, get_or-zip2, zip2_splat_left}
use Rattle.std.proofs.Math.Nat.{mul_comm, mul-add}
use Rattle.tce_base.specs.Word.{wrapping_mul, wrapping_sum}
use Rattle.tce_words.specs.Run.{IsWithin, words_along}
use Rattle.tce_words.proofs.RunSteps.{length-words_along, get_or-words_along, words_along_part, words_along_still}

module _ (xs : List ℕ) (a a_step b b_step n : ℕ) where
  abbrev pub products_along : List ℕ
  products_along = zip2 wrapping_mul (words_along xs a a_step n) (words_along xs b b_step n)

  pub length-products_along : length products_along ≡ n
  length-products_along = length-zip2 wrapping_mul (words_along xs a a_step n) (words_along xs b b_step n) (length-words_along xs a a_step n ∙ sym (length-words_along xs b b_step n)) ∙ length-words_along xs a a_step n

  -- the step of the loop
  pub product_summed : (t total : ℕ) → total ≡ wrapping_sum (take t products_along) → t < n
      → (total + slice_index xs (a + t * a_step) * slice_index xs (b + t * b_step) % 2 ^ 64) % 2 ^ 64 ≡ wrapping_sum (take (t + 1) products_along)
  unfolding wrapping_mul wrapping_sum
  product_summed t total so_far lt =
      let is : slice_index products_along t ≡ wrapping_mul (slice_index xs (a + t * a_step)) (slice_index xs (b + t * b_step)) =
      get_or-zip2 wrapping_mul (words_along xs a a_step n) (words_along xs b b_step n) t 0 0 0 (omega (arith, length-words_along xs a a_step n)) (omega (arith, length-words_along xs b b_step n))
      ∙ ap (λ x. wrapping_mul x (slice_index (words_along xs b b_step n) t)) (get_or-words_along xs a a_step n t lt)
      ∙ ap (wrapping_mul (slice_index xs (a + t * a_step))) (get_or-words_along xs b b_step n t lt) in
      omega (arith, so_far, is, sum_by_more (λ k. k) products_along t 0 (omega (arith, length-products_along)))

  pub all_summed : (t total : ℕ) → total ≡ wrapping_sum (take t products_along) → n ≤ t → total ≡ wrapping_sum products_along
  all_summed t total so_far past = so_far ∙ ap wrapping_sum (take_all t products_along (omega (arith, length-products_along)))

-- the sum of the multiples of a word
sum-scaled : (s : ℕ) (ys : List ℕ) → sum (map (wrapping_mul s) ys) % 2 ^ 64 ≡ (s * sum ys) % 2 ^ 64
unfolding wrapping_mul
sum-scaled s [] = omega arith
sum-scaled s (y ∷ ys) =
    omega (arith, sum-scaled s ys, sum_by-cons (λ k. k) (wrapping_mul s y) (map (wrapping_mul s) ys), sum_by-cons (λ k. k) y ys, mul-add s y (sum ys), ap (λ k. s * k) (sum_by-cons (λ k. k) y ys))

-- the products with a word that stays
pub dot_scaled : (s : ℕ) (n : ℕ) (ys : List ℕ) → length ys ≡ n → wrapping_mul s (wrapping_sum ys) ≡ wrapping_sum (zip2 wrapping_mul (replicate n s) ys)
unfolding wrapping_mul wrapping_sum
dot_scaled s n ys long =
    mul-mod_second s (sum ys) (2 ^ 64) ∙ sym (sum-scaled s ys) ∙ ap wrapping_sum (sym (zip2_splat_left wrapping_mul s n ys long))

zip2-wrapping_mul_comm : (xs ys : List ℕ) → zip2 wrapping_mul xs ys ≡ zip2 wrapping_mul ys xs
unfolding wrapping_mul
zip2-wrapping_mul_comm [] [] = refl
zip2-wrapping_mul_comm [] (y ∷ ys) = refl
zip2-wrapping_mul_comm (x ∷ xs) [] = refl
zip2-wrapping_mul_comm (x ∷ xs) (y ∷ ys) = (λ i. (mul_comm x y i % 2 ^ 64) ∷ zip2-wrapping_mul_comm xs ys i)

module _ (xs : List ℕ) (a a_step b b_step n : ℕ) (some : 0 < n) (a_within : IsWithin (length xs) a a_step n) (b_within : IsWithin (length xs) b b_step n) where
  pub dot_of_parts : (r : ℕ) → a_step ≡ 1 → b_step ≡ 1 → r ≡ wrapping_sum (zip2 wrapping_mul (slice_range xs a (a + n)) (slice_range xs b (b + n))) → r ≡ wrapping_sum (products_along xs a a_step b b_step n)
  dot_of_parts r a_one b_one is = is ∙ (λ i. wrapping_sum (zip2 wrapping_mul (words_along_part xs a a_step n a_one some a_within i) (words_along_part xs b b_step n b_one some b_within i)))

  pub dot_left_still : (r : ℕ) → a_step ≡ 0 → b_step ≡ 1 → r ≡ wrapping_sum (slice_range xs b (b + n)) → wrapping_mul (slice_index xs a) r ≡ wrapping_sum (products_along xs a a_step b b_step n)
  dot_left_still r a_none b_one is =
      ap (wrapping_mul (slice_index xs a)) (is ∙ ap wrapping_sum (words_along_part xs b b_step n b_one some b_within))
      ∙ dot_scaled (slice_index xs a) n (words_along xs b b_step n) (length-words_along xs b b_step n)
      ∙ ap (λ l. wrapping_sum (zip2 wrapping_mul l (words_along xs b b_step n))) (sym (words_along_still xs a a_step n a_none))

  pub dot_right_still : (r : ℕ) → a_step ≡ 1 → b_step ≡ 0 → r ≡ wrapping_sum (slice_range xs a (a + n)) → wrapping_mul (slice_index xs b) r ≡ wrapping_sum (products_along xs a a_step b b_step n)
  dot_right_still r a_one b_none is =
      ap (wrapping_mul (slice_index xs b)) (is ∙ ap wrapping_sum (words_along_part xs a a_step n a_one some a_within))
      ∙ dot_scaled (slice_index xs b) n (words_along xs a a_step n) (length-words_along xs a a_step n)
      ∙ ap (λ l. wrapping_sum (zip2 wrapping_mul l (words_along xs a a_step n))) (sym (words_along_still xs b b_step n b_none))
      ∙ ap wrapping_sum (zip2-wrapping_mul_comm (words_along xs b b_step n) (words_along xs a a_step n))
