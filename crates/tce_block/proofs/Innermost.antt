-- Innermost loops, each one run of words.
use Rattle.std.proofs.Common.{◌≡◌, ◌≢◌, ◌∙◌, sym, ap, ℕ, zero, suc, ◌+◌, ◌-◌, ◌*◌, ◌<◌, ◌≤◌, ◌⊎◌, inl, inr, eqb, if◌then◌else◌, List, [], ◌∷◌, map, set, length, slice_index, arith}
use mathlib.Core.Path.{fun_ext}
use Rattle.std.specs.List.{range_with_len, fold}
use Rattle.std.specs.Simd.Lanes.{zip2}
use Rattle.std.proofs.Math.Nat.{mul-le-mul_right}
use Rattle.std.proofs.lemmas.Bool.{cases_eq, cases_lt, eq-eqb, ne_eqb}
use Rattle.std.proofs.lemmas.Simd.{zip2-map}
use Rattle.std.proofs.lemmas.List.{get_or-set_other, get_or-set_same, length-set}
use Rattle.tce_base.specs.Word.{wrapping_add, wrapping_mul, wrapping_sum}
use Rattle.tce_space.specs.Box.{places}
use Rattle.tce_words.specs.Run.{IsWithin, AreApart as RunsAreApart, IsRun, word_along, words_along}
use Rattle.tce_block.specs.Places.{word_place, AreWithin, AreApart}
use Rattle.tce_space.specs.declared.arithmetic.Arithmetic.{Arithmetic}
use Rattle.tce_block.specs.Turns.{IsMade, word_after, grown, grown_by_products, operate, computed}
use Rattle.tce_block.proofs.Folds.{after_range, fold_single, range_idle, range_once, range_every, range_last, range_sum}

pub place_along : (base step t : ℕ) → word_place base (step ∷ []) (t ∷ []) ≡ base + t * step
place_along base step t = omega arith

pub run_within : (count n base step : ℕ) → AreWithin count (n ∷ []) (word_place base (step ∷ [])) → IsWithin count base step n
run_within count n base step h = λ t lt. omega (arith, h (t ∷ []) (lt, tt))

pub run_apart : (n base step other other_step : ℕ) → AreApart (n ∷ []) (word_place base (step ∷ [])) (word_place other (other_step ∷ [])) → RunsAreApart base step other other_step n
run_apart n base step other other_step h = λ s t low lt same. h (s ∷ []) (t ∷ []) (low, tt) (lt, tt) (place_along base step s ∙ same ∙ sym (place_along other other_step t))

pub moves : (base step s t : ℕ) → 0 < step → s ≢ t → base + s * step ≢ base + t * step
moves base step s t some ne same =
    elim (cases_lt s t) [
      | inl below ↦ let more : (s + 1) * step ≤ t * step = mul-le-mul_right step (omega arith) in omega (arith, more, same)
      | inr above ↦ let past : t + 1 ≤ s = omega (arith, ne) in let more : (t + 1) * step ≤ s * step = mul-le-mul_right step past in omega (arith, more, same)
    ]

-- whether a run has a place
met : (base step k n : ℕ) → ((t : ℕ) × (t < n) × (base + t * step ≡ k)) ⊎ ((t : ℕ) → t < n → k ≢ base + t * step)
met base step k zero = inr (λ t lt same. omega arith)
met base step k (suc n) =
    elim (cases_eq (base + n * step) k) [
      | inl here ↦ inl (n, omega arith, here)
      | inr other ↦ elim (met base step k n) [
        | inl found ↦ inl (found.0, omega (arith, found.1), found.2)
        | inr none ↦ inr (λ t lt same. elim (cases_eq t n) [
          | inl last ↦ other (ap (λ s. base + s * step) (sym last) ∙ sym same)
          | inr before ↦ none t (let ne : t ≢ n = before in omega arith) same
        ])
      ]
    ]

after_one : (word : ℕ → List ℕ → ℕ) (out step n k w : ℕ)
    → word_after word (word_place out (step ∷ [])) k w (places (n ∷ [])) ≡ after_range (λ v x. word v (x ∷ [])) (λ x. word_place out (step ∷ []) (x ∷ [])) k w 0 n
after_one word out step n k w = fold_single (λ v xs. if eqb (word_place out (step ∷ []) xs) k then word v xs else v) w 0 n

-- a loop that moves
pub made_by_run : (f : ℕ → ℕ) (word : ℕ → List ℕ → ℕ) (out step n : ℕ) (old new : List ℕ) → 0 < step → IsRun f out step n old new
    → ((t : ℕ) → f t ≡ word (slice_index old (out + t * step)) (t ∷ []))
    → IsMade word (word_place out (step ∷ [])) (places (n ∷ [])) old new
made_by_run f word out step n old new some run is = record {
  same_length = run.same_length;
  made = λ k lt.
      elim (met out step k n) [
        | inl found ↦
            ap (slice_index new) (sym found.2) ∙ run.made found.0 found.1 ∙ is found.0
            ∙ ap (λ j. word (slice_index old j) (found.0 ∷ [])) found.2
            ∙ sym (range_once (λ v x. word v (x ∷ [])) (λ x. word_place out (step ∷ []) (x ∷ [])) k (slice_index old k) found.0 0 n (omega arith) (omega (arith, found.1))
            (place_along out step found.0 ∙ found.2)
            (λ s ne same. moves out step s found.0 some ne (sym (place_along out step s) ∙ same ∙ sym found.2)))
            ∙ sym (after_one word out step n k (slice_index old k))
        | inr none ↦
            run.others k none
            ∙ sym (range_idle (λ v x. word v (x ∷ [])) (λ x. word_place out (step ∷ []) (x ∷ [])) k (slice_index old k) 0 n
            (λ s from below same. none s (omega arith) (sym same ∙ place_along out step s)))
            ∙ sym (after_one word out step n k (slice_index old k))
      ];
}

-- a loop that stays at one place
pub made_at_one : (word : ℕ → List ℕ → ℕ) (out step n v : ℕ) (old new : List ℕ) → step ≡ 0 → out < length old → new ≡ set old out v
    → v ≡ fold (λ w x. word w (x ∷ [])) (slice_index old out) (range_with_len 0 n)
    → IsMade word (word_place out (step ∷ [])) (places (n ∷ [])) old new
made_at_one word out step n v old new none inside put is = record {
  same_length = ap length put ∙ length-set old out v;
  made = λ k lt.
      let stays : (s : ℕ) → word_place out (step ∷ []) (s ∷ []) ≡ out = λ s. rw none (omega arith) in
      ap (λ xs. slice_index xs k) put
      ∙ elim (cases_eq k out) [
        | inl here ↦
            ap (slice_index (set old out v)) here ∙ get_or-set_same old out v 0 inside ∙ is
            ∙ ap (λ j. fold (λ w x. word w (x ∷ [])) (slice_index old j) (range_with_len 0 n)) (sym here)
            ∙ sym (range_every (λ w x. word w (x ∷ [])) (λ x. word_place out (step ∷ []) (x ∷ [])) k (slice_index old k) 0 n (λ s. stays s ∙ sym here))
            ∙ sym (after_one word out step n k (slice_index old k))
        | inr other ↦
            get_or-set_other old out k v 0 other
            ∙ sym (range_idle (λ w x. word w (x ∷ [])) (λ x. word_place out (step ∷ []) (x ∷ [])) k (slice_index old k) 0 n (λ s from below same. other (sym same ∙ stays s)))
            ∙ sym (after_one word out step n k (slice_index old k))
      ];
}

-- no loop
pub made_once : (word : ℕ → List ℕ → ℕ) (out v : ℕ) (old new : List ℕ) → out < length old → new ≡ set old out v → v ≡ word (slice_index old out) []
    → IsMade word (word_place out []) (places []) old new
made_once word out v old new inside put is = record {
  same_length = ap length put ∙ length-set old out v;
  made = λ k lt.
      let stays : out + 0 ≡ out = omega arith in
      ap (λ xs. slice_index xs k) put
      ∙ elim (cases_eq k out) [
        | inl here ↦
            ap (slice_index (set old out v)) here ∙ get_or-set_same old out v 0 inside ∙ is
            ∙ ap (λ j. word (slice_index old j) []) (sym here)
            ∙ ap (λ b. if b then word (slice_index old k) [] else slice_index old k) (sym (eq-eqb (out + 0) k (stays ∙ sym here)))
        | inr other ↦
            get_or-set_other old out k v 0 other
            ∙ ap (λ b. if b then word (slice_index old k) [] else slice_index old k) (sym (ne_eqb (out + 0) k (λ same. other (sym same ∙ stays))))
      ];
}

-- the sum of the words along a run, and of products
pub sum_along : (xs : List ℕ) (a step n w : ℕ) → 0 < n
    → wrapping_add w (wrapping_sum (words_along xs a step n)) ≡ fold (λ v x. grown xs (word_place a (step ∷ [])) v (x ∷ [])) w (range_with_len 0 n)
sum_along xs a step n w some =
    ap (λ f. wrapping_add w (wrapping_sum (map f (range_with_len 0 n)))) (fun_ext (λ t. ap (slice_index xs) (sym (place_along a step t))))
    ∙ sym (range_sum (λ t. slice_index xs (word_place a (step ∷ []) (t ∷ []))) w 0 n some)

pub products_along : (xs : List ℕ) (a step b b_step n w : ℕ) → 0 < n
    → wrapping_add w (wrapping_sum (zip2 wrapping_mul (words_along xs a step n) (words_along xs b b_step n)))
    ≡ fold (λ v x. grown_by_products xs (word_place a (step ∷ [])) (word_place b (b_step ∷ [])) v (x ∷ [])) w (range_with_len 0 n)
products_along xs a step b b_step n w some =
    ap (λ ys. wrapping_add w (wrapping_sum ys)) (zip2-map wrapping_mul (word_along xs a step) (word_along xs b b_step) (range_with_len 0 n))
    ∙ ap (λ f. wrapping_add w (wrapping_sum (map f (range_with_len 0 n))))
    (fun_ext (λ t. ap (λ k. wrapping_mul (slice_index xs k) (slice_index xs (b + t * b_step))) (sym (place_along a step t)) ∙ ap (λ k. wrapping_mul (slice_index xs (word_place a (step ∷ []) (t ∷ []))) (slice_index xs k)) (sym (place_along b b_step t))))
    ∙ sym (range_sum (λ t. wrapping_mul (slice_index xs (word_place a (step ∷ []) (t ∷ []))) (slice_index xs (word_place b (b_step ∷ []) (t ∷ [])))) w 0 n some)

-- the operation's word at the last turn
pub last_along : (operation : Arithmetic) (xs : List ℕ) (a step b b_step n w : ℕ) → 0 < n
    → operate operation (slice_index xs (a + (n - 1) * step)) (slice_index xs (b + (n - 1) * b_step))
    ≡ fold (λ v x. computed operation xs (word_place a (step ∷ [])) (word_place b (b_step ∷ [])) v (x ∷ [])) w (range_with_len 0 n)
last_along operation xs a step b b_step n w some =
    let f = λ (t : ℕ). operate operation (slice_index xs (word_place a (step ∷ []) (t ∷ []))) (slice_index xs (word_place b (b_step ∷ []) (t ∷ []))) in
    let last : n - 1 ≡ 0 + (n - 1) = omega arith in
    ap (λ k. operate operation (slice_index xs k) (slice_index xs (b + (n - 1) * b_step))) (sym (place_along a step (n - 1)))
    ∙ ap (λ k. operate operation (slice_index xs (word_place a (step ∷ []) ((n - 1) ∷ []))) (slice_index xs k)) (sym (place_along b b_step (n - 1)))
    ∙ ap f last ∙ sym (range_last f w 0 n some)

-- two words at places that are the same
pub at_both : (f : ℕ → ℕ → ℕ) (xs : List ℕ) (a step b b_step t : ℕ)
    → f (slice_index xs (a + t * step)) (slice_index xs (b + t * b_step)) ≡ f (slice_index xs (word_place a (step ∷ []) (t ∷ []))) (slice_index xs (word_place b (b_step ∷ []) (t ∷ [])))
at_both f xs a step b b_step t =
    ap (λ k. f (slice_index xs k) (slice_index xs (b + t * b_step))) (sym (place_along a step t))
    ∙ ap (λ k. f (slice_index xs (word_place a (step ∷ []) (t ∷ []))) (slice_index xs k)) (sym (place_along b b_step t))

pub no_step : (base : ℕ) → base ≡ word_place base [] []
no_step base = omega arith

pub first_within : (count n base step : ℕ) → 0 < n → AreWithin count (n ∷ []) (word_place base (step ∷ [])) → base < count
first_within count n base step some h = omega (arith, h (0 ∷ []) (some, tt))

pub last_within : (count n base step : ℕ) → 0 < n → AreWithin count (n ∷ []) (word_place base (step ∷ [])) → base + (n - 1) * step < count
last_within count n base step some h = omega (arith, h ((n - 1) ∷ []) (omega arith, tt))
