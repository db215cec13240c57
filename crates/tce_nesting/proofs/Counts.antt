-- How many members sets have.
use Rattle.std.proofs.Common.{◌≡◌, ℕ, suc, zero, ◌+◌, ◌<◌, ◌≤◌, Bool, false, cond, not, ◌&&◌, inl, inr, refl, arith, ◌∙◌, sym, ap, subst, count_by, zero-add}
use Rattle.std.specs.Prelude.{IsTrue}
use Rattle.std.specs.List.{range_with_len}
use Rattle.std.proofs.lemmas.Bool.{cases_Bool, false≢true, both_ways, and_parts, not-true, cases_lt, cases_eq}
use Rattle.std.proofs.lemmas.List.Sums.{sum_by_push}
use Rattle.tce_space.specs.IndexSet.{IsIndexSet, IsWithin, has, count}
use Rattle.tce_space.proofs.IndexSetLaws.{has_below, range_more, count-members}
use Rattle.tce_fusion.specs.StateClasses.{IsInhabited}

-- how many numbers below `n` pass
abbrev count_below : ℕ → (ℕ → Bool) → ℕ
count_below zero p = 0
count_below (suc n) p = count_below n p + cond (p n) 1 0

counted : (n : ℕ) (p : ℕ → Bool) → count_by p (range_with_len 0 n) ≡ count_below n p
counted zero p = refl
counted (suc n) p =
    let step : count_by p (range_with_len 0 (suc n)) ≡ count_by p (range_with_len 0 n) + cond (p n) 1 0 = rw (range_more 0 n, zero-add) (sum_by_push (λ x. cond (p x) 1 0) (range_with_len 0 n) n) in
    step ∙ ap (λ k. k + cond (p n) 1 0) (counted n p)

count_is : (set : ℕ) → count set ≡ count_below 24 (has set)
count_is set = count-members set ∙ counted 24 (has set)

count_below-le : (n : ℕ) (p q : ℕ → Bool) → ((k : ℕ) → IsTrue (p k) → IsTrue (q k)) → count_below n p ≤ count_below n q
count_below-le zero p q within = omega arith
count_below-le (suc n) p q within =
    let rest = count_below-le n p q within in
    elim (cases_Bool (p n)) [
      | inl x ↦ rw (x, within n x) (omega (arith, rest))
      | inr x ↦ rw x (omega (arith, rest, cond_low (q n)))
    ]
  where
    cond_low : (b : Bool) → 0 ≤ cond b 1 0
    cond_low b = omega arith

-- a part that is no smaller is the whole
count_below-same : (n : ℕ) (p q : ℕ → Bool) → ((k : ℕ) → IsTrue (p k) → IsTrue (q k)) → count_below n q ≤ count_below n p → (k : ℕ) → k < n → IsTrue (q k) → IsTrue (p k)
count_below-same zero p q within small k low h = absurd (omega arith)
count_below-same (suc n) p q within small k low h =
    let rest = count_below-le n p q within in
    elim (cases_Bool (p n)) [
      | inl pn ↦
          elim (cases_eq k n) [
            | inl same ↦ subst (λ m. IsTrue (p m)) (sym same) pn
            | inr other ↦ count_below-same n p q within (let s = rw (pn, within n pn) at small in omega (arith, s)) k (omega arith) h
          ]
      | inr fn ↦ elim (cases_Bool (q n)) [
        | inl qn ↦ absurd (let s = rw (fn, qn) at small in omega (arith, s, rest))
        | inr gn ↦ elim (cases_eq k n) [
          | inl same ↦ absurd (both_ways (q n) gn (subst (λ m. IsTrue (q m)) same h))
          | inr other ↦ count_below-same n p q within (let s = rw (fn, gn) at small in omega (arith, s)) k (omega arith) h
        ]
      ]
    ]

-- a set without some of its members is smaller
pub rest_smaller : (rest part left : ℕ) → IsIndexSet part → IsInhabited part → IsWithin part rest → ((i : ℕ) → has left i ≡ (has rest i && not (has part i))) → count left < count rest
rest_smaller rest part left limit some within minus =
    elim (cases_lt (count left) (count rest)) [
      | inl x ↦ x
      | inr x ↦ absurd (some (λ i. none i x))
    ]
  where
    smaller : (k : ℕ) → IsTrue (has left k) → IsTrue (has rest k)
    smaller k h = (and_parts (has rest k) (not (has part k)) (sym (minus k) ∙ h)).0

    none : (i : ℕ) → count rest ≤ count left → has part i ≡ false
    none i same = elim (cases_Bool (has part i)) [
      | inl x ↦
          let kept = count_below-same 24 (has left) (has rest) smaller (rw (count_is rest, count_is left) at same) i (has_below part i limit x) (within i x) in
          not-true (has part i) (and_parts (has rest i) (not (has part i)) (sym (minus i) ∙ kept)).1
      | inr x ↦ x
    ]

pub count-inhabited : (set : ℕ) → IsIndexSet set → IsInhabited set → 0 < count set
count-inhabited set limit some = elim (cases_lt 0 (count set)) [
  | inl x ↦ x
  | inr x ↦ absurd (some (λ i. none i x))
]
  where
    none : (i : ℕ) → count set ≤ 0 → has set i ≡ false
    none i small = elim (cases_Bool (has set i)) [
      | inl h ↦ absurd (false≢true (count_below-same 24 (λ _. false) (has set) (λ k f. absurd (false≢true f)) (rw (count_is set) at small) i (has_below set i limit h) h))
      | inr x ↦ x
    ]
