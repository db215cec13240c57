-- One index more in an order that ascends.
use Rattle.std.proofs.Common.{◌≡◌, ℕ, zero, suc, ◌+◌, ◌-◌, ◌<◌, ◌≤◌, Bool, true, List, [], ◌∷◌, ◌++◌, length, get_or, filter, count_by, All, AllPairs, IsPermutation, insert, slice_index, sym, ap, ◌∙◌, subst, inl, inr, arith}
use Rattle.std.specs.List.{range_with_len}
use Rattle.std.proofs.lemmas.Bool.{cases_eq, cases_order}
use Rattle.std.proofs.lemmas.List.{get_or_default}
use Rattle.std.proofs.lemmas.List.Edits.{get_or-insert_at, get_or-insert_below, get_or-insert_above, length-insert}
use Rattle.std.proofs.lemmas.List.Elements.{All-filter}
use Rattle.std.proofs.lemmas.List.FromFn.{get_or-range_with_len, length-range_with_len}
use Rattle.std.proofs.lemmas.List.Sorted.{IsPermutation-to_front, IsPermutation-cons, IsPermutation-insert, IsPermutation-trans, length_permutation, All-permutation}
use Rattle.std.proofs.lemmas.List.Sums.{length-filter}
use Rattle.tce_space.specs.IndexSet.{has, members, count}
use Rattle.tce_space.proofs.IndexSetLaws.{count-range_more, count-range_yes, count-members}
use Rattle.tce_space.proofs.Ranges.{filter_one}
use Rattle.tce_fusion.specs.Scope.{StandsBefore}

all_in_range : (n : ℕ) → All (λ x. x < n) (range_with_len 0 n)
all_in_range n k d l =
    let m : k < n = omega (arith, length-range_with_len 0 n) in
    omega (arith, get_or-range_with_len 0 n k d m)

-- the numbers of an order lie below the bound
pub order_below : (p : ℕ → Bool) (n : ℕ) (order : List ℕ) → IsPermutation (filter p (range_with_len 0 n)) order → All (λ x. x < n) order
order_below p n order perm = All-permutation (λ x. x < n) (filter p (range_with_len 0 n)) order perm (All-filter p (λ x. x < n) (range_with_len 0 n) (all_in_range n))

pub members_below : (set : ℕ) (order : List ℕ) → IsPermutation (members set) order → All (λ x. x < 24) order
unfolding members
members_below set order perm = order_below (has set) 24 order perm

count_grows : (p : ℕ → Bool) (a b : ℕ) → count_by p (range_with_len 0 a) ≤ count_by p (range_with_len 0 (a + b))
count_grows p a zero = omega (arith, ap (λ k. count_by p (range_with_len 0 k)) same)
  where
    same : a ≡ a + 0
    same = omega arith
count_grows p a (suc b) =
    omega (arith, count_grows p a b, count-range_more p (a + b), ap (λ k. count_by p (range_with_len 0 k)) next)
  where
    next : a + suc b ≡ a + b + 1
    next = omega arith

-- there is room for one more
pub order_room : (set i : ℕ) (order : List ℕ) → i < 24 → has set i ≡ true → count set ≤ 10 → IsPermutation (filter (has set) (range_with_len 0 i)) order → length order < 10
order_room set i order l h few perm =
    let grows : count_by (has set) (range_with_len 0 (i + 1)) ≤ count_by (has set) (range_with_len 0 (i + 1 + (24 - (i + 1)))) = count_grows (has set) (i + 1) (24 - (i + 1)) in
    let whole : count_by (has set) (range_with_len 0 (i + 1 + (24 - (i + 1)))) ≡ count_by (has set) (range_with_len 0 24) = ap (λ k. count_by (has set) (range_with_len 0 k)) (full l) in
    omega (arith, grows, whole, count-range_yes (has set) i h, count-members set, length_permutation (filter (has set) (range_with_len 0 i)) order perm, length-filter (has set) (range_with_len 0 i))
  where
    full : i < 24 → i + 1 + (24 - (i + 1)) ≡ 24
    full l = omega arith

pub insert_permutes : (p : ℕ → Bool) (i place : ℕ) (order : List ℕ) → p i ≡ true → IsPermutation (filter p (range_with_len 0 i)) order
    → IsPermutation (filter p (range_with_len 0 (i + 1))) (insert order place i)
insert_permutes p i place order h perm =
    rw (filter_one p i h)
    (IsPermutation-trans (filter p (range_with_len 0 i) ++ i ∷ []) (i ∷ filter p (range_with_len 0 i)) (insert order place i)
    (IsPermutation-to_front (filter p (range_with_len 0 i)) i)
    (IsPermutation-trans (i ∷ filter p (range_with_len 0 i)) (i ∷ order) (insert order place i)
    (IsPermutation-cons i (filter p (range_with_len 0 i)) order perm)
    (IsPermutation-insert order place i)))

moved : (xs : List ℕ) (place y k d : ℕ) → place < k → place ≤ length xs → get_or (insert xs place y) k d ≡ get_or xs (k - 1) d
moved xs place y k d l inside = ap (λ n. get_or (insert xs place y) n d) split ∙ get_or-insert_above xs place y d (k - 1) (omega arith) inside
  where
    split : k ≡ k - 1 + 1
    split = omega arith

-- where the new number is in R to what lies behind its place, and what lies before is in R to it
pub AllPairs-insert : (R : ℕ → ℕ → Type 0) (xs : List ℕ) (place y : ℕ) → place ≤ length xs → AllPairs R xs
    → ((k : ℕ) (d : ℕ) → k < place → R (get_or xs k d) y) → ((k : ℕ) (d : ℕ) → place ≤ k → k < length xs → R y (get_or xs k d))
    → AllPairs R (insert xs place y)
AllPairs-insert R xs place y inside pairs before behind i j d l m =
    let n : length (insert xs place y) ≡ length xs + 1 = length-insert xs place y inside in
    elim (cases_order i place) [
      | inl e ↦
          subst (λ v. R v (get_or (insert xs place y) j d)) (sym (ap (λ k. get_or (insert xs place y) k d) e ∙ get_or-insert_at xs place y d inside))
          (subst (λ v. R y v) (sym (moved xs place y j d (omega arith) inside)) (behind (j - 1) d (omega arith) (omega arith)))
      | inr c ↦ elim c [
        | inl a ↦
            subst (λ v. R v (get_or (insert xs place y) j d)) (sym (get_or-insert_below xs place y d i a inside))
            (elim (cases_order j place) [
              | inl e ↦ subst (λ v. R (get_or xs i d) v) (sym (ap (λ k. get_or (insert xs place y) k d) e ∙ get_or-insert_at xs place y d inside)) (before i d a)
              | inr b ↦ elim b [
                | inl f ↦ subst (λ v. R (get_or xs i d) v) (sym (get_or-insert_below xs place y d j f inside)) (pairs i j d l (omega arith))
                | inr g ↦ subst (λ v. R (get_or xs i d) v) (sym (moved xs place y j d g inside)) (pairs i (j - 1) d (omega arith) (omega arith))
              ]
            ])
        | inr a ↦
            subst (λ v. R v (get_or (insert xs place y) j d)) (sym (moved xs place y i d a inside))
            (subst (λ v. R (get_or xs (i - 1) d) v) (sym (moved xs place y j d (omega arith) inside)) (pairs (i - 1) (j - 1) d (omega arith) (omega arith)))
      ]
    ]

-- the new index goes behind those whose scopes are as large
pub insert_precedes : (size_of : ℕ → ℕ) (i size place : ℕ) (order : List ℕ) → size ≡ size_of i
    → place ≤ length order → All (λ x. x < i) order → AllPairs (StandsBefore size_of) order
    → ((k : ℕ) → k < place → size ≤ size_of (slice_index order k))
    → (place < length order → size_of (slice_index order place) < size)
    → AllPairs (StandsBefore size_of) (insert order place i)
insert_precedes size_of i size place order is inside below pairs before behind =
    AllPairs-insert (StandsBefore size_of) order place i inside pairs earlier later
  where
    earlier : (k d : ℕ) → k < place → StandsBefore size_of (get_or order k d) i
    earlier k d l =
        subst (λ x. StandsBefore size_of x i) (get_or_default order k 0 d (omega arith))
        (first (before k l) (below k 0 (omega arith)))
      where
        first : size ≤ size_of (get_or order k 0) → get_or order k 0 < i → StandsBefore size_of (get_or order k 0) i
        first ge lt = elim (cases_eq (size_of (get_or order k 0)) (size_of i)) [
          | inl e ↦ inr (e, lt)
          | inr ne ↦ inl (omega arith)
        ]

    later : (k d : ℕ) → place ≤ k → k < length order → StandsBefore size_of i (get_or order k d)
    later k d g l =
        subst (λ x. StandsBefore size_of i x) (get_or_default order k 0 d l)
        (inl (smaller (behind (omega arith))))
      where
        smaller : size_of (get_or order place 0) < size → size_of (get_or order k 0) < size_of i
        smaller s = elim (cases_eq place k) [
          | inl e ↦ omega (arith, ap (λ n. size_of (get_or order n 0)) e)
          | inr ne ↦ elim (pairs place k 0 (omega arith) l) [
            | inl a ↦ omega arith
            | inr a ↦ omega (arith, a.0)
          ]
        ]
