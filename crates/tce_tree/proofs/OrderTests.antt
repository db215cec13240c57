-- How a list is told to be an order of a set, number by number.
use Rattle.std.proofs.Common.{◌≡◌, ℕ, zero, suc, ◌<◌, ◌≤◌, true, false, not, ◌&&◌, ◌||◌, eqb, List, [], ◌∷◌, length, get_or, take, refl, sym, ap, ◌∙◌, inl, inr, arith}
use Rattle.std.specs.List.Sorted.{IsPermutation}
use Rattle.std.proofs.lemmas.Bool.{and_from, or_left, or_right, or_cases, true≢false, false≢true, cases_Bool, eq-eqb, eqb-true, not_from_false, false_from_ne_true}
use Rattle.std.proofs.lemmas.List.{get_or_default, take_all}
use Rattle.tce_space.specs.IndexSet.{has, members, with_index, IsIndexSet}
use Rattle.tce_space.proofs.IndexSetLaws.{has-with_same, has-with_other, same_set}
use Rattle.tce_tree.specs.WellFormed.{among, is_distinct}
use Rattle.tce_tree.proofs.Lists.{among_cases, index-among, same_truth, distinct_first, distinct_later, distinct_from}
use Rattle.tce_tree.proofs.Permutations.{permutation_from, distinct-permutation, among-permutation, distinct-members, among-members}

-- one number further
pub among-take_next : (k : ℕ) (xs : List ℕ) (i : ℕ) → k < length xs → among (take (suc k) xs) i ≡ (among (take k xs) i || eqb (get_or xs k 0) i)
among-take_next k [] i l = absurd (omega arith)
among-take_next zero (x ∷ xs) i l = elim (cases_Bool (eqb x i)) [ inl e ↦ rw e refl | inr e ↦ rw e refl ]
among-take_next (suc k) (x ∷ xs) i l =
    elim (cases_Bool (eqb x i)) [
      | inl e ↦ rw e refl
      | inr e ↦ rw e (among-take_next k xs i (omega arith))
    ]

pub distinct-take_next : (k : ℕ) (xs : List ℕ) → k < length xs → is_distinct (take k xs) ≡ true → among (take k xs) (get_or xs k 0) ≡ false → is_distinct (take (suc k) xs) ≡ true
distinct-take_next k [] l d n = absurd (omega arith)
distinct-take_next zero (x ∷ xs) l d n = refl
distinct-take_next (suc k) (x ∷ xs) l d n =
    elim (cases_Bool (eqb x (get_or xs k 0))) [
      | inl e ↦ absurd (true≢false (sym (or_left (eqb x (get_or xs k 0)) (among (take k xs) (get_or xs k 0)) e) ∙ n))
      | inr e ↦
          distinct_from x (take (suc k) xs)
          (among-take_next k xs x (omega arith)
          ∙ rw (distinct_first x (take k xs) d) (false_from_ne_true (eqb (get_or xs k 0) x) (λ q. true≢false (sym (eq-eqb x (get_or xs k 0) (sym (eqb-true (get_or xs k 0) x q))) ∙ e))))
          (distinct-take_next k xs (omega arith) (distinct_later x (take k xs) d) (rw e at n))
    ]

-- a list that repeats a number
repeats : (k : ℕ) (xs : List ℕ) → k < length xs → among (take k xs) (get_or xs k 0) ≡ true → is_distinct xs ≡ true → ⊥
repeats k [] l h d = absurd (omega arith)
repeats zero (x ∷ xs) l h d = false≢true h
repeats (suc k) (x ∷ xs) l h d =
    elim (among_cases x (take k xs) (get_or xs k 0) h) [
      | inl e ↦ true≢false (sym (index-among xs k x (omega arith) (get_or_default xs k x 0 (omega arith) ∙ sym e)) ∙ distinct_first x xs d)
      | inr m ↦ repeats k xs (omega arith) m (distinct_later x xs d)
    ]

-- what has been seen of an order before number `k`
pub record IsSeen (loops seen k : ℕ) (order : List ℕ) : Type 0 where
  pub same : (i : ℕ) → has seen i ≡ among (take k order) i
  pub distinct : is_distinct (take k order) ≡ true
  pub loops_only : (i : ℕ) → has seen i ≡ true → has loops i ≡ true
  pub is_set : IsIndexSet seen

pub no_order : (loops seen k : ℕ) (order : List ℕ) → IsIndexSet loops → IsSeen loops seen k order → k < length order
    → (has loops (get_or order k 0) && not (has seen (get_or order k 0))) ≡ false → IsPermutation (members loops) order → ⊥
no_order loops seen k order set s l f p =
    elim (cases_Bool (has loops (get_or order k 0))) [
      | inr absent ↦ true≢false (sym inside ∙ sym (among-permutation (members loops) order (get_or order k 0) p) ∙ among-members loops (get_or order k 0) set ∙ absent)
      | inl yes_loop ↦ elim (cases_Bool (has seen (get_or order k 0))) [
        | inl twice ↦ repeats k order l (sym (s.same (get_or order k 0)) ∙ twice) (distinct-permutation (members loops) order (distinct-members loops) p)
        | inr new ↦ true≢false (sym (and_from (has loops (get_or order k 0)) (not (has seen (get_or order k 0))) yes_loop (not_from_false (has seen (get_or order k 0)) new)) ∙ f)
      ]
    ]
  where
    inside : among order (get_or order k 0) ≡ true
    inside = index-among order k (get_or order k 0) l (get_or_default order k (get_or order k 0) 0 l)

pub seen_more : (loops seen k : ℕ) (order : List ℕ) (i : ℕ) → i ≡ get_or order k 0 → i < 24 → IsSeen loops seen k order → k < length order → has loops i ≡ true → has seen i ≡ false
    → IsIndexSet (with_index seen i) → IsSeen loops (with_index seen i) (suc k) order
seen_more loops seen k order i e small s l a b set = record {
  same = λ j. same_truth (has (with_index seen i) j) (among (take (suc k) order) j) (there j) (back j);
  distinct = distinct-take_next k order l s.distinct (ap (among (take k order)) (sym e) ∙ sym (s.same i) ∙ b);
  loops_only = λ j h. elim (cases_Bool (eqb j i)) [
    | inl t ↦ ap (has loops) (eqb-true j i t) ∙ a
    | inr t ↦ s.loops_only j (sym (other j t) ∙ h)
  ];
  is_set = set;
}
  where
    other : (j : ℕ) → eqb j i ≡ false → has (with_index seen i) j ≡ has seen j
    other j t = has-with_other seen i j small (λ q. true≢false (sym (eq-eqb j i q) ∙ t))

    there : (j : ℕ) → has (with_index seen i) j ≡ true → among (take (suc k) order) j ≡ true
    there j h =
        among-take_next k order j l
        ∙ elim (cases_Bool (eqb j i)) [
          | inl t ↦ or_right (among (take k order) j) (eqb (get_or order k 0) j) (eq-eqb (get_or order k 0) j (sym e ∙ sym (eqb-true j i t)))
          | inr t ↦ or_left (among (take k order) j) (eqb (get_or order k 0) j) (sym (s.same j) ∙ sym (other j t) ∙ h)
        ]

    back : (j : ℕ) → among (take (suc k) order) j ≡ true → has (with_index seen i) j ≡ true
    back j h =
        elim (or_cases (among (take k order) j) (eqb (get_or order k 0) j) (sym (among-take_next k order j l) ∙ h)) [
          | inl m ↦ elim (cases_Bool (eqb j i)) [
            | inl t ↦ ap (has (with_index seen i)) (eqb-true j i t) ∙ has-with_same seen i small
            | inr t ↦ other j t ∙ s.same j ∙ m
          ]
          | inr q ↦ ap (has (with_index seen i)) (sym (eqb-true (get_or order k 0) j q) ∙ sym e) ∙ has-with_same seen i small
        ]

-- all numbers of the order have been seen: it is one of the loops where they are all of them
pub order_from : (loops seen k : ℕ) (order : List ℕ) → IsIndexSet loops → IsSeen loops seen k order → length order ≤ k → seen ≡ loops → IsPermutation (members loops) order
order_from loops seen k order set s l e =
    permutation_from (members loops) order (distinct-members loops) (ap is_distinct (sym (take_all k order l)) ∙ s.distinct)
    (λ i. among-members loops i set ∙ ap (λ x. has x i) (sym e) ∙ s.same i ∙ ap (λ xs. among xs i) (take_all k order l))

pub order_back : (loops seen k : ℕ) (order : List ℕ) → IsIndexSet loops → IsSeen loops seen k order → length order ≤ k → IsPermutation (members loops) order → seen ≡ loops
order_back loops seen k order set s l p =
    same_set seen loops s.is_set set
    (λ i h. s.same i ∙ ap (λ xs. among xs i) (take_all k order l) ∙ sym (among-permutation (members loops) order i p) ∙ among-members loops i set)
