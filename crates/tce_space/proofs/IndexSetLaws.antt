-- What the operations on sets of indexes say of their members.
use Rattle.std.proofs.Common.{◌≡◌, ℕ, zero, suc, ◌+◌, ◌-◌, ◌*◌, ◌%◌, ◌^◌, ◌<◌, ◌≤◌, Bool, true, false, not, cond, ◌&&◌, ◌||◌, eqb, min, max, ◌⊎◌, inl, inr, refl, sym, ap, ◌∙◌, one-mul, mod-eq_of_lt, arith, List, [], ◌∷◌, length, bit_and, mod-lt}
use Rattle.std.proofs.Common.{bit_or}
use Rattle.std.specs.Int.{bit_at, bit_not}
use Rattle.std.specs.List.{fold, range_with_len, count_by, AllByRecursion}
use Rattle.std.proofs.Common.{All, Contains, get_or}
use Rattle.std.proofs.lemmas.Bool.{cases_eq}
use Rattle.std.proofs.lemmas.List.Elements.{recursion_from_All, All-contains}
use Rattle.std.proofs.Common.{add-one, add-zero, zero-add, ◌++◌}
use Rattle.std.proofs.lemmas.List.Sums.{sum_by_push, length-filter}
use Rattle.tce_space.specs.IndexSet.{count, members}
use Rattle.std.proofs.Common.{w32}
use Rattle.std.proofs.lemmas.Nat.Bits.{bit_at_or, bit_at_xor, bit_at_and, bit_at_not, bit_at-lt, bit_at-pow_same, bit_at-pow_other, same_from_bits_below, bit_at_above, bit_at-zero}
use Rattle.std.proofs.Common.{eqb-true, eq-eqb, ◌↔◌}
use Rattle.tce_space.specs.IndexSet.{IsWithin}
use Rattle.std.proofs.lemmas.Bool.{and_parts, cases_Bool, cases_lt, or_right, true≢false, false≢true}
use lib.Pow.{pow-lt}
use Rattle.std.proofs.Common.{lt_of_le_of_lt}
use Rattle.std.proofs.lemmas.Nat.{and_le_l, or_lt, xor_lt}
use Rattle.tce_space.specs.IndexSet.{has, union, meet, minus, with_index, set_of, IsIndexSet}

pub pow_below : (k : ℕ) → k < 24 → 2 ^ k < 2 ^ 24
pow_below k h = pow-lt h

pub one_shl : (k : ℕ) → k < 24 → 1 * 2 ^ k % 2 ^ 32 ≡ 2 ^ k
one_shl k h = rw one-mul (mod-eq_of_lt (omega (arith, pow_below k h)))

-- a bit is 0 or 1, so tests on bits are tests on the least and the greatest
pub bit_cases : (b : ℕ) → b < 2 → (b ≡ 0) ⊎ (b ≡ 1)
bit_cases zero l = inl refl
bit_cases (suc zero) l = inr refl
bit_cases (suc (suc n)) l = absurd (omega arith)

test_max : (a b : ℕ) → a < 2 → b < 2 → eqb (max a b) 1 ≡ (eqb a 1 || eqb b 1)
test_max a b p q =
    elim (bit_cases a p) [
      | inl x ↦ elim (bit_cases b q) [ inl y ↦ rw (x, y) | inr y ↦ rw (x, y) ]
      | inr x ↦ elim (bit_cases b q) [ inl y ↦ rw (x, y) | inr y ↦ rw (x, y) ]
    ]

test_min : (a b : ℕ) → a < 2 → b < 2 → eqb (min a b) 1 ≡ (eqb a 1 && eqb b 1)
test_min a b p q =
    elim (bit_cases a p) [
      | inl x ↦ elim (bit_cases b q) [ inl y ↦ rw (x, y) | inr y ↦ rw (x, y) ]
      | inr x ↦ elim (bit_cases b q) [ inl y ↦ rw (x, y) | inr y ↦ rw (x, y) ]
    ]

test_flip : (b : ℕ) → b < 2 → eqb (1 - b) 1 ≡ not (eqb b 1)
test_flip b q = elim (bit_cases b q) [ inl y ↦ rw y | inr y ↦ rw y ]

pub has-union : (a b i : ℕ) → has (union a b) i ≡ (has a i || has b i)
unfolding has union
has-union a b i = ap (λ x. eqb x 1) (bit_at_or a b i) ∙ test_max _ _ (bit_at-lt a i) (bit_at-lt b i)

pub has-meet : (a b i : ℕ) → has (meet a b) i ≡ (has a i && has b i)
unfolding has meet
has-meet a b i = ap (λ x. eqb x 1) (bit_at_and a b i) ∙ test_min _ _ (bit_at-lt a i) (bit_at-lt b i)

-- beyond the limit no set has a member
pub has-beyond : (a i : ℕ) → IsIndexSet a → 24 ≤ i → has a i ≡ false
unfolding has
has-beyond a i s h = ap (λ x. eqb x 1) (bit_at_above a 24 i s h)

pub has-empty : (i : ℕ) → has 0 i ≡ false
unfolding has
has-empty i = ap (λ x. eqb x 1) (bit_at-zero i)

test_without : (a b : ℕ) → a < 2 → b < 2 → eqb ((a + min a b) % 2) 1 ≡ (eqb a 1 && not (eqb b 1))
test_without a b p q =
    elim (bit_cases a p) [
      | inl x ↦ elim (bit_cases b q) [ inl y ↦ rw (x, y) | inr y ↦ rw (x, y) ]
      | inr x ↦ elim (bit_cases b q) [ inl y ↦ rw (x, y) | inr y ↦ rw (x, y) ]
    ]

pub has-minus : (a b i : ℕ) → has (minus a b) i ≡ (has a i && not (has b i))
unfolding has minus
has-minus a b i =
    ap (λ x. eqb x 1) (bit_at_xor a (bit_and a b) i ∙ ap (λ x. (bit_at a i + x) % 2) (bit_at_and a b i))
    ∙ test_without _ _ (bit_at-lt a i) (bit_at-lt b i)

and_not_below : (a b i : ℕ) → IsIndexSet b → i < 24 → eqb (bit_at (bit_and a (bit_not w32 b)) i) 1 ≡ (has a i && not (has b i))
unfolding has
and_not_below a b i q l =
    ap (λ x. eqb x 1) (bit_at_and a (bit_not w32 b) i ∙ ap (λ x. min (bit_at a i) x) (bit_at_not w32 b i (omega arith) (omega arith)))
    ∙ test_min (bit_at a i) (1 - bit_at b i) (bit_at-lt a i) (omega arith)
    ∙ ap (λ x. eqb (bit_at a i) 1 && x) (test_flip (bit_at b i) (bit_at-lt b i))

pub and_lt : (a b : ℕ) → IsIndexSet a → IsIndexSet (bit_and a b)
and_lt a b p = lt_of_le_of_lt (and_le_l a b) p

pub minus_lt : (a b : ℕ) → IsIndexSet a → IsIndexSet (minus a b)
unfolding minus
minus_lt a b p = xor_lt 24 a (bit_and a b) p (and_lt a b p)

pub pow_in_limit : (i : ℕ) → i < 24 → 2 ^ i % 2 ^ 24 ≡ 2 ^ i
pow_in_limit i h = mod-eq_of_lt (pow_below i h)

pub has-with_same : (a i : ℕ) → i < 24 → has (with_index a i) i ≡ true
unfolding has with_index
has-with_same a i h =
    rw (pow_in_limit i h)
    (ap (λ x. eqb x 1) (bit_at_or a (2 ^ i) i ∙ ap (λ x. max (bit_at a i) x) (bit_at-pow_same i))
    ∙ test_max (bit_at a i) 1 (bit_at-lt a i) (omega arith) ∙ or_right (eqb (bit_at a i) 1) true refl)

pub has-with_other : (a i j : ℕ) → i < 24 → (j ≡ i → ⊥) → has (with_index a i) j ≡ has a j
unfolding has with_index
has-with_other a i j h ne =
    rw (pow_in_limit i h)
    (ap (λ x. eqb x 1) (bit_at_or a (2 ^ i) j ∙ ap (λ x. max (bit_at a j) x) (bit_at-pow_other i j ne)) ∙ ap (λ x. eqb x 1) max_zero)
  where
    max_zero : max (bit_at a j) 0 ≡ bit_at a j
    max_zero = omega arith

-- what each operation gives is a set of indexes
pub union_lt : (a b : ℕ) → IsIndexSet a → IsIndexSet b → IsIndexSet (union a b)
unfolding union
union_lt a b p q = or_lt 24 a b p q

pub with_lt : (a i : ℕ) → IsIndexSet a → IsIndexSet (with_index a i)
unfolding with_index
with_lt a i p = or_lt 24 a (2 ^ i % 2 ^ 24) p (mod-lt (2 ^ i) (omega arith))

all_with_lt : (a : ℕ) (is : List ℕ) → IsIndexSet a → IsIndexSet (fold with_index a is)
all_with_lt a [] p = p
all_with_lt a (i ∷ is) p = all_with_lt (with_index a i) is (with_lt a i p)

pub set_of_lt : (is : List ℕ) → IsIndexSet (set_of is)
set_of_lt is = all_with_lt 0 is (omega arith)

-- a member is a number below the limit
pub has_below : (a i : ℕ) → IsIndexSet a → has a i ≡ true → i < 24
has_below a i p h = elim (cases_lt i 24) [ inl l ↦ l | inr g ↦ absurd (false≢true (sym (has-beyond a i p g) ∙ h)) ]

pub same_bit : (a b : ℕ) → a < 2 → b < 2 → eqb a 1 ≡ eqb b 1 → a ≡ b
same_bit a b p q e =
    elim (bit_cases a p) [
      | inl x ↦ elim (bit_cases b q) [ inl y ↦ x ∙ sym y | inr y ↦ absurd (false≢true (rw (x, y) at e)) ]
      | inr x ↦ elim (bit_cases b q) [ inl y ↦ absurd (true≢false (rw (x, y) at e)) | inr y ↦ x ∙ sym y ]
    ]

-- sets with the same members are equal
pub same_set : (a b : ℕ) → IsIndexSet a → IsIndexSet b → ((i : ℕ) → i < 24 → has a i ≡ has b i) → a ≡ b
unfolding has
same_set a b p q h = same_from_bits_below 24 a b p q (λ i l. same_bit _ _ (bit_at-lt a i) (bit_at-lt b i) (h i l))

has-and_not : (a b i : ℕ) → IsIndexSet b → i < 24 → has (bit_and a (bit_not w32 b)) i ≡ has (minus a b) i
unfolding has
has-and_not a b i q l = and_not_below a b i q l ∙ sym (has-minus a b i)

-- how a program computes `minus`
pub and_not-is : (a b : ℕ) → IsIndexSet a → IsIndexSet b → bit_and a (bit_not w32 b) ≡ minus a b
and_not-is a b p q = same_set _ _ (and_lt a _ p) (minus_lt a b p) (λ i l. has-and_not a b i q l)

-- the test that a program makes
pub meet_same-is : (a b : ℕ) → IsIndexSet a → (eqb (bit_and a b) a ≡ true) ↔ IsWithin a b
unfolding meet
meet_same-is a b p = (
  (λ e i h. (and_parts (has a i) (has b i) (sym (has-meet a b i) ∙ ap (λ s. has s i) (eqb-true _ _ e) ∙ h)).1),
  (λ f. eq-eqb _ _ (same_set (bit_and a b) a (and_lt a b p) p (λ i l. has-meet a b i ∙ kept i (f i)))),
)
  where
    kept : (i : ℕ) → (has a i ≡ true → has b i ≡ true) → (has a i && has b i) ≡ has a i
    kept i g = elim (cases_Bool (has a i)) [
      | inl t ↦ rw (t, g t) refl
      | inr e ↦ rw e refl
    ]

-- one number more in a range, as in a loop
pub range_more : (a n : ℕ) → range_with_len a (suc n) ≡ range_with_len a n ++ (a + n) ∷ []
range_more a zero = ap (λ k. k ∷ []) (sym (add-zero a))
range_more a (suc n) = ap (λ xs. a ∷ xs) (range_more (a + 1) n ∙ ap (λ k. range_with_len (a + 1) n ++ k ∷ []) shift)
  where
    shift : a + 1 + n ≡ a + suc n
    shift = omega arith

pub count-range_more : (p : ℕ → Bool) (n : ℕ) → count_by p (range_with_len 0 (n + 1)) ≡ count_by p (range_with_len 0 n) + cond (p n) 1 0
count-range_more p n =
    rw (add-one, range_more 0 n, zero-add) (sum_by_push (λ x. cond (p x) 1 0) (range_with_len 0 n) n)

pub count-members : (set : ℕ) → count set ≡ count_by (has set) (range_with_len 0 24)
unfolding count members
count-members set = length-filter (has set) (range_with_len 0 24)

pub count-range_yes : (p : ℕ → Bool) (n : ℕ) → p n ≡ true → count_by p (range_with_len 0 (n + 1)) ≡ count_by p (range_with_len 0 n) + 1
count-range_yes p n h = count-range_more p n ∙ ap (λ b. count_by p (range_with_len 0 n) + cond b 1 0) h

pub count-range_no : (p : ℕ → Bool) (n : ℕ) → p n ≡ false → count_by p (range_with_len 0 (n + 1)) ≡ count_by p (range_with_len 0 n)
count-range_no p n h = count-range_more p n ∙ ap (λ b. count_by p (range_with_len 0 n) + cond b 1 0) h ∙ add-zero _

-- the members of the set of a list
has-all_with : (a : ℕ) (is : List ℕ) (i : ℕ) → i < 24 → AllByRecursion (λ x. x < 24) is
    → (has (fold with_index a is) i ≡ true → (has a i ≡ true) ⊎ Contains is i) × ((has a i ≡ true) ⊎ Contains is i → has (fold with_index a is) i ≡ true)
has-all_with a [] i l f = (λ h. inl h, λ c. elim c [ inl h ↦ h | inr k ↦ absurd (omega (arith, k.1)) ])
has-all_with a (x ∷ is) i l f =
    let r = has-all_with (with_index a x) is i l f.1 in (
      (λ h. elim (r.0 h) [
        | inl g ↦ elim (cases_eq i x) [
          | inl e ↦ inr (0, omega arith, sym e)
          | inr ne ↦ inl (sym (has-with_other a x i f.0 ne) ∙ g)
        ]
        | inr k ↦ inr (suc k.0, omega (arith, k.1), k.2)
      ]),
      (λ c. elim c [
        | inl g ↦ elim (cases_eq i x) [
          | inl e ↦ r.1 (inl (ap (has (with_index a x)) e ∙ has-with_same a x f.0))
          | inr ne ↦ r.1 (inl (has-with_other a x i f.0 ne ∙ g))
        ]
        | inr k ↦ later k.0 k.1 k.2 r.1
      ]),
    )
  where
    later : (k : ℕ) → k < length (x ∷ is) → get_or (x ∷ is) k i ≡ i
        → ((has (with_index a x) i ≡ true) ⊎ Contains is i → has (fold with_index (with_index a x) is) i ≡ true) → has (fold with_index (with_index a x) is) i ≡ true
    later zero m e back = back (inl (ap (has (with_index a x)) (sym e) ∙ has-with_same a x f.0))
    later (suc k) m e back = back (inr (k, omega arith, e))

pub has-set_of : (is : List ℕ) (i : ℕ) → All (λ x. x < 24) is → (has (set_of is) i ≡ true) ↔ Contains is i
has-set_of is i f = (
  (λ h. elim ((has-all_with 0 is i (has_below (set_of is) i (set_of_lt is) h) (recursion_from_All (λ x. x < 24) is f)).0 h) [
    | inl g ↦ absurd (false≢true (sym (has-empty i) ∙ g))
    | inr c ↦ c
  ]),
  (λ c. (has-all_with 0 is i (All-contains (λ x. x < 24) is i f c) (recursion_from_All (λ x. x < 24) is f)).1 (inr c)),
)

-- how a program computes the other operations
pub or_one_shl-is : (a k : ℕ) → k < 24 → bit_or a (1 * 2 ^ k % 2 ^ 32) ≡ with_index a k
unfolding with_index
or_one_shl-is a k h = ap (bit_or a) (one_shl k h ∙ sym (pow_in_limit k h))

pub has-or : (a b i : ℕ) → has (bit_or a b) i ≡ (has a i || has b i)
unfolding union
has-or a b i = has-union a b i

pub has-and : (a b i : ℕ) → has (bit_and a b) i ≡ (has a i && has b i)
unfolding meet
has-and a b i = has-meet a b i

-- a number below a power of two has members below the exponent
pub has_below_power : (n bits i : ℕ) → bits < 2 ^ n → has bits i ≡ true → i < n
unfolding has
has_below_power n bits i small h =
    elim (cases_lt i n) [
      | inl l ↦ l
      | inr past ↦ absurd (true≢false (sym h ∙ ap (λ x. eqb x 1) (bit_at_above bits n i small past)))
    ]
