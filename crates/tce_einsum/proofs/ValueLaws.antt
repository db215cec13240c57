-- Sums of products in any order.
use Rattle.std.proofs.Common.{◌≡◌, ◌≢◌, ℕ, zero, suc, ◌+◌, ◌*◌, ◌%◌, ◌^◌, ◌==◌, Bool, true, false, List, [], ◌∷◌, ◌++◌, refl, sym, ap, ap₂, ◌∙◌, arith, inl, inr, eqb-true}
use Rattle.std.proofs.lemmas.Bool.{ne_eqb, cases_eq, eq-eqb}
use Rattle.std.proofs.lemmas.Nat.{mul-mod_first, mul-mod_second}
use Rattle.std.proofs.Math.Nat.{mul_comm, mul_assoc, mul-add, add-mod-mod, mod-add-mod}
use Rattle.tce_base.specs.Word.{wrapping_add, wrapping_mul}
use Rattle.tce_base.proofs.Words.{plus_middle, times_comm}
use Rattle.tce_space.specs.IndexSet.{has}
use Rattle.tce_tree.specs.ContractionTree.{ContractionTree, dims}
use Rattle.tce_tree.specs.WellFormed.{among, indexes_below}
use Rattle.tce_tree.specs.Value.{Assignment, with_number, Elements, sum_below, sum_over, value}
use Rattle.tce_tree.proofs.Values.{sum_below-same, value-depends}
use Rattle.tce_tree.proofs.Lists.{among_first, among_later}
use Rattle.tce_tree.proofs.Sums.{sum_below-zero, sum_over_permuted}
use Rattle.tce_einsum.specs.ValueLaws.{LacksIndexes, SumsMoveOutOfLeftOperands, SumsMoveOutOfRightOperands, ProductsCommute, ProductsAssociate, SumsJoin, SumsExchange, SumsHaveNoOrder}

pub mul_grouped : (x y z : ℕ) → wrapping_mul (wrapping_mul x y) z ≡ wrapping_mul x (wrapping_mul y z)
unfolding wrapping_mul
mul_grouped x y z = mul-mod_first (x * y) z (2 ^ 64) ∙ ap (λ n. n % 2 ^ 64) (mul_assoc x y z) ∙ sym (mul-mod_second x (y * z) (2 ^ 64))

mul_zero : (w : ℕ) → wrapping_mul 0 w ≡ 0
unfolding wrapping_mul
mul_zero w = omega arith

-- remainders are added
added : (x y : ℕ) → (x % 2 ^ 64 + y % 2 ^ 64) % 2 ^ 64 ≡ (x + y) % 2 ^ 64
added x y = mod-add-mod x (2 ^ 64) (y % 2 ^ 64) ∙ add-mod-mod x y (2 ^ 64)

mul_shared : (x y z : ℕ) → wrapping_mul (wrapping_add x y) z ≡ wrapping_add (wrapping_mul x z) (wrapping_mul y z)
unfolding wrapping_mul wrapping_add
mul_shared x y z =
    let parts : (x + y) * z ≡ x * z + y * z = mul_comm (x + y) z ∙ mul-add z x y ∙ ap₂ (λ a b. a + b) (mul_comm z x) (mul_comm z y) in
    mul-mod_first (x + y) z (2 ^ 64) ∙ ap (λ n. n % 2 ^ 64) parts ∙ sym (added (x * z) (y * z))

add_none : wrapping_add 0 0 ≡ 0
unfolding wrapping_add
add_none = omega arith

-- a factor moves into a sum
sum_times : (n : ℕ) (f : ℕ → ℕ) (w : ℕ) → wrapping_mul (sum_below n f) w ≡ sum_below n (λ x. wrapping_mul (f x) w)
sum_times zero f w = mul_zero w
sum_times (suc n) f w = mul_shared (sum_below n f) (f n) w ∙ ap (λ s. wrapping_add s (wrapping_mul (f n) w)) (sum_times n f w)

pub sum_over_times : (extent : ℕ → ℕ) (is : List ℕ) (f g : Assignment → ℕ) (a : Assignment)
    → ((b : Assignment) (i x : ℕ) → among is i ≡ true → g (with_number b i x) ≡ g b)
    → wrapping_mul (sum_over extent is f a) (g a) ≡ sum_over extent is (λ b. wrapping_mul (f b) (g b)) a
sum_over_times extent [] f g a keeps = refl
sum_over_times extent (i ∷ rest) f g a keeps =
    sum_times (extent i) (λ x. sum_over extent rest f (with_number a i x)) (g a)
    ∙ sum_below-same (extent i) _ (λ x. sum_over extent rest (λ b. wrapping_mul (f b) (g b)) (with_number a i x)) (λ x l.
    ap (wrapping_mul (sum_over extent rest f (with_number a i x))) (sym (keeps a i x (among_first i rest)))
    ∙ sum_over_times extent rest f g (with_number a i x) (λ b j y m. keeps b j y (among_later i rest j m)))

pub sum_over-same : (extent : ℕ → ℕ) (is : List ℕ) (f g : Assignment → ℕ) (a : Assignment) → ((b : Assignment) → f b ≡ g b) → sum_over extent is f a ≡ sum_over extent is g a
sum_over-same extent [] f g a same = same a
sum_over-same extent (i ∷ rest) f g a same =
    sum_below-same (extent i) _ (λ x. sum_over extent rest g (with_number a i x)) (λ x l. sum_over-same extent rest f g (with_number a i x) same)

-- the value of a tree that lacks an index does not change with its number
lacking_keeps : (e : Elements) (tree : ContractionTree) (is : List ℕ) → indexes_below 24 tree ≡ true → LacksIndexes tree is
    → (b : Assignment) (i x : ℕ) → among is i ≡ true → value e tree (with_number b i x) ≡ value e tree b
lacking_keeps e tree is below lacks b i x m = value-depends e tree (with_number b i x) b below (λ j d. kept j d (j == i) refl)
  where
    kept : (j : ℕ) → has (dims tree) j ≡ true → (t : Bool) → (j == i) ≡ t → with_number b i x j ≡ b j
    kept j d true p = absurd (let clash : true ≡ false = sym d ∙ ap (has (dims tree)) (eqb-true j i p) ∙ lacks i m in cc)
    kept j d false p = rw p refl

pub products_commute : ProductsCommute
products_commute e left right a = times_comm (value e left a) (value e right a)

pub products_associate : ProductsAssociate
products_associate e x y z a = mul_grouped (value e x a) (value e y a) (value e z a)

pub sums_move_out_of_left_operands : SumsMoveOutOfLeftOperands
sums_move_out_of_left_operands e indexes left right a below lacks =
    sum_over_times e.extent indexes (value e left) (value e right) a (lacking_keeps e right indexes below lacks)

pub sums_move_out_of_right_operands : SumsMoveOutOfRightOperands
sums_move_out_of_right_operands e indexes left right a below lacks =
    times_comm (value e left a) (sum_over e.extent indexes (value e right) a)
    ∙ sum_over_times e.extent indexes (value e right) (value e left) a (lacking_keeps e left indexes below lacks)
    ∙ sum_over-same e.extent indexes (λ b. wrapping_mul (value e right b) (value e left b)) (λ b. wrapping_mul (value e left b) (value e right b)) a
    (λ b. times_comm (value e right b) (value e left b))

pub sum_over_joined : (extent : ℕ → ℕ) (outer inner : List ℕ) (f : Assignment → ℕ) (a : Assignment) → sum_over extent outer (sum_over extent inner f) a ≡ sum_over extent (outer ++ inner) f a
sum_over_joined extent [] inner f a = refl
sum_over_joined extent (i ∷ rest) inner f a =
    sum_below-same (extent i) _ (λ x. sum_over extent (rest ++ inner) f (with_number a i x)) (λ x l. sum_over_joined extent rest inner f (with_number a i x))

pub sums_join : SumsJoin
sums_join e outer inner operand a = sum_over_joined e.extent outer inner (value e operand) a

-- sums in either order
sum_added : (n : ℕ) (f g : ℕ → ℕ) → wrapping_add (sum_below n f) (sum_below n g) ≡ sum_below n (λ x. wrapping_add (f x) (g x))
sum_added zero f g = add_none
sum_added (suc n) f g = plus_middle (sum_below n f) (f n) (sum_below n g) (g n) ∙ ap (λ s. wrapping_add s (wrapping_add (f n) (g n))) (sum_added n f g)

sum_either : (n m : ℕ) (h : ℕ → ℕ → ℕ) → sum_below n (λ x. sum_below m (h x)) ≡ sum_below m (λ y. sum_below n (λ x. h x y))
sum_either zero m h = sym (sum_below-zero m)
sum_either (suc n) m h =
    ap (λ s. wrapping_add s (sum_below m (h n))) (sum_either n m h) ∙ sum_added m (λ y. sum_below n (λ x. h x y)) (h n)

numbers_either : (a : Assignment) (i j x y : ℕ) → i ≢ j → (k : ℕ) → with_number (with_number a i x) j y k ≡ with_number (with_number a j y) i x k
numbers_either a i j x y apart k =
    elim (cases_eq k j) [
      | inl at_j ↦ let none : (k == i) ≡ false = ne_eqb k i (λ at_i. apart (sym at_i ∙ at_j)) in rw (eq-eqb k j at_j, none) refl
      | inr not_j ↦ rw (ne_eqb k j not_j) refl
    ]

assignments_either : (a : Assignment) (i j x y : ℕ) → i ≢ j → with_number (with_number a i x) j y ≡ with_number (with_number a j y) i x
assignments_either a i j x y apart = λ t. λ k. numbers_either a i j x y apart k t

sum_over_exchanged : (extent : ℕ → ℕ) (i j : ℕ) (rest : List ℕ) (f : Assignment → ℕ) (a : Assignment) → sum_over extent (i ∷ j ∷ rest) f a ≡ sum_over extent (j ∷ i ∷ rest) f a
sum_over_exchanged extent i j rest f a =
    elim (cases_eq i j) [
      | inl same ↦ (λ t. sum_over extent (same t ∷ sym same t ∷ rest) f a)
      | inr apart ↦
          sum_below-same (extent i) _ (λ x. sum_below (extent j) (λ y. sum_over extent rest f (with_number (with_number a j y) i x))) (λ x l.
          sum_below-same (extent j) _ (λ y. sum_over extent rest f (with_number (with_number a j y) i x)) (λ y m.
          ap (sum_over extent rest f) (assignments_either a i j x y apart)))
          ∙ sum_either (extent i) (extent j) (λ x y. sum_over extent rest f (with_number (with_number a j y) i x))
    ]

pub sums_exchange : SumsExchange
sums_exchange e i j rest operand a = sum_over_exchanged e.extent i j rest (value e operand) a

pub sums_have_no_order : SumsHaveNoOrder
sums_have_no_order e is js operand a di dj same = sum_over_permuted e.extent is js (value e operand) a di dj same
