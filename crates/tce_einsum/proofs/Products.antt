-- Products over lists.
use Rattle.std.proofs.Common.{◌≡◌, ℕ, zero, suc, ◌<◌, ◌^◌, List, [], ◌∷◌, length, get_or, set, refl, sym, ap, ◌∙◌, arith}
use Rattle.std.proofs.lemmas.List.Sorted.{IsPermutation-keeps}
use Rattle.std.proofs.lemmas.List.Edits.{swap_is}
use Rattle.tce_base.specs.Word.{wrapping_mul}
use Rattle.tce_base.proofs.Words.{times_comm}
use Rattle.tce_einsum.specs.EinsumValue.{product}
use Rattle.tce_einsum.specs.ContractionLaws.{ProductsHaveNoOrder}
use Rattle.tce_einsum.proofs.ValueLaws.{mul_grouped}

-- two factors in front of a product change places
pub mul_crossed : (x y z : ℕ) → wrapping_mul x (wrapping_mul y z) ≡ wrapping_mul y (wrapping_mul x z)
mul_crossed x y z = sym (mul_grouped x y z) ∙ ap (λ n. wrapping_mul n z) (times_comm x y) ∙ mul_grouped y x z

pub mul_one : (x : ℕ) → x < 2 ^ 64 → wrapping_mul x 1 ≡ x
unfolding wrapping_mul
mul_one x below = omega arith

-- an element for another
product_set : (xs : List ℕ) (j x d : ℕ) → j < length xs → wrapping_mul (get_or xs j d) (product (set xs j x)) ≡ wrapping_mul x (product xs)
product_set [] j x d inside = absurd (omega arith)
product_set (y ∷ ys) zero x d inside = mul_crossed y x (product ys)
product_set (y ∷ ys) (suc j) x d inside =
    mul_crossed (get_or ys j d) y (product (set ys j x)) ∙ ap (wrapping_mul y) (product_set ys j x d (omega arith)) ∙ mul_crossed y x (product ys)

product_exchanged : (xs : List ℕ) (i j d : ℕ) → i < length xs → j < length xs → product (set (set xs i (get_or xs j d)) j (get_or xs i d)) ≡ product xs
product_exchanged [] i j d p q = absurd (omega arith)
product_exchanged (y ∷ ys) zero zero d p q = refl
product_exchanged (y ∷ ys) zero (suc j) d p q = product_set ys j y d (omega arith)
product_exchanged (y ∷ ys) (suc i) zero d p q = product_set ys i y d (omega arith)
product_exchanged (y ∷ ys) (suc i) (suc j) d p q = ap (wrapping_mul y) (product_exchanged ys i j d (omega arith) (omega arith))

pub products_have_no_order : ProductsHaveNoOrder
products_have_no_order xs ys same =
    IsPermutation-keeps xs (λ l. product xs ≡ product l) refl
    (λ l i j p q e. e ∙ sym (product_exchanged l i j 0 p q) ∙ ap product (swap_is l i j 0 p q)) ys same
