-- Sums and products of words.
use Rattle.std.proofs.Common.{◌≡◌, ℕ, ◌%◌, ◌^◌, ap, add_comm, ◌∙◌, ◌+◌, sym, add_assoc, ◌<◌, arith, mod-lt, lit<}
use Rattle.std.proofs.Math.Nat.{add-mod-mod, mod-add-mod, mul_comm}
use Rattle.tce_base.specs.Word.{wrapping_add, wrapping_mul}

pub plus_comm : (x y : ℕ) → wrapping_add x y ≡ wrapping_add y x
unfolding wrapping_add
plus_comm x y = ap (λ n. n % 2 ^ 64) (add_comm x y)

pub plus_assoc : (x y z : ℕ) → wrapping_add (wrapping_add x y) z ≡ wrapping_add x (wrapping_add y z)
unfolding wrapping_add
plus_assoc x y z = mod-add-mod (x + y) (2 ^ 64) z ∙ ap (λ n. n % 2 ^ 64) (add_assoc x y z) ∙ sym (add-mod-mod x (y + z) (2 ^ 64))

pub plus-zero : (x : ℕ) → x < 2 ^ 64 → wrapping_add x 0 ≡ x
unfolding wrapping_add
plus-zero x h = omega arith

pub zero-plus : (x : ℕ) → x < 2 ^ 64 → wrapping_add 0 x ≡ x
zero-plus x h = plus_comm 0 x ∙ plus-zero x h

pub plus_middle : (a b c d : ℕ) → wrapping_add (wrapping_add a b) (wrapping_add c d) ≡ wrapping_add (wrapping_add a c) (wrapping_add b d)
plus_middle a b c d =
    plus_assoc a b (wrapping_add c d) ∙ ap (wrapping_add a) (sym (plus_assoc b c d) ∙ ap (λ x. wrapping_add x d) (plus_comm b c) ∙ plus_assoc c b d)
    ∙ sym (plus_assoc a c (wrapping_add b d))

pub plus-lt : (x y : ℕ) → wrapping_add x y < 2 ^ 64
unfolding wrapping_add
plus-lt x y = mod-lt (x + y) (lit< tt)

pub times_comm : (x y : ℕ) → wrapping_mul x y ≡ wrapping_mul y x
unfolding wrapping_mul
times_comm x y = ap (λ n. n % 2 ^ 64) (mul_comm x y)
