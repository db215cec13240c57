-- Numbers of the generator.
use Rattle.std.proofs.Common.{◌≡◌, ◌∙◌, ℕ, ◌+◌, ◌*◌, ◌%◌, ◌^◌, ◌<◌, List, length, slice_index, slice_set, sym, ap, arith, inl, inr}
use Rattle.std.proofs.lemmas.Bool.{cases_lt}
use Rattle.std.proofs.lemmas.List.{get_or-set_same, get_or-set_other}
use Rattle.std.proofs.lemmas.Nat.{mul-mod_first, pow-add}
use Rattle.tce_space.specs.Box.{place}
use Rattle.tce_space.specs.Tiling.{Tiling}
use Rattle.tce_tools.specs.Demo.{drawn, digit, demo_element}
use Rattle.tce_tools.specs.Runs.{AreElements}

pub drawn_none : (x : ℕ) → x < 2147483647 → x ≡ drawn x 0
unfolding drawn
drawn_none x h = omega arith

times : (x a b : ℕ) → x * a * b ≡ x * (a * b)
times x a b = omega arith

pub drawn_more : (x a b : ℕ) → drawn (drawn x a) b ≡ drawn x (a + b)
unfolding drawn
drawn_more x a b =
    mul-mod_first (x * 48271 ^ a) (48271 ^ b) 2147483647
    ∙ ap (λ n. n % 2147483647) (times x (48271 ^ a) (48271 ^ b) ∙ ap (λ n. x * n) (sym (pow-add 48271 a b)))

pub digit_of : (x k number : ℕ) → number ≡ drawn x k → number % 10 ≡ digit x k
unfolding digit
digit_of x k number is = ap (λ n. n % 10) is

pub digit_more : (x a b number : ℕ) → number ≡ drawn x a → digit number b ≡ digit x (a + b)
unfolding digit
digit_more x a b number is = ap (λ n. n % 10) (ap (λ n. drawn n b) is ∙ drawn_more x a b)

-- one digit more
pub digits_more : (x number m : ℕ) (digits : List ℕ) → m < length digits → number ≡ drawn x (m + 1) → ((k : ℕ) → k < m → slice_index digits k ≡ digit x (k + 1))
    → (k : ℕ) → k < m + 1 → slice_index (slice_set digits m (number % 10)) k ≡ digit x (k + 1)
digits_more x number m digits l is before k lt =
    elim (cases_lt k m) [
      | inl below ↦ get_or-set_other digits m k (number % 10) 0 (λ e. omega arith) ∙ before k below
      | inr at ↦
          let e : k ≡ m = omega arith in
          ap (λ j. slice_index (slice_set digits m (number % 10)) j) e ∙ get_or-set_same digits m (number % 10) 0 l ∙ digit_of x (m + 1) number is ∙ ap (λ j. digit x (j + 1)) (sym e)
    ]

-- the digits after the first ones are elements
pub digits_are_elements : (s : Tiling) (x number from : ℕ) (digits : List ℕ) → number ≡ drawn x from → ((k : ℕ) → k < length digits → slice_index digits k ≡ digit number (k + 1)) → AreElements s (demo_element s x) from digits
digits_are_elements s x number from digits is values k lt xs h placed =
    let next : from + (k + 1) ≡ place s.extents xs + 1 = omega (arith, placed) in
    values k lt ∙ digit_more x from (k + 1) number is ∙ ap (digit x) next
