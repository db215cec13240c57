-- The digits of a number are read as the number.
use Rattle.std.proofs.Common.{◌≡◌, ℕ, ◌+◌, ◌-◌, ◌*◌, ◌/◌, ◌%◌, ◌<◌, ◌≤◌, ◌^◌, true, ◌&&◌, List, [], ◌∷◌, ◌++◌, refl, ap, ◌∙◌, arith}
use Rattle.std.specs.Prelude.{◌≢◌, fold}
use Rattle.std.specs.List.{list_all}
use Rattle.std.specs.Fmt.{decimal}
use Rattle.std.proofs.lemmas.Fmt.{decimal_by_steps}
use Rattle.std.proofs.lemmas.List.Folds.{list_all-append}
use Rattle.std.proofs.lemmas.Bool.Decides.{nat_tests}
use Rattle.tce_space.specs.Name.{is_digit}

abbrev value_from : ℕ → List ℕ → ℕ
value_from n digits = fold (λ m d. 10 * m + (d - 48)) n digits

pub record SaysNumber (n : ℕ) (text : List ℕ) : Type 0 where
  pub value : value_from 0 text ≡ n
  pub some : text ≢ []
  pub digits : list_all is_digit text ≡ true

value_joined : (n : ℕ) (ds : List ℕ) (d : ℕ) → value_from n (ds ++ d ∷ []) ≡ 10 * value_from n ds + (d - 48)
value_joined n [] d = refl
value_joined n (x ∷ ds) d = value_joined (10 * n + (x - 48)) ds d

digit_here : (n : ℕ) → n < 10 → is_digit (48 + n) ≡ true
digit_here n h = grind (arith, nat_tests)

one : (n : ℕ) → n < 10 → SaysNumber n ((48 + n) ∷ [])
one n h = record { value = omega arith; some = λ e. cc; digits = ap (λ b. b && true) (digit_here n h) }

joined_some : (ds : List ℕ) (d : ℕ) → ds ++ d ∷ [] ≢ []
joined_some [] d e = cc
joined_some (x ∷ ds) d e = cc

more : (n : ℕ) (ds : List ℕ) → 10 ≤ n → SaysNumber (n / 10) ds → SaysNumber n (ds ++ ((48 + n % 10) ∷ []))
more n ds h is = record {
  value = omega (arith, value_joined 0 ds (48 + n % 10), is.value);
  some = joined_some ds (48 + n % 10);
  digits = list_all-append is_digit ds ((48 + n % 10) ∷ []) ∙ ap (λ b. b && (is_digit (48 + n % 10) && true)) is.digits ∙ ap (λ b. b && true) (digit_here (n % 10) (omega arith));
}

pub decimal_says : (n : ℕ) → n < 2 ^ 64 → SaysNumber n (decimal n)
decimal_says = decimal_by_steps SaysNumber one more
