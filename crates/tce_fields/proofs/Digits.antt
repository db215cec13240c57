-- Numbers in decimal, digit by digit.
use Rattle.std.proofs.Common.{◌≡◌, ℕ, ◌+◌, ◌<◌, ◌≤◌, ◌/◌, ◌%◌, ◌^◌, [], ◌∷◌, ◌++◌, length, length-append, ap, ◌∙◌, arith}
use Rattle.std.specs.Char.{encode_utf8}
use Rattle.std.specs.Fmt.{decimal}
use Rattle.std.proofs.lemmas.Str.{encode_ascii}
use Rattle.std.proofs.lemmas.Fmt.{decimal_digit, decimal_step_wide, length-decimal-le_wide}

-- the digits before the last, and the last
pub decimal_next : (n : ℕ) → 10 ≤ n → n < 2 ^ 128 → decimal n ≡ decimal (n / 10) ++ (48 + n % 10) ∷ []
decimal_next n g l = decimal_step_wide n g (omega arith)

pub length_next : (n : ℕ) → 10 ≤ n → n < 2 ^ 128 → length (decimal n) ≡ length (decimal (n / 10)) + 1
length_next n g l = ap length (decimal_next n g l) ∙ length-append (decimal (n / 10)) ((48 + n % 10) ∷ [])

pub decimal_last : (n : ℕ) → n < 10 → decimal n ≡ (48 + n % 10) ∷ []
decimal_last n l = decimal_digit n l ∙ ap (λ d. (48 + d) ∷ []) (omega (arith, l))

pub length_digit : (n : ℕ) → n < 10 → length (decimal n) ≡ 1
length_digit n l = ap length (decimal_digit n l)

-- a digit is one byte
pub length-encode_digit : (c n : ℕ) → c ≡ 48 + n % 10 → length (encode_utf8 c) ≡ 1
length-encode_digit c n is = ap length (encode_ascii c (omega (arith, is)))

-- a number of 128 bits has at most 39 digits
pub length_wide : (n : ℕ) → n < 2 ^ 128 → length (decimal n) ≤ 39
length_wide n l = length-decimal-le_wide 39 n (omega arith) (omega arith) (omega arith)
