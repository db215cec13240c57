-- Decimal texts and how they begin.
use Rattle.std.proofs.Common.{◌≡◌, sym, ◌∙◌, ap, ℕ, zero, suc, ◌<◌, ◌^◌, Bool, true, false, List, length, get_or, arith, Result, Ok, Err}
use Rattle.std.specs.Fmt.{decimal}
use Rattle.std.specs.Str.Parse.{AllDigits, digits_value, ParsesUnsigned}
use Rattle.std.proofs.lemmas.Fmt.{decimal_digit, first_decimal, decimal_is_IsNumeral, decimal-digits_value}
use Rattle.std.proofs.lemmas.Str.Parse.{parse_plain}
use Rattle.tce_fields.proofs.Decimals.{decimal_model, digits_start, no_sign, lead_alone}
use Rattle.tce_command.specs.Number.{starts_as_number}

lead_of_decimal : (n : ℕ) → n < 2 ^ 64 → get_or (decimal n) 0 0 ≡ 48 → length (decimal n) ≡ 1
lead_of_decimal zero small first = ap length (decimal_digit 0 (omega arith))
lead_of_decimal (suc n) small first = absurd (omega (arith, first_decimal (suc n) (omega arith) small))

pub decimal_start : (n : ℕ) → n < 2 ^ 64 → starts_as_number (decimal n) ≡ true
decimal_start n small =
    let numeral = (decimal_is_IsNumeral n small).0 in
    digits_start (decimal n) numeral.1 numeral.0 (lead_of_decimal n small)

-- tests and answers have one value
pub not_both : (b : Bool) → b ≡ true → b ≡ false → ⊥
not_both b is_true is_false = cc

pub not_read : {E : Type 0} (r : Result ℕ E) (value : ℕ) (fault : E) → r ≡ Ok value → r ≡ Err fault → ⊥
not_read r value fault read failed = cc

-- the text of a number that was parsed is its decimal text
pub parsed_text : {E : Type 0} (ds : List ℕ) (value : ℕ) (r : Result ℕ E) → starts_as_number ds ≡ true → ParsesUnsigned 64 10 ds r → r ≡ Ok value → ds ≡ decimal value
parsed_text {E} ds value (Ok x) start h e =
    let parsed : (AllDigits 10 ds × (0 < length ds) × (digits_value 10 ds < 2 ^ 64)) × (x ≡ digits_value 10 ds) = parse_plain decimal_model {E = E} 64 ds (Ok x) h (no_sign ds start) in
    let same : x ≡ value = cc in
    sym (decimal-digits_value decimal_model ds parsed.0.0 parsed.0.1 (lead_alone ds start) parsed.0.2)
    ∙ ap decimal (sym parsed.1 ∙ same)
parsed_text ds value (Err fault) start h e = absurd (cc)
