-- Decimal texts and how they begin.
use Rattle.std.proofs.Common.{◌≡◌, ◌≢◌, ◌==◌, refl, sym, ◌∙◌, ap, subst, ℕ, zero, suc, ◌+◌, ◌*◌, ◌/◌, ◌%◌, ◌<◌, ◌≤◌, ◌^◌, true, false, List, [], ◌∷◌, ◌++◌, length, get_or, length-append, append_assoc, append-nil, arith, Some, None, Result, Ok, Err, rules, ◌↔◌}
use Rattle.std.specs.Prelude.{IsUtf8}
use Rattle.std.specs.Fmt.{decimal}
use Rattle.std.specs.Char.{digit_value}
use Rattle.std.specs.Str.Parse.{AllDigits, digits_value, digits_value_after, ParsesUnsigned}
use Rattle.std.specs.Int.{IsInRange}
use Rattle.std.proofs.lemmas.Bool.Decides.{nat_tests}
use Rattle.std.proofs.lemmas.Option.{none-some, same_Some}
use Rattle.std.proofs.lemmas.Fmt.{decimal_digit, decimal_step_wide, decimal_by_steps_wide, decimal_is_IsNumeral_wide, parse-decimal_wide, IsAscii-decimal_wide}
use lib.ListN.{get_or-append}
use Rattle.std.proofs.lemmas.Str.{IsUtf8-from_ascii, digit_value_digit}
use Rattle.std.proofs.lemmas.Str.Parse.{IsNumeralModel, numerals_by_value, parse_plain, digit_at, digit_from_value}
use Rattle.tce_fields.specs.Digits.{starts_as_number}
use Rattle.tce_fields.specs.Fields.{IsNumber, lacks}

pub decimal_model : IsNumeralModel (AllDigits 10) (digits_value 10)
decimal_model = numerals_by_value _ (search rules)

-- the digits behind the first ones, one after the other
le_value_after : (n : ℕ) (ds : List ℕ) → n ≤ digits_value_after 10 n ds
le_value_after n [] = omega arith
le_value_after n (c ∷ cs) = omega (arith, le_value_after (n * 10 + digit_value c) cs)

decimal_value_after : (n : ℕ) (ds : List ℕ) → 0 < n → AllDigits 10 ds → digits_value_after 10 n ds < 10 ^ 64 → decimal (digits_value_after 10 n ds) ≡ decimal n ++ ds
decimal_value_after n [] some d small = sym (append-nil (decimal n))
decimal_value_after n (c ∷ cs) some d small =
    let m : ℕ = n * 10 + digit_value c in
    let k = digit_value_digit c (digit_from_value c d.0) in
    let front : m / 10 ≡ n = omega (arith, d.0) in
    let end : 48 + m % 10 ≡ c = omega (arith, d.0) in
    decimal_value_after m cs (omega arith) d.1 small
    ∙ ap (λ x. x ++ cs) (decimal_step_wide m (omega arith) (omega (arith, le_value_after m cs)) ∙ (λ i. decimal (front i) ++ (end i ∷ [])))
    ∙ append_assoc (decimal n) (c ∷ []) cs

-- digits without a leading zero are what is written for their value
decimal_value : (ds : List ℕ) → AllDigits 10 ds → 0 < length ds → (get_or ds 0 0 ≡ 48 → length ds ≡ 1) → digits_value 10 ds < 10 ^ 64 → decimal (digits_value 10 ds) ≡ ds
decimal_value [] d some lead small = absurd (omega arith)
decimal_value (c ∷ []) d some lead small =
    let k = digit_value_digit c (digit_from_value c d.0) in
    decimal_digit (0 * 10 + digit_value c) (omega (arith, d.0)) ∙ ap (λ x. x ∷ []) (omega arith)
decimal_value (c ∷ e ∷ cs) d some lead small =
    let k = digit_value_digit c (digit_from_value c d.0) in
    let positive : c ≢ 48 = λ z. omega (arith, lead z) in
    let is : 48 + (0 * 10 + digit_value c) ≡ c = omega arith in
    decimal_value_after (0 * 10 + digit_value c) (e ∷ cs) (omega arith) d.1 small
    ∙ ap (λ x. x ++ (e ∷ cs)) (decimal_digit (0 * 10 + digit_value c) (omega (arith, d.0)) ∙ ap (λ x. x ∷ []) is)

-- a text of digits without a leading 0 begins as a number
pub digits_start : (ds : List ℕ) → AllDigits 10 ds → 0 < length ds → (get_or ds 0 0 ≡ 48 → length ds ≡ 1) → starts_as_number ds ≡ true
digits_start [] all some lead = absurd (omega arith)
digits_start (b ∷ []) all some lead =
    let here : IsInRange 48 57 b = digit_at (b ∷ []) 0 all (omega arith) in
    grind (arith, nat_tests)
digits_start (b ∷ c ∷ bs) all some lead =
    let here : IsInRange 48 57 b = digit_at (b ∷ c ∷ bs) 0 all (omega arith) in
    let positive : b ≢ 48 = λ e. let one = lead e in omega arith in
    grind (arith, nat_tests)

first_decimal : (n : ℕ) → 0 < n → n < 10 ^ 64 → 48 < get_or (decimal n) 0 0
first_decimal n some small = (decimal_by_steps_wide (λ m ds. (0 < length ds) × (0 < m → 48 < get_or ds 0 0)) (λ m l. (omega arith, λ a. omega arith))
    (λ m ds l h. (omega (arith, length-append ds ((48 + m % 10) ∷ [])), λ a. omega (arith, get_or-append ds ((48 + m % 10) ∷ []) 0 0 h.0, h.1 (omega arith)))) n small).1 some

lead_of_decimal : (n : ℕ) → n < 10 ^ 64 → get_or (decimal n) 0 0 ≡ 48 → length (decimal n) ≡ 1
lead_of_decimal zero small first = ap length (decimal_digit 0 (omega arith))
lead_of_decimal (suc n) small first = absurd (omega (arith, first_decimal (suc n) (omega arith) small))

decimal_start : (n : ℕ) → n < 10 ^ 64 → starts_as_number (decimal n) ≡ true
decimal_start n small =
    let numeral = (decimal_is_IsNumeral_wide n small).0 in
    digits_start (decimal n) numeral.1 numeral.0 (lead_of_decimal n small)

-- what begins as a number has no sign, and a leading 0 stands alone
pub no_sign : (ds : List ℕ) → starts_as_number ds ≡ true → get_or ds 0 0 ≢ 43
no_sign [] e = cc
no_sign (b ∷ []) e = λ sign. let f : starts_as_number (43 ∷ []) ≡ true = subst (λ x. starts_as_number (x ∷ []) ≡ true) sign e in absurd (cc)
no_sign (b ∷ c ∷ bs) e = λ sign. let f : starts_as_number (43 ∷ c ∷ bs) ≡ true = subst (λ x. starts_as_number (x ∷ c ∷ bs) ≡ true) sign e in absurd (cc)

pub lead_alone : (ds : List ℕ) → starts_as_number ds ≡ true → get_or ds 0 0 ≡ 48 → length ds ≡ 1
lead_alone [] e first = cc
lead_alone (b ∷ []) e first = refl
lead_alone (b ∷ c ∷ bs) e first = let f : starts_as_number (48 ∷ c ∷ bs) ≡ true = subst (λ x. starts_as_number (x ∷ c ∷ bs) ≡ true) first e in absurd (cc)

-- the text of a number that was parsed is its decimal text
parsed_text : {E : Type 0} (ds : List ℕ) (value : ℕ) (r : Result ℕ E) → starts_as_number ds ≡ true → ParsesUnsigned 128 10 ds r → r ≡ Ok value → ds ≡ decimal value
parsed_text {E} ds value (Ok x) start h e =
    let parsed : (AllDigits 10 ds × (0 < length ds) × (digits_value 10 ds < 2 ^ 128)) × (x ≡ digits_value 10 ds) = parse_plain decimal_model {E = E} 128 ds (Ok x) h (no_sign ds start) in
    let same : x ≡ value = cc in
    sym (decimal_value ds parsed.0.0 parsed.0.1 (lead_alone ds start) (omega (arith, parsed.0.2)))
    ∙ ap decimal (sym parsed.1 ∙ same)
parsed_text ds value (Err fault) start h e = absurd (cc)

decimal_apart : (m n : ℕ) → m < 10 ^ 64 → n < 10 ^ 64 → decimal m ≡ decimal n → m ≡ n
decimal_apart m n p q e = sym (decimal_is_IsNumeral_wide m p).1 ∙ ap (digits_value 10) e ∙ (decimal_is_IsNumeral_wide n q).1

-- what is read where the text parses as a number
pub number_read : {E : Type 0} (text digits : List ℕ) (number : ℕ) (r : Result ℕ E) → digits ≡ text → starts_as_number text ≡ true → ParsesUnsigned 128 10 digits r → r ≡ Ok number
    → number < 2 ^ 96 → (value : ℕ) → (Some number ≡ Some value) ↔ IsNumber text value
number_read text digits number r same start h e small value =
    let is : text ≡ decimal number = sym same ∙ parsed_text digits number r (ap starts_as_number same ∙ start) h e in (
      (λ one. subst (IsNumber text) (same_Some number value one) (record { limit = small; text_is = is })),
      (λ number_is. ap (λ n. Some n) (decimal_apart number value (omega arith) (omega (arith, number_is.limit)) (sym is ∙ number_is.text_is))),
    )

-- what is no number
pub no_number : (text : List ℕ) → ((value : ℕ) → value < 2 ^ 96 → text ≢ decimal value) → (value : ℕ) → (None ≡ Some value) ↔ IsNumber text value
no_number text none value = ((λ e. absurd (none-some value e)), (λ is. absurd (none value is.limit is.text_is)))

pub not_started : (text : List ℕ) → starts_as_number text ≡ false → (value : ℕ) → value < 2 ^ 96 → text ≢ decimal value
not_started text fails value small is =
    let start : starts_as_number (decimal value) ≡ true = decimal_start value (omega arith) in
    let e : starts_as_number (decimal value) ≡ false = ap starts_as_number (sym is) ∙ fails in
    cc

pub not_utf8 : (text : List ℕ) → (IsUtf8 text → ⊥) → (value : ℕ) → value < 2 ^ 96 → text ≢ decimal value
not_utf8 text broken value small is = broken (subst IsUtf8 (sym is) (IsUtf8-from_ascii _ (IsAscii-decimal_wide value (omega arith))))

-- a number below the limit parses as itself
pub not_parsed : {E : Type 0} (text digits : List ℕ) (r : Result ℕ E) → digits ≡ text → ParsesUnsigned 128 10 digits r → ((value : ℕ) → r ≡ Ok value → 2 ^ 96 ≤ value)
    → (value : ℕ) → value < 2 ^ 96 → text ≢ decimal value
not_parsed text digits r same h large value small is =
    omega (arith, small, large value (parse-decimal_wide 128 value digits r (omega arith) (omega arith) (same ∙ is) h))

-- no byte below the digits stands in a number
digits_lack : (c : ℕ) (ds : List ℕ) → c < 48 → AllDigits 10 ds → lacks c ds ≡ true
digits_lack c [] low all = refl
digits_lack c (d ∷ ds) low all =
    let here : IsInRange 48 57 d = digit_from_value d all.0 in
    let differs : (d == c) ≡ false = grind (arith, nat_tests) in
    rw differs (digits_lack c ds low all.1)

pub decimal_lacks : (c n : ℕ) → c < 48 → n < 2 ^ 96 → lacks c (decimal n) ≡ true
decimal_lacks c n low small = digits_lack c (decimal n) low (decimal_is_IsNumeral_wide n (omega arith)).0.1
