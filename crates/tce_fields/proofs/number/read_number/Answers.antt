use Rattle.std.proofs.Common.{◌≡◌, sym, ◌∙◌, arith}
use Rattle.tce_fields.proofs.Decimals.{number_read, no_number, not_started, not_utf8, not_parsed}
use Rattle.tce_fields.proofs.number.read_number.Goals as goal

pub returns-then-not-starts_as_number : goal.returns-then-not-starts_as_number
returns-then-not-starts_as_number c = no_number c.args.text.now (not_started c.args.text.now (sym c.starts_as_number.ensures ∙ c.if-not-starts_as_number.true))

pub returns-in_default : goal.returns-in_default
returns-in_default c = no_number c.args.text.now (not_utf8 c.args.text.now c.in_default.ensures.cases.0)

pub returns-in-Ok-parse : goal.returns-in-Ok-parse
returns-in-Ok-parse c =
    number_read c.args.text.now c.in-Ok.digits.now c.in-Ok-parse.number c.parse.result c.in-Ok.ensures.cases.0 (sym c.starts_as_number.ensures ∙ c.if-not-starts_as_number.false)
    c.parse.ensures.value.0 c.in-Ok-parse.is (omega (arith, c.if-number-lt-COST_LIMIT.true))

pub returns-in_default-parse : goal.returns-in_default-parse
returns-in_default-parse c =
    no_number c.args.text.now
    (not_parsed c.args.text.now c.in-Ok.digits.now c.parse.result c.in-Ok.ensures.cases.0 c.parse.ensures.value.0
    (λ value is. let same : c.in-Ok-parse.number ≡ value = (let e = sym c.in-Ok-parse.is ∙ is in cc) in omega (arith, c.if-number-lt-COST_LIMIT.false, same)))

pub returns-in_default-parse-2 : goal.returns-in_default-parse-2
returns-in_default-parse-2 c =
    no_number c.args.text.now
    (not_parsed c.args.text.now c.in-Ok.digits.now c.parse.result c.in-Ok.ensures.cases.0 c.parse.ensures.value.0
    (λ value is. let e = sym c.in_default-parse.is ∙ is in absurd (cc)))
