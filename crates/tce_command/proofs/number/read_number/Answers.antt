use Rattle.std.proofs.Common.{◌≡◌, sym, ◌∙◌, ap, subst, true}
use Rattle.std.specs.Fmt.{decimal}
use Rattle.tce_command.specs.Number.{starts_as_number}
use Rattle.std.proofs.lemmas.Fmt.{parse-decimal, IsAscii-decimal}
use Rattle.std.proofs.lemmas.Str.{IsUtf8-from_ascii}
use Rattle.std.specs.Prelude.{IsUtf8}
use Rattle.tce_command.proofs.Numbers.{decimal_start, not_both, not_read, parsed_text}
use Rattle.tce_command.proofs.number.read_number.Goals as goal

pub returns-then-not-starts_as_number : goal.returns-then-not-starts_as_number
returns-then-not-starts_as_number c = λ n small same.
    not_both (starts_as_number (decimal n)) (decimal_start n small) (ap starts_as_number (sym same) ∙ sym c.starts_as_number.ensures ∙ c.if-not-starts_as_number.true)

pub returns-in_default : goal.returns-in_default
returns-in_default c = λ n small same.
    c.in_default.ensures.cases.0 (subst IsUtf8 (sym same) (IsUtf8-from_ascii _ (IsAscii-decimal n small)))

pub returns-in-Ok-parse : goal.returns-in-Ok-parse
returns-in-Ok-parse c =
    let text : c.in-Ok.text.now ≡ c.args.digits.now = c.in-Ok.ensures.cases.0 in
    let start : starts_as_number c.in-Ok.text.now ≡ true = ap starts_as_number text ∙ sym c.starts_as_number.ensures ∙ c.if-not-starts_as_number.false in
    sym text ∙ parsed_text c.in-Ok.text.now c.in-Ok-parse.value c.parse.result start c.parse.ensures.value.0 c.in-Ok-parse.is

pub returns-in-Err : goal.returns-in-Err
returns-in-Err c = λ n small same.
    not_read c.parse.result n _ (parse-decimal 64 n c.in-Ok.text.now c.parse.result small small (c.in-Ok.ensures.cases.0 ∙ same) c.parse.ensures.value.0) c.in-Err.is
